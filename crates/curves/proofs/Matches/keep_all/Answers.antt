use native.Mathlib.Omega.{arith}
use mathlib.Core.Path.{◌≡◌}
use lib.ListN.{length, length-take}
use Rattle.curves.specs.Inside.Words.{match_limit}
use Rattle.curves.proofs.Laws.{held}
use Rattle.curves.proofs.Lasting.{kept_set, kept_front}
use Rattle.curves.proofs.Matches.keep_all.Goals as goal

pub loop-j-preserved : goal.loop-j-preserved
loop-j-preserved c =
    let i = c.loop-j in
    let h = rw (c.at.ensures.hit_is, c.at.ensures.pattern_is, ← c.unwrap_or.ensures) at (held match_limit _ c.legal_best.result _ (omega arith) c.legal_best.ensures) in
    kept_set i.invariant i.j c.unwrap_or.result (c.requires.all_rising i.j (omega (arith, length-take (length c.args.self.now.hits.now) c.args.kept.now))) (omega arith) (λ k l n. omega arith) h

pub returns : goal.returns
returns c =
    let k = c.loop-j.invariant in
    let many : c.loop-j.j ≡ length c.args.self.now.hits.now = omega (arith, length-take (length c.args.self.now.hits.now) c.args.kept.now) in
    kept_front (rw many at k) _ (omega arith)
