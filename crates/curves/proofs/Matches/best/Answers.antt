use native.Mathlib.Omega.{arith}
use mathlib.Core.Path.{◌≡◌, refl}
use mathlib.Core.Option.{none}
use Prim.Native.Nat.{◌<◌}
use lib.ListN.{length, get_or, length-take}
use lib.Seq.{set-get_or}
use Rattle.curves.specs.Inside.Words.{match_limit}
use Rattle.curves.specs.Inside.Best.{hits_best}
use Rattle.curves.proofs.Laws.{held_none, held, told, hits_turn}
use Rattle.curves.proofs.Lasting.{passed_over, held_top, kept_set, kept_part, kept_front}
use Rattle.curves.proofs.Matches.best.Goals as goal
use Rattle.curves.proofs.Matches.best.Goals.{then-word-least, then-end-word, else-end-word, else-word-least}

pub loop-j-init : goal.loop-j-init
unfolding hits_best
loop-j-init c = (kept_part c.requires.kept (omega arith), held_none match_limit c.args.end none refl)

pub loop-j-preserved : goal.loop-j-preserved
loop-j-preserved c =
    let i = c.loop-j in
    let k = i.invariant.0 in
    let here : i.j < length c.args.self.now.hits.now = omega (arith, length-take (length c.args.self.now.hits.now) c.args.kept.now) in
    let rising = c.requires.all_rising i.j here in
    let a = c.args in
    let s = a.sources.now in
    let turn = hits_turn s.curves.most s.symbols.now s.curves.work.now a.self.now.rows.now a.self.now.hits.now a.load a.end i.j i.least in
    let word = get_or i.word-items i.j 0 in
    elim c.if-word-least.branch [
      | then-word-least t ↦
          rw (t.word-items-is, t.least-is, t.min-least.ensures)
          (elim t.if-end-word.branch [
            | then-end-word u ↦
                let w = u.unwrap_or.result in
                let h = rw (u.at.ensures.hit_is, u.at.ensures.pattern_is, ← u.unwrap_or.ensures) at (held match_limit a.end u.legal_best.result _ (omega arith) u.legal_best.ensures) in
                rw u.word-is (kept_set k i.j w rising (omega arith) (λ k l n. l) h, turn w i.invariant.1 h)
            | else-end-word u ↦ rw (u.word-is, set-get_or) (k, turn word i.invariant.1 (k.lasts i.j here _ (omega arith) u.if-end-word.false))
          ])
      | else-word-least t ↦
          let z = passed_over rising c.args.end i.least word c.requires.load_bound.1 (held_top (omega arith) i.invariant.1) t.if-word-least.false (k.bounds i.j here c.args.end (omega arith)) in
          rw (t.word-items-is, t.least-is, set-get_or) (k, rw z.2 at (turn z.0 i.invariant.1 z.1))
    ]

pub returns : goal.returns
returns c =
    let a = c.args in
    let i = c.loop-j in
    let many : i.j ≡ length a.self.now.hits.now = omega (arith, length-take (length a.self.now.hits.now) a.kept.now) in
    record { least = rw c.then_some.ensures (told match_limit a.end i.least _ (rw many at i.invariant.1)); lasting = kept_front i.invariant.0 _ (omega (arith, length-take (length a.self.now.hits.now) a.kept.now)) }
