use native.Mathlib.Omega.{arith}
use native.Mathlib.Nat.{add-sub_cancel_left}
use mathlib.Core.List.{[]}
use Prim.Native.Nat.{◌*◌}
use Rattle.std.proofs.lemmas.List.{get_or_default}
use Rattle.sheets_rules.specs.Inside.Layout.{row_words}
use Rattle.matching.specs.Inside.Found.{no_hit}
use Rattle.curves.specs.Inside.Best.{hit_at}
use Rattle.curves.proofs.Laws.{part_length}
use Rattle.curves.proofs.Matches.at.Goals as goal

pub invariant_of-result : goal.invariant_of-result
invariant_of-result c =
    let m = c.args.self.now in
    let k = m.known c.args.j c.requires in
    let same = get_or_default m.hits.now c.args.j (record { pattern = 0; crossing = 0; inputs = record { count = 0; list = [] } }) no_hit c.requires in
    simp (add-sub_cancel_left, same, c.from-first.ensures) (record { pattern_length = part_length row_words (row_words * (hit_at m.hits.now c.args.j).pattern) m.rows.now (omega (arith, k.known)); safe = k.safe })
