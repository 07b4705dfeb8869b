use Rattle.std.proofs.Common.{◌≡◌, length}
use Rattle.sheets_rules.specs.Model.{Library}
use Rattle.functions.specs.Inside.Promises.{RowsHold}
use Rattle.functions.proofs.Rows.{GoesOn, Noted}
use Rattle.functions.proofs.pin_counts.Given as goal

abbrev pub invariant-loop-row : goal.invariant-loop-row
invariant-loop-row l =
    GoesOn l.rows (length l.yielded) l.row-iterator
    × (length l.counts ≡ 64)
    × ((m : Library) → RowsHold m l.rows → Noted m l.counts (length l.yielded))
