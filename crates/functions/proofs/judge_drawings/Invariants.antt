use mathlib.Core.Path.{◌≡◌}
use lib.ListN.{length}
use Rattle.std.specs.Iterator.Adapters.{enumerate_source, enumerate_count}
use Rattle.sheets_rules.specs.Model.{Library, patterns}
use Rattle.sheets_rules.specs.Report.{counts_of}
use Rattle.functions.specs.Inside.Promises.{RowsHold, Stated}
use Rattle.functions.proofs.Rows.{GoesOn}
use Rattle.functions.proofs.Judged.{Judging}
use Rattle.functions.proofs.judge_drawings.Given as goal

abbrev pub invariant-loop-number : goal.invariant-loop-number
invariant-loop-number l =
    GoesOn l.rows (length l.yielded) (enumerate_source l.number-iterator)
    × (enumerate_count l.number-iterator ≡ length l.yielded)
    × ((m : Library) → RowsHold m l.rows → Stated m l.functions → Judging l.functions (counts_of m) (patterns m) (length l.yielded))
