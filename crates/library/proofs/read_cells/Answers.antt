use native.Mathlib.Omega.{arith}
use mathlib.Core.Path.{sym}
use Rattle.fields.specs.Reading.{within}
use Rattle.fields.proofs.Laws.{length_times}
use Rattle.fields.proofs.Readers.{stopped}
use Rattle.sheets_rules.specs.LibrarySheet.{cell_after, cells}
use Rattle.library.proofs.Laws.{cell_keeps, reads_as, stops_as, count_stops, counted_reads}
use Rattle.library.proofs.read_cells.Goals as goal

pub returns-in_err-count : goal.returns-in_err-count
unfolding cells
returns-in_err-count c =
    let bins = c.args.bins in
    stopped _ c.from_residual.ensures.1 (count_stops 7 (within 1 64) (λ s. cell_after s bins.count) (λ s xs. cell_keeps bins _ s) c.in_err-count.ensures (omega arith))

pub returns-in_err-patterns : goal.returns-in_err-patterns
unfolding cells
returns-in_err-patterns c =
    let n = c.in_ok-count.ensures in
    stopped _ c.from_residual-in_err-patterns.ensures.1
    (counted_reads 7 (within 1 64) (λ s. cell_after s c.args.bins.count) n n.takes.holds.0 _ (stops_as c.in_err-patterns.ensures) (omega (arith, n.takes.holds)))

pub returns : goal.returns
unfolding cells
returns c =
    let n = c.in_ok-count.ensures in
    counted_reads 7 (within 1 64) (λ s. cell_after s c.args.bins.count) n n.takes.holds.0 _
    (reads_as c.in_ok-patterns.ensures (λ h. record { counted = sym (length_times _ _ _); cells_few = n.takes.holds.1; patterns_are = h }))
    (omega (arith, n.takes.holds))
