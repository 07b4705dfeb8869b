use native.Mathlib.Omega.{arith}
use mathlib.Core.Path.{sym}
use Rattle.fields.proofs.Laws.{length_times}
use Rattle.fields.proofs.Readers.{stopped}
use Rattle.sheets_rules.specs.LibrarySheet.{count_verdict, pattern, drawings}
use Rattle.library.proofs.Laws.{pattern_keeps, reads_as, stops_as, count_stops, counted_reads}
use Rattle.library.proofs.read_drawings.Goals as goal

pub returns-in_err-count : goal.returns-in_err-count
unfolding drawings
returns-in_err-count c =
    let a = c.args in
    let pins = a.numbered.cell.count in
    stopped _ c.from_residual.ensures.1 (count_stops 3 (count_verdict a.total) (λ s. pattern s pins) (λ s. pattern_keeps s pins) c.in_err-count.ensures (omega arith))

pub returns-in_err-read_rows : goal.returns-in_err-read_rows
unfolding drawings
returns-in_err-read_rows c =
    let a = c.args in
    let n = c.in_ok-count.ensures in
    stopped _ c.from_residual-in_err-read_rows.ensures.1
    (counted_reads 3 (count_verdict a.total) (λ s. pattern s a.numbered.cell.count) n n.takes.holds.is _ (stops_as c.in_err-read_rows.ensures) (omega (arith, n.takes.holds)))

pub returns : goal.returns
unfolding drawings
returns c =
    let a = c.args in
    let n = c.in_ok-count.ensures in
    counted_reads 3 (count_verdict a.total) (λ s. pattern s a.numbered.cell.count) n n.takes.holds.is _
    (reads_as c.in_ok-read_rows.ensures (λ h. record { counted = sym (length_times _ _ _); fits = n.takes.holds.fits; laid = h }))
    (omega (arith, n.takes.holds))
