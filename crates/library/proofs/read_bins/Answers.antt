use native.Mathlib.Omega.{arith}
use mathlib.Core.Path.{refl, sym}
use Rattle.fields.specs.Reading.{within}
use Rattle.fields.proofs.Laws.{length_times}
use Rattle.fields.proofs.Readers.{stopped}
use Rattle.sheets_rules.specs.LibrarySheet.{bin_load, bins}
use Rattle.library.proofs.Laws.{reads_as, stops_as, count_stops, counted_reads}
use Rattle.library.proofs.read_bins.Goals as goal

pub returns-in_err-count : goal.returns-in_err-count
unfolding bins bin_load
returns-in_err-count c = stopped _ c.from_residual.ensures.1 (count_stops 3 (within 1 4) bin_load (λ s xs f p. refl) c.in_err-count.ensures (omega arith))

pub returns-in_err-loads : goal.returns-in_err-loads
unfolding bins
returns-in_err-loads c =
    let n = c.in_ok-count.ensures in
    stopped _ c.from_residual-in_err-loads.ensures.1 (counted_reads 3 (within 1 4) bin_load n n.takes.holds.0 _ (stops_as c.in_err-loads.ensures) (omega (arith, n.takes.holds)))

pub returns : goal.returns
unfolding bins
returns c =
    let n = c.in_ok-count.ensures in
    counted_reads 3 (within 1 4) bin_load n n.takes.holds.0 _
    (reads_as c.in_ok-loads.ensures (λ h. record { counted = sym (length_times _ _ _); loads = h; few = n.takes.holds.1 }))
    (omega (arith, n.takes.holds))
