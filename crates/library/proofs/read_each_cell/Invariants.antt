use Prim.Native.Nat.{◌*◌}
use mathlib.Core.Path.{◌≡◌}
use lib.ListN.{length}
use Rattle.std.specs.Prelude.{Ok}
use Rattle.fields.specs.Reading.{times}
use Rattle.fields.specs.Inside.Promises.{Reads}
use Rattle.sheets_rules.specs.LibrarySheet.{cell_after}
use Rattle.sheets_rules.specs.Reach.{cell_bits}
use Rattle.library.specs.Inside.Promises.{PatternsHold}
use Rattle.library.proofs.read_each_cell.Given as goal

abbrev pub invariant-loop-k : goal.invariant-loop-k
invariant-loop-k l =
    Reads l.fn.sheet l.sheet (λ s. times l.k (cell_after s l.bins.count)) (λ cs total. (length cs ≡ l.k) × PatternsHold l.bins l.fn.rows l.rows cs total) (cell_bits * l.k) (Ok l.total)
