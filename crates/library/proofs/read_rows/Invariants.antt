use Prim.Native.Nat.{◌*◌}
use mathlib.Core.Path.{◌≡◌}
use lib.ListN.{length}
use Rattle.std.specs.Prelude.{Ok}
use Rattle.fields.specs.Reading.{times}
use Rattle.fields.specs.Inside.Promises.{Reads}
use Rattle.sheets_rules.specs.LibrarySheet.{pattern}
use Rattle.sheets_rules.specs.Reach.{pattern_bits}
use Rattle.library.specs.Inside.Promises.{RowsHold}
use Rattle.library.proofs.read_rows.Given as goal

abbrev pub invariant-loop-k : goal.invariant-loop-k
invariant-loop-k l =
    Reads l.fn.sheet l.sheet (λ s. times l.k (pattern s l.numbered.cell.count)) (λ xs u. (length xs ≡ l.k) × RowsHold l.numbered l.total l.fn.rows l.rows xs u) (pattern_bits * l.k) (Ok tt)
