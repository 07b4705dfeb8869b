use Prim.Native.Nat.{◌≤◌, ◌*◌}
use mathlib.Core.Path.{◌≡◌}
use lib.ListN.{length}
use Rattle.std.specs.Prelude.{Ok}
use Rattle.fields.specs.Reading.{times}
use Rattle.fields.specs.Inside.Promises.{Reads}
use Rattle.sheets_rules.specs.LibrarySheet.{bin_load, last}
use Rattle.sheets_rules.specs.Reach.{bin_bits}
use Rattle.library.specs.Inside.Promises.{LoadsHold}
use Rattle.library.proofs.read_loads.Given as goal

abbrev pub invariant-loop-k : goal.invariant-loop-k
invariant-loop-k l =
    Reads l.fn.sheet l.sheet (λ s. times l.k (bin_load s)) (λ xs loads. (length xs ≡ l.k) × (l.before ≡ last xs) × (l.before ≤ 255) × LoadsHold xs loads) (bin_bits * l.k) (Ok l.loads)
