use Prim.Native.Nat.{◌*◌}
use mathlib.Core.Path.{◌≡◌}
use lib.ListN.{length}
use Rattle.std.specs.Prelude.{Ok}
use Rattle.fields.specs.Reading.{times}
use Rattle.fields.specs.Inside.Promises.{Reads}
use Rattle.sheets_rules.specs.LibrarySheet.{pin}
use Rattle.sheets_rules.specs.Reach.{pin_bits}
use Rattle.library.specs.Inside.Promises.{PinsHold}
use Rattle.library.proofs.read_pins.Given as goal

abbrev pub invariant-loop-k : goal.invariant-loop-k
invariant-loop-k l = Reads l.fn.sheet l.sheet (λ s. times l.k (pin s l.bins.count)) (λ ps pins. (length ps ≡ l.k) × PinsHold l.bins ps pins) (pin_bits * l.k) (Ok l.pins)
