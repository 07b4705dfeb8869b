-- The extents of a drawing's nodes. Those of the nodes numbered k and above are there (`MeasuredFrom`).
use Prim.Native.Nat.{◌≤◌}
use mathlib.Core.Path.{◌≡◌}
use lib.ListN.{length}
use Rattle.sheets_rules.specs.Model.{Shape, size}
use Rattle.overlay.specs.Inside.Standing.{DrawingStored}
use Rattle.overlay.proofs.Measuring.{MeasuredFrom}
use Rattle.overlay.proofs.measure.Given as goal

abbrev pub invariant-loop-k : goal.invariant-loop-k
invariant-loop-k l = (l.k ≤ 16) × (length l.words ≡ 16) × ((d : Shape) → DrawingStored l.row d → size d ≤ 16 → (l.k ≤ size d) × MeasuredFrom d l.words l.k)
