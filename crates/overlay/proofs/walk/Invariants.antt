-- The walk over a pattern. What it noted, and where it stands, is what the drawing laid over the subtree has noted so far (`Going`).
use Prim.Native.Nat.{◌-◌}
use Rattle.sheets_rules.specs.Model.{Shape}
use Rattle.overlay.specs.Inside.Promises.{Walkable}
use Rattle.overlay.proofs.Walking.{Going}
use Rattle.overlay.proofs.walk.Given as goal

abbrev pub invariant-loop-extents : goal.invariant-loop-extents
invariant-loop-extents l =
    (d s : Shape) → Walkable l.row l.extents.words l.tree.symbols l.tree.sizes l.n d s → Going l.row l.extents.words l.tree.symbols l.tree.sizes d s l.n l.crossing l.inputs l.left l.at

abbrev pub decreases-loop-extents : goal.decreases-loop-extents
decreases-loop-extents l = 64 - l.at
