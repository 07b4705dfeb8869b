-- The matches of one pattern. When the loop stands before a crossing, the hits of the matches under all lower crossings are written.
use Prim.Native.Nat.{◌+◌, ◌-◌, ◌≤◌, ◌<◌}
use mathlib.Core.Path.{◌≡◌}
use mathlib.Core.Bool.{true}
use mathlib.Core.List.{map}
use lib.ListN.{length}
use lib.Seq.{sets}
use Rattle.sheets_rules.specs.Model.{Shape, Pattern}
use Rattle.covers.specs.Crossing.{is_crossing}
use Rattle.matching.specs.Inside.Found.{hit_of}
use Rattle.matching.specs.Inside.Promises.{Trying}
use Rattle.matching.proofs.Crossings.{matches_below}
use Rattle.matching.proofs.find_crossings.Given as goal

abbrev pub invariant-loop-crossing : goal.invariant-loop-crossing
invariant-loop-crossing l =
    (l.crossing ≤ 32)
    × (l.found ≤ l.count + l.crossing)
    × ((p : Pattern) (s : Shape) → Trying l.row l.tree.symbols l.tree.sizes l.n l.pattern (length l.initial.table) l.count p s →
    (l.crossing < 32 → is_crossing p.drawing l.crossing ≡ true)
    × (l.found ≡ l.count + length (matches_below l.n s l.pattern p l.crossing))
    × (l.table ≡ sets l.initial.table l.count (map hit_of (matches_below l.n s l.pattern p l.crossing))))

abbrev pub decreases-loop-crossing : goal.decreases-loop-crossing
decreases-loop-crossing l = 32 - l.crossing
