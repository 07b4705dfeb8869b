-- The matches of a node. After p turns the hits of the matches of the first p patterns are written.
use Prim.Native.Nat.{◌*◌, ◌≤◌}
use mathlib.Core.Path.{◌≡◌}
use mathlib.Core.List.{map}
use lib.ListN.{length}
use lib.Seq.{sets}
use Rattle.sheets_rules.specs.Model.{Shape, Library, Tree}
use Rattle.matching.specs.Inside.Found.{hit_of}
use Rattle.matching.specs.Inside.Promises.{Ready}
use Rattle.matching.proofs.Patterns.{matches_before}
use Rattle.matching.proofs.find_matches.Given as goal

abbrev pub invariant-loop-p : goal.invariant-loop-p
invariant-loop-p now =
    (now.count ≤ 32 * now.p)
    × ((l : Library) (t : Tree) (s : Shape) → Ready l t now.rows now.tree.symbols now.tree.sizes now.n (length now.initial.table) s →
    (now.count ≡ length (matches_before l now.n s now.p)) × (now.table ≡ sets now.initial.table 0 (map hit_of (matches_before l now.n s now.p))))
