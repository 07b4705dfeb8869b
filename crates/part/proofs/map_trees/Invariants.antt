use Prim.Native.Nat.{◌≤◌}
use mathlib.Core.Path.{◌≡◌}
use lib.ListN.{length}
use Rattle.sheets_rules.specs.Model.{Library}
use Rattle.sheets_rules.specs.Inside.Sound.{LibraryStored}
use Rattle.part_rules.specs.Part.{Part}
use Rattle.part_rules.specs.PartSheet.{trees_most}
use Rattle.part_read.specs.Inside.Decoded.{PartStored}
use Rattle.part.specs.Inside.Promises.{Few}
use Rattle.part.proofs.Trees.{Going}
use Rattle.part.proofs.map_trees.Given as goal

abbrev pub invariant-loop-k : goal.invariant-loop-k
invariant-loop-k now = record {
  room : now.part.count ≤ trees_most;
  same : now.work ≡ now.initial.work;
  long : length now.covers ≡ trees_most;
  few : Few now.covers;
  times : length now.arrivals ≡ trees_most;
  going : (l : Library) (p : Part) → LibraryStored l now.library → PartStored p now.part → Going now.most l p now.k now.covers now.arrivals;
}
