use Prim.Native.Nat.{◌≤◌, ◌-◌}
use mathlib.Core.Path.{◌≡◌}
use mathlib.Core.List.{List, [], map}
use lib.ListN.{length, drop}
use Rattle.sheets_rules.specs.Model.{Tree}
use Rattle.sheets_rules.specs.Inside.Layout.{padded, tree_laid}
use Rattle.part_rules.specs.PartSheet.{trees_most}
use Rattle.part_rules.specs.PartRead.{trees_from}
use Rattle.part_read.specs.Inside.Decoded.{no_tree}
use Rattle.part_read.proofs.read_trees.Given as goal

abbrev pub invariant-loop-k : goal.invariant-loop-k
invariant-loop-k l =
    (before : List Tree) × (length before ≡ l.k) × (l.first ≤ length l.s) × (l.trees ≡ padded trees_most no_tree (map tree_laid before)) × (trees_from [] l.count l.s ≡ trees_from before (l.count - l.k) (drop l.first l.s))
