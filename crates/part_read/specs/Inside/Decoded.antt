-- When a record holds a part.
use Rattle.std.specs.Prelude.{ℕ, ◌+◌, ◌*◌, ◌≤◌, ◌<◌, ◌≡◌, length, get_or, replicate}
use mathlib.Core.List.{List, map, Memᴰ}
use Rattle.sheets_rules.specs.declared.TreeRecord.{TreeRecord}
use Rattle.sheets_rules.specs.Model.{Tree}
use Rattle.sheets_rules.specs.Inside.Sound.{SoundTree}
use Rattle.sheets_rules.specs.Inside.Layout.{padded, tree_laid}
use Rattle.part_rules.specs.Part.{Link, Part, driver_of}
use Rattle.part_rules.specs.PartSheet.{trees_most}
use Rattle.part_read.specs.declared.PartRecord.{PartRecord}
use Rattle.part_link.specs.Inside.Promises.{driver_named}

-- ---- a part

-- What stands where no tree is.
abbrev pub no_tree : TreeRecord
no_tree = record { load = 0; required = 0; count = 0; symbols = replicate 64 0; sizes = replicate 64 0 }

-- The trees at the front of an array of 16.
pub record TreesStored (ts : List Tree) (l : List TreeRecord) : Type 0 where
  pub few : length ts ≤ trees_most
  pub laid : l ≡ padded trees_most no_tree (map tree_laid ts)
  pub sound : (t : Tree) → Memᴰ t ts → SoundTree t

-- The drivers of all nodes of all trees, 64 for each tree.
pub record Marks (links : List Link) (l : List ℕ) : Type 0 where
  pub long : length l ≡ 64 * trees_most
  pub named : (k n : ℕ) → k < trees_most → n < 64 → driver_of links k n ≡ driver_named (get_or l (64 * k + n) 0)
  pub small : (j : ℕ) → get_or l j 0 ≤ trees_most

-- A part as decoded.
pub record PartStored (p : Part) (r : PartRecord) : Type 0 where
  pub count_is : r.count ≡ length p.trees
  pub trees_are : TreesStored p.trees r.trees
  pub drivers_are : Marks p.links r.drivers
