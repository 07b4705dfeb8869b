-- What the functions of this crate promise each other, by the definition of the tree sheet.
use Rattle.std.specs.Prelude.{◌≡◌, ℕ, List}
use Rattle.shapes_rules.specs.Shape.{symbols}
use Rattle.tree.specs.declared.TreeHead.{TreeHead}
use Rattle.sheets_rules.specs.Model.{size, Tree}
use Rattle.sheets_rules.specs.Inside.Layout.{padded}

-- A tree's head, its nodes' symbols laid out in l'.
pub record HeadIs (l' : List ℕ) (t : Tree) (r : TreeHead) : Type 0 where
  pub load_is : r.load ≡ t.load
  pub required_is : r.required ≡ t.required
  pub counted : r.count ≡ size t.shape
  pub laid : l' ≡ padded 64 0 (symbols t.shape)
