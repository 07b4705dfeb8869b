-- A part: its trees, the links between them, and a tree with the arrivals that its links bring.
use Rattle.std.specs.Prelude.{ℕ, suc, ◌+◌, cond, ◌&&◌, List, [], ◌∷◌, ◌++◌, map, length, get_or, eqb}
use Rattle.std.proofs.Math.Option
use Rattle.std.proofs.Math.Option.{Option, none, some}
use Rattle.sheets_rules.specs.Model.{arrival_of, Shape, leaf, inv, nand, size, Tree}
use Rattle.covers.specs.Cover.{Cover}

-- A link: a leaf node of the reading tree takes its arrival from the driving tree.
pub record Link : Type 0 where
  pub reading : ℕ
  pub node : ℕ
  pub driving : ℕ

-- A part. Trees are numbered from 0 by their place in the list.
pub record Part : Type 0 where
  pub trees : List Tree
  pub links : List Link

-- The numbers of the leaves of a shape whose root has number n, ascending.
unfoldable pub leaf_nodes : ℕ → Shape → List ℕ
leaf_nodes n (leaf x) = n ∷ []
leaf_nodes n (inv a) = leaf_nodes (suc n) a
leaf_nodes n (nand a b) = leaf_nodes (suc n) a ++ leaf_nodes (suc n + size a) b

-- The tree that drives a node of a tree, if a link names one.
unfoldable pub driver_of : List Link → (tree node : ℕ) → Option ℕ
driver_of [] k n = none
driver_of (x ∷ xs) k n = cond (eqb x.reading k && eqb x.node n) (some x.driving) (driver_of xs k n)

-- The arrival that the links bring to a node of a tree: that of its driving tree's cover, among those of the trees before it (0 if it has none there, which never happens in a sound part).
unfoldable pub linked_arrival : List Link → List Cover → (tree node : ℕ) → Option ℕ
unfolding driver_of
linked_arrival links covers k n = Option.map (λ d. get_or (map (λ (c : Cover). c.point.arrival) covers) d 0) (driver_of links k n)

-- The arrivals that they bring to the tree that comes next, after these covers.
abbrev pub known : List Link → List Cover → ℕ → Option ℕ
known links covers = linked_arrival links covers (length covers)

-- "A linked leaf takes the mapped arrival of its driving tree in place of its stated one, and keeps its drive."
unfoldable pub put_in : (ℕ → Option ℕ) → ℕ → Shape → Shape
put_in f n (leaf x) = leaf (record { number = Option.get_or (f n) (arrival_of x); drive = x.drive })
put_in f n (inv a) = inv (put_in f (suc n) a)
put_in f n (nand a b) = nand (put_in f (suc n) a) (put_in f (suc n + size a) b)

-- A tree "with its arrivals as then known": those of the covers of the trees before it. It keeps its root load and its required time.
unfoldable pub known_tree : (ℕ → Option ℕ) → Tree → Tree
unfolding put_in
known_tree f t = record { load = t.load; required = t.required; shape = put_in f 0 t.shape }
