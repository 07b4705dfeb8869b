-- The values that a sound library and a sound tree stand for. Every later definition speaks of these.
use Rattle.std.specs.Prelude.{ℕ, suc, List, [], ◌∷◌, ◌++◌, map, Bool, get_or}
pub use Rattle.shapes_rules.specs.Shape.{Leaf, pin_of, arrival_of, plain_leaf, Shape, leaf, inv, nand}
unfoldable pub use Rattle.shapes_rules.specs.Shape.{size, leaves, nands}

-- One input pin of a cell: the number of its load bin, its intrinsic delay and its drive.
pub record Pin : Type 0 where
  pub bin : ℕ
  pub intrinsic : ℕ
  pub drive : ℕ

-- The load that a pin presents to what drives it: that of its bin, among the bin loads.
abbrev pub bin_load_of : List ℕ → Pin → ℕ
bin_load_of bins p = get_or bins p.bin 0

-- A cell. A held cell (hold mark 1) is never matched; `highest` is the highest load at which the cell was measured.
pub record Cell : Type 0 where
  pub held : Bool
  pub area : ℕ
  pub highest : ℕ
  pub pins : List Pin
  pub drawings : List Shape

-- A library: the bin loads, ascending, and the cells.
pub record Library : Type 0 where
  pub bins : List ℕ
  pub cells : List Cell

-- A pattern: the number of its cell, the cell, and the shape drawn.
pub record Pattern : Type 0 where
  pub cell_number : ℕ
  pub cell : Cell
  pub drawing : Shape

unfoldable pub drawn : ℕ → Cell → List Shape → List Pattern
drawn n c [] = []
drawn n c (d ∷ ds) = record { cell_number = n; cell = c; drawing = d } ∷ drawn n c ds

unfoldable pub patterns_from : ℕ → List Cell → List Pattern
patterns_from n [] = []
patterns_from n (c ∷ cs) = drawn n c c.drawings ++ patterns_from (suc n) cs

-- The patterns, numbered by their place in this list: from 0 through the whole sheet, held cells included.
unfoldable pub patterns : Library → List Pattern
patterns l = patterns_from 0 l.cells

-- The number of a pattern's cell, and a cell's area, each by its own number.
unfoldable pub cell_of : Library → ℕ → ℕ
unfolding patterns
cell_of l pattern = get_or (map (λ (p : Pattern). p.cell_number) (patterns l)) pattern 0

unfoldable pub area_of : Library → ℕ → ℕ
area_of l cell = get_or (map (λ (c : Cell). c.area) l.cells) cell 0

-- A subject tree with its root load and its required time.
pub record Tree : Type 0 where
  pub load : ℕ
  pub required : ℕ
  pub shape : Shape

-- How many pins a cell has at the most.
abbrev pub pins_most : ℕ
pins_most = 6
