-- Document 01's specimen sheet and its cases a to l as one table.
use Rattle.std.specs.Prelude.{ℕ, ◌≡◌, false, List, [], ◌∷◌, map}
use Rattle.sheets_rules.specs.Model.{plain_leaf, Shape, inv, nand, Pin, Cell, Library, Tree}
use Rattle.fields.specs.Answer.{Answer, refused, success}
use Rattle.covers.specs.Capacity.{capacity}
use Rattle.covers.specs.Cover.{Placed, Cover}
use Rattle.covers.specs.Answer.{mapped}

-- A pin by its bin number, intrinsic delay and drive.
abbrev pub pin : ℕ → ℕ → ℕ → Pin
pin b i d = record { bin = b; intrinsic = i; drive = d }

-- A cell, not held, by its area, highest load, pins and drawing.
abbrev pub cell : ℕ → ℕ → List Pin → Shape → Cell
cell a h ps s = record { held = false; area = a; highest = h; pins = ps; drawings = s ∷ [] }

-- Cell number is pattern number.
abbrev cells : List Cell
cells =
    cell 1 4 (pin 0 4 2 ∷ []) (inv (plain_leaf 0))  -- inverter
    ∷ cell 2 8 (pin 1 4 1 ∷ []) (inv (plain_leaf 0))  -- fast inverter
    ∷ cell 2 4 (pin 0 6 2 ∷ pin 0 6 2 ∷ []) (nand (plain_leaf 0) (plain_leaf 1))  -- NAND
    ∷ cell 3 4 (pin 0 8 2 ∷ pin 0 8 2 ∷ []) (inv (nand (plain_leaf 0) (plain_leaf 1)))  -- AND
    ∷ []

-- The library, with bins 1 and 2.
abbrev pub specimen : Library
specimen = record { bins = 1 ∷ 2 ∷ []; cells = cells }

-- A tree by its shape, root load and required time.
abbrev pub tree : Shape → ℕ → ℕ → Tree
tree s load time = record { load = load; required = time; shape = s }

-- A match by its node and pattern, as drawn.
abbrev pub at : ℕ → ℕ → Placed
at n p = record { node = n; pattern = p; crossing = 0 }

-- A result by its matches, area and arrival.
abbrev pub cover : List Placed → ℕ → ℕ → Answer Cover
cover ps a t = success (record { point = record { area = a; arrival = t }; placed = ps })

-- The table's 8.
abbrev pub no_cover : Answer Cover
no_cover = refused 8 0

-- A case of the table: the tree with its root load and its required time, and the result.
pub record Case : Type 0 where
  pub tree : Tree
  pub result : Answer Cover

-- A case by its tree's shape, root load and required time, and the result.
abbrev pub case : Shape → ℕ → ℕ → Answer Cover → Case
case s load time r = record { tree = tree s load time; result = r }

-- The trees of the table; leaf arrivals are 0 unless given.
abbrev pub INV : Shape
INV = inv (plain_leaf 0)

abbrev INV-INV : Shape
INV-INV = inv INV

abbrev INV-NAND : Shape
INV-NAND = inv (nand (plain_leaf 0) (plain_leaf 0))

-- The cases, with any root load in l.
abbrev pub cases : ℕ → List Case
cases any =
    case INV 1 6 (cover (at 0 0 ∷ []) 1 6)  -- a
    ∷ case INV 1 5 (cover (at 0 1 ∷ []) 2 5)  -- b
    ∷ case INV 1 4 no_cover  -- c
    ∷ case INV 4 12 (cover (at 0 0 ∷ []) 1 12)  -- d
    ∷ case INV 5 14 (cover (at 0 1 ∷ []) 2 9)  -- e
    ∷ case INV 9 16_777_215 no_cover  -- f
    ∷ case INV-NAND 1 14 (cover (at 0 3 ∷ []) 3 10)  -- g
    ∷ case INV-NAND 8 22 (cover (at 0 1 ∷ at 1 2 ∷ []) 4 22)  -- h
    ∷ case INV-INV 1 12 (cover (at 0 0 ∷ at 1 0 ∷ []) 2 12)  -- i
    ∷ case INV-INV 1 11 (cover (at 0 0 ∷ at 1 1 ∷ []) 3 11)  -- j
    ∷ case (nand (plain_leaf 3) (plain_leaf 0)) 1 11 (cover (at 0 2 ∷ []) 2 11)  -- k
    ∷ case (plain_leaf 7) any 7 (cover [] 0 7)  -- l
    ∷ case (plain_leaf 7) any 6 no_cover  -- l
    ∷ []

-- What is claimed: every case's result is what map hands over.
abbrev pub Specimens : Type 0
Specimens = (any : ℕ) → map (λ c. mapped capacity specimen c.tree) (cases any) ≡ map (λ c. c.result) (cases any)
