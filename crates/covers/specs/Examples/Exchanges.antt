-- Document 02's Paper 2 by examples: which drawings a drawing stands for, and covers that are fast by an exchange alone.
use Rattle.std.specs.Prelude.{ℕ, ◌≡◌, false, List, [], ◌∷◌, map}
use Rattle.sheets_rules.specs.Model.{plain_leaf, Shape, inv, nand, Cell, Library}
use Rattle.covers.specs.Capacity.{capacity}
use Rattle.covers.specs.Crossing.{redrawn, crossings}
use Rattle.covers.specs.Cover.{Placed}
use Rattle.covers.specs.Answer.{mapped}
use Rattle.covers.specs.Examples.Specimens.{Case, pin, cover, case, INV}

-- ---- redrawings

-- NANDs 0, 1 and 2 in preorder: the one over all, its first branch, its second branch.
abbrev three : Shape
three = inv (nand (nand (plain_leaf 0) (inv (plain_leaf 1))) (nand (plain_leaf 2) (plain_leaf 3)))

-- NANDs 0 to 4 in preorder: two in the first branch, two in the second.
abbrev five : Shape
five = nand (nand (nand (plain_leaf 0) (plain_leaf 1)) (plain_leaf 2)) (nand (plain_leaf 3) (nand (plain_leaf 4) (plain_leaf 5)))

-- A drawing, a crossing number and what it makes of the drawing.
pub record Redrawing : Type 0 where
  pub drawing : Shape
  pub crossing : ℕ
  pub result : Shape

abbrev makes : Shape → ℕ → Shape → Redrawing
makes d x e = record { drawing = d; crossing = x; result = e }

-- The first bit is the highest, and NAND 1 is the first branch in every redrawing, also where it stands second.
abbrev pub redrawings : List Redrawing
redrawings =
    makes three 0 three
    ∷ makes three 16 (inv (nand (nand (plain_leaf 2) (plain_leaf 3)) (nand (plain_leaf 0) (inv (plain_leaf 1)))))
    ∷ makes three 8 (inv (nand (nand (inv (plain_leaf 1)) (plain_leaf 0)) (nand (plain_leaf 2) (plain_leaf 3))))
    ∷ makes three 4 (inv (nand (nand (plain_leaf 0) (inv (plain_leaf 1))) (nand (plain_leaf 3) (plain_leaf 2))))
    ∷ makes three 24 (inv (nand (nand (plain_leaf 2) (plain_leaf 3)) (nand (inv (plain_leaf 1)) (plain_leaf 0))))
    ∷ makes three 20 (inv (nand (nand (plain_leaf 3) (plain_leaf 2)) (nand (plain_leaf 0) (inv (plain_leaf 1)))))
    ∷ makes five 2 (nand (nand (nand (plain_leaf 0) (plain_leaf 1)) (plain_leaf 2)) (nand (nand (plain_leaf 4) (plain_leaf 5)) (plain_leaf 3)))
    ∷ makes five 1 (nand (nand (nand (plain_leaf 0) (plain_leaf 1)) (plain_leaf 2)) (nand (plain_leaf 3) (nand (plain_leaf 5) (plain_leaf 4))))
    ∷ makes five 31 (nand (nand (nand (plain_leaf 5) (plain_leaf 4)) (plain_leaf 3)) (nand (plain_leaf 2) (nand (plain_leaf 1) (plain_leaf 0))))
    ∷ []

abbrev pub Redrawings : Type 0
Redrawings = map (λ r. redrawn r.crossing r.drawing) redrawings ≡ map (λ r. r.result) redrawings

-- The crossings of drawings with no NAND, one and three: unused bits are 0.
abbrev pub Crossings : Type 0
Crossings = map crossings (inv (plain_leaf 0) ∷ nand (plain_leaf 0) (plain_leaf 1) ∷ three ∷ []) ≡ ((0 ∷ []) ∷ (0 ∷ 16 ∷ []) ∷ (0 ∷ 4 ∷ 8 ∷ 12 ∷ 16 ∷ 20 ∷ 24 ∷ 28 ∷ []) ∷ [])

-- ---- covers

-- Pin 0 is slow and pin 1 fast; the second cell is drawn with an inverter at its first input.
abbrev cell : ℕ → Shape → Cell
cell a s = record { held = false; area = a; highest = 4; pins = pin 0 6 0 ∷ pin 0 1 0 ∷ []; drawings = s ∷ [] }

abbrev library : Library
library = record { bins = 1 ∷ []; cells = cell 2 (nand (plain_leaf 0) (plain_leaf 1)) ∷ cell 3 (nand (inv (plain_leaf 0)) (plain_leaf 1)) ∷ [] }

abbrev at : ℕ → ℕ → ℕ → Placed
at n p x = record { node = n; pattern = p; crossing = x }

abbrev pub exchanges : List Case
exchanges =
    case (nand (plain_leaf 0) (plain_leaf 5)) 1 6 (cover (at 0 0 0 ∷ []) 2 6)  -- as drawn
    ∷ case (nand (plain_leaf 5) (plain_leaf 0)) 1 6 (cover (at 0 0 16 ∷ []) 2 6)  -- in time by an exchange alone
    ∷ case (nand (plain_leaf 5) (plain_leaf 0)) 1 11 (cover (at 0 0 16 ∷ []) 2 6)  -- no later than can be, where both are in time
    ∷ case (nand (plain_leaf 0) (plain_leaf 0)) 1 6 (cover (at 0 0 0 ∷ []) 2 6)  -- of equals, the lowest crossing number
    ∷ case (nand (plain_leaf 0) INV) 1 6 (cover (at 0 1 16 ∷ []) 3 6)  -- matches exchanged and not as drawn
    ∷ case (nand (nand (plain_leaf 0) (plain_leaf 5)) (nand (plain_leaf 5) (plain_leaf 0))) 1 12 (cover (at 0 0 0 ∷ at 1 0 0 ∷ at 4 0 16 ∷ []) 6 12)  -- below the root too
    ∷ []

abbrev pub Exchanges : Type 0
Exchanges = map (λ c. mapped capacity library c.tree) exchanges ≡ map (λ c. c.result) exchanges
