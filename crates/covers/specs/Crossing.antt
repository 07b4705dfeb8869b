-- "A drawing stands for both input orders at each NAND": the crossings of a drawing, and the drawings that they make of it.
use Rattle.std.specs.Prelude.{ℕ, zero, suc, ◌+◌, ◌-◌, ◌/◌, ◌%◌, ◌^◌, Bool, true, false, ◌&&◌, List, [], ◌∷◌, eqb, ltb}
use Rattle.sheets_rules.specs.Model.{Shape, leaf, inv, nand, nands}
use Rattle.covers.specs.Lists.{select}

-- A crossing number is five bits "read as one number, first bit highest"; how many such numbers there are.
abbrev pub crossing_limit : ℕ
crossing_limit = 2 ^ 5

-- The bit of the NAND numbered j, from 0: "0 as drawn and 1 exchanged".
unfoldable pub exchanged : ℕ → ℕ → Bool
exchanged x j = eqb (x / 2 ^ (4 - j) % 2) 1

-- A NAND of two branches, as drawn or exchanged.
unfoldable pub ordered : Bool → Shape → Shape → Shape
ordered false p q = nand p q
ordered true p q = nand q p

-- A drawing with its NANDs as a crossing has them. They are numbered from j on, "in preorder" of the drawing as it stands in the sheet.
unfoldable pub redrawn_from : ℕ → ℕ → Shape → Shape
unfolding ordered exchanged nands
redrawn_from x j (leaf k) = leaf k
redrawn_from x j (inv p) = inv (redrawn_from x j p)
redrawn_from x j (nand p q) = ordered (exchanged x j) (redrawn_from x (suc j) p) (redrawn_from x (suc j + nands p) q)

-- The drawing that a crossing makes of a drawing.
unfoldable pub redrawn : ℕ → Shape → Shape
unfolding redrawn_from
redrawn x d = redrawn_from x 0 d

-- A crossing of a drawing: a bit for each NAND, "with unused bits 0".
unfoldable pub is_crossing : Shape → ℕ → Bool
unfolding nands
is_crossing d x = ltb x crossing_limit && eqb (x % 2 ^ (5 - nands d)) 0

-- `count` numbers from k on.
unfoldable pub counted : ℕ → ℕ → List ℕ
counted k zero = []
counted k (suc n) = k ∷ counted (suc k) n

-- The crossings of a drawing, ascending.
unfoldable pub crossings : Shape → List ℕ
unfolding select is_crossing counted
crossings d = select (is_crossing d) (counted 0 crossing_limit)
