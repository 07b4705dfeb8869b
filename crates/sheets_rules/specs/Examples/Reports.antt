-- What the judges of the two sheets answer, as examples: each number with its place, and sound sheets.
use Rattle.std.specs.Prelude.{ℕ, zero, suc, ◌≡◌, List, [], ◌∷◌, ◌++◌, map, take}
use Rattle.fields.specs.Answer.{Answer, refused, success}
use Rattle.fields.specs.Written.{Field, packed}
use Rattle.sheets_rules.specs.Report.{LibraryCounts, library_report, tree_report}

-- ---- sheets by their fields

-- A field by its width in bits and its value, and the same fields some times over.
abbrev pub of : (width value : ℕ) → Field
of w v = record { value = v; width = w }

abbrev pub many : ℕ → List Field → List Field
many zero fs = []
many (suc n) fs = fs ++ many n fs

-- A shape's codes: a leaf of a pattern by its pin, an inverter, a NAND.
abbrev pub pin_leaf : ℕ → List Field
pin_leaf pin = of 2 0 ∷ of 3 pin ∷ []

abbrev pub INV : List Field
INV = of 2 1 ∷ []

abbrev pub NAND : List Field
NAND = of 2 2 ∷ []

-- A cell by how many pins and patterns it has, and the patterns. Its pattern count stands 28 bits, and 26 more for
-- each pin, after its first bit.
abbrev pub cell : (pins count : ℕ) → List Field → List Field
cell pins count patterns = of 1 0 ∷ of 16 1 ∷ of 8 4 ∷ of 3 pins ∷ many pins (of 2 0 ∷ of 16 4 ∷ of 8 2 ∷ []) ++ (of 3 count ∷ patterns)

-- A library with one bin by how many cells it has, and the cells, from bit 18 on.
abbrev pub library_of : ℕ → List Field → List ℕ
library_of count cells = packed (of 3 1 ∷ of 8 1 ∷ of 7 count ∷ cells)

-- One cell of two pins and one pattern, which stands at bit 101.
abbrev drawn : List Field → List ℕ
drawn pattern = library_of 1 (cell 2 1 pattern)

abbrev nand : List ℕ
nand = drawn (NAND ++ pin_leaf 0 ++ pin_leaf 1)

-- 18 inverters of seven patterns each, and one more by how many it has: its pattern count stands at bit 1,980.
abbrev inverters : ℕ → List ℕ
inverters last = library_of 19 (many 18 (cell 1 7 (many 7 (INV ++ pin_leaf 0))) ++ cell 1 last (many last (INV ++ pin_leaf 0)))

-- A tree under root load 1 with required time 6, by its shape, which stands at bit 32; a leaf by its arrival.
abbrev tree_of : List Field → List ℕ
tree_of shape = packed (of 8 1 ∷ of 24 6 ∷ shape)

abbrev arriving : ℕ → List Field
arriving arrival = of 2 0 ∷ of 20 arrival ∷ []

-- ---- the tables

pub record Row (A : Type 0) : Type 0 where
  pub sheet : List ℕ
  pub answer : Answer A

module _ {A : Type 0} where
  abbrev sound : List ℕ → A → Row A
  sound s a = record { sheet = s; answer = success a }

  abbrev faulty : List ℕ → (number place : ℕ) → Row A
  faulty s number place = record { sheet = s; answer = refused number place }

abbrev counts : (cells patterns : ℕ) → LibraryCounts
counts cells patterns = record { cells = cells; patterns = patterns }

abbrev pub libraries : List (Row LibraryCounts)
libraries =
    sound nand (counts 1 1)
    ∷ sound (inverters 2) (counts 19 128)
    ∷ faulty [] 2 0  -- no byte
    ∷ faulty (take 13 nand) 2 103  -- ends inside a code
    ∷ faulty (nand ++ (0 ∷ [])) 3 113  -- a byte more,
    ∷ faulty (drawn (NAND ++ pin_leaf 0 ++ pin_leaf 1 ++ (of 7 1 ∷ []))) 3 113  -- and a set bit in the last byte's rest
    ∷ faulty (packed (of 3 0 ∷ [])) 4 0  -- no bin
    ∷ faulty (packed (of 3 2 ∷ of 8 7 ∷ of 8 7 ∷ [])) 4 11  -- a bin load not above the one before
    ∷ faulty (drawn (NAND ++ pin_leaf 0 ++ pin_leaf 2)) 4 110  -- pin 2 of two
    ∷ faulty (drawn (INV ++ (of 2 3 ∷ []))) 4 103  -- code 3
    ∷ faulty (drawn (pin_leaf 0)) 5 101  -- opens with a leaf,
    ∷ faulty (drawn (NAND ++ pin_leaf 0 ++ pin_leaf 0)) 5 110  -- repeats a pin,
    ∷ faulty (drawn (INV ++ pin_leaf 0)) 5 101  -- and lacks one
    ∷ faulty (drawn (many 17 INV)) 6 133  -- a 17th node,
    ∷ faulty (inverters 3) 6 1980  -- and a 129th pattern
    ∷ []

abbrev pub trees : List (Row ℕ)
trees =
    sound (tree_of (INV ++ arriving 1_000_000)) 2
    ∷ sound (tree_of (many 63 INV ++ arriving 0)) 64
    ∷ sound (tree_of (of 2 3 ∷ of 20 5 ∷ of 8 7 ∷ [])) 1  -- a driven leaf
    ∷ faulty [] 12 0
    ∷ faulty (take 6 (tree_of (arriving 0))) 12 34  -- ends inside an arrival
    ∷ faulty (tree_of (INV ++ arriving 0) ++ (0 ∷ [])) 13 56
    ∷ faulty (tree_of (arriving 0 ++ (of 2 1 ∷ []))) 13 54
    ∷ faulty (tree_of (arriving 1_000_001)) 14 34
    ∷ faulty (tree_of (many 65 INV)) 16 160  -- a 65th node
    ∷ []

abbrev pub Reports : Type 0
Reports = (map (λ r. library_report r.sheet) libraries ≡ map (λ r. r.answer) libraries) × (map (λ r. tree_report r.sheet) trees ≡ map (λ r. r.answer) trees)
