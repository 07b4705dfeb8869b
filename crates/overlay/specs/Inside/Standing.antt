-- When arrays hold a shape: a subject tree's symbols and sizes, a pattern's row and its extents.
use Rattle.std.specs.Prelude.{ℕ, suc, ◌+◌, ◌*◌, ◌≤◌, ◌<◌, ◌≡◌, get_or, length}
use mathlib.Core.List.{List, Memᴰ}
use Rattle.shapes_rules.specs.Shape.{symbols as symbolsOf, inv_symbol, nand_symbol, leaf_symbol}
use Rattle.sheets_rules.specs.Model.{Shape, leaf, inv, nand, size, nands}
use Rattle.sheets_rules.specs.Inside.Layout.{size_at, symbols_at, row_words}
use Rattle.covers.specs.Tradeoff.{Node, nodes}
use Rattle.overlay.specs.declared.Extents.{Extents}

module _ (symbols sizes : List ℕ) where
  -- From node n on: a NAND's second branch stands after all of its first.
  abbrev pub Stands : ℕ → Shape → Type 0
  Stands n (leaf x) = (get_or symbols n 0 ≡ leaf_symbol x) × (get_or sizes n 0 ≡ 1)
  Stands n (inv s) = (get_or symbols n 0 ≡ inv_symbol) × (get_or sizes n 0 ≡ suc (size s)) × Stands (suc n) s
  Stands n (nand s t) = (get_or symbols n 0 ≡ nand_symbol) × (get_or sizes n 0 ≡ suc (size s + size t)) × Stands (suc n) s × Stands (suc n + size s) t

  -- The arrays of a subject tree hold the subtree s at node n.
  pub record Subject (n : ℕ) (s : Shape) : Type 0 where
    pub symbols_long : length symbols ≡ 64
    pub sizes_long : length sizes ≡ 64
    pub stands : Stands n s
    pub ends : n + size s ≤ 64

-- ---- a pattern's row

-- The row holds the drawing d.
pub record DrawingStored (row : List ℕ) (d : Shape) : Type 0 where
  pub long : length row ≡ row_words
  pub size_is : get_or row size_at 0 ≡ size d
  pub symbols_are : (k : ℕ) → k < size d → get_or row (symbols_at + k) 0 ≡ get_or (symbolsOf d) k 0

-- How far a shape reaches: how many nodes it has, and 32 times how many NANDs.
unfoldable pub extent : Shape → ℕ
extent d = size d + 32 * nands d

-- These are the extents of a drawing's nodes.
pub record Measured (d : Shape) (words : List ℕ) : Type 0 where
  pub long : length words ≡ 16
  pub each : (x : Node) → Memᴰ x (nodes 0 d) → get_or words x.number 0 ≡ extent x.shape

-- The extents of the drawing in a row, whichever it is.
abbrev pub DrawingMeasured : (row : List ℕ) → Extents → Type 0
DrawingMeasured row r = (d : Shape) → DrawingStored row d → size d ≤ 16 → Measured d r.words

-- Node k is the shape s, by its symbol, and the extents of the nodes after it are there.
abbrev pub Extending : ℕ → List ℕ → ℕ → Shape → Type 0
Extending symbol words k (leaf x) = symbol ≡ leaf_symbol x
Extending symbol words k (inv p) = (symbol ≡ inv_symbol) × (k + 1 < 16) × (length words ≡ 16) × (get_or words (k + 1) 0 ≡ extent p)
Extending symbol words k (nand p q) =
    (symbol ≡ nand_symbol) × (k + 1 + size p < 16) × (length words ≡ 16) × (get_or words (k + 1) 0 ≡ extent p) × (get_or words (k + 1 + size p) 0 ≡ extent q)

-- The extent of node k, whichever shape it is.
abbrev pub ExtentFound : (symbol : ℕ) → (words : List ℕ) → (k : ℕ) → ℕ → Type 0
ExtentFound symbol words k r = (s : Shape) → Extending symbol words k s → r ≡ extent s

-- The row and the extents hold the shape from node k of a drawing on.
module _ (row words : List ℕ) where
  abbrev pub Drawn : ℕ → Shape → Type 0
  Drawn k (leaf x) = get_or row (symbols_at + k) 0 ≡ leaf_symbol x
  Drawn k (inv p) = (get_or row (symbols_at + k) 0 ≡ inv_symbol) × Drawn (suc k) p
  Drawn k (nand p q) = (get_or row (symbols_at + k) 0 ≡ nand_symbol) × (get_or words (suc k) 0 ≡ extent p) × Drawn (suc k) p × Drawn (suc k + size p) q
