-- What map and list promise, over all legal covers and not over what a program looked at.
use Rattle.std.specs.Prelude.{ℕ, ◌+◌, ◌≤◌, ◌<◌, ◌≡◌, ◌↔◌}
use mathlib.Core.List.{List, [], ◌∷◌, Memᴰ}
use Rattle.std.proofs.Math.Option.{Option, none, some}
use Rattle.std.proofs.Math.ListN.{get_elem?}
use Rattle.sheets_rules.specs.Model.{Shape, Library, Tree, Pattern, patterns}
use Rattle.covers.specs.Cover.{Point, Placed, Cover, IsCover}
use Rattle.covers.specs.Tradeoff.{IsTradeoff, Climbing, Node, nodes, TooMany}

-- The match at a cover's root; for a cover with no match, zeros.
unfoldable pub first_placed : List Placed → Placed
first_placed [] = record { node = 0; pattern = 0; crossing = 0 }
first_placed (x ∷ xs) = x

-- The number of the pattern at a cover's root, and its crossing number.
unfoldable pub root_pattern : Cover → ℕ
unfolding first_placed
root_pattern c = (first_placed c.placed).pattern

unfoldable pub root_crossing : Cover → ℕ
unfolding first_placed
root_crossing c = (first_placed c.placed).crossing

-- What the cover handed over is among all legal covers of the node under the load: it meets the time, none that meets it has less area,
-- none of its area is earlier, none of its area and arrival has a lower-numbered pattern at the root, and of those with its pattern there none has a lower crossing number.
pub record Handed (l : Library) (load n : ℕ) (s : Shape) (time : ℕ) (c : Cover) : Type 0 where
  pub legal : IsCover l load n s c
  pub intime : c.point.arrival ≤ time
  pub smallest : (d : Cover) → IsCover l load n s d → d.point.arrival ≤ time → c.point.area ≤ d.point.area
  pub earliest : (d : Cover) → IsCover l load n s d → d.point.area ≡ c.point.area → c.point.arrival ≤ d.point.arrival
  pub lowest : (d : Cover) → IsCover l load n s d → d.point ≡ c.point → root_pattern c ≤ root_pattern d
  pub least_crossed : (d : Cover) → IsCover l load n s d → d.point ≡ c.point → root_pattern d ≡ root_pattern c → root_crossing c ≤ root_crossing d

-- A legal cover where no node is named: of the root under the root load.
abbrev pub RootCover : Library → Tree → Cover → Type 0
RootCover l t = IsCover l t.load 0 t.shape

-- Node k is the highest-numbered node with too many trade-offs.
pub record HighestTooMany (most : ℕ) (l : Library) (t : Tree) (k : ℕ) : Type 0 where
  pub node : Node
  pub among : Memᴰ node (nodes 0 t.shape)
  pub number : node.number ≡ k
  pub too_many : TooMany most l t node
  pub none_above : (x : Node) → Memᴰ x (nodes 0 t.shape) → k < x.number → TooMany most l t x → ⊥

-- No node has too many.
abbrev pub NoneTooMany : ℕ → Library → Tree → Type 0
NoneTooMany most l t = (x : Node) → Memᴰ x (nodes 0 t.shape) → TooMany most l t x → ⊥

-- A legal cover that meets the required time.
abbrev pub InTime : Library → Tree → Cover → Type 0
InTime l t c = RootCover l t c × (c.point.arrival ≤ t.required)

-- The area of a pattern's cell.
unfoldable pub cell_area : Option Pattern → ℕ
cell_area none = 0
cell_area (some p) = p.cell.area

-- The areas of the cells of the listed patterns, added up.
unfoldable pub listed_area : Library → List Placed → ℕ
unfolding cell_area patterns
listed_area l [] = 0
listed_area l (x ∷ xs) = cell_area (get_elem? (patterns l) x.pattern) + listed_area l xs

-- The cover that map hands over, and that the listed matches make it up: its area is that of their cells, and no other legal cover lists the same, so they fix its arrival too.
pub record BestCover (l : Library) (t : Tree) (c : Cover) : Type 0 where
  pub best : Handed l t.load 0 t.shape t.required c
  pub area_is : c.point.area ≡ listed_area l c.placed
  pub only : (d : Cover) → RootCover l t d → d.placed ≡ c.placed → d ≡ c

-- The root's trade-offs: at least one, all of them and nothing else, earliest first.
pub record RootTradeoffs (l : Library) (t : Tree) (ps : List Point) : Type 0 where
  pub one : (p : Point) × Memᴰ p ps
  pub all : (p : Point) → Memᴰ p ps ↔ IsTradeoff (RootCover l t) p
  pub earliest_first : Climbing ps
