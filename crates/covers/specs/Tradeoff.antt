-- Trade-offs of a node under a load, and the node that has too many.
use Rattle.std.specs.Prelude.{ℕ, zero, suc, ◌+◌, ◌≤◌, ◌<◌, ◌≡◌, Bool, ◌&&◌, not, cond, length, leb, ltb, eqb}
use mathlib.Core.List.{List, [], ◌∷◌, ◌++◌, map, foldr, Memᴰ}
use Rattle.std.proofs.Math.Option.{Option, none, some}
use Rattle.sheets_rules.specs.Model.{Shape, leaf, inv, nand, size, Library, Tree}
use Rattle.covers.specs.Lists.{any, select}
use Rattle.covers.specs.Cover.{Point, Cover, IsCover}
use Rattle.covers.specs.Enumeration.{covers}

-- A trade-off among some covers: the point of one of them, where no other point of them is at most as great in both area and arrival.
pub record IsTradeoff (Among : Cover → Type 0) (p : Point) : Type 0 where
  pub cover : Cover
  pub among : Among cover
  pub point : cover.point ≡ p
  pub unbeaten : (c : Cover) → Among c → c.point.area ≤ p.area → c.point.arrival ≤ p.arrival → c.point ≡ p

-- Points in order, strictly earliest first.
pub data Climbing : List Point → Type 0 where
  top : Climbing []
  step : {p : Point} {ps : List Point} → ((q : Point) → Memᴰ q ps → p.arrival < q.arrival) → Climbing ps → Climbing (p ∷ ps)

-- The same area and arrival.
unfoldable pub same : Point → Point → Bool
same p q = eqb p.area q.area && eqb p.arrival q.arrival

-- Another point that is at most as great in both.
unfoldable pub beats : Point → Point → Bool
unfolding same
beats q p = leb q.area p.area && leb q.arrival p.arrival && not (same q p)

-- Some point of a list beats this one.
unfoldable pub beaten : List Point → Point → Bool
unfolding any beats
beaten qs p = any (λ q. beats q p) qs

-- A point put in its place among others, earliest first; a point that is there already is not listed twice.
unfoldable pub insert : Point → List Point → List Point
unfolding same
insert p [] = p ∷ []
insert p (q ∷ qs) = cond (same p q) (q ∷ qs) (cond (ltb p.arrival q.arrival) (p ∷ q ∷ qs) (q ∷ insert p qs))

-- The points that no other beats, each once, earliest first.
unfoldable pub tradeoffs_of : List Point → List Point
unfolding insert select beaten
tradeoffs_of ps = foldr insert [] (select (λ p. not (beaten ps p)) ps)

-- The points of covers.
unfoldable pub points : List Cover → List Point
points = map (λ c. c.point)

-- The trade-offs of a node under a load, earliest first.
unfoldable pub tradeoffs : Library → ℕ → ℕ → Shape → List Point
unfolding tradeoffs_of covers points
tradeoffs l load n s = tradeoffs_of (points (covers l load n s))

-- A node of the subject tree: its number in the order read, and its subtree.
pub record Node : Type 0 where
  pub number : ℕ
  pub shape : Shape

-- The nodes of a subtree whose first is numbered n, in the order read.
unfoldable pub nodes : ℕ → Shape → List Node
unfolding size
nodes n (leaf x) = record { number = n; shape = leaf x } ∷ []
nodes n (inv s) = record { number = n; shape = inv s } ∷ nodes (suc n) s
nodes n (nand s t) = record { number = n; shape = nand s t } ∷ nodes (suc n) s ++ nodes (suc n + size s) t

-- The loads considered: the root load alone at the root, every bin load at any other inverter or NAND.
unfoldable pub considered : Library → Tree → ℕ → Shape → List ℕ
considered l t zero s = t.load ∷ []
considered l t (suc n) (leaf x) = []
considered l t (suc n) (inv s) = l.bins
considered l t (suc n) (nand s u) = l.bins

-- More than `most` trade-offs among all legal covers of a node under some load considered there.
pub record TooMany (most : ℕ) (l : Library) (t : Tree) (x : Node) : Type 0 where
  pub load : ℕ
  pub among : Memᴰ load (considered l t x.number x.shape)
  pub points : List Point
  pub apart : Climbing points
  pub each : (p : Point) → Memᴰ p points → IsTradeoff (IsCover l load x.number x.shape) p
  pub exceeds : most < length points

-- The same as a test of the list of trade-offs.
unfoldable pub overfull : ℕ → Library → Tree → Node → Bool
unfolding any tradeoffs considered
overfull most l t x = any (λ load. ltb most (length (tradeoffs l load x.number x.shape))) (considered l t x.number x.shape)

-- The first that is there.
unfoldable pub or_else : Option ℕ → Option ℕ → Option ℕ
or_else none k = k
or_else (some n) k = some n

-- The number of the last node that passes a test.
unfoldable pub last_such : (Node → Bool) → List Node → Option ℕ
unfolding or_else
last_such test [] = none
last_such test (x ∷ xs) = or_else (last_such test xs) (cond (test x) (some x.number) none)

-- The highest-numbered node that is overfull (document 01's "crowded"), if there is one.
unfoldable pub overfull_node : ℕ → Library → Tree → Option ℕ
unfolding overfull last_such nodes
overfull_node most l t = last_such (overfull most l t) (nodes 0 t.shape)
