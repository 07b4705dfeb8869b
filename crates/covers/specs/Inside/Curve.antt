-- The words that the code's inner functions promise in: a curve, a look-up, points by deadline, a table of curves, a point in one word. No public promise rests on these.
use Rattle.std.specs.Prelude.{ℕ, zero, suc, ◌+◌, ◌*◌, ◌/◌, ◌%◌, ◌^◌, ◌≤◌, ◌<◌, ◌≡◌, cond, ltb, length, get_or}
use mathlib.Core.List.{List, [], ◌∷◌, reverse, Memᴰ}
use Rattle.std.proofs.Math.Option.{Option, none, some}
use Rattle.sheets_rules.specs.Model.{Shape, leaf, inv, nand, Library}
use Rattle.covers.specs.Cover.{Point, Cover, beside}
use Rattle.covers.specs.Enumeration.{covers}
use Rattle.covers.specs.Tradeoff.{points, tradeoffs_of, Node, nodes}

-- How many inverters and NANDs a shape has.
unfoldable pub gates : Shape → ℕ
gates (leaf x) = 0
gates (inv s) = suc (gates s)
gates (nand s t) = suc (gates s + gates t)

-- Side by side, if both are there.
unfoldable pub both : Option Point → Option Point → Option Point
both none b = none
both (some p) none = none
both (some p) (some q) = some (beside p q)

-- The curve of some covers: their trade-offs, latest and smallest first.
unfoldable pub curve : List Cover → List Point
curve cs = reverse (tradeoffs_of (points cs))

-- The first point of a list that arrives before an instant.
unfoldable pub lookup : ℕ → List Point → Option Point
lookup end [] = none
lookup end (p ∷ ps) = cond (ltb p.arrival end) (some p) (lookup end ps)

-- The first k points by deadline: the best before an instant, then the best before its arrival, and so on.
unfoldable pub chained : Option Point → (Point → List Point) → List Point
chained none f = []
chained (some p) f = p ∷ f p

unfoldable pub by_deadline : ℕ → (ℕ → Option Point) → ℕ → List Point
by_deadline zero best end = []
by_deadline (suc k) best end = chained (best end) (λ p. by_deadline k best p.arrival)

-- The table holds the curves, under every bin load, of the inverters and NANDs numbered k and above.
abbrev pub Filled : Library → Shape → (ℕ → ℕ → List Point) → ℕ → Type 0
Filled l root table k = (x : Node) → Memᴰ x (nodes 0 root) → k ≤ x.number → 0 < gates x.shape → (b : ℕ) → b < length l.bins → table x.number b ≡ curve (covers l (get_or l.bins b 0) x.number x.shape)

-- A point in one word: the arrival stands below the base, the area above it.
abbrev pub base : ℕ
base = 2 ^ 24

unfoldable pub word_of : Point → ℕ
word_of p = p.area * base + p.arrival

unfoldable pub point_of : ℕ → Point
point_of w = record { area = w / base; arrival = w % base }
