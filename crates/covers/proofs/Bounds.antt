-- No arrival exceeds 9,290,305 and no area 4,128,705.
use Prim.Native.Nat.{ℕ, suc, ◌+◌, ◌*◌, ◌≤◌, ◌<◌}
use mathlib.Core.Path.{◌≡◌, refl, ap}
use mathlib.Core.Option.{some}
use lib.ListN.{get_elem?}
use mathlib.Core.Logic.{⊎_elim}
use mathlib.Core.List.Memᴰ
use mathlib.Core.List.{List, [], ◌∷◌, Memᴰ}
use native.Mathlib.Nat.{mul-le-mul, mul-le-mul_right}
use native.Mathlib.Omega.{arith}
use Rattle.sheets_rules.specs.Model.{Leaf, arrival_of, Shape, size, leaves, Pin, Cell, Library, Pattern, drawn, patterns_from, patterns}
use Rattle.sheets_rules.specs.Inside.Sound.{SoundLeaf}
use Rattle.covers.specs.Match.{Input, Match, IsMatch, pin_at, pin_load, delay}
use Rattle.covers.specs.Cover.{Point, Cover, latest_arrival, largest_area, IsCover, bare, matching, AreCovers, done, more, leaf_arrival, leaf_point, leaf_cover, nothing, beside, late, raised, together, delayed, topped, feeds, input_delay}
use Rattle.covers.specs.Enumeration.{covers}
use Rattle.covers.specs.Tradeoff.{Node, nodes}
use Rattle.covers.proofs.Basics.{at_in, at_all}
use Rattle.covers.specs.Inside.Curve.{gates}
use Rattle.covers.proofs.Matching.{gates_lt_size, Spread, next, match_inside}
use Rattle.covers.proofs.Nodes.{input_in, leaves_within, node_ends}
use Rattle.covers.proofs.Relation.{covers_are}

-- A pattern's cell is a cell of the library.
drawn_cell : (k : ℕ) (c : Cell) (ds : List Shape) {p : Pattern} → Memᴰ p (drawn k c ds) → p.cell ≡ c
unfolding drawn
drawn_cell k c [] m = absurd (Memᴰ.not-nil m)
drawn_cell k c (d ∷ ds) (Memᴰ.head e) = ap (λ p. p.cell) e
drawn_cell k c (d ∷ ds) (Memᴰ.tail m) = drawn_cell k c ds m

pattern_cell : (k : ℕ) (cs : List Cell) {p : Pattern} → Memᴰ p (patterns_from k cs) → Memᴰ p.cell cs
unfolding patterns_from
pattern_cell k [] m = absurd (Memᴰ.not-nil m)
pattern_cell k (c ∷ cs) m = ⊎_elim (λ j. Memᴰ.head (drawn_cell k c c.drawings j)) (λ j. Memᴰ.tail (pattern_cell (suc k) cs j)) (Memᴰ.append_cases (drawn k c c.drawings) m)

pub numbered_cell : (l : Library) (k : ℕ) {p : Pattern} → get_elem? (patterns l) k ≡ some p → Memᴰ p.cell l.cells
unfolding patterns
numbered_cell l k e = pattern_cell 0 l.cells (at_in (patterns l) k e)

pub match_cell : {l : Library} {load n : ℕ} {s : Shape} {m : Match} → IsMatch l load n s m → Memᴰ m.pattern.cell l.cells
match_cell {l} {m} h = numbered_cell l m.number h.numbered

-- What keeps to these limits: areas, intrinsic delays, drives and loads of a library.
pub record Limited (l : Library) (a i d b : ℕ) : Type 0 where
  pub areas : (c : Cell) → Memᴰ c l.cells → c.area ≤ a
  pub pins : (c : Cell) → Memᴰ c l.cells → (p : Pin) → Memᴰ p c.pins → (p.intrinsic ≤ i) × (p.drive ≤ d)
  pub bins : (x : ℕ) → Memᴰ x l.bins → x ≤ b

module _ {l : Library} {a i d b : ℕ} (lim : Limited l a i d b) where
  load_limit : (p : Pin) → pin_load l p ≤ b
  unfolding pin_load
  load_limit p = at_all (λ x. x ≤ b) l.bins p.bin 0 (omega arith) lim.bins

  delay_limit : {c : Cell} {load : ℕ} → Memᴰ c l.cells → load ≤ b → (j : Input) → input_delay c load j ≤ i + d * b
  unfolding input_delay feeds pin_at delay
  delay_limit {c} {load} m h j = let p = at_all (λ p. (p.intrinsic ≤ i) × (p.drive ≤ d)) c.pins j.pin (record { bin = 0; intrinsic = 0; drive = 0 }) (omega arith) (lim.pins c m) in omega (arith, p.0, mul-le-mul p.1 h)

  module _ (t : ℕ) where
    abbrev slowest : ℕ
    slowest = i + d * b

    -- A leaf that arrives by t, before the load that it drives counts, and drives as the pins do.
    abbrev latest : ℕ
    latest = t + d * b

    -- A cover's point against the gates of its subtree, and that of a match's inputs taken together.
    record Within (g : ℕ) (p : Point) : Type 0 where
      area : p.area ≤ g * a
      arrival : p.arrival ≤ g * slowest + latest

    record InputsWithin (g : ℕ) (p : Point) : Type 0 where
      area : p.area ≤ g * a
      arrival : p.arrival ≤ g * slowest + slowest + latest

    within_topped : {c : ℕ} {g h : ℕ} {p : Point} → c ≤ a → g < h → InputsWithin g p → Within h (raised c p)
    unfolding raised
    within_topped k lt w = record { area = omega (arith, w.area, mul-le-mul_right a lt); arrival = omega (arith, w.arrival, mul-le-mul_right slowest lt) }

    within_more : {delay g h r : ℕ} {p q : Point} → delay ≤ slowest → g + h ≤ r → Within g p → InputsWithin h q → InputsWithin r (beside (late delay p) q)
    unfolding beside late
    within_more {g} {h} {r} k le w v = record { area = omega (arith, w.area, v.area, mul-le-mul_right a le); arrival = omega (arith, w.arrival, v.arrival, mul-le-mul_right slowest le) }

    abbrev EachLeaf : Shape → Type 0
    EachLeaf s = (x : Leaf) → Memᴰ x (leaves s) → (arrival_of x ≤ t) × (x.drive ≤ d)

    mutual
      unfolding gates leaves leaf_cover leaf_point leaf_arrival nothing together delayed topped

      cover_within : {load n : ℕ} {s : Shape} {c : Cover} → IsCover l load n s c → load ≤ b → EachLeaf s → Within (gates s) c.point
      cover_within (bare {x = x} e) h k = rw e record { area = omega arith; arrival = let y = k x (Memᴰ.head refl) in omega (arith, y.0, mul-le-mul y.1 h) }
      cover_within (matching {n = n} {s = s} m f g e) h k = let u = match_inside f in rw e (within_topped (lim.areas m.pattern.cell (match_cell f)) u.fewer (inputs_within g h (match_cell f) u.spread (λ j q x y. k x (leaves_within n s (input_in f j q) y))))

      inputs_within : {cell : Cell} {load : ℕ} {is : List Input} {c : Cover} → AreCovers l cell load is c → load ≤ b → Memᴰ cell l.cells → {low high g : ℕ} → Spread low high g is → ((j : Input) → Memᴰ j is → EachLeaf j.shape) → InputsWithin g c.point
      inputs_within (done e) h m s k = rw e record { area = omega arith; arrival = omega arith }
      inputs_within (more {cell = cell} {i = j} f r e) h m (next u v w) k = rw e (within_more (delay_limit m h j) v (cover_within f (load_limit (feeds cell j)) (k j (Memᴰ.head refl))) (inputs_within r h m w (λ x y. k x (Memᴰ.tail y))))

-- For areas and intrinsic delays of 16 bits, drives and loads of 8, leaves with arrivals up to 1,000,000, and 64 nodes.
module _ {l : Library} (lim : Limited l 65_535 65_535 255 255) {load n : ℕ} {s : Shape} {c : Cover} (legal : IsCover l load n s c) (light : load ≤ 255) (few : size s ≤ 64) (timely : (x : Leaf) → Memᴰ x (leaves s) → SoundLeaf x) where
  pub area_bound : c.point.area ≤ largest_area
  area_bound = omega (arith, (cover_within lim 1_000_000 legal light timely).area, gates_lt_size s)

  pub arrival_bound : c.point.arrival ≤ latest_arrival
  arrival_bound = omega (arith, (cover_within lim 1_000_000 legal light timely).arrival, gates_lt_size s)

-- So a search for a curve may begin there or later.
pub arrive_before : {l : Library} → Limited l 65_535 65_535 255 255 → (root : Shape) → size root ≤ 64 → ((x : Leaf) → Memᴰ x (leaves root) → SoundLeaf x) → {x : Node} → Memᴰ x (nodes 0 root) → {load : ℕ} → load ≤ 255 → (c : Cover) → Memᴰ c (covers l load x.number x.shape) → c.point.arrival ≤ latest_arrival
arrive_before {l} lim root few timely {x} m {load} light c k = omega (arith, arrival_bound lim (covers_are l load x.number x.shape k) light (omega (arith, node_ends 0 root m)) (λ a j. timely a (leaves_within 0 root m j)))
