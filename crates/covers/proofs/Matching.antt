-- What is known of a match: the list of matches and the relation say the same, and the inputs stand apart, in order, below the match's node.
use Prim.Native.Nat.{ℕ, zero, suc, ◌+◌, ◌-◌, ◌*◌, ◌%◌, ◌^◌, ◌≤◌, ◌<◌}
use mathlib.Core.Path.{◌≡◌, refl, subst}
use mathlib.Core.Logic.{⊎_elim, ◌↔◌}
use mathlib.Core.Bool.{true, false, not}
use mathlib.Core.List.{List, [], ◌∷◌, ◌++◌, Memᴰ}
use mathlib.Core.Option.{Option, none, some, none-ne-some, some-injective}
use native.Mathlib.Nat.{zero-add, le_refl, le-add_left, le-add_right}
use native.Mathlib.Omega.{arith}
use lib.ListN.{get_elem?, length}
use lib.Dec.{leb, ltb, eqb}
use borrow.Author.Tests.{ltb-true, leb-true, not-true}
use Rattle.sheets_rules.specs.Model.{pin_of, Shape, leaf, inv, nand, size, nands, Library, Pattern, patterns}
use Rattle.covers.specs.Crossing.{crossing_limit, redrawn, is_crossing, counted, crossings}
use Rattle.covers.specs.Match.{Input, joined, laid, matched, usable, legal, Match, IsMatch, put_first, fitting_under, fitting_from, fitting, matches}
use Rattle.covers.specs.Inside.Curve.{gates}
use Rattle.covers.proofs.Basics.{lt_or_le, both_true, option_cases, of_select, in_select}
use Rattle.covers.proofs.Ascending.{Ascending, end, then, lowered, ascending_append, select_ascends}

-- ---- crossings

-- What the test of a crossing says.
pub crossing_small : (d : Shape) (x : ℕ) → is_crossing d x ≡ true → x < crossing_limit
unfolding is_crossing
crossing_small d x e = ltb-true x crossing_limit (both_true (ltb x crossing_limit) (eqb (x % 2 ^ (5 - nands d)) 0) e).0

counted_in : (k n : ℕ) {x : ℕ} → k ≤ x → x < k + n → Memᴰ x (counted k n)
unfolding counted
counted_in k zero h g = absurd (omega arith)
counted_in k (suc n) {x} h g = ⊎_elim (λ f. mathlib.Core.List.Memᴰ.tail (counted_in (suc k) n f (omega arith))) (λ f. mathlib.Core.List.Memᴰ.head (omega arith)) (lt_or_le k x)

counted_ascends : (k n : ℕ) → Ascending (λ x. x) k (k + n) (counted k n)
unfolding counted
counted_ascends k zero = end (le-add_right k 0)
counted_ascends k (suc n) = let e : suc k + n ≡ k + suc n = omega arith in then (le_refl k) (rw e at (counted_ascends (suc k) n))

-- Ascending, the crossings are those that pass the test.
crossings_ascend : (d : Shape) → Ascending (λ x. x) 0 crossing_limit (crossings d)
unfolding crossings
crossings_ascend d = select_ascends (is_crossing d) (counted_ascends 0 crossing_limit)

crossings_are : (d : Shape) {x : ℕ} → Memᴰ x (crossings d) ↔ (is_crossing d x ≡ true)
unfolding crossings
crossings_are d {x} =
    let all = counted 0 crossing_limit in
    (λ h. (of_select (is_crossing d) all h).1, λ e. in_select (is_crossing d) all (counted_in 0 crossing_limit (omega arith) (crossing_small d x e)) e)

-- ---- the list of matches

-- The order of matches: by pattern, then by crossing.
abbrev pub rank : Match → ℕ
rank m = 32 * m.number + m.crossing

module _ (n : ℕ) (s : Shape) where
  module _ (k : ℕ) (p : Pattern) where
    abbrev laid_under : ℕ → Option (List Input)
    laid_under x = matched (redrawn x p.drawing) n s

    -- The match of pattern number k under a crossing; and that a match is one that fits, under one of these crossings.
    abbrev made : ℕ → List Input → Match
    made x is = record { number = k; crossing = x; pattern = p; inputs = is }

    abbrev Made : List ℕ → Match → Type 0
    Made xs m = (x : ℕ) × (is : List Input) × Memᴰ x xs × (laid_under x ≡ some is) × (m ≡ made x is)

    under : (xs : List ℕ) {m : Match} → Memᴰ m (fitting_under n s k p xs) → Made xs m
    unfolding fitting_under put_first
    under [] h = absurd (mathlib.Core.List.Memᴰ.not-nil h)
    under (x ∷ xs) {m} h =
        let later : Memᴰ m (fitting_under n s k p xs) → Made (x ∷ xs) m = λ j. let f = under xs j in (f.0, f.1, mathlib.Core.List.Memᴰ.tail f.2, f.3, f.4) in
        option_cases (laid_under x) (λ e. later (rw e at h)) (λ is e. ⊎_elim (λ f. (x, is, mathlib.Core.List.Memᴰ.head refl, e, f)) later (mathlib.Core.List.Memᴰ.cases_cons (rw e at h)))

    listed_under : (xs : List ℕ) {x : ℕ} {is : List Input} → Memᴰ x xs → laid_under x ≡ some is → Memᴰ (made x is) (fitting_under n s k p xs)
    unfolding fitting_under put_first
    listed_under (y ∷ xs) (mathlib.Core.List.Memᴰ.head e) f = rw (← e, f) (mathlib.Core.List.Memᴰ.head refl)
    listed_under (y ∷ xs) (mathlib.Core.List.Memᴰ.tail h) f = option_cases (laid_under y) (λ e. rw e (listed_under xs h f)) (λ is e. rw e (mathlib.Core.List.Memᴰ.tail (listed_under xs h f)))
    listed_under [] {is = is} x4 f = elim x4 [ ]

    under_ascend : {low high : ℕ} {xs : List ℕ} → Ascending (λ x. x) low high xs → Ascending rank (32 * k + low) (32 * k + high) (fitting_under n s k p xs)
    unfolding fitting_under put_first
    under_ascend {low} {high} (end h) = end {low = 32 * k + low} {high = 32 * k + high} (omega arith)
    under_ascend {low} {high} (then {x = x} {xs = xs} h r) =
        let next : 32 * k + suc x ≡ suc (32 * k + x) = omega arith in
        option_cases (laid_under x) (λ e. rw e (lowered (omega arith) (under_ascend r))) (λ is e. rw e (then {low = 32 * k + low} {x = made x is} (omega arith) (rw next at (under_ascend r))))

  -- A match that fits, under a crossing of its pattern.
  record Fits (m : Match) : Type 0 where
    crossed : is_crossing m.pattern.drawing m.crossing ≡ true
    fits : matched (redrawn m.crossing m.pattern.drawing) n s ≡ some m.inputs

  -- It is of the pattern at a place of these, the first of which has number k.
  among : (k : ℕ) (ps : List Pattern) {m : Match} → Memᴰ m (fitting_from n s k ps) → (j : ℕ) × (m.number ≡ k + j) × (get_elem? ps j ≡ some m.pattern) × Fits m
  unfolding fitting_from
  among k [] h = absurd (mathlib.Core.List.Memᴰ.not-nil h)
  among k (p ∷ ps) h =
      ⊎_elim (λ here. let f = under k p (crossings p.drawing) here in (0, rw f.4 (omega arith), rw f.4, rw f.4 record { crossed = (crossings_are p.drawing).0 f.2; fits = f.3 }))
      (λ later. let f = among (suc k) ps later in (suc f.0, omega (arith, f.1), f.2, f.3))
      (mathlib.Core.List.Memᴰ.append_cases (fitting_under n s k p (crossings p.drawing)) h)

  listed : (k : ℕ) (ps : List Pattern) (j : ℕ) {m : Match} → m.number ≡ k + j → get_elem? ps j ≡ some m.pattern → Fits m → Memᴰ m (fitting_from n s k ps)
  unfolding fitting_from
  listed k [] j {m} e p f = absurd (none-ne-some m.pattern p)
  listed k (q ∷ ps) zero {m} e p f =
      let h : q ≡ m.pattern = some-injective q m.pattern p in
      let g : k ≡ m.number = omega arith in
      rw (h, g) (mathlib.Core.List.Memᴰ.append_left _ (listed_under m.number m.pattern (crossings m.pattern.drawing) ((crossings_are m.pattern.drawing).1 f.crossed) f.fits))
  listed k (q ∷ ps) (suc j) e p f = mathlib.Core.List.Memᴰ.append_right (fitting_under n s k q (crossings q.drawing)) (listed (suc k) ps j (omega arith) p f)

  -- In ascending order of pattern numbers, and of crossing numbers for one pattern.
  fitting_ascend : (k : ℕ) (ps : List Pattern) → Ascending rank (32 * k) (32 * (k + length ps)) (fitting_from n s k ps)
  unfolding fitting_from
  fitting_ascend k [] = end {low = 32 * k} {high = 32 * (k + 0)} (omega arith)
  fitting_ascend k (p ∷ ps) =
      let e : 32 * (suc k + length ps) ≡ 32 * (k + suc (length ps)) = omega arith in
      let f : 32 * k + 0 ≡ 32 * k = omega arith in
      let g : 32 * suc k ≡ 32 * k + crossing_limit = omega arith in
      ascending_append (rw f at (under_ascend k p (crossings_ascend p.drawing))) (rw (e, g) at (fitting_ascend (suc k) ps))

-- Every match that fits, legal or not, is of a pattern of the library.
pub record IsFitting (l : Library) (n : ℕ) (s : Shape) (m : Match) : Type 0 where
  pub numbered : get_elem? (patterns l) m.number ≡ some m.pattern
  pub crossed : is_crossing m.pattern.drawing m.crossing ≡ true
  pub fits : matched (redrawn m.crossing m.pattern.drawing) n s ≡ some m.inputs

pub fitting_are : (l : Library) (n : ℕ) (s : Shape) {m : Match} → Memᴰ m (fitting l n s) → IsFitting l n s m
unfolding fitting
fitting_are l n s h = let f = among n s 0 (patterns l) h in record { numbered = rw (f.1, zero-add) f.2; crossed = f.3.crossed; fits = f.3.fits }

-- The list of matches holds the legal matches and no others, in order.
pub matches_are : (l : Library) (load n : ℕ) (s : Shape) {m : Match} → Memᴰ m (matches l load n s) → IsMatch l load n s m
unfolding matches
matches_are l load n s {m} h = let r = of_select (λ m. legal m.pattern.cell load) (fitting l n s) h in let f = fitting_are l n s r.0 in record { numbered = f.numbered; crossed = f.crossed; allowed = r.1; fits = f.fits }

pub matches_all : (l : Library) (load n : ℕ) (s : Shape) {m : Match} → IsMatch l load n s m → Memᴰ m (matches l load n s)
unfolding matches fitting
matches_all l load n s {m} h = in_select (λ m. legal m.pattern.cell load) (fitting l n s) (listed n s 0 (patterns l) m.number (omega arith) h.numbered record { crossed = h.crossed; fits = h.fits }) h.allowed

pub matches_ascend : (l : Library) (load n : ℕ) (s : Shape) → Ascending rank 0 (32 * (0 + length (patterns l))) (matches l load n s)
unfolding matches fitting
matches_ascend l load n s = select_ascends (λ m. legal m.pattern.cell load) (fitting_ascend n s 0 (patterns l))

-- Legal means not held, and a load that the cell was measured at.
pub match_legal : {l : Library} {load n : ℕ} {s : Shape} {m : Match} → IsMatch l load n s m → (m.pattern.cell.held ≡ false) × (load ≤ m.pattern.cell.highest)
unfolding legal usable
match_legal {load} {m = m} h =
    let c = m.pattern.cell in
    let e = both_true (not c.held) (leb load c.highest) h.allowed in
    (not-true c.held e.0, leb-true load c.highest e.1)

pub gates_lt_size : (s : Shape) → gates s < size s
unfolding gates size
gates_lt_size (leaf x) = omega arith
gates_lt_size (inv t) = omega (arith, gates_lt_size t)
gates_lt_size (nand t u) = omega (arith, gates_lt_size t, gates_lt_size u)

pub size_pos : (s : Shape) → 0 < size s
size_pos s = omega (arith, gates_lt_size s)

-- Inputs in order from node `low` on, the last one's subtree ending by `high`, with at most g gates in them all.
pub data Spread : ℕ → ℕ → ℕ → List Input → Type 0 where
  last : {low high g : ℕ} → low ≤ high → Spread low high g []
  next : {low high g h : ℕ} {i : Input} {is : List Input} → low ≤ i.node → gates i.shape + g ≤ h → Spread (i.node + size i.shape) high g is → Spread low high h (i ∷ is)

pub spread_ends : {low high g : ℕ} {is : List Input} → Spread low high g is → low ≤ high
spread_ends (last h) = h
spread_ends (next {i = i} a b s) = omega (arith, spread_ends s)

widened : {low low' high high' g g' : ℕ} {is : List Input} → low' ≤ low → high ≤ high' → g ≤ g' → Spread low high g is → Spread low' high' g' is
widened {low'} {high'} {g'} a b c (last h) = last {low = low'} {high = high'} (omega arith)
widened {low'} {high'} {g'} a b c (next {g = k} {i = i} d e s) = next {low = low'} {g = k} {h = g'} {i = i} (omega arith) (omega arith) (widened (le_refl _) b (le_refl _) s)

appended : {low mid high g h : ℕ} {is js : List Input} → Spread low mid g is → Spread mid high h js → Spread low high (g + h) (is ++ js)
appended (last {g = g} a) t = widened a (le_refl _) (le-add_left _ g) t
appended {h = h} (next {g = k} {h = j} {i = i} a b s) t = next {g = k + h} {h = j + h} {i = i} a (omega arith) (appended s t)

pub spread_in : {low high g : ℕ} {is : List Input} {i : Input} → Spread low high g is → Memᴰ i is → (low ≤ i.node) × (i.node + size i.shape ≤ high)
spread_in (next a b s) (mathlib.Core.List.Memᴰ.head e) = rw e (a, spread_ends s)
spread_in (next a b s) (mathlib.Core.List.Memᴰ.tail m) = let h = spread_in s m in (omega arith, h.1)
spread_in {i = i} (last {low = low} {high = high} {g = g} _) x7 = elim x7 [ ]

-- Of the inputs, if there is a match.
pub data Whenever (P : List Input → Type 0) : Option (List Input) → Type 0 where
  never : Whenever P none
  holds : {is : List Input} → P is → Whenever P (some is)

pub whenever : {P : List Input → Type 0} {o : Option (List Input)} {is : List Input} → Whenever P o → o ≡ some is → P is
whenever {is} never e = absurd (none-ne-some is e)
whenever {P} {is} (holds {is = js} h) e = subst P (some-injective js is e) h

pub implied : {P Q : List Input → Type 0} {o : Option (List Input)} → ((is : List Input) → P is → Q is) → Whenever P o → Whenever Q o
implied f never = never
implied f (holds {is} h) = holds (f is h)

pub joined_whenever : {P Q R : List Input → Type 0} {a b : Option (List Input)} → ((is js : List Input) → P is → Q js → R (is ++ js)) → Whenever P a → Whenever Q b → Whenever R (joined a b)
unfolding joined
joined_whenever f never t = never
joined_whenever f (holds s) never = never
joined_whenever f (holds {is} s) (holds {is = js} t) = holds (f is js s t)

-- The inputs of a match at node n stand in order below that node, with fewer gates than the subtree.
pub record Inside (n : ℕ) (s : Shape) (is : List Input) : Type 0 where
  pub room : ℕ
  pub fewer : room < gates s
  pub spread : Spread (suc n) (n + size s) room is

-- What is known of a pattern laid down: more where it is no bare leaf.
record Laid (p : Shape) (n : ℕ) (s : Shape) (is : List Input) : Type 0 where
  within : Spread n (n + size s) (gates s) is
  inside : 0 < gates p → Inside n s is

laid_gate : {p : Shape} {n : ℕ} {s : Shape} {is : List Input} {high room : ℕ} → high ≡ n + size s → room < gates s → Spread (suc n) high room is → Laid p n s is
laid_gate {n = n} {s = s} e f h = record { within = widened (omega arith) (omega arith) (omega arith) h; inside = λ g. record { room = _; fewer = f; spread = rw e at h } }

laid_spread : (p : Shape) (n : ℕ) (s : Shape) → Whenever (Laid p n s) (laid p n s)
unfolding laid gates size
laid_spread (leaf x) n s = holds record { within = next {g = 0} {h = gates s} {i = record { pin = pin_of x; node = n; shape = s }} (le_refl n) (omega arith) (last (le_refl (n + size s))); inside = λ g. absurd (omega arith) }
laid_spread (inv p) n (leaf x) = never
laid_spread (inv p) n (inv t) = implied (λ is h. laid_gate {s = inv t} (omega arith) (omega arith) h.within) (laid_spread p (suc n) t)
laid_spread (inv p) n (nand t u) = never
laid_spread (nand p q) n (leaf x) = never
laid_spread (nand p q) n (inv t) = never
laid_spread (nand p q) n (nand t u) =
    joined_whenever (λ is js h k. laid_gate {s = nand t u} (omega arith) (omega arith) (appended h.within k.within)) (laid_spread p (suc n) t) (laid_spread q (suc n + size t) u)

pub fits_inside : (p : Shape) (n : ℕ) (s : Shape) {is : List Input} → matched p n s ≡ some is → Inside n s is
unfolding matched gates
fits_inside (leaf x) n s e = absurd (none-ne-some _ e)
fits_inside (inv p) n s e = (whenever (laid_spread (inv p) n s) e).inside (omega arith)
fits_inside (nand p q) n s e = (whenever (laid_spread (nand p q) n s) e).inside (omega arith)

pub match_inside : {l : Library} {load n : ℕ} {s : Shape} {m : Match} → IsMatch l load n s m → Inside n s m.inputs
match_inside {n} {s} {m} h = fits_inside (redrawn m.crossing m.pattern.drawing) n s h.fits

pub input_smaller : {l : Library} {load n : ℕ} {s : Shape} {m : Match} → IsMatch l load n s m → {i : Input} → Memᴰ i m.inputs → size i.shape < size s
input_smaller h k = let f = spread_in (match_inside h).spread k in omega arith
