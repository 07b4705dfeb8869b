-- What is still to be covered stands in order: so the lowest is the first, and one step of a walk is known.
use Prim.Native.Nat.{ℕ, ◌+◌, ◌≤◌, ◌<◌}
use mathlib.Core.Path.{◌≡◌, refl, sym, ap, ◌∙◌}
use mathlib.Core.Logic.{◌≢◌}
use mathlib.Core.Bool.{Bool, true, false, not}
use mathlib.Core.List.{List, [], ◌∷◌, Memᴰ}
use mathlib.Core.Option.{Option, none, some, none-ne-some, map-eq-some_iff}
use native.Mathlib.Nat.{le_refl}
use native.Mathlib.Omega.{arith}
use lib.ListN.{get_elem?, length}
use lib.Dec.{eqb, ltb}
use borrow.Table.Steps.{cases}
use borrow.Author.Tests.{ltb-false, eq-eqb, ne_eqb, eqb-true, eqb-false, le-ltb}
use Rattle.sheets_rules.specs.Model.{Shape, leaf, inv, nand, size, Cell, Library, patterns}
use Rattle.covers.specs.Lists.{any, keep_if, select, first_such}
use Rattle.covers.specs.Crossing.{redrawn, is_crossing}
use Rattle.covers.specs.Match.{Input, Match, matched, legal, pin_load, IsMatch}
use Rattle.covers.specs.Cover.{Point, Placed, raised, feeds, input_delay}
use Rattle.covers.specs.Inside.Curve.{gates}
use Rattle.covers.proofs.Basics.{option_cases, each, any_false, false_any}
use Rattle.covers.proofs.Matching.{Spread, size_pos}
use Rattle.covers.proofs.Matching as matching
use Rattle.judge_rules.specs.Inside.Order.{Apart, last, next}
use Rattle.judge_rules.specs.Walk.{Uncovered, Walk, visited, inputs_visited, lowest_at, others, match_at, match_taken, placed_at, step}

-- ---- cases

-- ---- what is still to be covered

pub apart_from : {low low' high : ℕ} {os : List Uncovered} → low' ≤ low → Apart low high os → Apart low' high os
apart_from {low'} {high} h (last k) = last {low = low'} {high = high} (omega arith)
apart_from {low'} h (next {o = o} a g r) = next {low = low'} {o = o} (omega arith) g r

pub apart_above : {low high : ℕ} {os : List Uncovered} {q : Uncovered} → Apart low high os → Memᴰ q os → low ≤ q.node
apart_above (next a g r) (Memᴰ.head e) = rw e a
apart_above (next {o = o} a g r) (Memᴰ.tail m) = omega (arith, apart_above r m, size_pos o.shape)
apart_above {q = q} (last {low = low} {high = high} _) x6 = elim x6 [ ]

-- There are no more of them than nodes.
pub apart_few : {low high : ℕ} {os : List Uncovered} → Apart low high os → low + length os ≤ high
apart_few (last h) = omega arith
apart_few (next {o = o} a g r) = omega (arith, apart_few r, size_pos o.shape)

-- Coming to a node before them all.
pub visit_apart : (load delay n : ℕ) (s : Shape) (w : Walk) {low high : ℕ} → low ≤ n → Apart (n + size s) high w.left → Apart low high (visited load delay n s w).left
unfolding visited size gates
visit_apart load delay n (leaf x) w h r = apart_from (omega arith) r
visit_apart load delay n (inv s) w h r = next {o = record { node = n; shape = inv s; load = load; delay = delay }} h (omega arith) r
visit_apart load delay n (nand s t) w h r = next {o = record { node = n; shape = nand s t; load = load; delay = delay }} h (omega arith) r

pub inputs_apart : (l : Library) (c : Cell) (load delay : ℕ) (is : List Input) (w : Walk) {low mid high g : ℕ} → Spread low mid g is → Apart mid high w.left → Apart low high (inputs_visited l c load delay is w).left
unfolding inputs_visited
inputs_apart l c load delay [] w (matching.last h) r = apart_from h r
inputs_apart l c load delay (i ∷ is) w (matching.next a b s) r = visit_apart (pin_load l (feeds c i)) (input_delay c load i + delay) i.node i.shape (inputs_visited l c load delay is w) a (inputs_apart l c load delay is w s r)

module _ {A : Type 0} (test : A → Bool) where
  first_none : (xs : List A) → ((x : A) → Memᴰ x xs → test x ≡ false) → first_such test xs ≡ none
  unfolding first_such
  first_none [] h = refl
  first_none (x ∷ xs) h = rw (h x (Memᴰ.head refl)) (first_none xs (λ y m. h y (Memᴰ.tail m)))

  select_all : (xs : List A) → ((x : A) → Memᴰ x xs → test x ≡ true) → select test xs ≡ xs
  unfolding select keep_if
  select_all [] h = refl
  select_all (x ∷ xs) h = rw (h x (Memᴰ.head refl)) (ap (λ r. x ∷ r) (select_all xs (λ y m. h y (Memᴰ.tail m))))

-- All others are higher than the first.
higher : {low high : ℕ} {o : Uncovered} {os : List Uncovered} → Apart low high (o ∷ os) → (q : Uncovered) → Memᴰ q os → o.node < q.node
higher (next {o = o} a g s) q m = omega (arith, apart_above s m, size_pos o.shape)

module _ {low high : ℕ} {o : Uncovered} {os : List Uncovered} (r : Apart low high (o ∷ os)) where
  none_lower : any (λ q. ltb q.node o.node) (o ∷ os) ≡ false
  none_lower = false_any (λ q. ltb q.node o.node) (o ∷ os) (each {P = λ q. ltb q.node o.node ≡ false} (le-ltb o.node o.node (le_refl o.node)) (λ q m. le-ltb q.node o.node (let h = higher r q m in omega arith)))

  pub lowest_first : lowest_at o.node (o ∷ os) ≡ some o
  unfolding lowest_at first_such
  lowest_first = rw (none_lower, eq-eqb o.node o.node refl)

  pub others_first : others o.node (o ∷ os) ≡ os
  unfolding others select keep_if
  others_first = rw (eq-eqb o.node o.node refl) (select_all (λ q. not (eqb q.node o.node)) os (λ q m. ap not (ne_eqb q.node o.node (λ e. let h = higher r q m in omega arith))))

  pub lowest_other : {n : ℕ} → n ≢ o.node → lowest_at n (o ∷ os) ≡ none
  unfolding lowest_at
  lowest_other {n} d = cases (any (λ q. ltb q.node n) (o ∷ os)) (λ e. rw e) (λ e.
      let low = ltb-false o.node n (any_false (λ q. ltb q.node n) (o ∷ os) e o (Memᴰ.head refl)) in
      rw (e, first_none (λ q. eqb q.node n) (o ∷ os) (each {P = λ q. eqb q.node n ≡ false} (ne_eqb o.node n (λ e. d (sym e))) (λ q m. ne_eqb q.node n (λ e. let k = higher r q m in omega arith)))))

-- ---- one match

-- The legal match with a number and a crossing.
pub record Named (l : Library) (k x : ℕ) (o : Uncovered) (m : Match) : Type 0 where
  pub legal_match : IsMatch l o.load o.node o.shape m
  pub number_is : m.number ≡ k
  pub crossing_is : m.crossing ≡ x

pub matched_is : (l : Library) (k x : ℕ) (o : Uncovered) {m : Match} → match_at k x o (get_elem? (patterns l) k) ≡ some m → Named l k x o m
unfolding match_at
matched_is l k x o {m} e =
    option_cases (get_elem? (patterns l) k) (λ f. absurd (none-ne-some m (rw f at e))) (λ p f. cases (legal p.cell o.load) (λ g. cases (is_crossing p.drawing x) (λ j.
    let made : List Input → Match = λ is. record { number = k; crossing = x; pattern = p; inputs = is } in
    let (is, h, same) = (map-eq-some_iff made (matched (redrawn x p.drawing) o.node o.shape)).0 (rw (f, g, j) at e) in
    rw (← same) record { legal_match = record { numbered = f; crossed = j; allowed = g; fits = h }; number_is = refl; crossing_is = refl })
    (λ j. absurd (none-ne-some m (rw (f, g, j) at e)))) (λ g. absurd (none-ne-some m (rw (f, g) at e))))

pub match_found : (l : Library) {k x : ℕ} (o : Uncovered) {m : Match} → Named l k x o m → match_at k x o (get_elem? (patterns l) k) ≡ some m
unfolding match_at
match_found l o h = let f = h.legal_match in rw (← h.number_is, ← h.crossing_is, f.numbered, f.allowed, f.crossed, f.fits)

-- ---- one step

-- The walk after a match at the first of what is to be covered.
unfoldable pub after : Library → Uncovered → List Uncovered → Point → Match → Walk
after l o os p m = inputs_visited l m.pattern.cell o.load o.delay m.inputs (record { left = os; point = raised m.pattern.cell.area p })

module _ (l : Library) {low high : ℕ} {o : Uncovered} {os : List Uncovered} (r : Apart low high (o ∷ os)) (p : Point) where
  abbrev here : Walk
  here = record { left = o ∷ os; point = p }

  -- At another node it stands wrongly.
  pub step_elsewhere : (x : Placed) → x.node ≢ o.node → step l here x ≡ none
  unfolding step placed_at
  step_elsewhere x d = rw (lowest_other r d)

  abbrev pub there : Placed → Option Match
  there x = match_at x.pattern x.crossing o (get_elem? (patterns l) x.pattern)

  pub step_none : (x : Placed) → x.node ≡ o.node → there x ≡ none → step l here x ≡ none
  unfolding step placed_at match_taken
  step_none x e f =
      let first = ap (λ (n : ℕ). lowest_at n (o ∷ os)) e ∙ lowest_first r in
      rw (first, f)

  pub step_some : (x : Placed) {m : Match} → x.node ≡ o.node → there x ≡ some m → step l here x ≡ some (after l o os p m)
  unfolding step placed_at match_taken after
  step_some x e f =
      let first = ap (λ (n : ℕ). lowest_at n (o ∷ os)) e ∙ lowest_first r in
      rw (first, f, others_first r)

-- What a step is: a listed match stands wrongly, or it is a legal match at the first of what is to be covered.
pub data StepIs (l : Library) (o : Uncovered) (os : List Uncovered) (p : Point) (x : Placed) : Option Walk → Type 0 where
  wrong : StepIs l o os p x none
  right : (m : Match) → Named l x.pattern x.crossing o m → x.node ≡ o.node → StepIs l o os p x (some (after l o os p m))

pub step_is : (l : Library) {low high : ℕ} {o : Uncovered} {os : List Uncovered} → Apart low high (o ∷ os) → (p : Point) (x : Placed) → StepIs l o os p x (step l (record { left = o ∷ os; point = p }) x)
step_is l {o = o} {os} r p x = cases (eqb x.node o.node)
    (λ e. let n = eqb-true x.node o.node e in option_cases (there l r p x)
    (λ f. rw (step_none l r p x n f) wrong) (λ m f. rw (step_some l r p x n f) (right m (matched_is l x.pattern x.crossing o f) n)))
    (λ e. rw (step_elsewhere l r p x (eqb-false x.node o.node e)) wrong)

-- With nothing left to cover every match stands wrongly.
pub step_past : (l : Library) (p : Point) (x : Placed) → step l (record { left = []; point = p }) x ≡ none
unfolding step placed_at lowest_at first_such
step_past l p x = refl
