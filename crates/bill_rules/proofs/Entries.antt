-- The lines of a bill: which cells have one, in which order, and what they add up to.
use Prim.Native.Nat.{ℕ, zero, suc, ◌+◌, ◌*◌, ◌≤◌, ◌<◌}
use mathlib.Core.Path.{◌≡◌, refl, sym, ap, ap₂, subst, ◌∙◌}
use mathlib.Core.Logic.{⊎_elim, ◌↔◌}
use mathlib.Core.List.Memᴰ
use mathlib.Core.List.{List, [], ◌∷◌, ◌++◌, map, Memᴰ}
use native.Mathlib.Nat.{add-zero, zero-mul, mul-one, le_refl}
use native.Mathlib.Numerals.{add-one}
use native.Mathlib.Decide.{ℕ_discrete}
use native.Mathlib.Omega.{arith}
use lib.Dec.{ltb}
use lib.IntN.{pos, -ℤ-+ℤ_cancel}
use lib.ListN.{length, get_or, get_elem?, length-append}
use borrow.Table.Steps.{cases}
use borrow.Author.Tests.{ltb-true, ltb-false}
use Rattle.sheets_rules.specs.Model.{Library, Pattern, patterns, cell_of, area_of, Tree}
use Rattle.sheets_rules.specs.Inside.Sound.{SoundLibrary}
use Rattle.sheets_rules.proofs.Patterns.{cell_below, area_of_lem}
use Rattle.covers.specs.Lists.{keep_if}
use Rattle.covers.specs.Cover.{Placed, Cover}
use Rattle.covers.specs.Promise.{RootCover, cell_area, listed_area}
use Rattle.covers.proofs.Ascending.{Ascending, end, then, ascending_append}
use Rattle.covers.proofs.Listing.{known_patterns, area_listed}
use Rattle.bill_rules.specs.Bill.{Entry, uses, entry_of, entries_below, summed, amounts, counts, margin, bill}
use Rattle.bill_rules.specs.Demands.{BillIs, BillSums}
use Rattle.bill_rules.proofs.Counting.{used_by, by_used, weighed, weights, weighed_all}

-- ---- sums of lines

summed_append : (figure : Entry → ℕ) (es fs : List Entry) → summed figure (es ++ fs) ≡ summed figure es + summed figure fs
unfolding summed
summed_append figure [] fs = omega arith
summed_append figure (e ∷ es) fs = omega (arith, summed_append figure es fs)

pub figure_in : (figure : Entry → ℕ) {e : Entry} (es : List Entry) → Memᴰ e es → figure e ≤ summed figure es
unfolding summed
figure_in figure [] m = elim m [ ]
figure_in figure (x ∷ es) (Memᴰ.head p) = omega (arith, ap figure p)
figure_in figure (x ∷ es) (Memᴰ.tail m) = omega (arith, figure_in figure es m)

module _ (l : Library) (xs : List Placed) where
  -- The line of cell n, if it is used.
  abbrev line_of : ℕ → List Entry
  line_of n = keep_if (ltb 0 (uses l xs n)) (entry_of l xs n) []

  -- A cell that is used has a line, and another has none.
  data Line (n : ℕ) : List Entry → Type 0 where
    has : 0 < uses l xs n → Line n (entry_of l xs n ∷ [])
    hasn't : uses l xs n ≡ 0 → Line n []

  line_of_lem : (n : ℕ) → Line n (line_of n)
  line_of_lem n = unfold keep_if in cases (ltb 0 (uses l xs n)) (λ e. rw e (has (ltb-true 0 (uses l xs n) e))) (λ e. rw e (hasn't (omega (arith, ltb-false 0 (uses l xs n) e))))

  -- Ascending by cell.
  entries_ascend : (n : ℕ) → Ascending (λ (e : Entry). e.cell) 0 n (entries_below l xs n)
  unfolding entries_below entry_of
  entries_ascend zero = end (le_refl 0)
  entries_ascend (suc n) = ascending_append (entries_ascend n) (elim (line_of_lem n) as (λ es x. Ascending (λ (e : Entry). e.cell) n (suc n) es)
      [ has h ↦ then {x = entry_of l xs n} (le_refl n) (end (le_refl (suc n))) | hasn't e ↦ end {low = n} {high = suc n} (omega arith) ])

  -- Sums over the lines are sums over all cells, for a figure that is a weight times how often a cell is used.
  module _ (figure : Entry → ℕ) (weight : ℕ → ℕ) (is : (n : ℕ) → figure (entry_of l xs n) ≡ uses l xs n * weight n) where
    summed_weighed : (n : ℕ) → summed figure (entries_below l xs n) ≡ weighed l weight xs n
    unfolding entries_below weighed summed
    summed_weighed zero = refl
    summed_weighed (suc n) = summed_append figure (entries_below l xs n) (line_of n) ∙ ap₂ ◌+◌ (summed_weighed n) (elim (line_of_lem n) as (λ es x. summed figure es ≡ uses l xs n * weight n)
        [ has h ↦ add-zero (figure (entry_of l xs n)) ∙ is n | hasn't e ↦ rw (e, zero-mul) ])

  amounts_weighed : (n : ℕ) → amounts (entries_below l xs n) ≡ weighed l (area_of l) xs n
  unfolding entry_of
  amounts_weighed = summed_weighed (λ e. e.amount) (area_of l) (λ n. refl)

  counts_weighed : (n : ℕ) → counts (entries_below l xs n) ≡ weighed l (λ k. 1) xs n
  unfolding entry_of
  counts_weighed = summed_weighed (λ e. e.count) (λ k. 1) (λ n. sym (mul-one (uses l xs n)))

  pub amounts_next : (n : ℕ) → amounts (entries_below l xs (n + 1)) ≡ amounts (entries_below l xs n) + uses l xs n * area_of l n
  unfolding weighed
  amounts_next n = rw add-one (amounts_weighed (suc n) ∙ ap (λ (k : ℕ). k + uses l xs n * area_of l n) (sym (amounts_weighed n)))

  -- No more lines than the counts add up to.
  pub lines_few : (n : ℕ) → length (entries_below l xs n) ≤ counts (entries_below l xs n)
  unfolding entries_below summed entry_of
  lines_few zero = omega arith
  lines_few (suc n) =
      let few = elim (line_of_lem n) as (λ es x. length es ≤ counts es) [ has h ↦ omega arith | hasn't e ↦ omega arith ] in
      omega (arith, length-append (entries_below l xs n) (line_of n), summed_append (λ (e : Entry). e.count) (entries_below l xs n) (line_of n), lines_few n)

  -- The line of which cell, and that a cell that is used has one.
  pub record From (n : ℕ) (e : Entry) : Type 0 where
    pub cell : ℕ
    pub below : cell < n
    pub is_used : 0 < uses l xs cell
    pub entry_is : e ≡ entry_of l xs cell

  pub entry_from : (n : ℕ) {e : Entry} → Memᴰ e (entries_below l xs n) → From n e
  unfolding entries_below
  entry_from zero m = absurd (Memᴰ.not-nil m)
  entry_from (suc n) {e} m =
      ⊎_elim (λ k. let r = entry_from n k in record { cell = r.cell; below = omega (arith, r.below); is_used = r.is_used; entry_is = r.entry_is })
      (elim (line_of_lem n) as (λ es x. Memᴰ e es → From (suc n) e) [ has h ↦ λ m. record { cell = n; below = omega arith; is_used = h; entry_is = Memᴰ.eq_of_singleton m } | hasn't e ↦ λ m. absurd (Memᴰ.not-nil m) ])
      (Memᴰ.append_cases (entries_below l xs n) m)

  line_has : {n : ℕ} {es : List Entry} → Line n es → 0 < uses l xs n → Memᴰ (entry_of l xs n) es
  line_has (has h) u = Memᴰ.head refl
  line_has (hasn't e) u = absurd (omega arith)

  pub entry_in : (n k : ℕ) → k < n → 0 < uses l xs k → Memᴰ (entry_of l xs k) (entries_below l xs n)
  unfolding entries_below
  entry_in zero k h u = absurd (omega arith)
  entry_in (suc n) k h u = elim (ℕ_discrete k n)
      [ yes e ↦ rw e (Memᴰ.append_right (entries_below l xs n) (line_has (line_of_lem n) (rw e at u))) | no e ↦ Memᴰ.append_left (line_of n) (entry_in n k (omega (arith, e)) u) ]

-- A list that ascends by a number, place by place.
module _ {A : Type 0} (number : A → ℕ) where
  lowest_at_lem : {low high : ℕ} {xs : List A} (k : ℕ) → Ascending number low high xs → k < length xs → low ≤ get_or (map number xs) k 0
  lowest_at_lem k (end h) l = absurd (omega arith)
  lowest_at_lem zero (then h r) l = h
  lowest_at_lem (suc k) (then h r) l = omega (arith, lowest_at_lem k r (omega arith))

  ascending_at : {low high : ℕ} {xs : List A} (j k : ℕ) → Ascending number low high xs → j < k → k < length xs → get_or (map number xs) j 0 < get_or (map number xs) k 0
  ascending_at j k (end h) up l = absurd (omega arith)
  ascending_at j zero (then h r) up l = absurd (omega arith)
  ascending_at zero (suc k) (then h r) up l = lowest_at_lem k r (omega arith)
  ascending_at (suc j) (suc k) (then h r) up l = ascending_at j k r (omega arith) (omega arith)

-- ---- the bill of a legal cover

-- The area of a listed match's cell.
cell_area_lem : (ps : List Pattern) (j : ℕ) (d : Pattern) → j < length ps → cell_area (get_elem? ps j) ≡ (get_or ps j d).cell.area
unfolding cell_area
cell_area_lem [] j d h = absurd (omega arith)
cell_area_lem (p ∷ ps) zero d h = refl
cell_area_lem (p ∷ ps) (suc j) d h = cell_area_lem ps j d (omega arith)

listed_weights : {l : Library} → SoundLibrary l → (xs : List Placed) → ((x : Placed) → Memᴰ x xs → x.pattern < length (patterns l)) → weights l (area_of l) xs ≡ listed_area l xs
unfolding weights listed_area
listed_weights sound [] h = refl
listed_weights {l} sound (x ∷ xs) h =
    let here = h x (Memᴰ.head refl) in
    ap₂ ◌+◌ (area_of_lem sound x.pattern here ∙ sym (cell_area_lem (patterns l) x.pattern _ here)) (listed_weights sound xs (λ y m. h y (Memᴰ.tail m)))

ones : (l : Library) (xs : List Placed) → weights l (λ k. 1) xs ≡ length xs
unfolding weights
ones l [] = refl
ones l (x ∷ xs) = omega (arith, ones l xs)

module _ {l : Library} (t : Tree) {c : Cover} (sound : SoundLibrary l) (legal : RootCover l t c) where
  abbrev xs : List Placed
  xs = c.placed

  abbrev cells : ℕ
  cells = length l.cells

  listed : (x : Placed) → Memᴰ x xs → x.pattern < length (patterns l)
  listed x m = (known_patterns legal x m).0

  below : (x : Placed) → Memᴰ x xs → cell_of l x.pattern < cells
  below x m = cell_below sound x.pattern (listed x m)

  pub counts_are : counts (entries_below l xs cells) ≡ length xs
  counts_are = counts_weighed l xs cells ∙ weighed_all l (λ k. 1) xs cells below ∙ ones l xs

  pub amounts_are : amounts (entries_below l xs cells) ≡ listed_area l xs
  amounts_are = amounts_weighed l xs cells ∙ weighed_all l (area_of l) xs cells below ∙ listed_weights sound xs listed

  used : (n : ℕ) → Memᴰ n (map (λ (e : Entry). e.cell) (entries_below l xs cells)) ↔ ((x : Placed) × Memᴰ x xs × (cell_of l x.pattern ≡ n))
  unfolding entry_of
  used n = (
    λ m.
        let (e, among, is) = Memᴰ.of_map (λ (e : Entry). e.cell) (entries_below l xs cells) m in
        let r = entry_from l xs cells among in
        let (x, listed, same) = used_by l xs r.cell r.is_used in
        (x, listed, same ∙ sym (ap (λ (e : Entry). e.cell) r.entry_is) ∙ is),
    λ r. let (x, m, e) = r in subst (λ (k : ℕ). Memᴰ k (map (λ (e : Entry). e.cell) (entries_below l xs cells))) e (Memᴰ.map (λ (e : Entry). e.cell) (entry_in l xs cells (cell_of l x.pattern) (below x m) (by_used l xs m))),
  )

  pub bill_is : BillIs l t c (bill l t c)
  unfolding bill margin entry_of
  bill_is = record {
    ascending = λ j k. ascending_at (λ (e : Entry). e.cell) j k (entries_ascend l xs cells);
    used = used;
    counted = λ e m. let r = entry_from l xs cells m in rw r.entry_is;
    amounted = λ e m. let r = entry_from l xs cells m in rw r.entry_is;
    total_lines = refl;
    margin_is = -ℤ-+ℤ_cancel (pos t.required) (pos c.point.arrival);
  }

  pub bill_sums : BillSums l c (bill l t c)
  unfolding bill
  bill_sums = record { total_area = amounts_are ∙ sym (area_listed l legal); total_matches = amounts_are; counts_matches = counts_are }
