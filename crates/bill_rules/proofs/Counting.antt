-- How often each cell is used, and what that adds up to over all cells.
use Prim.Native.Nat.{ℕ, zero, suc, ◌+◌, ◌*◌, ◌≤◌, ◌<◌}
use mathlib.Core.Path.{◌≡◌, refl, sym, ap, ap₂, ◌∙◌}
use mathlib.Core.Bool.{Bool}
use mathlib.Core.List.{List, [], ◌∷◌, ◌++◌, Memᴰ}
use native.Mathlib.Nat.{suc-mul}
use native.Mathlib.Decide.{ℕ_discrete}
use native.Mathlib.Omega.{arith}
use lib.Dec.{eqb}
use lib.ListN.{length, length-append}
use borrow.Author.Tests.{eq-eqb, ne_eqb}
use Rattle.sheets_rules.specs.Model.{Library, cell_of}
use Rattle.covers.specs.Lists.{keep_if, select}
use Rattle.covers.specs.Cover.{Placed}
use Rattle.covers.proofs.Basics.{select_append}
use Rattle.bill_rules.specs.Bill.{uses}

module _ (l : Library) where
  abbrev cell : Placed → ℕ
  cell x = cell_of l x.pattern

  -- One listed match more.
  pub uses_same : (x : Placed) (xs : List Placed) (n : ℕ) → cell x ≡ n → uses l (x ∷ xs) n ≡ suc (uses l xs n)
  unfolding uses select keep_if
  uses_same x xs n e = rw (eq-eqb (cell x) n e)

  pub uses_other : (x : Placed) (xs : List Placed) (n : ℕ) → (cell x ≡ n → ⊥) → uses l (x ∷ xs) n ≡ uses l xs n
  unfolding uses select keep_if
  uses_other x xs n e = rw (ne_eqb (cell x) n e)

  pub uses_few : (xs : List Placed) (n : ℕ) → uses l xs n ≤ length xs
  unfolding uses select
  uses_few [] n = omega arith
  uses_few (x ∷ xs) n = elim (ℕ_discrete (cell x) n) [ yes e ↦ omega (arith, uses_few xs n, uses_same x xs n e) | no e ↦ omega (arith, uses_few xs n, uses_other x xs n e) ]

  pub uses_append : (xs ys : List Placed) (n : ℕ) → uses l (xs ++ ys) n ≡ uses l xs n + uses l ys n
  unfolding uses
  uses_append xs ys n = let test : Placed → Bool = λ x. eqb (cell x) n in ap length (select_append test xs ys) ∙ length-append (select test xs) (select test ys)

  -- A cell is used exactly if a listed match is of it.
  pub used_by : (xs : List Placed) (n : ℕ) → 0 < uses l xs n → (x : Placed) × Memᴰ x xs × (cell x ≡ n)
  used_by [] n h = unfold uses select in absurd (omega arith)
  used_by (x ∷ xs) n h = elim (ℕ_discrete (cell x) n)
      [ yes e ↦ (x, Memᴰ.head refl, e) | no e ↦ let r = used_by xs n (omega (arith, uses_other x xs n e)) in (r.0, Memᴰ.tail r.1, r.2) ]

  pub by_used : (xs : List Placed) {x : Placed} → Memᴰ x xs → 0 < uses l xs (cell x)
  by_used [] m = elim m [ ]
  by_used (y ∷ ys) {x} (Memᴰ.head f) = omega (arith, uses_same y ys (cell x) (ap cell (sym f)))
  by_used (y ∷ ys) {x} (Memᴰ.tail k) = elim (ℕ_discrete (cell y) (cell x)) [ yes e ↦ omega (arith, uses_same y ys (cell x) e) | no e ↦ omega (arith, by_used ys k, uses_other y ys (cell x) e) ]

  -- A weight for each cell, as often as it is used: over the first n cells, and over the listed matches.
  module _ (weight : ℕ → ℕ) where
    unfoldable pub weighed : List Placed → ℕ → ℕ
    weighed xs zero = 0
    weighed xs (suc n) = weighed xs n + uses l xs n * weight n

    unfoldable pub weights : List Placed → ℕ
    weights [] = 0
    weights (x ∷ xs) = weight (cell x) + weights xs

    -- Once more for a match of one of these cells, and not for others.
    weighed_beyond : (x : Placed) (xs : List Placed) (n : ℕ) → n ≤ cell x → weighed (x ∷ xs) n ≡ weighed xs n
    unfolding weighed
    weighed_beyond x xs zero h = refl
    weighed_beyond x xs (suc n) h = ap₂ (λ (a b : ℕ). a + b * weight n) (weighed_beyond x xs n (omega arith)) (uses_other x xs n (λ e. omega (arith, e)))

    weighed_within : (x : Placed) (xs : List Placed) (n : ℕ) → cell x < n → weighed (x ∷ xs) n ≡ weight (cell x) + weighed xs n
    unfolding weighed
    weighed_within x xs zero h = absurd (omega arith)
    weighed_within x xs (suc n) h = elim (ℕ_discrete (cell x) n) [
      | yes e ↦ rw (weighed_beyond x xs n (omega (arith, e)), uses_same x xs n e, suc-mul) (omega (arith, ap weight e))
      | no e ↦ rw (weighed_within x xs n (omega (arith, e)), uses_other x xs n e) (omega arith)
    ]

    weighed_none : (n : ℕ) → weighed [] n ≡ 0
    unfolding weighed uses select
    weighed_none zero = refl
    weighed_none (suc n) = omega (arith, weighed_none n)

    pub weighed_all : (xs : List Placed) (n : ℕ) → ((x : Placed) → Memᴰ x xs → cell x < n) → weighed xs n ≡ weights xs
    unfolding weights
    weighed_all [] n h = weighed_none n
    weighed_all (x ∷ xs) n h = weighed_within x xs n (h x (Memᴰ.head refl)) ∙ ap (λ (k : ℕ). weight (cell x) + k) (weighed_all xs n (λ y m. h y (Memᴰ.tail m)))
