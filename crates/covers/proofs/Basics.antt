-- Facts about tests and lists that several files share.
use Prim.Native.Nat.{ℕ, zero, suc, ◌≤◌, ◌<◌}
use mathlib.Core.Path.{◌≡◌, refl, sym, subst, ◌∙◌}
use mathlib.Core.Logic.{◌⊎◌, inl, inr, ⊎_elim}
use mathlib.Core.Bool.{Bool, true, false, ◌&&◌, or-true, true≢false, false≢true}
use mathlib.Core.List.{List, [], ◌∷◌, ◌++◌, flat_map, Memᴰ}
use mathlib.Core.Option.{Option, none, some, none-ne-some, some-injective}
use native.Mathlib.Omega.{arith}
use lib.Dec.{ltb}
use lib.ListN.{length, get_or, get_elem?}
use borrow.Table.Steps.{cases}
use borrow.Author.Tests.{ltb-true, ltb-false, leb-true, leb-false, eqb-true}
use Rattle.covers.specs.Lists.{any, select, first_such}

-- What a test's answer says of the numbers, for `omega`.
pub ruleset tests = (ltb-true, ltb-false, leb-true, leb-false, eqb-true)

pub lt_or_le : (m n : ℕ) → (m < n) ⊎ (n ≤ m)
lt_or_le m n = cases (ltb m n) (λ e. inl (ltb-true m n e)) (λ e. inr (ltb-false m n e))

-- What `&&` says of its two tests.
pub both_true : (a b : Bool) → a && b ≡ true → (a ≡ true) × (b ≡ true)
both_true a b e = cases a (λ f. (f, rw f at e)) (λ f. absurd (false≢true (rw f at e)))

-- Splits on an option as `cases` does on a test.
pub option_cases {χ} : {A : Type 0} {X : Type χ} (o : Option A) → (o ≡ none → X) → ((a : A) → o ≡ some a → X) → X
option_cases none f g = f refl
option_cases (some a) f g = g a refl

-- By a time is before the next instant. Where a promise is met through these and not by `omega`, its bound can be no other.
pub before_next : {a b : ℕ} → a ≤ b → a < suc b
before_next h = omega arith

pub by_then : {a b : ℕ} → a < suc b → a ≤ b
by_then h = omega arith

module _ {A : Type 0} where
  -- A fact about the first entry and about all others is one about all.
  pub each : {P : A → Type 0} {x : A} {xs : List A} → P x → ((y : A) → Memᴰ y xs → P y) → (y : A) → Memᴰ y (x ∷ xs) → P y
  each {P} here there y (mathlib.Core.List.Memᴰ.head e) = subst P (sym e) here
  each here there y (mathlib.Core.List.Memᴰ.tail m) = there y m

  pub at_in : (l : List A) (k : ℕ) {a : A} → get_elem? l k ≡ some a → Memᴰ a l
  at_in [] k {a} e = absurd (none-ne-some a e)
  at_in (b ∷ l) zero {a} e = mathlib.Core.List.Memᴰ.head (sym (some-injective b a e))
  at_in (b ∷ l) (suc k) e = mathlib.Core.List.Memᴰ.tail (at_in l k e)

  pub at_below : (l : List A) (k : ℕ) {a : A} → get_elem? l k ≡ some a → k < length l
  at_below [] k {a} e = absurd (none-ne-some a e)
  at_below (b ∷ l) zero e = omega arith
  at_below (b ∷ l) (suc k) e = omega (arith, at_below l k e)

  pub at_value : (l : List A) (k : ℕ) (d : A) {a : A} → get_elem? l k ≡ some a → get_or l k d ≡ a
  at_value [] k d {a} e = absurd (none-ne-some a e)
  at_value (b ∷ l) zero d {a} e = some-injective b a e
  at_value (b ∷ l) (suc k) d e = at_value l k d e

  pub at_all : (P : A → Type 0) (l : List A) (k : ℕ) (d : A) → P d → ((a : A) → Memᴰ a l → P a) → P (get_or l k d)
  at_all P [] k d p h = p
  at_all P (b ∷ l) zero d p h = h b (mathlib.Core.List.Memᴰ.head refl)
  at_all P (b ∷ l) (suc k) d p h = at_all P l k d p (λ a m. h a (mathlib.Core.List.Memᴰ.tail m))

module _ {A : Type 0} (test : A → Bool) where
  pub any_true : (xs : List A) → any test xs ≡ true → (x : A) × Memᴰ x xs × (test x ≡ true)
  unfolding any
  any_true [] e = absurd (false≢true e)
  any_true (x ∷ xs) e = cases (test x) (λ f. (x, mathlib.Core.List.Memᴰ.head refl, f)) (λ f. let r = any_true xs (rw f at e) in (r.0, mathlib.Core.List.Memᴰ.tail r.1, r.2))

  pub true_any : {x : A} (xs : List A) → Memᴰ x xs → test x ≡ true → any test xs ≡ true
  unfolding any
  true_any (y ∷ xs) (mathlib.Core.List.Memᴰ.head e) h = rw (← e, h)
  true_any (y ∷ xs) (mathlib.Core.List.Memᴰ.tail m) h = rw (true_any xs m h) (or-true (test y))
  true_any [] x3 h = elim x3 [ ]

  -- None passes exactly when no entry does.
  pub any_false : (xs : List A) → any test xs ≡ false → (x : A) → Memᴰ x xs → test x ≡ false
  any_false xs e x m = cases (test x) (λ f. absurd (true≢false (sym (true_any xs m f) ∙ e))) (λ f. f)

  pub false_any : (xs : List A) → ((x : A) → Memᴰ x xs → test x ≡ false) → any test xs ≡ false
  false_any xs h = cases (any test xs) (λ e. let r = any_true xs e in absurd (true≢false (sym r.2 ∙ h r.0 r.1))) (λ e. e)

  pub of_select : {x : A} (xs : List A) → Memᴰ x (select test xs) → Memᴰ x xs × (test x ≡ true)
  unfolding select
  of_select [] m = absurd (mathlib.Core.List.Memᴰ.not-nil m)
  of_select {x} (y ∷ xs) m =
      let later : Memᴰ x (select test xs) → Memᴰ x (y ∷ xs) × (test x ≡ true) = λ k. let r = of_select xs k in (mathlib.Core.List.Memᴰ.tail r.0, r.1) in
      cases (test y) (λ e. ⊎_elim (λ f. (mathlib.Core.List.Memᴰ.head f, rw f e)) later (mathlib.Core.List.Memᴰ.cases_cons (rw e at m))) (λ e. later (rw e at m))

  pub in_select : {x : A} (xs : List A) → Memᴰ x xs → test x ≡ true → Memᴰ x (select test xs)
  unfolding select
  in_select (y ∷ xs) (mathlib.Core.List.Memᴰ.head e) h = rw (← e, h) (mathlib.Core.List.Memᴰ.head refl)
  in_select (y ∷ xs) (mathlib.Core.List.Memᴰ.tail m) h = cases (test y) (λ e. rw e (mathlib.Core.List.Memᴰ.tail (in_select xs m h))) (λ e. rw e (in_select xs m h))
  in_select [] x3 h = elim x3 [ ]

  pub select_append : (xs ys : List A) → select test (xs ++ ys) ≡ select test xs ++ select test ys
  unfolding select
  select_append [] ys = refl
  select_append (x ∷ xs) ys = cases (test x) (λ e. rw (e, select_append xs ys)) (λ e. rw e (select_append xs ys))

  -- What the first that passes is.
  pub data FirstOf (xs : List A) : Option A → Type 0 where
    nowhere : ((x : A) → Memᴰ x xs → test x ≡ false) → FirstOf xs none
    somewhere : {x : A} → Memᴰ x xs → test x ≡ true → FirstOf xs (some x)

  pub first_of : (xs : List A) → FirstOf xs (first_such test xs)
  unfolding first_such
  first_of [] = nowhere (λ x m. absurd (mathlib.Core.List.Memᴰ.not-nil m))
  first_of (x ∷ xs) =
      cases (test x) (λ e. rw e (somewhere (mathlib.Core.List.Memᴰ.head refl) e))
      (λ e. rw e (elim (first_of xs) as (λ o v. FirstOf (x ∷ xs) o) [ nowhere a ↦ nowhere (each {P = λ y. test y ≡ false} e a) | somewhere m h ↦ somewhere (mathlib.Core.List.Memᴰ.tail m) h ]))

  -- What holds of either outcome holds of the first that passes.
  pub first_cases : (P : Option A → Type 0) (xs : List A) → (((x : A) → Memᴰ x xs → test x ≡ false) → P none) → ((x : A) → Memᴰ x xs → test x ≡ true → P (some x)) → P (first_such test xs)
  first_cases P xs f g = elim (first_of xs) as (λ o v. P o) [ nowhere a ↦ f a | somewhere {x} m h ↦ g x m h ]

module _ {A B : Type 0} (f : A → List B) where
  pub in_flat_map : {a : A} {b : B} {s : List A} → Memᴰ a s → Memᴰ b (f a) → Memᴰ b (flat_map f s)
  unfolding flat_map
  in_flat_map {b} (mathlib.Core.List.Memᴰ.head {xs = xs} e) k = mathlib.Core.List.Memᴰ.append_left (flat_map f xs) (subst (λ x. Memᴰ b (f x)) e k)
  in_flat_map (mathlib.Core.List.Memᴰ.tail {x = x} h) k = mathlib.Core.List.Memᴰ.append_right (f x) (in_flat_map h k)

  pub of_flat_map : {b : B} (s : List A) → Memᴰ b (flat_map f s) → (a : A) × Memᴰ a s × Memᴰ b (f a)
  unfolding flat_map
  of_flat_map [] h = absurd (mathlib.Core.List.Memᴰ.not-nil h)
  of_flat_map (x ∷ xs) h = ⊎_elim (λ k. (x, mathlib.Core.List.Memᴰ.head refl, k)) (λ k. let r = of_flat_map xs k in (r.0, mathlib.Core.List.Memᴰ.tail r.1, r.2)) (mathlib.Core.List.Memᴰ.append_cases (f x) h)
