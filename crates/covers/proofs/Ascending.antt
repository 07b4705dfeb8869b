-- Lists that ascend by a number, strictly, within a range.
use Prim.Native.Nat.{ℕ, suc, ◌≤◌, ◌<◌}
use mathlib.Core.Path.{◌≡◌, refl, sym, ap, ap₂, subst, ◌∙◌}
use mathlib.Core.Logic.{⊎_elim}
use mathlib.Core.Bool.{Bool, true, false≢true}
use mathlib.Core.List.Memᴰ
use mathlib.Core.List.{List, [], ◌∷◌, ◌++◌, Memᴰ, head-eq_of_cons-eq, tail-eq_of_cons-eq}
use mathlib.Core.Option.{some, some-injective}
use native.Mathlib.Omega.{arith}
use borrow.Table.Steps.{cases}
use Rattle.covers.specs.Lists.{select, first_such}

module _ {A : Type 0} (number : A → ℕ) where
  -- From `low` on and below `high`, each above the one before: so none twice.
  pub data Ascending : ℕ → ℕ → List A → Type 0 where
    end : {low high : ℕ} → low ≤ high → Ascending low high []
    then : {low high : ℕ} {x : A} {xs : List A} → low ≤ number x → Ascending (suc (number x)) high xs → Ascending low high (x ∷ xs)

module _ {A : Type 0} {number : A → ℕ} where
  pub lowered : {low low' high : ℕ} {xs : List A} → low' ≤ low → Ascending number low high xs → Ascending number low' high xs
  lowered {low'} {high} h (end k) = end {low = low'} {high = high} (omega arith)
  lowered {low'} h (then {x = x} k r) = then {low = low'} {x = x} (omega arith) r

  pub ascending_append : {low mid high : ℕ} {xs ys : List A} → Ascending number low mid xs → Ascending number mid high ys → Ascending number low high (xs ++ ys)
  ascending_append (end h) k = lowered h k
  ascending_append (then h r) k = then h (ascending_append r k)

  ends : {low high : ℕ} {xs : List A} → Ascending number low high xs → low ≤ high
  ends (end h) = h
  ends (then h r) = omega (arith, ends r)

  pub ascending_range : {low high : ℕ} {xs : List A} {x : A} → Ascending number low high xs → Memᴰ x xs → (low ≤ number x) × (number x < high)
  ascending_range (then h r) (Memᴰ.head e) = rw e (h, ends r)
  ascending_range (then h r) (Memᴰ.tail m) = let k = ascending_range r m in (omega arith, k.1)
  ascending_range (end {low = low} {high = high} _) x11 = elim x11 [ ]

  -- Two lists put together, the second from where the first ends, are known from the whole.
  pub ascending_parts : {low low' mid high high' : ℕ} {xs ys xs' ys' : List A} → Ascending number low mid xs → Ascending number mid high ys → Ascending number low' mid xs' → Ascending number mid high' ys' → xs ++ ys ≡ xs' ++ ys' → (xs ≡ xs') × (ys ≡ ys')
  ascending_parts (end h) b (end h') b' e = (refl, e)
  ascending_parts {mid} {high} (end h) b (then h' r') b' e = absurd (omega (arith, ends r', (ascending_range (subst (Ascending number mid high) e b) (Memᴰ.head refl)).0))
  ascending_parts {mid} {high'} (then h r) b (end h') b' e = absurd (omega (arith, ends r, (ascending_range (subst (Ascending number mid high') (sym e) b') (Memᴰ.head refl)).0))
  ascending_parts (then h r) b (then h' r') b' e = let p = ascending_parts r b r' b' (tail-eq_of_cons-eq e) in (ap₂ ◌∷◌ (head-eq_of_cons-eq e) p.0, p.1)

  -- One number, one entry.
  pub ascending_unique : {low high : ℕ} {xs : List A} {x y : A} → Ascending number low high xs → Memᴰ x xs → Memᴰ y xs → number x ≡ number y → x ≡ y
  ascending_unique (then h r) (Memᴰ.head e) (Memᴰ.head f) k = e ∙ sym f
  ascending_unique (then h r) (Memᴰ.head e) (Memᴰ.tail n) k = absurd (omega (arith, (ascending_range r n).0, ap number e))
  ascending_unique (then h r) (Memᴰ.tail m) (Memᴰ.head f) k = absurd (omega (arith, (ascending_range r m).0, ap number f))
  ascending_unique (then h r) (Memᴰ.tail m) (Memᴰ.tail n) k = ascending_unique r m n k
  ascending_unique {y = y} (end {low = low} {high = high} _) x19 _ k = elim x19 [ ]

  pub select_ascends : (test : A → Bool) {low high : ℕ} {xs : List A} → Ascending number low high xs → Ascending number low high (select test xs)
  unfolding select
  select_ascends test (end h) = end h
  select_ascends test (then {x = x} h r) = cases (test x) (λ e. rw e (then h (select_ascends test r))) (λ e. rw e (lowered (omega arith) (select_ascends test r)))

  -- The first that passes has the lowest number of those that do.
  pub first_lowest : (test : A → Bool) {low high : ℕ} {xs : List A} {x y : A} → Ascending number low high xs → first_such test xs ≡ some x → Memᴰ y xs → test y ≡ true → number x ≤ number y
  unfolding first_such
  first_lowest test (end h) e m k = absurd (Memᴰ.not-nil m)
  first_lowest test {x = x} (then {x = z} h r) e m k =
      cases (test z)
      (λ f. let q = ap number (some-injective z x (rw f at e)) in ⊎_elim (λ i. omega (arith, q, ap number i)) (λ j. omega (arith, q, (ascending_range r j).0)) (Memᴰ.cases_cons m))
      (λ f. ⊎_elim (λ i. absurd (false≢true (sym f ∙ (rw i at k)))) (λ j. first_lowest test r (rw f at e) j k) (Memᴰ.cases_cons m))
