-- New pins: how many pins stand in a run of symbols and not among the symbols seen before it.
use mathlib.Core.Path.{◌≡◌, refl, sym}
use mathlib.Core.List.{List, [], ◌∷◌, ◌++◌}
use mathlib.Core.Bool.{Bool, true, false, ◌||◌, or_assoc}
use mathlib.Core.Logic.{⊎_elim}
use Prim.Native.Nat.{ℕ, zero, suc, ◌+◌, ◌≤◌, ◌<◌}
use native.Mathlib.Nat.{eq-or-lt_of_le, le_of_suc-le-suc}
use native.Mathlib.Omega.{arith}
use lib.Dec.{eqb}
use borrow.Author.Tests.{eq-eqb}
use Rattle.shapes_rules.specs.Shape.{pin_symbol}
use Rattle.shapes_rules.specs.Drawing.{elem}

pub elem_append : (x : ℕ) (a b : List ℕ) → elem x (a ++ b) ≡ (elem x a || elem x b)
unfolding elem
elem_append x [] b = refl
elem_append x (y ∷ a) b = rw (elem_append x a b) (sym (or_assoc (eqb x y) (elem x a) (elem x b)))

-- One pin, from whether it was seen and whether it stands in the run.
abbrev new : Bool → Bool → ℕ
new true q = 0
new false true = 1
new false false = 0

new_few : (p q : Bool) → new p q ≤ 1
new_few true q = omega arith
new_few false true = omega arith
new_few false false = omega arith

new_append : (p q r : Bool) → new p (q || r) ≡ new p q + new (p || q) r
new_append true q r = refl
new_append false true r = refl
new_append false false r = omega arith

-- How many of the first n pins are new.
unfoldable pub fresh : ℕ → List ℕ → List ℕ → ℕ
fresh zero seen run = 0
fresh (suc n) seen run = new (elem (pin_symbol n) seen) (elem (pin_symbol n) run) + fresh n seen run

pub fresh_few : (n : ℕ) (seen run : List ℕ) → fresh n seen run ≤ n
unfolding fresh
fresh_few zero seen run = omega arith
fresh_few (suc n) seen run = omega (arith, new_few (elem (pin_symbol n) seen) (elem (pin_symbol n) run), fresh_few n seen run)

-- One run after another.
pub fresh_append : (n : ℕ) (seen a b : List ℕ) → fresh n seen (a ++ b) ≡ fresh n seen a + fresh n (seen ++ a) b
unfolding fresh
fresh_append zero seen a b = refl
fresh_append (suc n) seen a b =
    let k = pin_symbol n in
    rw (elem_append k a b, elem_append k seen a) (omega (arith, new_append (elem k seen) (elem k a) (elem k b), fresh_append n seen a b))

-- A leaf whose pin was not seen.
pub fresh_leaf : (n x : ℕ) (seen : List ℕ) → x < n → elem (pin_symbol x) seen ≡ false → 1 ≤ fresh n seen (pin_symbol x ∷ [])
unfolding fresh elem
fresh_leaf zero x seen h e = absurd (omega arith)
fresh_leaf (suc n) x seen h e =
    ⊎_elim (λ q. rw (← q, e, eq-eqb (pin_symbol x) (pin_symbol x) refl) (omega arith)) (λ q. omega (arith, fresh_leaf n x seen q e)) (eq-or-lt_of_le (le_of_suc-le-suc h))
