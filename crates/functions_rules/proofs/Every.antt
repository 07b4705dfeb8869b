-- A test that holds of every number below some number.
use Prim.Native.Nat.{ℕ, zero, suc, ◌<◌}
use mathlib.Core.Path.{◌≡◌, refl, sym, ap, ◌∙◌}
use mathlib.Core.Logic.{⊎_elim}
use mathlib.Core.Bool.{Bool, true, false, ◌&&◌, false≢true}
use native.Mathlib.Nat.{eq-or-lt_of_le}
use native.Mathlib.Omega.{arith}
use borrow.Table.Steps.{cases}
use Rattle.functions_rules.specs.Function.{every}

-- What passes passes at each, and the other way round.
pub both : (a b : Bool) → (a && b) ≡ true → (a ≡ true) × (b ≡ true)
both true b e = (refl, e)
both false b e = absurd (false≢true e)

pub every_each : (n : ℕ) (t : ℕ → Bool) → every n t ≡ true → (k : ℕ) → k < n → t k ≡ true
unfolding every
every_each zero t e k h = absurd (omega arith)
every_each (suc n) t e k h =
    let b = both (every n t) (t n) e in
    ⊎_elim (λ q. ap t q ∙ b.1) (λ g. every_each n t b.0 k g) (eq-or-lt_of_le (omega arith))

pub each_every : (n : ℕ) (t : ℕ → Bool) → ((k : ℕ) → k < n → t k ≡ true) → every n t ≡ true
unfolding every
each_every zero t h = refl
each_every (suc n) t h = rw (each_every n t (λ k g. h k (omega arith))) (h n (omega arith))

-- Where the test of all fails, one fails.
pub every_some : (n : ℕ) (t : ℕ → Bool) → every n t ≡ false → (k : ℕ) × (k < n) × (t k ≡ false)
unfolding every
every_some zero t e = absurd (false≢true (sym e))
every_some (suc n) t e = cases (every n t) (λ h. (n, omega arith, rw h at e)) (λ h. let r = every_some n t h in (r.0, omega (arith, r.1), r.2))
