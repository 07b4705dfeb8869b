-- What is lent, and what it allows.
use Prim.Native.Nat.{ℕ, ◌≤◌, ◌<◌}
use mathlib.Core.Path.{◌≡◌, refl, sym}
use mathlib.Core.Bool.{◌&&◌}
use native.Mathlib.Omega.{arith}
use lib.Dec.{leb}
use borrow.Table.Steps.{cases}
use borrow.Author.Tests.{le-leb, lt-leb, leb-true}
use Rattle.fields.specs.Answer.{refused, success}
use Rattle.fields.proofs.Answer.{answer_apart}
use Rattle.covers.specs.Capacity.{capacity, work_words, allowed}
use Rattle.covers.specs.Answer.{short_number}
use Rattle.covers.specs.Inside.Allowed.{Allowed}
use Rattle.covers.specs.Lending.{lent}
use Rattle.covers.proofs.Basics.{both_true}

-- ---- the capacity

pub allowed_is : (work : ℕ) → Allowed (allowed work)
unfolding allowed
allowed_is work = record { some = omega arith; bounded = omega arith; listed = omega arith }

-- The words that it takes are lent.
pub allowed_fits : (work : ℕ) → work_words capacity ≤ work → work_words (allowed work) ≤ work
unfolding allowed
allowed_fits work h = h

-- ---- enough, or not

module _ (least output work : ℕ) where
  pub lent_enough : least ≤ output → work_words capacity ≤ work → lent least output work ≡ success (allowed work)
  unfolding lent
  lent_enough h g = rw (le-leb least output h, le-leb (work_words capacity) work g) refl

  pub short_output : output < least → lent least output work ≡ refused short_number 0
  unfolding lent
  short_output h = rw (lt-leb least output h) refl

  pub short_work : least ≤ output → work < work_words capacity → lent least output work ≡ refused short_number 0
  unfolding lent
  short_work h g = rw (le-leb least output h, lt-leb (work_words capacity) work g) refl

  -- And what was not refused was lent enough.
  pub enough_lent : {most : ℕ} → lent least output work ≡ success most → (least ≤ output) × (work_words capacity ≤ work) × (most ≡ allowed work)
  unfolding lent
  enough_lent {most} e =
      cases (leb least output && leb (work_words capacity) work)
      (λ f. let b = both_true (leb least output) (leb (work_words capacity) work) f in let g : success (allowed work) ≡ success most = rw f at e in
      (leb-true least output b.0, leb-true (work_words capacity) work b.1, sym (cc))) (λ f. absurd (answer_apart (sym (rw f at e))))
