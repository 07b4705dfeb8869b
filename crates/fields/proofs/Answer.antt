-- Answers one after another, and that a word says its answer.
use Prim.Native.Nat.{ℕ, ◌+◌, ◌*◌, ◌/◌, ◌%◌}
use mathlib.Core.Path.{◌≡◌, refl, sym, ap, subst}
use native.Mathlib.Omega.{arith}
use lib.Dec.{ltb}
use borrow.Table.Steps.{cases}
use borrow.Author.Tests.{lt-ltb, le-ltb, ltb-true}
use Rattle.bits.specs.declared.Cursor.{Cursor}
use Rattle.fields.specs.declared.Fault.{Fault}
use Rattle.fields.specs.declared.Flaw.{Flaw}
use Rattle.fields.specs.Reading.{Scan}
use Rattle.fields.specs.Reading.{At, Refused}
use Rattle.fields.specs.Reading.{place, Live}
use Rattle.fields.specs.Inside.Promises.{Took, Told, Flawed}
use Rattle.fields.specs.Answer.{Answer, refused_in, refused, success, said, ◌>>=◌, places, numbers, word, of_word, Bounded, BoundedExactly}

-- An answer refuses or succeeds, with the equation that says which.
pub answer-cases {χ} : {A : Type 0} {X : Type χ} (o : Answer A) → ((item number place : ℕ) → o ≡ refused_in item number place → X) → ((a : A) → o ≡ success a → X) → X
answer-cases (refused_in item number place) f g = f item number place refl
answer-cases (success a) f g = g a refl

-- A success and a refusal differ.
pub answer_apart : {A : Type 0} {a : A} {item number place : ℕ} → success a ≡ refused_in item number place → ⊥
answer_apart e = let z : ◌≡◌ {A = ℕ} 0 1 = cc in omega arith

-- Where two answers one after another make a success, both are.
pub both_succeed : {A B : Type 0} (r : Answer A) (f : A → Answer B) {b : B} → (r >>= f) ≡ success b → (a : A) × (r ≡ success a) × (f a ≡ success b)
unfolding ◌>>=◌
both_succeed (refused_in item number place) f e = absurd (answer_apart (sym e))
both_succeed (success a) f e = (a, refl, e)

module _ {A B : Type 0} (f : A → Answer B) {r : Answer A} where
  pub after_success : {a : A} → r ≡ success a → (r >>= f) ≡ f a
  unfolding ◌>>=◌
  after_success e = ap (λ (q : Answer A). q >>= f) e

  pub after_refused : {item number place : ℕ} → r ≡ refused_in item number place → (r >>= f) ≡ refused_in item number place
  unfolding ◌>>=◌
  after_refused e = ap (λ (q : Answer A). q >>= f) e

-- A sheet that says something was read to its end, and what was read is that.
pub said_read : {A : Type 0} (number : Fault → ℕ) (x : A × Scan) {a : A} → said number x ≡ success a → (x.0 ≡ a) × Live x.1
unfolding said
said_read number (a, At c) e = ((cc), tt)
said_read number (a, Refused f p) e = absurd (answer_apart (sym e))

pub read_said : {A : Type 0} (number : Fault → ℕ) (x : A × Scan) → Live x.1 → said number x ≡ success x.0
unfolding said
read_said number (a, At c) live = refl
read_said number (a, Refused f p) live = absurd live

-- What a reader of the whole sheet answered.
pub took_said : {A B : Type 0} (number : Fault → ℕ) {Holds : A → B → Type 0} {x : A × Scan} {reach : ℕ} {after : Cursor} {b : B} → Took Holds x reach after b → said number x ≡ success x.0
took_said number {x = x} h = read_said number x (subst Live (sym h.at) tt)

pub told_said : {A B : Type 0} (number : Fault → ℕ) {Holds : A → B → Type 0} {x : A × Scan} {b : B} → Told Holds x b → said number x ≡ success x.0
told_said number {x = x} h = read_said number x h.live

pub flawed_said : {A : Type 0} (number : Fault → ℕ) {x : A × Scan} {reach : ℕ} {e : Flaw} → Flawed x reach e → said number x ≡ refused (number e.fault) e.place
unfolding said
flawed_said number {x = x} {e = e} h = rw h.says refl

-- A sheet's refusal is about no item.
pub said_item : {A : Type 0} (number : Fault → ℕ) (x : A × Scan) {item n place : ℕ} → said number x ≡ refused_in item n place → item ≡ 0
unfolding said
said_item number (a, At c) e = absurd (answer_apart e)
said_item number (a, Refused f p) e = sym (cc)

pub word_reads : (a : Answer ℕ) → Bounded a → of_word (word a) ≡ a
unfolding word of_word Bounded
word_reads (refused_in item number place) h =
    let w = (item * numbers + number) * places + place in
    let about : w / places / numbers ≡ item = omega arith in
    let said : w / places % numbers ≡ number = omega arith in
    let at : w % places ≡ place = omega arith in
    rw (le-ltb w places (omega arith)) (cc)
word_reads (success n) h = rw (lt-ltb n places h) refl

pub bounded_exactly : (a : Answer ℕ) → BoundedExactly a
unfolding word of_word Bounded
bounded_exactly (refused_in item number place) = record {
  says = λ h. (omega arith, word_reads (refused_in item number place) h);
  only = λ some short e.
      let w = (item * numbers + number) * places + place in
      cases (ltb w places) (λ t. absurd (answer_apart (rw t at e))) (λ t.
      let g = rw t at e in
      let said : w / places % numbers ≡ number = cc in
      let at : w % places ≡ place = cc in
      (omega arith, some, omega arith, omega arith));
}
bounded_exactly (success n) = record {
  says = λ h. (omega arith, word_reads (success n) h);
  only = λ some short e. cases (ltb n places) (ltb-true n places) (λ t. absurd (answer_apart (sym (rw t at e))));
}
