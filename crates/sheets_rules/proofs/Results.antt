-- What a result says of an answer, from the scan after a sheet or from the answer itself.
use Prim.Native.Nat.{ℕ, ◌≤◌, ◌<◌}
use mathlib.Core.Path.{◌≡◌, sym, ap, subst, ◌∙◌}
use native.Mathlib.Omega.{arith}
use Rattle.std.specs.Prelude.{Result, Ok, Err}
use Rattle.fields.specs.declared.Fault.{Fault}
use Rattle.fields.specs.Reading.{Scan}
use Rattle.fields.specs.Reading.{Refused}
use Rattle.fields.specs.Reading.{Live}
use Rattle.fields.specs.Answer.{Answer, refused_in, success, said, places, numbers, Bounded}
use Rattle.fields.proofs.Answer.{answer_apart, read_said}
use Rattle.sheets_rules.specs.declared.Refusal.{Refusal}
use Rattle.sheets_rules.specs.Report.{number_of, refusal}
use Rattle.sheets_rules.specs.Inside.Readers.{Says}

module _ {A B : Type 0} (Holds : A → B → Type 0) where
  -- What a result hands over holds what the answer hands over.
  pub says_holds : (o : Answer A) (r : Result B Refusal) {b : B} → r ≡ Ok b → Says Holds o r → (a : A) → o ≡ success a → Holds a b
  says_holds o r {b} k h a g =
      let (x, e, holds) = subst (Says Holds o) k h in
      let both : success x ≡ success a = sym e ∙ g in
      let same : x ≡ a = cc in
      subst (λ y. Holds y b) same holds

  -- A refusal that a result says fits a word.
  pub says_bounded : (o : Answer A) (r : Result B Refusal) → Says Holds o r → {item number place : ℕ} → o ≡ refused_in item number place → Bounded (refused_in item number place)
  says_bounded o (Err q) (e, fits) {item} {number} {place} g =
      let both : refusal {A = A} q ≡ refused_in item number place = sym e ∙ g in
      let about : q.item ≡ item = cc in
      let said : number_of q.reason ≡ number = cc in
      let at : q.place ≡ place = cc in
      subst Bounded (λ i. refused_in (about i) (said i) (at i)) fits
  says_bounded o (Ok b) (a, e, h) g = absurd (answer_apart (sym e ∙ g))

  -- What is said of a sheet that was read to its end, and of one that was refused, if the number and the place fit a word.
  pub sound_says : (number : Fault → ℕ) (x : A × Scan) (b : B) → Live x.1 → Holds x.0 b → Says Holds (said number x) (Ok b)
  sound_says number x b live h = (x.0, read_said number x live, h)

  pub refused_says : (number : Fault → ℕ) (x : A × Scan) {f : Fault} (q : Refusal) → x.1 ≡ Refused f q.place → q.item ≡ 0 → number_of q.reason ≡ number f → (1 ≤ number f) × (number f < numbers) → q.place < places → Says Holds (said number x) (Err q)
  unfolding said Bounded
  refused_says number x {f} q e item same few near =
      (ap (λ (z : Scan). said number (x.0, z)) e ∙ (λ i. refused_in (sym item i) (sym same i) q.place), (omega arith, omega arith, omega arith, near))
