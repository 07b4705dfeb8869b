-- What every operation answers: refused, with document 01's number and place and the item that the refusal is about; or a success of its own kind.
use Rattle.std.specs.Prelude.{ℕ, ◌+◌, ◌*◌, ◌/◌, ◌%◌, ◌^◌, ◌≤◌, ◌<◌, ◌≡◌, cond, ltb}
use Rattle.fields.specs.declared.Fault.{Fault}
use Rattle.fields.specs.Reading.{Scan, At, Refused}

-- The item is the number of a tree, where an operation takes several; 0 where there is none.
pub data Answer (A : Type 0) : Type 0 where
  refused_in : (item number place : ℕ) → Answer A
  success : A → Answer A

module _ {A : Type 0} where
  -- A refusal that is about no item.
  abbrev pub refused : (number place : ℕ) → Answer A
  refused number place = refused_in 0 number place

  -- What a sheet says that was read, or the number and the place of its first fault.
  unfoldable pub said : (Fault → ℕ) → A × Scan → Answer A
  said number (a, At c) = success a
  said number (a, Refused f p) = refused (number f) p

  -- What is answered of an item.
  unfoldable pub in_item : ℕ → Answer A → Answer A
  in_item k (refused_in item number place) = refused_in k number place
  in_item k (success a) = success a

module _ {A B : Type 0} where
  -- The first refusal is the answer; without one, what follows is.
  infixl 10 ◌>>=◌
  unfoldable pub ◌>>=◌ : Answer A → (A → Answer B) → Answer B
  ◌>>=◌ (refused_in item number place) f = refused_in item number place
  ◌>>=◌ (success a) f = f a

  -- The same answer, its success seen in another way.
  unfoldable pub on_success : (A → B) → Answer A → Answer B
  on_success f (refused_in item number place) = refused_in item number place
  on_success f (success a) = success (f a)

-- ---- in one word

-- A refusal is item × 2^40 + number × 2^32 + place, in a word of 64 bits.
abbrev pub places : ℕ
places = 2 ^ 32

abbrev pub numbers : ℕ
numbers = 2 ^ 8

abbrev pub items : ℕ
items = 2 ^ 24

-- An answer in one word.
unfoldable pub word : Answer ℕ → ℕ
word (refused_in item number place) = (item * numbers + number) * places + place
word (success n) = n

-- What a caller reads from such a word.
unfoldable pub of_word : ℕ → Answer ℕ
of_word w = cond (ltb w places) (success w) (refused_in (w / places / numbers) (w / places % numbers) (w % places))

-- The bounds that make a word of 64 bits say its answer: numbers from 1 to 255, items below 2^24, places and successes below 2^32.
unfoldable pub Bounded : Answer ℕ → Type 0
Bounded (refused_in item number place) = (item < items) × (1 ≤ number) × (number < numbers) × (place < places)
Bounded (success n) = n < places

-- A refusal's number is not 0.
abbrev pub Numbered : Answer ℕ → Type 0
Numbered (refused_in item number place) = 1 ≤ number
Numbered (success n) = Unit {0}

-- They are just those: of the answers whose number is not 0, none beyond them is read back from a word of 64 bits.
pub record BoundedExactly (a : Answer ℕ) : Type 0 where
  pub says : Bounded a → (word a < 2 ^ 64) × (of_word (word a) ≡ a)
  pub only : Numbered a → word a < 2 ^ 64 → of_word (word a) ≡ a → Bounded a
