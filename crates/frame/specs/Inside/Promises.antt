-- What is found out about an input.
use Rattle.std.specs.Prelude.{ℕ, ◌+◌, ◌*◌, ◌<◌, ◌≤◌, ◌≡◌, Bool, true, List, length, take, drop, Option, MatchOption}
use Rattle.std.specs.Borrow.{Bor, MutBor}
use Rattle.io.specs.Counts.{IsPrefixLen}
use Rattle.frame.specs.declared.Sheets.{Sheets}
use Rattle.frame.specs.Framed.{input_limit, sheet_at, sheet, spoiled}

-- How many lengths an input has at the most.
abbrev pub most_lengths : ℕ
most_lengths = 3

-- The input is spoiled, whether bytes may be left over or not.
abbrev pub IsSpoiled : (input : List ℕ) (lengths : ℕ) → Type 0
IsSpoiled input lengths = (exact : Bool) → spoiled input lengths exact ≡ true

-- The first k sheets of an input are taken.
pub record Taken (input : List ℕ) (lengths k : ℕ) (left : Sheets) : Type 0 where
  pub lengths_in : 2 * lengths ≤ length input
  pub in_limit : length input ≤ input_limit
  pub sheets_in : sheet_at input lengths k ≤ length input
  pub lengths_left : left.lengths.now ≡ drop (2 * k) (take (2 * lengths) input)
  pub bytes_left : left.bytes.now ≡ drop (sheet_at input lengths k) input

-- The next sheet of any input is taken, unless the input is spoiled.
abbrev pub TakesNext : (entry exit : Sheets) → Option (Bor (List ℕ)) → Type 0
TakesNext entry exit r = (input : List ℕ) (lengths k : ℕ) → k < lengths → Taken input lengths k entry →
    MatchOption r (IsSpoiled input lengths) (λ s. (s.now ≡ sheet input lengths k) × Taken input lengths (k + 1) exit)

-- Each call answers how many bytes it put at the front of the text that it was lent.
abbrev pub PutsFront : (Bor (List ℕ) → MutBor (List ℕ) → ℕ → MutBor (List ℕ) → Type 0) → Type 0
PutsFront post = (input : Bor (List ℕ)) (entry exit : MutBor (List ℕ)) (r : ℕ) → post input entry r exit → IsPrefixLen r exit.now
