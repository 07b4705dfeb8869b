-- Inputs that hold several sheets with their lengths in front, and the texts that answer them.
use Prim.Native.Nat.{ℕ, zero, suc, ◌+◌, ◌*◌}
use Rattle.std.specs.Prelude.{Bool, cond, ◌&&◌, ◌||◌, List, [], ◌∷◌, leb, length, get_or}
use Rattle.std.proofs.Math.Dec.{ltb}
use Rattle.std.proofs.Math.ListN.{take, drop}
use Rattle.fields.specs.Answer.{Answer, refused_in, success}
use Rattle.text.specs.Text.{decimal, line, spaced}

-- ---- an input

-- The most bytes that an input has.
abbrev pub input_limit : ℕ
input_limit = 4096

module _ (input : List ℕ) where
  -- The length numbered k, from 0: "16 bits, high byte first".
  unfoldable pub stated_length : (k : ℕ) → ℕ
  stated_length k = 256 * get_or input (2 * k) 0 + get_or input (2 * k + 1) 0

  -- After `count` lengths come as many sheets, one after another. Where the sheet numbered k begins, which is where the one before it ends.
  unfoldable pub sheet_at : (lengths k : ℕ) → ℕ
  unfolding stated_length
  sheet_at lengths zero = 2 * lengths
  sheet_at lengths (suc k) = sheet_at lengths k + stated_length k

  -- The sheet numbered k, and all that is left after the last.
  unfoldable pub sheet : (lengths k : ℕ) → List ℕ
  unfolding stated_length sheet_at
  sheet lengths k = take (stated_length k) (drop (sheet_at lengths k) input)

  unfoldable pub rest : (lengths : ℕ) → List ℕ
  unfolding sheet_at
  rest lengths = drop (sheet_at lengths lengths) input

  -- Fewer bytes than the lengths take, more than 4,096, or fewer than the lengths say; and where nothing may be left, more than they say.
  unfoldable pub spoiled : (lengths : ℕ) (exact : Bool) → Bool
  unfolding sheet_at
  spoiled lengths exact =
      ltb (length input) (2 * lengths)
      || ltb input_limit (length input)
      || ltb (length input) (sheet_at lengths lengths)
      || (exact && ltb (sheet_at lengths lengths) (length input))

-- ---- the text for an input

-- The fixed words `refused` and `spoiled`, in ASCII.
abbrev pub refused_word : List ℕ
refused_word = 114 ∷ 101 ∷ 102 ∷ 117 ∷ 115 ∷ 101 ∷ 100 ∷ []

abbrev pub spoiled_word : List ℕ
spoiled_word = 115 ∷ 112 ∷ 111 ∷ 105 ∷ 108 ∷ 101 ∷ 100 ∷ []

-- `refused`, number and place.
unfoldable pub refusal_line : (number place : ℕ) → List ℕ
unfolding line spaced decimal
refusal_line number place = line (refused_word ∷ decimal number ∷ decimal place ∷ [])

unfoldable pub spoiled_line : List ℕ
unfolding line spaced
spoiled_line = line (spoiled_word ∷ [])

-- An answer whose success is its text.
unfoldable pub outcome_text : Answer (List ℕ) → List ℕ
unfolding refusal_line
outcome_text (refused_in item number place) = refusal_line number place
outcome_text (success text) = text

-- `spoiled`, or what is answered to the sheets.
unfoldable pub framed : (is_spoiled : Bool) → Answer (List ℕ) → List ℕ
unfolding spoiled_line outcome_text
framed is_spoiled answer = cond is_spoiled spoiled_line (outcome_text answer)

-- What is put into a text that is lent `room` bytes: nothing if they are fewer than the longest text may take.
unfoldable pub within : (longest room : ℕ) → List ℕ → List ℕ
within longest room text = cond (leb longest room) text []
