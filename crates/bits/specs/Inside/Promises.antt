-- What functions inside promise, beside the definitions of Bits.
use Rattle.std.specs.Prelude.{ℕ, Option, ◌^◌, ◌≤◌, ◌<◌, ◌≡◌, List, length, get_or}
use Rattle.bits.specs.declared.Cursor.{Cursor}
use Rattle.bits.specs.Bits.{after, field_at}

-- s has `bytes` bytes, and e the first of them: as many as e is long, with zeros after the last.
pub record Opens (e s : List ℕ) (bytes : ℕ) : Type 0 where
  pub first : (k : ℕ) → k < length e → get_or e k 0 ≡ get_or s k 0
  pub many : length s ≡ bytes

-- There are such bytes.
pub record Opened (e : List ℕ) (bytes : ℕ) : Type 0 where
  pub sheet : List ℕ
  pub opens : Opens e sheet bytes

-- The field of w bits at place i of all such bytes.
abbrev pub FieldOf : List ℕ → ℕ → ℕ → ℕ → Option (ℕ × Cursor) → Type 0
FieldOf e bytes i w r = (s : List ℕ) → Opens e s bytes → r ≡ field_at s i w

-- r is what the bit at place i is worth in its byte.
pub record Weight (i r : ℕ) : Type 0 where
  pub worth : r ≡ 2 ^ after i
  pub least : 1 ≤ r
  pub most : r ≤ 128
