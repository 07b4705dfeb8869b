-- The words in which a sheet is defined: a field, its verdict, then, n times, the end.
-- A scan stands at a place of the bytes, or was refused: a fault at a place. A refused scan stays as it is, so the first field at fault decides;
-- what is read after a refusal is 0 and means nothing.
use Rattle.std.specs.Prelude.{ℕ, zero, suc, List, [], ◌∷◌, ◌++◌, Bool, cond, ◌&&◌, leb, ◌≤◌, ◌≡◌, Option, Some, None, Result, MatchResult}
use Rattle.bits.specs.Bits.{place_of, cursor_at, field_at, filled_at, ends_at}
use Rattle.bits.specs.declared.Cursor.{Cursor}
use Rattle.fields.specs.declared.Fault.{Fault}
use Rattle.fields.specs.declared.Flaw.{Flaw}
use Rattle.fields.specs.declared.Fault.TheVariants.{Truncated, Tail, Range}

-- A scan of a sheet: at a place, or refused for good.
pub data Scan : Type 0 where
  At : Cursor → Scan
  Refused : Fault → ℕ → Scan

-- What is to be said of a field's value.
pub data Verdict : Type 0 where
  Sound : Verdict
  Faulty : Fault → Verdict

-- Where a scan stands, or was refused.
abbrev pub place : Scan → ℕ
place (At c) = place_of c
place (Refused f p) = p

-- The scan of a whole sheet starts at its first bit.
abbrev pub start : Scan
start = At (cursor_at 0)

-- A reader takes a scan to a value and the next scan.
abbrev pub Reader : Type 0 → Type 0
Reader A = Scan → A × Scan

abbrev pub done : {A : Type 0} → A → Reader A
done a c = (a, c)

-- One reader, and then another that may look at what was read.
infixl 10 ◌>>=◌
abbrev pub ◌>>=◌ : {A B : Type 0} → Reader A → (A → Reader B) → Reader B
◌>>=◌ r f c = f (r c).0 (r c).1

-- n times; each turn may look at what the turns before it read.
unfoldable pub times : {A : Type 0} → ℕ → (List A → Reader A) → Reader (List A)
times zero r = done []
times (suc n) r = do
  xs ← times n r
  x ← r xs
  done (xs ++ (x ∷ []))

-- Every value is sound; a value has to be from least to most.
abbrev pub free : ℕ → Verdict
free x = Sound

unfoldable pub within : ℕ → ℕ → ℕ → Verdict
within least most x = cond (leb least x && leb x most) Sound (Faulty Range)

-- The scan after a field at place p: a fault of its value is refused at the field's first bit.
abbrev pub settled : ℕ → Verdict → ℕ → Scan → ℕ × Scan
settled p Sound x c = (x, c)
settled p (Faulty f) x c = (0, Refused f p)

abbrev pub scanned : ℕ → (ℕ → Verdict) → Option (ℕ × Cursor) → ℕ × Scan
scanned p verdict None = (0, Refused Truncated p)
scanned p verdict (Some (x, c)) = settled p (verdict x) x (At c)

-- What follows the last field is refused there if it is not as wanted.
abbrev pub tailed : (ℕ → Bool) → Scan → Scan
tailed wanted (At c) = cond (wanted (place_of c)) (At c) (Refused Tail (place_of c))
tailed wanted (Refused f p) = Refused f p

module _ (s : List ℕ) where
  -- A field of w bits. That the bytes end before or inside it is the first fault looked for.
  abbrev pub field : ℕ → (ℕ → Verdict) → Reader ℕ
  field w verdict (At c) = scanned (place_of c) verdict (field_at s (place_of c) w)
  field w verdict (Refused f p) = (0, Refused f p)

  -- The rest of the byte after a sheet's last field: zero bits.
  abbrev pub filled : Scan → Scan
  filled = tailed (filled_at s)

  -- The end of a sheet: zero bits to the byte, and no byte more.
  abbrev pub ended : Scan → Scan
  ended = tailed (ends_at s)

-- The scan was not refused.
abbrev pub Live : Scan → Type 0
Live (At c) = Unit {0}
Live (Refused f p) = ⊥

-- ---- what is handed over of a whole sheet

-- The definition refuses with this flaw.
pub record Flawed {A : Type 0} (x : A × Scan) (reach : ℕ) (e : Flaw) : Type 0 where
  pub says : x.1 ≡ Refused e.fault e.place
  pub near : e.place ≤ reach

-- A whole sheet was read: what stands beside it holds what the definition reads, which is not refused; or the definition refuses with the flaw.
pub record Told {A B : Type 0} (Holds : A → B → Type 0) (x : A × Scan) (b : B) : Type 0 where
  pub live : Live x.1
  pub holds : Holds x.0 b

abbrev pub Tells : {A B : Type 0} → (A → B → Type 0) → A × Scan → ℕ → Result B Flaw → Type 0
Tells Holds x reach r = MatchResult r (Told Holds x) (Flawed x reach)
