-- What the readers of this crate and of those above it promise, each by the definitions of Reading.
use Rattle.std.specs.Prelude.{ℕ, ◌+◌, ◌≤◌, ◌≡◌, List, Result, Ok, Err, MatchResult}
use Rattle.bits.specs.declared.Cursor.{Cursor}
use Rattle.bits.specs.Bits.{place_of, cursor_at}
use Rattle.fields.specs.declared.Fault.{Fault}
use Rattle.fields.specs.declared.Flaw.{Flaw}
use Rattle.fields.specs.declared.Sheet.{Sheet}
use Rattle.fields.specs.Reading.{Scan, At, Refused, Verdict, Sound, Faulty, Reader}
pub use Rattle.fields.specs.Reading.{Flawed, Told, Tells}

-- What a definition reads was read: a value that holds it, and the scan stands at the cursor `after`, at `reach` at the most.
pub record Took {A B : Type 0} (Holds : A → B → Type 0) (x : A × Scan) (reach : ℕ) (after : Cursor) (b : B) : Type 0 where
  pub at : x.1 ≡ At after
  pub holds : Holds x.0 b
  pub near : place_of after ≤ reach

abbrev pub Takes : {A B : Type 0} → (A → B → Type 0) → A × Scan → ℕ → Cursor → Result B Flaw → Type 0
Takes Holds x reach after r = MatchResult r (Took Holds x reach after) (Flawed x reach)

-- What a reader of a sheet promises: from where it stood it took what a definition reads there, in `bits` bits at the most; the bytes are the same.
pub record Reads {A B : Type 0} (old new : Sheet) (reads : List ℕ → Reader A) (Holds : A → B → Type 0) (bits : ℕ) (r : Result B Flaw) : Type 0 where
  pub same : new.bytes.now ≡ old.bytes.now
  pub takes : Takes Holds (reads old.bytes.now (At old.at)) (place_of old.at + bits) new.at r

-- A value that is just the one read, `most` at the most.
abbrev pub UpTo : ℕ → ℕ → ℕ → Type 0
UpTo most x b = (b ≡ x) × (b ≤ most)

-- A sheet at its first bit.
pub record Opens (bytes : List ℕ) (sheet : Sheet) : Type 0 where
  pub bytes_are : sheet.bytes.now ≡ bytes
  pub at_start : sheet.at ≡ cursor_at 0
  pub place : place_of sheet.at ≡ 0

-- What follows the last field, at a cursor, is as wanted, or the scan is refused there.
abbrev pub Closes : (Scan → Scan) → Cursor → Result (Unit {0}) Flaw → Type 0
Closes closed c r = MatchResult r (λ _. closed (At c) ≡ At c) (λ e. (closed (At c) ≡ Refused e.fault e.place) × (e.place ≡ place_of c))

-- The verdict that a caller found, and what it says of a field that was read at a cursor.
abbrev pub verdict_of : Result (Unit {0}) Fault → Verdict
verdict_of (Ok u) = Sound
verdict_of (Err f) = Faulty f

abbrev pub Settles : Cursor → Verdict → Result (Unit {0}) Flaw → Type 0
Settles before v r = MatchResult r (λ _. v ≡ Sound) (λ e. (v ≡ Faulty e.fault) × (e.place ≡ place_of before))
