-- What the judge's answers are worth, said of the bits of the function sheet and of every setting. All of it holds for any two lists of bytes.
use Rattle.std.specs.Prelude.{ℕ, zero, suc, ◌+◌, ◌*◌, ◌≤◌, ◌<◌, ◌≡◌, ◌↔◌, true, false, length, get_or, take, drop}
use mathlib.Core.List.{List, ◌∷◌, Memᴰ}
use Rattle.bits.specs.Bits.{bit_at, ends_at}
use Rattle.fields.specs.Reading.{start, Live}
use Rattle.fields.specs.Answer.{Answer, refused, success}
use Rattle.sheets_rules.specs.Model.{Library, Pattern, patterns}
use Rattle.sheets_rules.specs.LibrarySheet.{library}
use Rattle.sheets_rules.specs.Report.{LibraryCounts, counts_of, library_report}
use Rattle.functions_rules.specs.Function.{settings, value}
use Rattle.functions_rules.specs.FunctionSheet.{pin_counts}
use Rattle.functions_rules.specs.Report.{torn_number, tail_number, other_number}

-- The first bit of the field of the cell with a number, where the cells have these pin counts: the fields of the cells before stand in front of it. After the last cell it is the first bit after all fields.
unfoldable pub first_bit : List ℕ → ℕ → ℕ
first_bit pins zero = 0
first_bit pins (suc n) = first_bit pins n + settings (get_or pins n 0)

module _ (fs : List ℕ) (l : Library) where
  -- The drawing of a pattern has the stated value in a setting: the bit of that setting in the field of the pattern's cell.
  abbrev pub HasStated : Pattern → ℕ → Type 0
  HasStated p setting = value setting p.drawing ≡ bit_at fs (first_bit (pin_counts l) p.cell_number + setting)

  -- In every setting of its cell's pins.
  abbrev pub Right : Pattern → Type 0
  Right p = (setting : ℕ) → setting < settings (length p.cell.pins) → HasStated p setting

  -- In some setting it has another value.
  abbrev pub Other : Pattern → Type 0
  Other p = (setting : ℕ) × (setting < settings (length p.cell.pins)) × (HasStated p setting → ⊥)

  -- The bytes are a function sheet: they end after the last field.
  abbrev pub SheetSound : Type 0
  SheetSound = ends_at fs (first_bit (pin_counts l) (length (pin_counts l))) ≡ true

  -- The pattern numbered k is the first that is not right.
  pub record FirstOther (k : ℕ) : Type 0 where
    pub pattern : Pattern
    pub later : List Pattern
    pub there : drop k (patterns l) ≡ pattern ∷ later
    pub other : Other pattern
    pub right_before : (p : Pattern) → Memᴰ p (take k (patterns l)) → Right p

  -- The bytes end before or inside the field that starts at place p, and no earlier one.
  pub record Torn (p : ℕ) : Type 0 where
    pub cell : ℕ
    pub inside : cell < length (pin_counts l)
    pub first : p ≡ first_bit (pin_counts l) cell
    pub whole_before : p ≤ 8 * length fs
    pub torn : 8 * length fs < first_bit (pin_counts l) (suc cell)

  -- All fields are there, and the bytes do not end after the last.
  pub record BadTail (p : ℕ) : Type 0 where
    pub first : p ≡ first_bit (pin_counts l) (length (pin_counts l))
    pub whole : p ≤ 8 * length fs
    pub bad : ends_at fs p ≡ false

-- What a library sheet says, and that it is sound.
abbrev pub library_of : List ℕ → Library
library_of ls = (library ls start).0

abbrev pub LibrarySound : List ℕ → Type 0
LibrarySound ls = Live (library ls start).1

-- When each answer is said to the library sheet ls and the function sheet fs.
pub record FunctionDemands (ls fs : List ℕ) (o : Answer LibraryCounts) : Type 0 where
  -- A library that is not sound is refused as its own judge refuses it, whatever the function sheet.
  pub library_first : (LibrarySound ls → ⊥) → o ≡ library_report ls
  -- Success exactly when both sheets are sound and every drawing of every cell has the stated value in every setting; the counts are the library's.
  pub accepted_exactly : (counts : LibraryCounts) → (o ≡ success counts) ↔ (LibrarySound ls × SheetSound fs (library_of ls) × ((p : Pattern) → Memᴰ p (patterns (library_of ls)) → Right fs (library_of ls) p) × (counts ≡ counts_of (library_of ls)))
  -- 33 exactly when both sheets are sound and some drawing has another value in some setting; its place is the lowest such pattern.
  pub other_exactly : (k : ℕ) → (o ≡ refused other_number k) ↔ (LibrarySound ls × SheetSound fs (library_of ls) × FirstOther fs (library_of ls) k)
  -- 31 exactly when the library is sound and the bytes end before or inside a field; its place is that field's first bit.
  pub torn_exactly : (k : ℕ) → (o ≡ refused torn_number k) ↔ (LibrarySound ls × Torn fs (library_of ls) k)
  -- 32 exactly when the library is sound, every field is there and the tail is bad; its place is the first bit after the last field.
  pub tail_exactly : (k : ℕ) → (o ≡ refused tail_number k) ↔ (LibrarySound ls × BadTail fs (library_of ls) k)
