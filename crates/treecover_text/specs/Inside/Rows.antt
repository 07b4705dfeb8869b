-- The text of a cover, where the patterns' rows give the cells.
use Rattle.std.specs.Prelude.{ℕ, ◌*◌, ◌<◌, ◌≡◌, false, length, get_or}
use Rattle.std.specs.Borrow.{Bor}
use mathlib.Core.List.{List, [], ◌∷◌, ◌++◌, flat_map, Memᴰ}
use Rattle.fields.specs.Reading.{start}
use Rattle.sheets_rules.specs.LibrarySheet.{library}
use Rattle.sheets_rules.specs.Inside.Layout.{row_words, library_laid}
use Rattle.covers.specs.Cover.{Placed, Cover}
use Rattle.covers.specs.CoverSheet.{cover_read}
use Rattle.text.specs.Text.{decimal, line}
use Rattle.text.specs.declared.Text.{Text}
use Rattle.text.specs.Inside.Promises.{HasRoom}
use Rattle.frame.specs.Framed.{spoiled, sheet, rest}
use Rattle.treecover_text.specs.Printed.{cover_line}

-- The rows of a library's patterns, and the cover that a sheet says.
abbrev pub rows_of : (library : List ℕ) → List ℕ
rows_of bytes = (library_laid (library bytes start).0).rows

abbrev pub cover_in : (sheet : List ℕ) → Cover
cover_in sheet = (cover_read sheet start).0

module _ (rows : List ℕ) where
  -- A match.
  unfoldable pub row_line : Placed → List ℕ
  unfolding line decimal
  row_line x = line (decimal x.node ∷ decimal (get_or rows (row_words * x.pattern) 0) ∷ decimal x.pattern ∷ decimal x.crossing ∷ [])

  unfoldable pub row_lines : List Placed → List ℕ
  unfolding row_line flat_map
  row_lines = flat_map row_line

  unfoldable pub row_text : Cover → List ℕ
  unfolding cover_line row_lines
  row_text c = cover_line c.point.area c.point.arrival (length c.placed) ++ row_lines c.placed

  -- There is a row for each match's pattern.
  abbrev pub HaveRows : List Placed → Type 0
  HaveRows xs = (x : Placed) → Memᴰ x xs → row_words * x.pattern < length rows

  -- And the text has room.
  abbrev pub Printable : Cover → Text → Type 0
  Printable c text = HaveRows c.placed × HasRoom (row_text c) text

-- The library and the tree of an input that is not spoiled.
abbrev pub AreSheets : (input : List ℕ) → Bor (List ℕ) × Bor (List ℕ) → Type 0
AreSheets input (library, tree) = (spoiled input 1 false ≡ false) × (library.now ≡ sheet input 1 0) × (tree.now ≡ rest input 1)
