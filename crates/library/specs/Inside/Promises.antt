-- What the readers inside this crate hand over, by the sheet's definitions. The bound on the place is what the next reader needs.
use Rattle.std.specs.Prelude.{ℕ, ◌+◌, ◌*◌, ◌≤◌, ◌≡◌, List, map, ◌⊎◌, length}
use Rattle.std.proofs.lemmas.List.Edits.{sets}
use Rattle.bits.specs.Bits.{place_of}
use Rattle.fields.specs.declared.Sheet.{Sheet}
use Rattle.shapes_rules.specs.Shape.{symbols}
use Rattle.sheets_rules.specs.declared.Bins.{Bins}
use Rattle.sheets_rules.specs.declared.Counts.{Counts}
use Rattle.sheets_rules.specs.declared.PinRecord.{PinRecord}
use Rattle.library.specs.declared.NumberedCell.{NumberedCell}
use Rattle.library.specs.declared.CellHead.{CellHead}
use Rattle.library.specs.declared.Contents.{Contents}
use Rattle.sheets_rules.specs.Model.{Shape, size, Pin, Cell, Library, patterns_from, patterns, pins_most}
use Rattle.sheets_rules.specs.LibrarySheet.{Head}
use Rattle.sheets_rules.specs.Inside.Layout.{padded, pin_record, no_pin, cell_laid, row_words, table_words, row, table_from, pattern_rows, library_laid}
use Rattle.shapes.specs.Inside.Promises.{reach}

-- `bits` bits more are within reach: what each reader asks for the part it reads.
abbrev pub InReach : Sheet → ℕ → Type 0
InReach sheet bits = place_of sheet.at + bits ≤ reach

-- A table for the rows of patterns, or none where they are not kept.
abbrev pub Tabled : List ℕ → Type 0
Tabled rows = (length rows ≡ table_words) ⊎ (length rows ≡ 0)

-- A cell's pin count.
abbrev pub HasPins : ℕ → Type 0
HasPins pins = (1 ≤ pins) × (pins ≤ 6)

-- The row of a pattern of a cell.
abbrev pub row_under : NumberedCell → Shape → List ℕ
row_under numbered = row numbered.number numbered.cell

-- The bin loads in their array, and the bins.
abbrev pub LoadsHold : List ℕ → List ℕ → Type 0
LoadsHold xs loads = loads ≡ padded 4 0 xs

pub record BinsHold (xs : List ℕ) (b : Bins) : Type 0 where
  pub counted : b.count ≡ length xs
  pub loads : b.loads ≡ padded 4 0 xs
  pub few : b.count ≤ 4

pub record HeadHolds (h : Head) (r : CellHead) : Type 0 where
  pub held : r.held ≡ h.held
  pub area : r.area ≡ h.area
  pub highest : r.highest ≡ h.highest
  pub pins : r.pins ≡ h.pins
  pub has_pins : HasPins r.pins

-- A pin, and a cell's pins in their array.
abbrev pub PinHolds : Bins → Pin → PinRecord → Type 0
PinHolds bins p r = r ≡ pin_record bins.loads p

abbrev pub PinsHold : Bins → List Pin → List PinRecord → Type 0
PinsHold bins ps r = r ≡ padded pins_most no_pin (map (pin_record bins.loads) ps)

-- A pattern's size, its symbols laid out in l, which became l'.
pub record PatternHolds (l l' : List ℕ) (x : Shape) (n : ℕ) : Type 0 where
  pub sized : n ≡ size x
  pub small : n ≤ 16
  pub laid : l' ≡ sets l 0 (symbols x)

-- Its row, and the same as the row with a number in a table; with no table nothing is laid out.
pub record RowHolds (numbered : NumberedCell) (l l' : List ℕ) (x : Shape) (u : Unit {0}) : Type 0 where
  pub laid : l' ≡ sets l 0 (row_under numbered x)
  pub few : length (row_under numbered x) ≤ row_words

abbrev pub RowKept : NumberedCell → ℕ → List ℕ → List ℕ → Shape → Unit {0} → Type 0
RowKept numbered number l l' x u = l' ≡ sets l (row_words * number) (row_under numbered x)

-- The patterns of a cell, their rows laid out in l from row `total` on.
abbrev pub RowsHold : NumberedCell → ℕ → List ℕ → List ℕ → List Shape → Unit {0} → Type 0
RowsHold numbered total l l' xs u = l' ≡ table_from row_words l total (map (row_under numbered) xs)

-- A pattern count, after `total` patterns.
pub record CountHolds (total x n : ℕ) : Type 0 where
  pub is : n ≡ x
  pub few : n ≤ 7
  pub fits : total + n ≤ 128

pub record DrawingsHold (numbered : NumberedCell) (total : ℕ) (l l' : List ℕ) (xs : List Shape) (n : ℕ) : Type 0 where
  pub counted : n ≡ length xs
  pub fits : total + n ≤ 128
  pub laid : l' ≡ table_from row_words l total (map (row_under numbered) xs)

pub record CellHolds (bins : Bins) (number total : ℕ) (l l' : List ℕ) (c : Cell) (n : ℕ) : Type 0 where
  pub counted : n ≡ length c.drawings
  pub fits : total + n ≤ 128
  pub laid : l' ≡ table_from row_words l total (map (row number (cell_laid bins.loads c)) c.drawings)

-- How many patterns the cells have.
pub record PatternsHold (bins : Bins) (l l' : List ℕ) (cs : List Cell) (n : ℕ) : Type 0 where
  pub totalled : n ≡ length (patterns_from 0 cs)
  pub few : n ≤ 128
  pub laid : l' ≡ table_from row_words l 0 (pattern_rows bins.loads (patterns_from 0 cs))

pub record CellsHold (bins : Bins) (l l' : List ℕ) (cs : List Cell) (n : Counts) : Type 0 where
  pub counted : n.cells ≡ length cs
  pub cells_few : n.cells ≤ 64
  pub patterns_are : PatternsHold bins l l' cs n.patterns

-- The whole library, its rows laid out in l.
pub record ContentsHold (l l' : List ℕ) (x : Library) (r : Contents) : Type 0 where
  pub bins_are : r.bins ≡ (library_laid x).bins
  pub counted : r.counts.cells ≡ (library_laid x).count
  pub totalled : r.counts.patterns ≡ (library_laid x).total
  pub cells_few : r.counts.cells ≤ 64
  pub patterns_few : r.counts.patterns ≤ 128
  pub laid : l' ≡ table_from row_words l 0 (pattern_rows x.bins (patterns x))
