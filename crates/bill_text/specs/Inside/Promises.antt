-- What the functions inside promise each other.
use Rattle.std.specs.Prelude.{ℕ, ◌+◌, ◌*◌, ◌^◌, ◌≤◌, ◌<◌, ◌≡◌, false, ltb, length, get_or}
use Rattle.std.specs.Borrow.{Bor}
use mathlib.Core.List.{List, [], flat_map, Memᴰ}
use Rattle.sheets_rules.specs.Model.{Library, cell_of, area_of, Tree}
use Rattle.sheets_rules.specs.Inside.Sound.{SoundLibrary, SoundTree}
use Rattle.sheets_rules.specs.Inside.Layout.{number_at, area_at, row_words, library_laid}
use Rattle.covers.specs.Lists.{keep_if}
use Rattle.covers.specs.Cover.{Placed}
use Rattle.covers.specs.CoverSheet.{match_count_width}
use Rattle.covers.specs.Promise.{RootCover}
use Rattle.result_sheets.specs.declared.CoverRecord.{CoverRecord}
use Rattle.result_sheets.specs.Public.{cover_of}
use Rattle.text.specs.declared.Text.{Text}
use Rattle.text.specs.Inside.Promises.{HasRoom, Appended}
use Rattle.bill_rules.specs.Bill.{uses, entries_below, amounts, bill}
use Rattle.bill_rules.specs.Billed.{is_spoiled, library_part, tree_part, cover_part, entry_line, bill_text}
use Rattle.bill_text.specs.declared.Entry.{Entry}

-- How many cells a library has at the most.
abbrev pub most_cells : ℕ
most_cells = 64

-- The line of a cell, if it is used.
unfoldable pub entry_text : (cell count amount : ℕ) → List ℕ
unfolding flat_map entry_line keep_if
entry_text cell count amount = flat_map entry_line (keep_if (ltb 0 count) (record { cell = cell; count = count; amount = amount }) [])

-- The rows tell of each listed match its cell and that cell's area, and the numbers are small.
pub record CellTold (l : Library) (rows : List ℕ) (x : Placed) : Type 0 where
  pub row_in : row_words * x.pattern + area_at < length rows
  pub cell_is : get_or rows (row_words * x.pattern + number_at) 0 ≡ cell_of l x.pattern
  pub area_is : get_or rows (row_words * x.pattern + area_at) 0 ≡ area_of l (cell_of l x.pattern)
  pub cell_small : cell_of l x.pattern < most_cells
  pub area_small : area_of l (cell_of l x.pattern) ≤ 65535

pub record Countable (l : Library) (rows : List ℕ) (xs : List Placed) : Type 0 where
  pub few : length xs < 2 ^ match_count_width
  pub told : (x : Placed) → Memᴰ x xs → CellTold l rows x

-- What is kept of a cell: how often it is used, and that times its area.
abbrev pub entry_at : Library → List Placed → ℕ → Entry
entry_at l xs n = record { count = uses l xs n; amount = uses l xs n * area_of l n }

abbrev pub no_entry : Entry
no_entry = record { count = 0; amount = 0 }

abbrev pub TallyIs : Library → List Placed → List Entry → Type 0
TallyIs l xs entries = (n : ℕ) → n < length entries → get_or entries n no_entry ≡ entry_at l xs n

-- The matches of a cover are counted and their areas added up by cell, whichever library the rows hold.
abbrev pub Tallies : List ℕ → List Placed → List Entry → Type 0
Tallies rows xs entries = (l : Library) → Countable l rows xs → TallyIs l xs entries

-- A tally of the first cells, and room for their lines.
pub record Tallied (l : Library) (xs : List Placed) (entries : List Entry) (text : Text) : Type 0 where
  pub tally_is : TallyIs l xs entries
  pub small : amounts (entries_below l xs (length entries)) < 2 ^ 32
  pub room : HasRoom (flat_map entry_line (entries_below l xs (length entries))) text

-- The lines of the first cells are put, and their total is known.
pub record EntriesPut (l : Library) (xs : List Placed) (cells : ℕ) (entry exit : Text) (total : ℕ) : Type 0 where
  pub lines_put : Appended (flat_map entry_line (entries_below l xs cells)) entry exit
  pub total_is : total ≡ amounts (entries_below l xs cells)

-- The lines of a tally are put, whichever matches it counts.
abbrev pub TallyPut : List Entry → (entry exit : Text) → ℕ → Type 0
TallyPut entries entry exit total = (l : Library) (xs : List Placed) → Tallied l xs entries entry → EntriesPut l xs (length entries) entry exit total

-- A legal cover, with the rows and the number of cells of a sound library and the required time of a sound tree.
pub record BillStored (l : Library) (t : Tree) (rows : List ℕ) (cells : ℕ) (cover : CoverRecord) (required : ℕ) : Type 0 where
  pub sound : SoundLibrary l
  pub tree : SoundTree t
  pub legal : RootCover l t (cover_of cover)
  pub rows_are : rows ≡ (library_laid l).rows
  pub cells_are : cells ≡ length l.cells
  pub required_is : required ≡ t.required
  pub count_small : cover.count < 2 ^ match_count_width

-- The bill of a legal cover is put, whichever library and tree are stored.
abbrev pub BillPut : List ℕ → ℕ → CoverRecord → ℕ → (entry exit : Text) → Type 0
BillPut rows cells cover required entry exit = (l : Library) (t : Tree) → BillStored l t rows cells cover required → Appended (bill_text (bill l t (cover_of cover))) entry exit

-- The three sheets of an input that is not spoiled.
abbrev pub AreSheets : (input : List ℕ) → Bor (List ℕ) × Bor (List ℕ) × Bor (List ℕ) → Type 0
AreSheets input (library, tree, cover) = (is_spoiled input ≡ false) × (library.now ≡ library_part input) × (tree.now ≡ tree_part input) × (cover.now ≡ cover_part input)
