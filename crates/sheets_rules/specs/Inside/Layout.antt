-- How a library and a tree are laid out in the records that the readers hand over.
use Rattle.std.specs.Prelude.{ℕ, zero, suc, ◌+◌, ◌*◌, List, [], ◌∷◌, ◌++◌, map, cond, length, get_or, take, replicate}
use Rattle.std.proofs.lemmas.List.Edits.{sets}
use Rattle.shapes_rules.specs.Shape.{symbols, sizes}
use Rattle.sheets_rules.specs.declared.PinRecord.{PinRecord}
use Rattle.sheets_rules.specs.declared.CellRecord.{CellRecord}
use Rattle.sheets_rules.specs.declared.LibraryRecord.{LibraryRecord}
use Rattle.sheets_rules.specs.declared.TreeRecord.{TreeRecord}
use Rattle.sheets_rules.specs.Model.{Shape, size, Pin, bin_load_of, Cell, Library, Pattern, patterns, Tree, pins_most}

-- A list at the front of an array of n places, the rest of which is blank.
abbrev pub padded : {A : Type 0} → ℕ → A → List A → List A
padded n blank xs = sets (replicate n blank) 0 xs

-- A pin of a library with these bin loads, what stands where there is no pin, and a cell.
abbrev pub pin_record : List ℕ → Pin → PinRecord
pin_record bins p = record { bin = p.bin; load = bin_load_of bins p; intrinsic = p.intrinsic; drive = p.drive }

abbrev pub no_pin : PinRecord
no_pin = record { bin = 0; load = 0; intrinsic = 0; drive = 0 }

unfoldable pub cell_laid : List ℕ → Cell → CellRecord
cell_laid bins c = record {
  held = c.held;
  area = c.area;
  highest = c.highest;
  count = length c.pins;
  pins = padded pins_most no_pin (map (pin_record bins) c.pins);
}

-- A pattern's row: the number of its cell and the cell's words, then how many nodes the pattern has, and their symbols in preorder. Where
-- its parts stand, how many words a pin takes and a row has, and how many a table of 128 rows has.
abbrev pub number_at : ℕ
number_at = 0

abbrev pub held_at : ℕ
held_at = 1

abbrev pub area_at : ℕ
area_at = 2

abbrev pub highest_at : ℕ
highest_at = 3

abbrev pub pins_at : ℕ
pins_at = 4

abbrev pub pin_words : ℕ
pin_words = 4

abbrev pub figures_at : ℕ
figures_at = 5

abbrev pub size_at : ℕ
size_at = figures_at + pin_words * pins_most

abbrev pub symbols_at : ℕ
symbols_at = suc size_at

abbrev pub row_words : ℕ
row_words = symbols_at + 16

abbrev pub table_words : ℕ
table_words = row_words * 128

-- A pin's load bin, that bin's load, its intrinsic delay and its drive; those of the first pins; all words of a cell.
unfoldable pub pin_figures : CellRecord → ℕ → List ℕ
pin_figures cell p = let q = get_or cell.pins p no_pin in q.bin ∷ (q.load ∷ (q.intrinsic ∷ (q.drive ∷ [])))

unfoldable pub figures : CellRecord → ℕ → List ℕ
figures cell zero = []
figures cell (suc p) = figures cell p ++ pin_figures cell p

unfoldable pub cell_words : CellRecord → List ℕ
cell_words cell = cond cell.held 1 0 ∷ (cell.area ∷ (cell.highest ∷ (cell.count ∷ figures cell pins_most)))

unfoldable pub row : ℕ → CellRecord → Shape → List ℕ
row number cell x = number ∷ (cell_words cell ++ (size x ∷ symbols x))

-- Rows in a table with a stride, from row i on.
unfoldable pub table_from : ℕ → List ℕ → ℕ → List (List ℕ) → List ℕ
table_from stride l i [] = l
table_from stride l i (r ∷ rs) = table_from stride (sets l (stride * i) r) (suc i) rs

-- Every pattern's row, by its number.
unfoldable pub pattern_row : List ℕ → Pattern → List ℕ
pattern_row bins p = row p.cell_number (cell_laid bins p.cell) p.drawing

unfoldable pub pattern_rows : List ℕ → List Pattern → List (List ℕ)
pattern_rows bins ps = map (pattern_row bins) ps

unfoldable pub library_laid : Library → LibraryRecord
library_laid l = record {
  bins = record { count = length l.bins; loads = padded 4 0 l.bins };
  count = length l.cells;
  total = length (patterns l);
  rows = table_from row_words (replicate table_words 0) 0 (pattern_rows l.bins (patterns l));
}

-- What map and list are lent of it: the rows of the patterns there are.
unfoldable pub pattern_table : Library → List ℕ
pattern_table l = take (row_words * length (patterns l)) (library_laid l).rows

unfoldable pub tree_laid : Tree → TreeRecord
tree_laid t = record {
  load = t.load;
  required = t.required;
  count = size t.shape;
  symbols = padded 64 0 (symbols t.shape);
  sizes = padded 64 0 (sizes t.shape);
}
