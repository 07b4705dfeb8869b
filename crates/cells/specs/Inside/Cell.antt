-- What a pattern's row says of its cell, and when it holds the cell of a library.
use Rattle.std.specs.Prelude.{ℕ, ◌+◌, ◌*◌, ◌≤◌, ◌<◌, ◌≡◌, Bool, cond, ◌&&◌, List, get_or, length, leb, eqb}
use Rattle.sheets_rules.specs.Model.{Pin, Cell, Library}
use Rattle.sheets_rules.specs.Inside.Layout.{held_at, area_at, highest_at, pin_words, figures_at, row_words}
use Rattle.covers.specs.Match.{pin_at, pin_load}
use Rattle.cells.specs.declared.PinFigures.{PinFigures}

-- Whether a match of the cell that drives a load is legal.
unfoldable pub row_legal : List ℕ → ℕ → Bool
row_legal row load = eqb (get_or row held_at 0) 0 && leb load (get_or row highest_at 0)

-- The figures of a pin, by its number.
unfoldable pub row_figures : List ℕ → ℕ → PinFigures
row_figures row pin =
    let at = figures_at + pin_words * pin in
    record { bin = get_or row (at + 0) 0; load = get_or row (at + 1) 0; intrinsic = get_or row (at + 2) 0; drive = get_or row (at + 3) 0 }

-- What a pin with these figures adds to its input's arrival when the match drives a load.
unfoldable pub delay_of : PinFigures → ℕ → ℕ
delay_of f load = f.intrinsic + f.drive * load

-- A pin's figures are within the limits: one of four bins, an intrinsic delay of 16 bits, a load and a drive of 8.
pub record PinSafe (f : PinFigures) : Type 0 where
  pub bin : f.bin < 4
  pub load : f.load ≤ 255
  pub intrinsic : f.intrinsic ≤ 65535
  pub drive : f.drive ≤ 255

-- What such a pin adds at the most under a load of 8 bits.
abbrev pub slowest : ℕ
slowest = 65535 + 255 * 255

-- ---- a cell of a library

-- The figures of a pin of the library l.
unfoldable pub figures_of : Library → Pin → PinFigures
figures_of l p = record { bin = p.bin; load = pin_load l p; intrinsic = p.intrinsic; drive = p.drive }

-- The row holds the cell c of the library l: its hold mark, area and highest load, and its pins' figures.
pub record CellStored (l : Library) (row : List ℕ) (c : Cell) : Type 0 where
  pub long : length row ≡ row_words
  pub held_is : get_or row held_at 0 ≡ cond c.held 1 0
  pub area_is : get_or row area_at 0 ≡ c.area
  pub highest_is : get_or row highest_at 0 ≡ c.highest
  pub pins_are : (k : ℕ) → k < length c.pins → row_figures row k ≡ figures_of l (pin_at c k)
