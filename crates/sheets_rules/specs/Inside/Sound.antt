-- The limits of a sound library and a sound tree that the theorems and the code above the sheets rest on, and a sound library in its record. Not all that makes a sheet sound: the sheets' definitions say that.
use Rattle.std.specs.Prelude.{ℕ, ◌≤◌, ◌<◌, ◌≡◌, length}
use mathlib.Core.List.{Memᴰ}
use Rattle.sheets_rules.specs.declared.LibraryRecord.{LibraryRecord}
use Rattle.sheets_rules.specs.declared.TreeRecord.{TreeRecord}
use Rattle.sheets_rules.specs.Inside.Layout.{library_laid, tree_laid}
use Rattle.sheets_rules.specs.Model.{Leaf, pin_of, arrival_of, Shape, leaf, inv, nand, size, leaves, nands, Pin, Cell, Library, Tree, patterns}

-- An inverter or a NAND.
abbrev pub IsGate : Shape → Type 0
IsGate (leaf x) = ⊥
IsGate (inv a) = Unit {0}
IsGate (nand a b) = Unit {0}

-- A drawing of a cell with `pins` pins. No pin stands twice, so it has fewer NANDs than pins, and no leaf is driven.
pub record SoundDrawing (pins : ℕ) (d : Shape) : Type 0 where
  pub size : size d ≤ 16
  pub gate : IsGate d
  pub leaves : (x : Leaf) → Memᴰ x (leaves d) → (pin_of x < pins) × (x.drive ≡ 0)
  pub nands : nands d < pins

-- A pin and a cell of a library with `bins` bins.
abbrev pub SoundPin : ℕ → Pin → Type 0
SoundPin bins p = (p.bin < bins) × (p.intrinsic ≤ 65535) × (p.drive ≤ 255)

pub record SoundCell (bins : ℕ) (c : Cell) : Type 0 where
  pub some_area : 1 ≤ c.area
  pub area : c.area ≤ 65535
  pub highest : c.highest ≤ 255
  pub some_pin : 1 ≤ length c.pins
  pub few_pins : length c.pins ≤ 6
  pub pins : (p : Pin) → Memᴰ p c.pins → SoundPin bins p
  pub some_drawing : 1 ≤ length c.drawings
  pub drawings : (d : Shape) → Memᴰ d c.drawings → SoundDrawing (length c.pins) d

pub record SoundLibrary (l : Library) : Type 0 where
  pub some_bin : 1 ≤ length l.bins
  pub few_bins : length l.bins ≤ 4
  pub loads : (x : ℕ) → Memᴰ x l.bins → x ≤ 255
  pub few_cells : length l.cells ≤ 64
  pub few_patterns : length (patterns l) ≤ 128
  pub cells : (c : Cell) → Memᴰ c l.cells → SoundCell (length l.bins) c

-- A leaf of a tree.
abbrev pub SoundLeaf : Leaf → Type 0
SoundLeaf x = (arrival_of x ≤ 1000000) × (x.drive ≤ 255)

pub record SoundTree (t : Tree) : Type 0 where
  pub load : t.load ≤ 255
  pub required : t.required ≤ 16777215
  pub size : size t.shape ≤ 64
  pub leaves : (x : Leaf) → Memᴰ x (leaves t.shape) → SoundLeaf x

-- A sound library and a sound tree in the records that their readers hand over.
pub record LibraryStored (l : Library) (library : LibraryRecord) : Type 0 where
  pub sound : SoundLibrary l
  pub library_is : library ≡ library_laid l

pub record TreeStored (t : Tree) (tree : TreeRecord) : Type 0 where
  pub sound : SoundTree t
  pub tree_is : tree ≡ tree_laid t
