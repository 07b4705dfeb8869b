-- What the functions of this crate are lent and what they promise, and when tables and records hold a sound library and a sound tree.
use Rattle.std.specs.Prelude.{ℕ, ◌+◌, ◌-◌, ◌/◌, ◌%◌, ◌^◌, ◌≤◌, ◌<◌, max, ◌≡◌, ◌≢◌, Bool, cond, get_or, length, set, eqb, Result, Ok, Err}
use mathlib.Core.List.{List, map, Memᴰ}
use Rattle.std.proofs.Math.Option.{none, some}
use Rattle.shapes_rules.specs.Shape.{symbols, sizes}
use Rattle.sheets_rules.specs.declared.LibraryRecord.{LibraryRecord}
use Rattle.sheets_rules.specs.declared.TreeRecord.{TreeRecord}
use Rattle.sheets_rules.specs.Model.{Leaf, pin_of, Shape, size, leaves, nands, Library, Pattern, Tree, pins_most}
use Rattle.sheets_rules.specs.Inside.Sound.{SoundCell, SoundLibrary, SoundTree}
pub use Rattle.sheets_rules.specs.Inside.Sound.{LibraryStored}
use Rattle.sheets_rules.specs.Inside.Layout.{padded, row_words, pattern_table, tree_laid}
use Rattle.covers.specs.Crossing.{exchanged, redrawn}
use Rattle.covers.specs.Match.{Input, Match, laid}
use Rattle.cells.specs.Inside.Cell.{CellStored}
use Rattle.overlay.specs.declared.Input.{Input as InputRecord}
use Rattle.overlay.specs.declared.Inputs.{Inputs}
use Rattle.overlay.specs.declared.Left.{Left}
use Rattle.overlay.specs.Inside.Standing.{Subject, DrawingStored, Drawn}

-- ---- a pattern's row

-- The row holds the pattern p of the library l.
pub record PatternStored (l : Library) (row : List ℕ) (p : Pattern) : Type 0 where
  pub drawing : DrawingStored row p.drawing
  pub cell : CellStored l row p.cell

-- ---- the inputs of a match

-- An input as it is kept, and what stands where there is none.
abbrev pub input_of : Input → InputRecord
input_of i = record { pin = i.pin; node = i.node }

abbrev pub blank_input : InputRecord
blank_input = record { pin = 0; node = 0 }

-- Inputs as they are kept.
unfoldable pub inputs_of : List Input → Inputs
inputs_of is = record { count = length is; list = padded pins_most blank_input (map input_of is) }

-- One input more.
abbrev pub pushed : Inputs → InputRecord → Inputs
pushed r i = record { count = r.count + 1; list = set r.list r.count i }

-- ---- a walk

-- One branch more waits.
abbrev pub waits : Left → ℕ → Left
waits left spot = record { spot = left.spot; depth = left.depth + 1; waiting = set left.waiting left.depth spot; used = left.used }

-- A walk may pass the gate that it stands at: there is room for what waits, and the numbers are small.
pub record Passable (left : Left) (symbol : ℕ) (words : List ℕ) : Type 0 where
  pub near : left.spot ≤ 255
  pub few : left.depth < 6
  pub waiting_long : length left.waiting ≡ 6
  pub words_long : length words ≡ 16
  pub used_few : left.used ≤ 5
  pub number : symbol ≢ 0 → left.spot / 32 ≤ 4
  pub first : symbol ≢ 0 → (left.spot + 33) % 32 < 16
  pub second : symbol ≢ 0 → left.spot + 33 + get_or words ((left.spot + 33) % 32) 0 ≤ 255

-- A walk past a NAND: which branch is next, and which waits.
unfoldable pub branched : Bool → Left → (first second : ℕ) → Left
branched exchange left first second = record {
  spot = cond exchange second first;
  depth = left.depth + 1;
  waiting = set left.waiting left.depth (cond exchange first second);
  used = max left.used (left.spot / 32 + 1);
}

-- A walk past a gate with this symbol.
unfoldable pub passed : Left → ℕ → List ℕ → ℕ → Left
passed left symbol words crossing =
    let first = left.spot + 33 in
    cond (eqb symbol 0)
    (record { spot = left.spot + 1; depth = left.depth; waiting = left.waiting; used = left.used })
    (branched (exchanged crossing (left.spot / 32)) left first (first + get_or words (first % 32) 0))

-- A walk at the branch that waited last.
unfoldable pub resumed : Left → Left
resumed left = record { spot = get_or left.waiting (left.depth - 1) 0; depth = left.depth - 1; waiting = left.waiting; used = left.used }

-- That branch was taken from those that wait: a walk that goes to its spot is there.
pub record Popped (left after : Left) (spot : ℕ) : Type 0 where
  pub some_waits : 0 < left.depth
  pub resumed_is : record { spot = spot; depth = after.depth; waiting = after.waiting; used = after.used } ≡ resumed left

-- The row and the extents hold the drawing d, and the arrays hold the subtree s at node n.
pub record Walkable (row words ss zs : List ℕ) (n : ℕ) (d s : Shape) : Type 0 where
  pub long : length row ≡ row_words
  pub words_long : length words ≡ 16
  pub drawn : Drawn row words 0 d
  pub small : size d ≤ 16
  pub few : nands d ≤ 5
  pub pinned : (x : Leaf) → Memᴰ x (leaves d) → (pin_of x < 6) × (x.drive ≡ 0)
  pub subject : Subject ss zs n s

-- Two crossings have the same first `used` bits.
abbrev pub SameBits : ℕ → ℕ → ℕ → Type 0
SameBits used x y = x / 2 ^ (5 - used) ≡ y / 2 ^ (5 - used)

-- A walk of a drawing under a crossing found a match, with these inputs.
pub record WalkFound (d s : Shape) (n crossing : ℕ) (r : Inputs) : Type 0 where
  pub inputs : List Input
  pub laid_is : laid (redrawn crossing d) n s ≡ some inputs
  pub inputs_are : r ≡ inputs_of inputs

-- It found none: none of the crossings that have the same first bits, as many as it used, has one.
pub record WalkMissed (d s : Shape) (n crossing used : ℕ) : Type 0 where
  pub used_few : used ≤ nands d
  pub ruled_out : (y : ℕ) → SameBits used crossing y → laid (redrawn y d) n s ≡ none

-- What a walk answers is what there is.
abbrev pub WalkIs : (d s : Shape) (n crossing : ℕ) → Result Inputs ℕ → Type 0
WalkIs d s n crossing (Ok r) = WalkFound d s n crossing r
WalkIs d s n crossing (Err used) = WalkMissed d s n crossing used

-- The drawing in a row walked over the subtree at node n, whichever these are.
abbrev pub DrawingWalked : (row words : List ℕ) → (crossing : ℕ) → (ss zs : List ℕ) → (n : ℕ) → Result Inputs ℕ → Type 0
DrawingWalked row words crossing ss zs n r = (d s : Shape) → Walkable row words ss zs n d s → WalkIs d s n crossing r

-- A match as the walk found it, with its pattern's row.
pub record MatchStored (l : Library) (inputs : Inputs) (row : List ℕ) (m : Match) : Type 0 where
  pub inputs_are : inputs ≡ inputs_of m.inputs
  pub cell : CellStored l row m.pattern.cell
  pub sound : SoundCell (length l.bins) m.pattern.cell
  pub few : length m.inputs ≤ 6
  pub pinned : (i : Input) → Memᴰ i m.inputs → i.pin < length m.pattern.cell.pins

-- ---- a library and a tree

-- A sound library and a sound tree in the records that the readers hand over.
pub record SheetsStored (l : Library) (t : Tree) (library : LibraryRecord) (tree : TreeRecord) : Type 0 where
  pub read : LibraryStored l library
  pub tree_sound : SoundTree t
  pub tree_is : tree ≡ tree_laid t

-- The library l and the tree t as decoded: the patterns' rows, and the tree's symbols and sizes.
pub record Decoded (l : Library) (t : Tree) (rows ss zs : List ℕ) : Type 0 where
  pub library : SoundLibrary l
  pub tree : SoundTree t
  pub rows_are : rows ≡ pattern_table l
  pub symbols_are : ss ≡ padded 64 0 (symbols t.shape)
  pub sizes_are : zs ≡ padded 64 0 (sizes t.shape)
