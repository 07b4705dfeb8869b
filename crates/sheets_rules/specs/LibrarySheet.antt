-- The library sheet, as document 01 lists it.
use Rattle.std.specs.Prelude.{ℕ, suc, ◌+◌, ◌-◌, List, [], ◌∷◌, Bool, true, cond, length, leb, eqb}
use Rattle.fields.specs.declared.Fault.TheVariants.{Drawing, Size}
use Rattle.shapes_rules.specs.declared.Rules.{Rules}
use Rattle.fields.specs.Reading.{Scan}
use Rattle.fields.specs.Reading.{At, Refused}
use Rattle.fields.specs.Reading.{Verdict}
use Rattle.fields.specs.Reading.{Faulty}
use Rattle.fields.specs.Reading.{Reader, done, ◌>>=◌, times, within, field, ended, place}
use Rattle.shapes_rules.specs.Shape.{symbols}
use Rattle.shapes_rules.specs.Drawing.{has_all, shape}
use Rattle.sheets_rules.specs.Model.{Shape, Pin, Cell, Library, patterns_from}

-- The load of the last bin before, or 0.
unfoldable pub last : List ℕ → ℕ
last [] = 0
last (x ∷ []) = x
last (x ∷ (y ∷ ys)) = last (y ∷ ys)

-- "Each cell: hold mark; area; highest load; pin count."
pub record Head : Type 0 where
  pub held : Bool
  pub area : ℕ
  pub highest : ℕ
  pub pins : ℕ

-- A pattern count that takes the total past 128 is one too many; then it has to be from 1 to 7.
unfoldable pub count_verdict : ℕ → ℕ → Verdict
count_verdict total x = cond (leb (total + x) 128) (within 1 7 x) (Faulty Size)

-- A pattern of a cell with `pins` pins: at most 16 nodes, its leaves numbered in 3 bits.
abbrev pub pattern_rules : ℕ → Rules
pattern_rules pins = record { width = 3; most = pins - 1; nodes = 16; pattern = true }

-- A pattern that lacks a pin is refused at its first bit, after its last node.
unfoldable pub complete : Bool → ℕ → Scan → Scan
complete whole first (At c) = cond whole (At c) (Refused Drawing first)
complete whole first (Refused f p) = Refused f p

module _ (s : List ℕ) where
  -- "Loads, 8 each, from 1 to 255, strictly ascending."
  unfoldable pub bin_load : List ℕ → Reader ℕ
  bin_load before = field s 8 (within (suc (last before)) 255)

  unfoldable pub head : Reader Head
  head = do
    held ← field s 1 (within 0 1)
    area ← field s 16 (within 1 65535)
    highest ← field s 8 (within 0 255)
    pins ← field s 3 (within 1 6)
    done (record { held = eqb held 1; area = area; highest = highest; pins = pins })

  -- "Then each pin: bin number, 2, below the bin count; intrinsic delay, 16; drive, 8."
  unfoldable pub pin : ℕ → List Pin → Reader Pin
  pin bins before = do
    bin ← field s 2 (within 0 (bins - 1))
    intrinsic ← field s 16 (within 0 65535)
    drive ← field s 8 (within 0 255)
    done (record { bin = bin; intrinsic = intrinsic; drive = drive })

  unfoldable pub pattern : ℕ → List Shape → Reader Shape
  pattern pins before c = let x = shape s (pattern_rules pins) c in (x.0, complete (has_all pins (symbols x.0)) (place c) x.1)

  -- "Then pattern count, 3, from 1 to 7, and the patterns", after `total` patterns of the cells before.
  unfoldable pub drawings : ℕ → ℕ → Reader (List Shape)
  drawings pins total = do
    count ← field s 3 (count_verdict total)
    times count (pattern pins)

  unfoldable pub cell : ℕ → ℕ → Reader Cell
  cell bins total = do
    h ← head
    ps ← times h.pins (pin bins)
    ds ← drawings h.pins total
    done (record { held = h.held; area = h.area; highest = h.highest; pins = ps; drawings = ds })

  -- Bins, cells, the end.
  unfoldable pub bins : Reader (List ℕ)
  bins = do
    count ← field s 3 (within 1 4)
    times count bin_load

  -- A cell, after those before it with their patterns.
  abbrev pub cell_after : ℕ → List Cell → Reader Cell
  cell_after bins before = cell bins (length (patterns_from 0 before))

  unfoldable pub cells : ℕ → Reader (List Cell)
  cells bins = do
    count ← field s 7 (within 1 64)
    times count (cell_after bins)

  unfoldable pub library : Reader Library
  library = do
    loads ← bins
    cs ← cells (length loads)
    λ c. (record { bins = loads; cells = cs }, ended s c)
