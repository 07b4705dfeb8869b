-- What a row that holds a cell says is what the rules say of the cell.
use Prim.Native.Nat.{ℕ, ◌*◌, ◌≤◌, ◌<◌}
use mathlib.Core.Path.{◌≡◌, refl, ap, ap₂, ◌∙◌}
use mathlib.Core.Bool.{Bool, true, false, cond, ◌&&◌, not}
use mathlib.Core.List.{List}
use native.Mathlib.Nat.{mul-le-mul}
use native.Mathlib.Omega.{arith}
use lib.ListN.{length}
use lib.Dec.{leb, eqb}
use Rattle.sheets_rules.specs.Model.{Pin, Cell, Library}
use Rattle.sheets_rules.specs.Inside.Sound.{SoundCell, SoundLibrary}
use Rattle.covers.specs.Match.{Input, usable, legal, delay, pin_at, pin_load}
use Rattle.covers.specs.Cover.{feeds, input_delay}
use Rattle.covers.proofs.Basics.{at_all}
use Rattle.cells.specs.declared.PinFigures.{PinFigures}
use Rattle.cells.specs.Inside.Cell.{row_legal, row_figures, delay_of, PinSafe, slowest, figures_of, CellStored}

-- A match is legal by the row if it is.
pub legal_is : {l : Library} {row : List ℕ} {c : Cell} → CellStored l row c → (load : ℕ) → row_legal row load ≡ legal c load
unfolding row_legal legal usable
legal_is {c = c} stored load = ap₂ (λ (a b : ℕ). eqb a 0 && leb load b) stored.held_is stored.highest_is ∙ go c.held
  where
    go : (b : Bool) → eqb (cond b 1 0) 0 && leb load c.highest ≡ (not b && leb load c.highest)
    go true = refl
    go false = refl

-- The figures of the pin that an input feeds, and what that pin adds.
pub figures_are : {l : Library} {row : List ℕ} {c : Cell} → CellStored l row c → (i : Input) → i.pin < length c.pins → {pin : ℕ} → pin ≡ i.pin → row_figures row pin ≡ figures_of l (feeds c i)
unfolding feeds
figures_are {row = row} stored i h e = ap (row_figures row) e ∙ stored.pins_are i.pin h

pub delay_is : (l : Library) (c : Cell) (load : ℕ) (i : Input) → delay_of (figures_of l (feeds c i)) load ≡ input_delay c load i
unfolding delay_of figures_of input_delay delay
delay_is l c load i = refl

-- The pins of a sound library are within the limits.
pub pin_safe : {l : Library} {c : Cell} → SoundLibrary l → SoundCell (length l.bins) c → (i : Input) → PinSafe (figures_of l (feeds c i))
unfolding figures_of feeds pin_at pin_load
pin_safe {l} {c} library cell i =
    let pin = at_all (λ (p : Pin). (p.bin < 4) × (p.intrinsic ≤ 65535) × (p.drive ≤ 255)) c.pins i.pin (record { bin = 0; intrinsic = 0; drive = 0 }) (omega arith, omega arith, omega arith)
    (λ p m. let s = cell.pins p m in (omega (arith, s.0, library.few_bins), s.1, s.2)) in
    record { bin = pin.0; load = at_all (λ x. x ≤ 255) l.bins (pin_at c i.pin).bin 0 (omega arith) library.loads; intrinsic = pin.1; drive = pin.2 }

-- What such a pin adds at the most.
pub drive_small : {f : PinFigures} → PinSafe f → (load : ℕ) → load ≤ 255 → f.drive * load ≤ 255 * 255
drive_small safe load h = mul-le-mul safe.drive h

pub delay_small : {f : PinFigures} → PinSafe f → (load : ℕ) → load ≤ 255 → delay_of f load ≤ slowest
unfolding delay_of
delay_small safe load h = omega (arith, safe.intrinsic, drive_small safe load h)
