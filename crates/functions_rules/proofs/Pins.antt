-- How many pins the cells have.
use Prim.Native.Nat.{ℕ}
use mathlib.Core.Path.{◌≡◌, ap, ◌∙◌}
use lib.ListN.{length, get_or, length-map}
use Rattle.fields.proofs.Lists.{at_map}
use Rattle.sheets_rules.specs.Model.{Cell, Library, Pattern}
use Rattle.sheets_rules.proofs.Patterns.{SoundPattern, no_cell}
use Rattle.functions_rules.specs.FunctionSheet.{pin_counts}

-- The pin count of a pattern's cell.
pub pattern_pins : {l : Library} {p : Pattern} → SoundPattern l p → get_or (pin_counts l) p.cell_number 0 ≡ length p.cell.pins
unfolding pin_counts
pattern_pins {l} {p} known =
    let pins : Cell → ℕ = λ c. length c.pins in
    at_map pins l.cells p.cell_number no_cell 0 known.number_small ∙ ap pins (known.cell_at no_cell)

-- There is one for each cell.
pub count_pins : (l : Library) → length (pin_counts l) ≡ length l.cells
unfolding pin_counts
count_pins l = length-map l.cells _
