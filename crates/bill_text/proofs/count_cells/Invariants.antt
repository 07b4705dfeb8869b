use mathlib.Core.Path.{◌≡◌}
use mathlib.Core.List.{map}
use lib.ListN.{length, take}
use Rattle.sheets_rules.specs.Model.{Library}
use Rattle.result_sheets.specs.Public.{placed_of}
use Rattle.bill_text.specs.Inside.Promises.{Countable, TallyIs}
use Rattle.bill_text.proofs.count_cells.Given as goal

abbrev pub invariant-loop-one : goal.invariant-loop-one
invariant-loop-one now = (length now.entries ≡ 64) × ((l : Library) → Countable l now.rows (map placed_of now.matches) → TallyIs l (map placed_of (take now.one-index now.matches)) now.entries)
