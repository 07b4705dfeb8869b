use mathlib.Core.List.{List}
use Rattle.sheets_rules.specs.Model.{Library}
use Rattle.covers.specs.Cover.{Placed}
use Rattle.bill_text.specs.Inside.Promises.{Tallied, EntriesPut}
use Rattle.bill_text.proofs.put_entries.Given as goal

abbrev pub invariant-loop-cell : goal.invariant-loop-cell
invariant-loop-cell now = (l : Library) (xs : List Placed) → Tallied l xs now.entries now.initial.text → EntriesPut l xs now.cell now.initial.text now.text now.total
