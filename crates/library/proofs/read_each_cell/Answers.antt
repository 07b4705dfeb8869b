use native.Mathlib.Omega.{arith}
use mathlib.Core.Path.{refl}
use mathlib.Core.List.{[], ◌∷◌}
use lib.ListN.{length-append}
use Rattle.fields.proofs.Readers.{stopped, none_yet, one_more, one_stops}
use Rattle.sheets_rules.specs.Model.{patterns_from}
use Rattle.sheets_rules.specs.LibrarySheet.{cell_after}
use Rattle.sheets_rules.specs.Inside.Layout.{table_from, pattern_rows}
use Rattle.library.proofs.Laws.{cell_keeps, cell_after_total, cells_more}
use Rattle.library.proofs.read_each_cell.Goals as goal

pub loop-k-init : goal.loop-k-init
unfolding patterns_from table_from pattern_rows
loop-k-init c = none_yet (λ s. cell_after s c.args.bins.count) c.args.sheet.now (refl, record { totalled = refl; few = omega arith; laid = refl })

pub returns-in_err-total : goal.returns-in_err-total
returns-in_err-total c =
    let a = c.args in
    let i = c.loop-k in
    let so = i.invariant in
    stopped _ c.from_residual.ensures.1
    (one_stops (λ s. cell_after s a.bins.count) i.k so (cell_after_total a.bins i.total _ so.takes.holds.1.totalled c.in_err-total.ensures) (omega arith) (omega arith)
    (λ s xs. cell_keeps a.bins _ s))

pub loop-k-preserved : goal.loop-k-preserved
loop-k-preserved c =
    let a = c.args in
    let i = c.loop-k in
    let so = i.invariant in
    one_more (λ s. cell_after s a.bins.count) i.k so (cell_after_total a.bins i.total _ so.takes.holds.1.totalled c.in_ok-total.ensures) (omega arith)
    (λ cs x h g. (omega (arith, length-append cs (x ∷ []), h.0), cells_more a.bins i.k i.total _ a.rows.now i.rows _ cs x h.0 h.1 g))
