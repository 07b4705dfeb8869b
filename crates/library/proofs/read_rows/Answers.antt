use native.Mathlib.Omega.{arith}
use mathlib.Core.Path.{refl}
use mathlib.Core.List.{[], ◌∷◌}
use lib.ListN.{length-append}
use Rattle.fields.proofs.Readers.{stopped, none_yet, one_more, one_stops}
use Rattle.sheets_rules.specs.LibrarySheet.{pattern}
use Rattle.sheets_rules.specs.Inside.Layout.{table_from}
use Rattle.library.proofs.Laws.{pattern_keeps, rows_more}
use Rattle.library.proofs.read_rows.Goals as goal

pub loop-k-init : goal.loop-k-init
unfolding table_from
loop-k-init c = none_yet (λ s. pattern s c.args.numbered.cell.count) c.args.sheet.now (refl, refl)

pub returns-in_err-keep_row : goal.returns-in_err-keep_row
unfolding pattern
returns-in_err-keep_row c =
    let count = c.args.numbered.cell.count in
    stopped _ c.from_residual.ensures.1
    (one_stops (λ s. pattern s count) c.loop-k.k c.loop-k.invariant c.in_err-keep_row.ensures (omega arith) (omega arith) (λ s. pattern_keeps s count))

pub loop-k-preserved : goal.loop-k-preserved
unfolding pattern
loop-k-preserved c =
    let a = c.args in
    let i = c.loop-k in
    one_more (λ s. pattern s a.numbered.cell.count) i.k i.invariant c.in_ok-keep_row.ensures (omega arith)
    (λ xs x h g. (omega (arith, length-append xs (x ∷ []), h.0), rows_more a.numbered a.total i.k a.rows.now i.rows _ xs x h.0 h.1 g))
