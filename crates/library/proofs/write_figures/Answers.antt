use native.Mathlib.Omega.{arith}
use mathlib.Core.Path.{refl, ap, ◌∙◌}
use mathlib.Core.List.{[], ◌∷◌}
use Prim.Native.Nat.{◌+◌, ◌-◌, ◌*◌}
use lib.ListN.{length}
use lib.Seq.{sets}
use Rattle.sheets_rules.specs.Inside.Layout.{pin_words, figures_at, pin_figures, figures}
use Rattle.sheets_rules.proofs.Rows.{figures_turn}
use Rattle.library.proofs.Laws.{mid_copied}
use Rattle.library.proofs.write_figures.Goals as goal

pub loop-p-init : goal.loop-p-init
unfolding figures
loop-p-init c = refl

pub loop-p-preserved : goal.loop-p-preserved
unfolding pin_figures
loop-p-preserved c =
    let a = c.args in
    let i = c.loop-p in
    let w = c.copy_from_slice in
    let at = figures_at + pin_words * i.p in
    figures_turn a.cell i.p a.row.now i.row _ i.invariant
    (mid_copied i.row at (at + pin_words - at) w.new.self (omega (arith, ap length w.ensures.after)) (omega (arith, i.auto.row))
    ∙ ap (sets i.row at) (w.ensures.after ∙ (λ j. c.from.ensures j ∷ (c.from-in-loop-p.ensures j ∷ (c.from-in-loop-p-2.ensures j ∷ (c.from-in-loop-p-3.ensures j ∷ []))))))
