use mathlib.Core.Path.{◌≡◌, refl, ap, ◌∙◌}
use mathlib.Core.Bool.{Bool, true, false, cond}
use mathlib.Core.List.{[], ◌∷◌}
use native.Mathlib.Omega.{arith}
use lib.ListN.{length}
use lib.Seq.{sets}
use mir.Val.{bool_byte}
use Rattle.sheets_rules.proofs.Rows.{cell_written}
use Rattle.library.proofs.Laws.{front_copied}
use Rattle.library.proofs.write_cell.Goals as goal

held_word : (b : Bool) → bool_byte b ≡ cond b 1 0
held_word true = refl
held_word false = refl

pub returns : goal.returns
returns c =
    let a = c.args in
    let cell = a.numbered.cell in
    let w = c.copy_from_slice in
    cell_written a.numbered.number c.from.result cell a.row.now _ c.write_figures.new.row (c.from.ensures ∙ held_word cell.held)
    (front_copied a.row.now w.new.self 5 (omega (arith, ap length w.ensures.after)) (omega arith)
    ∙ ap (sets a.row.now 0) (w.ensures.after ∙ (λ j. a.numbered.number ∷ (c.from.result ∷ (c.from-2.ensures j ∷ (c.from-3.ensures j ∷ (c.from-4.ensures j ∷ [])))))))
    c.write_figures.ensures
