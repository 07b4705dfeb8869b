use mathlib.Core.Path.{sym, subst}
use Rattle.std.specs.Prelude.{Err}
use Rattle.fields.proofs.Readers.{from_start}
use Rattle.sheets_rules.specs.declared.Refusal.{Refusal}
use Rattle.tree.proofs.Whole.{Judged, tree_judged, tree_flawed}
use Rattle.tree.proofs.judge_tree.Goals as goal

pub returns-in-Ok : goal.returns-in-Ok
returns-in-Ok c =
    let s = c.args.s.now in
    let j = tree_judged s (from_start s c.open-sheet.ensures c.in-Ok.ensures) in
    record { result_value = j.0; bounded = j.1 }

pub returns-in-Err : goal.returns-in-Err
returns-in-Err c =
    let s = c.args.s.now in
    let j = subst (λ (q : Refusal). Judged s (Err q)) (sym c.refuse.ensures) (tree_flawed s (from_start s c.open-sheet.ensures c.in-Err.ensures)) in
    record { result_value = j.0; bounded = j.1 }
