use mathlib.Core.Path.{sym, subst}
use Rattle.std.specs.Prelude.{Err}
use Rattle.fields.specs.Reading.{start, Live}
use Rattle.sheets_rules.specs.Report.{tree_number, tree_said}
use Rattle.sheets_rules.specs.TreeSheet.{tree}
use Rattle.sheets_rules.specs.Inside.Sound.{TreeStored}
use Rattle.sheets_rules.specs.declared.Refusal.{Refusal}
use Rattle.sheets_rules.specs.Inside.Readers.{TreeIs}
use Rattle.sheets_rules.proofs.Results.{sound_says}
use Rattle.tree.proofs.Whole.{tree_refused}
use Rattle.tree.proofs.read_tree.Goals as goal

pub returns-in-Ok : goal.returns-in-Ok
unfolding tree_said
returns-in-Ok c =
    let h = c.in-Ok.ensures in
    sound_says TreeStored tree_number (tree c.args.s.now start) c.in-Ok.tree (subst Live (sym h.at) tt) h.holds

pub returns-in-Err : goal.returns-in-Err
returns-in-Err c = subst (λ (q : Refusal). TreeIs c.args.s.now (Err q)) (sym c.refuse.ensures) (tree_refused c.args.s.now c.in-Err.ensures)
