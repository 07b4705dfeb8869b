use mathlib.Core.Path.{sym, ◌∙◌}
use Rattle.std.proofs.lemmas.Result.{err_from_is_err_and}
use Rattle.fields.specs.Reading.{start}
use Rattle.fields.proofs.Answer.{after_success, after_refused}
use Rattle.sheets_rules.specs.Report.{tree_said}
use Rattle.sheets_rules.specs.Inside.Sound.{TreeStored}
use Rattle.sheets_rules.proofs.Results.{says_bounded}
use Rattle.covers.specs.CoverSheet.{cover_read}
use Rattle.overlay.proofs.Sheets.{sheets_stored}
use Rattle.judge_rules.specs.Judgement.{cover_judged}
use Rattle.judge_rules.specs.Public.{of_cover_judged}
use Rattle.judge.proofs.with_library.Goals as goal

pub with_tree-requires : goal.with_tree-requires
with_tree-requires c = let said = c.in_ok-tree.ensures in (c.requires.0, (said.0, sheets_stored c.requires.1 said.2))

pub returns-in_err-tree : goal.returns-in_err-tree
unfolding of_cover_judged
returns-in_err-tree c =
    let p = err_from_is_err_and c.from_residual.result c.from_residual.ensures.1 in
    rw (p.1, p.2) (record {
      tree_judged = λ l h. sym (after_refused (cover_judged (cover_read c.args.cover.now start) l) c.in_err-tree.ensures.0);
      fitting = λ item number place. says_bounded TreeStored (tree_said c.args.tree.now) c.read_tree.result c.read_tree.ensures;
    })

pub returns : goal.returns
returns c =
    let said = c.in_ok-tree.ensures in
    record {
      tree_judged = λ l h. c.with_tree.ensures l said.0 (sheets_stored h said.2) ∙ sym (after_success (cover_judged (cover_read c.args.cover.now start) l) said.1);
      fitting = λ item number place. says_bounded TreeStored (tree_said c.args.tree.now) c.read_tree.result c.read_tree.ensures;
    }
