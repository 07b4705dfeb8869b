use mathlib.Core.Path.{◌≡◌, sym, ap, subst, ◌∙◌}
use Rattle.judge_rules.specs.Judgement.{of_point_word}
use Rattle.judge_rules.proofs.Demands.{point_word_reads}
use Rattle.judge_rules.specs.Public.{of_cover_judged, Judges}
use Rattle.interface.proofs.treecover_judge_cover.Goals as goal

pub returns-clause-judges : goal.returns-clause-judges
returns-clause-judges c =
    let a = c.args in
    let call = c.judge_cover in
    let said : of_point_word c.judged_word.result ≡ of_cover_judged call.result = ap of_point_word c.judged_word.ensures ∙ point_word_reads (of_cover_judged call.result) call.ensures.bounded in
    subst (Judges a.library.now a.tree.now a.cover.now) (sym said) call.ensures
