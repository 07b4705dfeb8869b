use mathlib.Core.Path.{◌≡◌, sym, ap, subst, ◌∙◌}
use Rattle.fields.specs.Answer.{on_success, of_word}
use Rattle.sheets_rules.specs.Report.{of_library_word, of_library_judged}
use Rattle.sheets_rules.proofs.Report.{counts_read}
use Rattle.functions_rules.specs.Demands.{FunctionDemands}
use Rattle.interface.proofs.treecover_judge_functions.Goals as goal

pub returns-clause-function_demands : goal.returns-clause-function_demands
returns-clause-function_demands c =
    let a = c.args in
    let call = c.judge_functions in
    let said : on_success of_library_word (of_word c.counts_word.result) ≡ of_library_judged call.result =
    ap (λ w. on_success of_library_word (of_word w)) c.counts_word.ensures ∙ counts_read (of_library_judged call.result) call.ensures.library_bounded.0 call.ensures.library_bounded.1 in
    subst (FunctionDemands a.library.now a.functions.now) (sym said) call.ensures.function_demands
