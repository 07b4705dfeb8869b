use mathlib.Core.Path.{sym, subst, ◌∙◌}
use Rattle.std.proofs.lemmas.Result.{err_from_is_err_and}
use Rattle.fields.proofs.Answer.{after_success}
use Rattle.functions_rules.specs.Demands.{FunctionDemands}
use Rattle.functions_rules.specs.Report.{sheet_judged, functions_report}
use Rattle.functions_rules.proofs.Demands.{demands}
use Rattle.functions.proofs.Sheet.{library_refused, library_limits}
use Rattle.functions.proofs.judge_functions.Goals as goal

pub with_library-requires : goal.with_library-requires
with_library-requires c = let said = c.in_ok-library.ensures.said in (said.0, said.2)

pub returns-in_err-library : goal.returns-in_err-library
returns-in_err-library c =
    let p = err_from_is_err_and c.from_residual.result c.from_residual.ensures.1 in
    let ls = c.args.library.now in
    let fs = c.args.functions.now in
    let e = library_refused ls fs _ c.in_err-library.ensures in
    rw (p.1, p.2) (record { result_value = e; function_demands = subst (FunctionDemands ls fs) (sym e) (demands ls fs); library_bounded = library_limits ls fs _ c.in_err-library.ensures })

pub returns : goal.returns
unfolding functions_report
returns c =
    let ls = c.args.library.now in
    let fs = c.args.functions.now in
    let said = c.in_ok-library.ensures.said in
    let e = c.with_library.ensures.sheet_judged said.0 said.2 ∙ sym (after_success (sheet_judged fs) said.1) in
    record { result_value = e; function_demands = subst (FunctionDemands ls fs) (sym e) (demands ls fs); library_bounded = c.with_library.ensures.library_bounded }
