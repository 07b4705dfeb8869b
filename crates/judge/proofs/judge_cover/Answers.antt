use mathlib.Core.Path.{sym, ◌∙◌}
use Rattle.std.proofs.lemmas.Result.{err_from_is_err_and}
use Rattle.fields.proofs.Answer.{answer_apart, after_success, after_refused}
use Rattle.sheets_rules.specs.Model.{Library}
use Rattle.sheets_rules.specs.Report.{library_said}
use Rattle.sheets_rules.specs.Inside.Sound.{LibraryStored}
use Rattle.sheets_rules.proofs.Results.{says_bounded}
use Rattle.judge_rules.specs.Judgement.{judgement}
use Rattle.judge_rules.specs.Public.{of_cover_judged}
use Rattle.judge.specs.Inside.Promises.{tree_judged}
use Rattle.judge.proofs.Judged.{judges}
use Rattle.judge.proofs.judge_cover.Goals as goal

pub with_library-requires : goal.with_library-requires
with_library-requires c = let said = c.in_ok-library.ensures.said in (said.0, said.2)

pub returns-in_err-library : goal.returns-in_err-library
unfolding of_cover_judged judgement
returns-in_err-library c =
    let a = c.args in
    let p = err_from_is_err_and c.from_residual.result c.from_residual.ensures.1 in
    let said = c.in_err-library.ensures.said in
    rw (p.1, p.2)
    (judges a.library.now a.tree.now a.cover.now (sym (after_refused (λ (l : Library). tree_judged l a.tree.now a.cover.now) said.0))
    (λ item number place. says_bounded LibraryStored (library_said a.library.now) c.read_library.result c.read_library.ensures.said) (λ l e. absurd (answer_apart (sym e ∙ said.0))))

pub returns : goal.returns
unfolding judgement
returns c =
    let a = c.args in
    let call = c.with_library in
    let said = c.in_ok-library.ensures.said in
    judges a.library.now a.tree.now a.cover.now (call.ensures.tree_judged said.0 said.2 ∙ sym (after_success (λ (l : Library). tree_judged l a.tree.now a.cover.now) said.1))
    (λ item number place. says_bounded LibraryStored (library_said a.library.now) c.read_library.result c.read_library.ensures.said) (λ l e. call.ensures.fitting)
