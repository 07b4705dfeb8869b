use mathlib.Core.Path.{◌∙◌}
use Rattle.frame.proofs.Laws.{length_next, sheet_missing, sheet_is, taken_more}
use Rattle.frame.proofs.Sheets.take_sheet.Goals as goal

pub returns-in_err-sheet : goal.returns-in_err-sheet
returns-in_err-sheet c = λ input lengths k l h.
    let says = c.length_of.ensures.0 ∙ length_next input lengths l h _ c.in_ok-high.ensures.cases.0 in
    rw c.from_residual-in_err-sheet.ensures (sheet_missing input lengths l h says c.in_err-sheet.ensures.cases)

pub returns : goal.returns
returns c = λ input lengths k l h.
    let first = c.in_ok-high.ensures.cases in
    let split = c.in_ok-sheet.ensures.cases in
    let says = c.length_of.ensures.0 ∙ length_next input lengths l h _ first.0 in
    (split.1 ∙ sheet_is input lengths l h says, taken_more input lengths l h says split.0 first.1 split.2)
