use native.Mathlib.Omega.{arith}
use mathlib.Core.Path.{sym, ap}
use Rattle.sheets_rules.specs.Report.{number_of}
use Rattle.judge_rules.specs.Judgement.{PointBounded}
use Rattle.judge_rules.specs.Public.{of_cover_judged}
use Rattle.frame.specs.Framed.{outcome_text}
use Rattle.frame.proofs.Laws.{refusal_short}
use Rattle.bill_rules.proofs.Demands.{shown_refusal}
use Rattle.bill_text.proofs.put_judged.Goals as goal

pub put_refusal-requires : goal.put_refusal-requires
unfolding of_cover_judged PointBounded
put_refusal-requires c =
    let q = c.in-Err.refusal in
    let (item, number, place) = c.in-Err.ensures.bounded in
    omega (arith, refusal_short (number_of q.reason) q.place (omega arith) (omega arith))

pub put_accepted-requires : goal.put_accepted-requires
unfolding of_cover_judged
put_accepted-requires c = (c.requires, (_, sym c.in-Ok.ensures.answer_is))

pub returns-in-Err : goal.returns-in-Err
unfolding outcome_text of_cover_judged
returns-in-Err c =
    let a = c.args in
    rw (ap outcome_text (shown_refusal a.library.now a.tree.now a.cover.now (sym c.in-Err.ensures.answer_is))) c.put_refusal.ensures
