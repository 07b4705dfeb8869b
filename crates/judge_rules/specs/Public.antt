-- What the judge of covers answers, and its whole contract.
use Rattle.std.specs.Prelude.{◌≡◌, List, ℕ, Result, Ok, Err}
use Rattle.fields.specs.Answer.{Answer, success}
use Rattle.sheets_rules.specs.declared.Refusal.{Refusal}
use Rattle.sheets_rules.specs.Report.{refusal}
use Rattle.covers.specs.Cover.{Point}
use Rattle.judge_rules.specs.Judgement.{judgement, PointBounded}
use Rattle.judge_rules.specs.Demands.{JudgedWhereSound}
use Rattle.judge_rules.specs.declared.Figures.{Figures}

-- What each case says: area and arrival, or the refusal.
unfoldable pub of_cover_judged : Result Figures Refusal → Answer Point
of_cover_judged (Ok f) = success (record { area = f.area; arrival = f.arrival })
of_cover_judged (Err r) = refusal r

-- The answer, within the bounds of a word, and what it is worth among all legal covers.
pub record Judges (ls ts cs : List ℕ) (o : Answer Point) : Type 0 where
  pub answer_is : o ≡ judgement ls ts cs
  pub demands : JudgedWhereSound ls ts cs o
  pub bounded : PointBounded o
