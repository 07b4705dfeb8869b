-- Document 02's Paper 5: "A leaf with code 0 has drive 0 and answers as today."
use Rattle.std.specs.Prelude.{ℕ, ◌≡◌, List}
use Rattle.sheets_rules.specs.TreeWritten.{CodedTree, tree_sheet, SoundCoded, plainly, Undriven, SameTree}
use Rattle.sheets_rules.specs.Report.{tree_report}
use Rattle.covers.specs.Outcome.{map_outcome, list_outcome}
use Rattle.judge_rules.specs.Judgement.{judgement}

-- Two tree sheets that are answered alike: by the judge of trees, and with a library's by map and by list, whatever is lent, and by the judge of covers, for every cover sheet.
pub record AnsweredAlike (ls ts ts' : List ℕ) : Type 0 where
  pub tree_alike : tree_report ts ≡ tree_report ts'
  pub map_alike : (output work : ℕ) → map_outcome ls ts output work ≡ map_outcome ls ts' output work
  pub list_alike : (output work : ℕ) → list_outcome ls ts output work ≡ list_outcome ls ts' output work
  pub judge_alike : (cs : List ℕ) → judgement ls ts cs ≡ judgement ls ts' cs

-- Sheets that say the same tree are.
abbrev pub SameTreeAlike : Type 0
SameTreeAlike = (ls ts ts' : List ℕ) → SameTree ts ts' → AnsweredAlike ls ts ts'

-- A tree whose driven leaves all have drive 0 is answered as the same tree with plain leaves.
abbrev pub DriveZero : Type 0
DriveZero = (ls : List ℕ) (load required : ℕ) (x : CodedTree) → SoundCoded load required x → Undriven x → AnsweredAlike ls (tree_sheet load required x) (tree_sheet load required (plainly x))
