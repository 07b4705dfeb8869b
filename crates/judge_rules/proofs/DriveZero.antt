-- A leaf with drive 0 is a plain leaf, on either code.
use mathlib.Core.Path.{ap}
use Rattle.fields.specs.Reading.{start}
use Rattle.fields.specs.Answer.{Answer, ◌>>=◌, on_success}
use Rattle.sheets_rules.specs.Model.{Tree, size}
use Rattle.sheets_rules.specs.Report.{library_said, tree_report}
use Rattle.sheets_rules.specs.TreeWritten.{tree_sheet, plainly}
use Rattle.sheets_rules.proofs.TreeWritten.{same_with_plain, same_said}
use Rattle.covers.specs.CoverSheet.{cover_read}
use Rattle.covers.specs.Outcome.{map_bytes, list_bytes, map_outcome, list_outcome}
use Rattle.covers.specs.Answer.{map_answer, list_answer}
use Rattle.covers.proofs.Demands.{operation_alike}
use Rattle.judge_rules.specs.Judgement.{cover_judged, judgement}
use Rattle.judge_rules.specs.DriveZero.{SameTreeAlike, DriveZero}

pub same_tree_alike : SameTreeAlike
unfolding tree_report map_outcome list_outcome judgement
same_tree_alike ls ts ts' s = record {
  tree_alike = ap (on_success (λ (t : Tree). size t.shape)) (same_said s);
  map_alike = λ output work. operation_alike map_bytes map_answer ls ts ts' output work (same_said s);
  list_alike = λ output work. operation_alike list_bytes list_answer ls ts ts' output work (same_said s);
  judge_alike = λ cs. ap (λ (o : Answer Tree). library_said ls >>= (λ l. o >>= (λ t. cover_judged (cover_read cs start) l t))) (same_said s);
}

pub drive_zero : DriveZero
drive_zero ls load required x sound undriven = same_tree_alike ls (tree_sheet load required x) (tree_sheet load required (plainly x)) (same_with_plain load required x sound undriven)
