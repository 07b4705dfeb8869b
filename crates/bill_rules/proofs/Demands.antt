-- What is printed for three sheets: the demands, and that it is short.
use Prim.Native.Nat.{ℕ}
use mathlib.Core.Path.{◌≡◌, sym, ap, ap₂, ◌∙◌}
use mathlib.Core.Bool.{true}
use mathlib.Core.List.{List}
use lib.ListN.{take}
use Rattle.fields.specs.Reading.{start}
use Rattle.fields.specs.Answer.{Answer, refused_in, success, on_success}
use Rattle.sheets_rules.specs.Model.{Tree}
use Rattle.sheets_rules.specs.LibrarySheet.{library}
use Rattle.sheets_rules.specs.TreeSheet.{tree}
use Rattle.sheets_rules.proofs.Sound.{library_limits}
use Rattle.sheets_rules.specs.Report.{tree_number, tree_said}
use Rattle.fields.proofs.Answer.{said_read}
use Rattle.covers.specs.Cover.{Point}
use Rattle.covers.specs.CoverSheet.{cover_read}
use Rattle.judge_rules.specs.Judgement.{judgement}
use Rattle.judge_rules.proofs.DriveZero.{same_tree_alike}
use Rattle.result_sheets.specs.Public.{Written}
use Rattle.frame.specs.Framed.{spoiled, sheet, outcome_text}
use Rattle.frame.proofs.Laws.{text_whole, front_is}
use Rattle.bill_rules.specs.Bill.{Bill, bill}
use Rattle.bill_rules.specs.Billed.{bill_text, bill_shown, longest_bill, billed, billed_within}
use Rattle.bill_rules.specs.Demands.{BillDemands, BilledWhereWhole, BilledAlike}
use Rattle.bill_rules.proofs.Accepted.{accepted}
use Rattle.bill_rules.proofs.Entries.{bill_is, bill_sums}
use Rattle.bill_rules.proofs.Fixed.{bill_fixed}

module _ (ls ts cs : List ℕ) where
  abbrev its_bill : Bill
  its_bill = bill (library ls start).0 (tree ts start).0 (cover_read cs start).0

  -- An accepted cover is answered by its bill.
  pub shown_bill : {p : Point} → judgement ls ts cs ≡ success p → bill_shown ls ts cs ≡ success (bill_text its_bill)
  unfolding bill_shown on_success
  shown_bill e = rw e

  pub shown_refusal : {i n k : ℕ} → judgement ls ts cs ≡ refused_in i n k → bill_shown ls ts cs ≡ refused_in i n k
  unfolding bill_shown on_success
  shown_refusal e = rw e

  pub bill_demands : (printed : List ℕ) → printed ≡ outcome_text (bill_shown ls ts cs) → BillDemands ls ts cs printed
  unfolding outcome_text
  bill_demands printed is = record {
    accepted = λ p e.
        let found = accepted ls ts cs p e in
        let sound = library_limits ls found.library_live in
        let its = bill_is (tree ts start).0 sound found.legal in
        (its_bill, is ∙ ap outcome_text (shown_bill e), its, λ b h. bill_fixed h its, bill_sums (tree ts start).0 sound found.legal, found.legal, found.point);
    not_accepted = λ item number place e. is ∙ ap outcome_text (shown_refusal e);
  }

-- What is written at the front of a text is worth what is demanded.
pub bill_worth : (room : ℕ) (input : List ℕ) {entry exit : List ℕ} {r : ℕ} → Written (billed_within room input) entry exit r → BilledWhereWhole room input (take r exit)
unfolding billed_within billed
bill_worth room input {exit = exit} {r = r} h long whole =
    let ls = sheet input 3 0 in
    let ts = sheet input 3 1 in
    let cs = sheet input 3 2 in
    bill_demands ls ts cs (take r exit) (front_is h ∙ text_whole longest_bill room (spoiled input 3 true) (bill_shown ls ts cs) long whole)

pub billed_alike : BilledAlike
unfolding bill_shown tree_said
billed_alike ls ts ts' cs s =
    ap₂ (λ (t : Tree) (o : Answer Point). on_success (λ p. bill_text (bill (library ls start).0 t (cover_read cs start).0)) o)
    ((said_read tree_number (tree ts start) s.first).0 ∙ sym (said_read tree_number (tree ts' start) s.second).0) ((same_tree_alike ls ts ts' s).judge_alike cs)
