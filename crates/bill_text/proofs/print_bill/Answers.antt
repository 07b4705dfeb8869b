use native.Mathlib.Omega.{arith}
use mathlib.Core.Path.{refl, ap}
use mathlib.Core.Bool.{true}
use lib.ListN.{length}
use Rattle.result_sheets.specs.Public.{Written}
use Rattle.frame.specs.Framed.{spoiled, sheet}
use Rattle.frame.proofs.Laws.{text_none, counted}
use Rattle.bill_rules.specs.Billed.{bill_shown, longest_bill, billed, billed_within}
use Rattle.bill_rules.proofs.Demands.{bill_worth}
use Rattle.bill_text.proofs.Stored.{front_written}
use Rattle.bill_text.proofs.print_bill.Goals as goal

pub returns-then-text-lt-LONGEST : goal.returns-then-text-lt-LONGEST
unfolding billed_within billed
returns-then-text-lt-LONGEST c =
    let input = c.args.input.now in
    let text = c.args.text.now in
    let none = text_none longest_bill (length text) (spoiled input 3 true) (bill_shown (sheet input 3 0) (sheet input 3 1) (sheet input 3 2)) c.if-text-lt-LONGEST.true in
    let written : Written (billed_within (length text) input) text text 0 = rw none (record { bytes = refl; output = refl }) in
    record { written = written; prefix_len = (counted written).1; billed_where_whole = bill_worth (length text) input written }

pub put_billed-requires : goal.put_billed-requires
put_billed-requires c = let new = c.new-text.ensures in omega (arith, ap length new.same_bytes)

pub returns-clause-written : goal.returns-clause-written
returns-clause-written c = front_written _ c.args.input.now c.if-text-lt-LONGEST.false c.new-text.ensures.same_bytes c.new-text.ensures.none c.put_billed.ensures (grind arith)

pub returns-clause-billed_where_whole : goal.returns-clause-billed_where_whole
returns-clause-billed_where_whole c =
    bill_worth _ c.args.input.now (front_written _ c.args.input.now c.if-text-lt-LONGEST.false c.new-text.ensures.same_bytes c.new-text.ensures.none c.put_billed.ensures (grind arith))
