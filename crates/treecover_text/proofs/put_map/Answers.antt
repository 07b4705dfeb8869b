use native.Mathlib.Omega.{arith}
use mathlib.Core.Path.{sym, ap}
use lib.ListN.{length}
use lib.Seq.{length-take-le}
use Rattle.fields.specs.Answer.{Bounded}
use Rattle.sheets_rules.specs.Report.{number_of}
use Rattle.map_rules.specs.Public.{of_reply}
use Rattle.frame.proofs.Laws.{refusal_short}
use Rattle.treecover_text.proofs.Outcome.{replied}
use Rattle.treecover_text.proofs.put_map.Goals as goal

pub put_refusal-requires : goal.put_refusal-requires
unfolding of_reply Bounded
put_refusal-requires c =
    let q = c.in-Err.refusal in
    let (item, some, number, place) = c.in-Err.ensures.operated.bounded in
    omega (arith, refusal_short (number_of q.reason) q.place (omega arith) (omega arith))

pub slice_bounds-output-end : goal.slice_bounds-output-end
unfolding of_reply
slice_bounds-output-end c = (replied c.args.library.now c.args.tree.now c.in-Ok.ensures.operated).0

pub slice_bounds-put_sheet-end : goal.slice_bounds-put_sheet-end
unfolding of_reply
slice_bounds-put_sheet-end c = sym (length-take-le c.in-Ok.bytes c.map.new.output (replied c.args.library.now c.args.tree.now c.in-Ok.ensures.operated).0)

pub put_sheet-requires : goal.put_sheet-requires
unfolding of_reply
put_sheet-requires c =
    let says = (replied c.args.library.now c.args.tree.now c.in-Ok.ensures.operated).1 in
    record { sound = (says.live, says.read); printable = (says.rows, omega (arith, says.short, ap length says.text_is)) }

pub returns-in-Ok : goal.returns-in-Ok
unfolding of_reply
returns-in-Ok c = rw (replied c.args.library.now c.args.tree.now c.in-Ok.ensures.operated).1.text_is at c.put_sheet.ensures

pub returns-in-Err : goal.returns-in-Err
unfolding of_reply
returns-in-Err c = rw (replied c.args.library.now c.args.tree.now c.in-Err.ensures.operated) c.put_refusal.ensures
