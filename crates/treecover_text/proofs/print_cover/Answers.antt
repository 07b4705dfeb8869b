use native.Mathlib.Omega.{arith}
use mathlib.Core.Path.{refl, ap}
use mathlib.Core.Bool.{false}
use lib.ListN.{length}
use Rattle.result_sheets.specs.Public.{Written}
use Rattle.frame.specs.Framed.{spoiled, sheet, rest}
use Rattle.frame.proofs.Laws.{text_none, counted}
use Rattle.treecover_text.specs.Printed.{map_shown, longest_text, printed, printed_within}
use Rattle.treecover_text.proofs.Outcome.{front_written, text_worth}
use Rattle.treecover_text.proofs.print_cover.Goals as goal

pub returns-then-text-lt-LONGEST : goal.returns-then-text-lt-LONGEST
unfolding printed_within printed
returns-then-text-lt-LONGEST c =
    let input = c.args.input.now in
    let text = c.args.text.now in
    let none = text_none longest_text (length text) (spoiled input 1 false) (map_shown (sheet input 1 0) (rest input 1)) c.if-text-lt-LONGEST.true in
    let written : Written (printed_within (length text) input) text text 0 = rw none (record { bytes = refl; output = refl }) in
    record { written = written; prefix_len = (counted written).1; printed_where_whole = text_worth (length text) input written }

pub put_printed-requires : goal.put_printed-requires
put_printed-requires c = let new = c.new-text.ensures in omega (arith, ap length new.same_bytes)

pub returns-clause-written : goal.returns-clause-written
returns-clause-written c = front_written _ c.args.input.now c.if-text-lt-LONGEST.false c.new-text.ensures.same_bytes c.new-text.ensures.none c.put_printed.ensures (grind arith)

pub returns-clause-printed_where_whole : goal.returns-clause-printed_where_whole
returns-clause-printed_where_whole c =
    text_worth _ c.args.input.now (front_written _ c.args.input.now c.if-text-lt-LONGEST.false c.new-text.ensures.same_bytes c.new-text.ensures.none c.put_printed.ensures (grind arith))
