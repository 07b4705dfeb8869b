use native.Mathlib.Omega.{arith}
use lib.Seq.{take_all}
use Rattle.result_sheets.specs.Public.{no_match}
use Rattle.treecover_text.proofs.Laws.{lines_none, line_row, line_fits, line_put}
use Rattle.treecover_text.proofs.put_matches.Goals as goal

pub loop-one-init : goal.loop-one-init
loop-one-init c = lines_none c.args.rows.now c.args.matches.now c.args.text.now

pub put_match-requires : goal.put_match-requires
put_match-requires c =
    let rows = c.args.rows.now in
    let ms = c.args.matches.now in
    let k = c.loop-one.one-index in
    (line_row rows ms k no_match c.loop-one-test.true c.requires.0, omega (arith, line_fits rows ms k no_match c.loop-one-test.true))

pub loop-one-preserved : goal.loop-one-preserved
loop-one-preserved c = line_put c.args.rows.now c.args.matches.now c.loop-one.one-index no_match c.loop-one-test.true c.loop-one.invariant c.put_match.ensures

pub returns : goal.returns
returns c = rw (take_all c.loop-one.one-index c.args.matches.now c.loop-one-test.false) at c.loop-one.invariant
