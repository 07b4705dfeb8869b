use native.Mathlib.Omega.{arith}
use Rattle.text.specs.Text.{spaced, line}
use Rattle.frame.specs.Framed.{spoiled_line, framed}
use Rattle.bill_rules.specs.Billed.{billed}
use Rattle.bill_text.proofs.Stored.{billed_whole}
use Rattle.bill_text.proofs.put_billed.Goals as goal

pub put_spoiled-requires : goal.put_spoiled-requires
unfolding spoiled_line line spaced
put_spoiled-requires c = omega arith

pub returns-in-None : goal.returns-in-None
unfolding billed framed
returns-in-None c = rw c.in-None.ensures c.put_spoiled.ensures

pub returns-in-Some : goal.returns-in-Some
returns-in-Some c = let (whole, library, tree, cover) = c.in-Some.ensures in rw (billed_whole c.args.input.now whole library tree cover) at c.put_judged.ensures
