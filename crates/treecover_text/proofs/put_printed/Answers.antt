use native.Mathlib.Omega.{arith}
use Rattle.text.specs.Text.{spaced, line}
use Rattle.frame.specs.Framed.{spoiled_line, framed}
use Rattle.treecover_text.specs.Printed.{printed}
use Rattle.treecover_text.proofs.put_printed.Goals as goal

pub put_spoiled-requires : goal.put_spoiled-requires
unfolding spoiled_line line spaced
put_spoiled-requires c = omega arith

pub returns-in-None : goal.returns-in-None
unfolding printed framed
returns-in-None c = rw c.in-None.ensures c.put_spoiled.ensures

pub returns-in-Some : goal.returns-in-Some
unfolding printed framed
returns-in-Some c = let (whole, library, tree) = c.in-Some.ensures in rw (whole, ← library, ← tree) c.put_map.ensures
