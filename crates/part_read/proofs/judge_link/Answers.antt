use native.Mathlib.Omega.{arith}
use Rattle.part_read.proofs.Links.{not_leaf, leaf_taken, not_lower, right, link_refused}
use Rattle.part_read.proofs.judge_link.Goals as goal

pub returns-then-tree-link-lt-LEAF : goal.returns-then-tree-link-lt-LEAF
returns-then-tree-link-lt-LEAF c trees before x h = link_refused _ c.refuse.ensures (not_leaf h (omega arith)) (omega arith, omega arith) (omega (arith, c.requires))

pub returns-then-driver-ne0 : goal.returns-then-driver-ne0
returns-then-driver-ne0 c trees before x h = link_refused _ c.refuse-then-driver-ne0.ensures (leaf_taken h (omega arith) c.if-driver-ne0.true) (omega arith, omega arith) (omega (arith, c.requires))

pub returns-then-link : goal.returns-then-link
returns-then-link c trees before x h = link_refused _ c.refuse-then-link.ensures (not_lower h (omega arith) c.if-driver-ne0.false (omega arith)) (omega arith, omega arith) (omega (arith, c.requires))

pub returns : goal.returns
returns c trees before x h = (_, right h (omega arith) c.if-driver-ne0.false (omega arith))
