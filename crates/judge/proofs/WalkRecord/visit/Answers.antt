use mathlib.Core.Path.{sym, ap, subst, ◌∙◌}
use Rattle.covers.specs.Cover.{leaf_arrival}
use Rattle.leaves.specs.Inside.Leaf.{leaf_of}
use Rattle.judge.specs.Inside.Promises.{WalkStored}
use Rattle.judge.proofs.Stored.{visit_arrived, visit_pushed}
use Rattle.judge.proofs.WalkRecord.visit.Goals as goal

pub returns-then-symbol-ge-LEAF : goal.returns-then-symbol-ge-LEAF
returns-then-symbol-ge-LEAF c = λ w s k o.
    let a = c.args in
    let read = c.leaf_arrival-arrival.ensures.0 ∙ ap (leaf_arrival (leaf_of a.symbol)) c.from.ensures in
    subst (WalkStored _) (sym c.arrive.ensures) (visit_arrived k a.symbol a.one _ s o c.if-symbol-ge-LEAF.true read)

pub returns-else-symbol-ge-LEAF : goal.returns-else-symbol-ge-LEAF
returns-else-symbol-ge-LEAF c = λ w s k o.
    subst (WalkStored _) (sym c.push.ensures) (visit_pushed k c.args.symbol c.args.one s o c.if-symbol-ge-LEAF.false c.requires.1)
