use native.Mathlib.Omega.{arith}
use Rattle.functions.proofs.Standing.{first_inside, pin_inside, leaf_evaluated, branch_stands, inv_evaluated, second_stands, nand_evaluated}
use Rattle.functions.proofs.+evaluate.Goals as goal

pub offset_bounds-row-at : goal.offset_bounds-row-at
offset_bounds-row-at t c = let s = c.requires in record { fits = omega (arith, first_inside s.0 s.1) }

pub bounds-row-at : goal.bounds-row-at
bounds-row-at t c = let s = c.requires in omega (arith, s.1.long, first_inside s.0 s.1)

pub overflow_cast-symbol : goal.overflow_cast-symbol
overflow_cast-symbol t c = let s = c.requires in record { fits = omega (arith, pin_inside s.0 s.1 c.if-symbol-ge-LEAF.true) }

pub column-requires : goal.column-requires
column-requires t c = let s = c.requires in pin_inside s.0 s.1 c.if-symbol-ge-LEAF.true

pub overflow_add-result : goal.overflow_add-result
overflow_add-result t c = let s = c.requires in record { fits = omega (arith, first_inside s.0 s.1) }

pub returns-then-symbol-ge-LEAF : goal.returns-then-symbol-ge-LEAF
returns-then-symbol-ge-LEAF t c = leaf_evaluated c.column.result c.if-symbol-ge-LEAF.true c.column.ensures

pub overflow_add-at : goal.overflow_add-at
overflow_add-at t c = let s = c.requires in record { fits = omega (arith, first_inside s.0 s.1) }

pub evaluate-first-requires : goal.evaluate-first-requires
evaluate-first-requires t c =
    let p = c.requires in
    (omega (arith, first_inside p.0 p.1), branch_stands p.0 p.1 c.if-symbol-ge-LEAF.false)

pub returns-then-symbol-eq-INVERTER : goal.returns-then-symbol-eq-INVERTER
returns-then-symbol-eq-INVERTER t c = inv_evaluated c.evaluate-first.result c.evaluate-first.ensures c.if-symbol-eq-INVERTER.true

pub evaluate-second-requires : goal.evaluate-second-requires
evaluate-second-requires t c =
    let p = c.requires in
    let q = second_stands c.evaluate-first.result c.evaluate-first.ensures p.0 p.1 c.if-symbol-ge-LEAF.false c.if-symbol-eq-INVERTER.false in
    (omega (arith, q.0, first_inside p.0 p.1), q.1)

pub returns : goal.returns
returns t c =
    let first = c.evaluate-first in
    let second = c.evaluate-second in
    nand_evaluated first.result first.ensures second.result second.ensures c.if-symbol-ge-LEAF.false c.if-symbol-eq-INVERTER.false
