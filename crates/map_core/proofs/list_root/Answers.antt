use native.Mathlib.Omega.{arith}
use Rattle.map_core.proofs.Points.{leaf_listed, gate_empty, gate_listed}
use Rattle.map_core.proofs.list_root.Goals as goal

pub returns-then-symbol-ge-LEAF : goal.returns-then-symbol-ge-LEAF
returns-then-symbol-ge-LEAF c l t library given =
    let e = c.if-symbol-ge-LEAF in
    leaf_listed given (omega (arith, e)) c.leaf_arrival.result (rw c.from.ensures at c.leaf_arrival.ensures.0) c.leaf_arrival.ensures.1

pub returns-then-count-eq0 : goal.returns-then-count-eq0
returns-then-count-eq0 c l t library given =
    let e = c.if-symbol-ge-LEAF in
    let k = c.count_points-count in
    let z = c.if-count-eq0 in
    gate_empty given (omega (arith, e)) k.result k.ensures.0 k.ensures.1 (omega (arith, z))

pub returns : goal.returns
returns c l t library given =
    let e = c.if-symbol-ge-LEAF in
    let k = c.count_points-count in
    let z = c.if-count-eq0 in
    gate_listed given (omega (arith, e)) k.result k.ensures.0 k.ensures.1 (λ y. omega (arith, z, y))
