use mathlib.Core.Path.{subst, sym}
use native.Mathlib.Omega.{arith}
use Rattle.std.specs.Prelude.{Ok}
use Rattle.result_sheets.specs.declared.CoverRecord.{CoverRecord}
use Rattle.map_core.specs.Inside.Promises.{MapsLeaf}
use Rattle.map_core.proofs.Root.{leaf_late, leaf_timely}
use Rattle.leaves.specs.Inside.Leaf.{leaf_of}
use Rattle.map_core.proofs.map_leaf.Goals as goal

pub returns-then-time-arrival : goal.returns-then-time-arrival
returns-then-time-arrival c =
    let a = c.args in
    let arrival = c.leaf_arrival-arrival.ensures.0 in
    record { answer_is = λ l. leaf_late l a.load (leaf_of a.symbol) a.time (omega (arith, arrival, c.if-time-arrival)); few = tt }

pub returns : goal.returns
returns c =
    let a = c.args in
    let arrival = c.leaf_arrival-arrival.ensures.0 in
    subst (λ (k : CoverRecord). MapsLeaf a.symbol a.load a.time (Ok k)) (sym c.bare.ensures)
    (record { answer_is = λ l. leaf_timely l a.load (leaf_of a.symbol) a.time _ arrival (omega (arith, c.if-time-arrival)); few = omega arith })
