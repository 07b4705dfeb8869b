use native.Mathlib.Omega.{arith}
use lib.ListN.{length-take}
use Rattle.filling.proofs.Node.{node_within, leaf_here, gate_here, few_matches, found_are, hits_known}
use Rattle.filling.proofs.At.{leaf_done, gate_ready, gate_done}
use Rattle.filling.proofs.fill_at.Goals as goal

pub offset_bounds-symbols-turn : goal.offset_bounds-symbols-turn
offset_bounds-symbols-turn c = omega (arith, node_within c.requires.ready.1.1.1.ready)

pub bounds-symbols-turn : goal.bounds-symbols-turn
bounds-symbols-turn c = omega (arith, node_within c.requires.ready.1.1.1.ready)

pub returns-then-symbols-turn-ge-LEAF : goal.returns-then-symbols-turn-ge-LEAF
returns-then-symbols-turn-ge-LEAF c l t s g = leaf_done g (leaf_here g.ready c.if-symbols-turn-ge-LEAF.true)

pub slice_bounds-matches-end : goal.slice_bounds-matches-end
slice_bounds-matches-end c =
    let p = c.requires.ready in
    let g = p.1.1.1.ready in
    let m = c.find_matches-count in
    omega (arith, (m.ensures p.0 p.1.0 p.1.1.0 g).0, few_matches g, g.room_is, m.auto.table)

pub slice_bounds-matches-end-2 : goal.slice_bounds-matches-end-2
slice_bounds-matches-end-2 c =
    let p = c.requires.ready in
    let g = p.1.1.1.ready in
    let m = c.find_matches-count in
    omega (arith, length-take m.result m.new.table, (m.ensures p.0 p.1.0 p.1.1.0 g).0, few_matches g, g.room_is, m.auto.table)

pub invariant_of-matches : goal.invariant_of-matches
invariant_of-matches c =
    let p = c.requires.ready in
    let g = p.1.1.1.ready in
    let m = c.find_matches-count in
    record { known = hits_known g (found_are c.args.found.now g m.result m.new.table (m.ensures p.0 p.1.0 p.1.1.0 g)) }

pub fill_node-requires-clause-ready : goal.fill_node-requires-clause-ready
fill_node-requires-clause-ready c =
    let p = c.requires.ready in
    let g = p.1.1.1 in
    let m = c.find_matches-count in
    gate_ready g (found_are c.args.found.now g.ready m.result m.new.table (m.ensures p.0 p.1.0 p.1.1.0 g.ready)) (gate_here g.ready c.if-symbols-turn-ge-LEAF.false)

pub returns : goal.returns
returns c l t s g =
    let m = c.find_matches-count in
    gate_done g (found_are c.args.found.now g.ready m.result m.new.table (m.ensures l t s g.ready)) (gate_here g.ready c.if-symbols-turn-ge-LEAF.false) c.fill_node.ensures
