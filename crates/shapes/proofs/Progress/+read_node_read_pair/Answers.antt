use native.Mathlib.Omega.{arith}
use Rattle.fields.proofs.Readers.{passed}
use Rattle.shapes.specs.Inside.Promises.{NodeEnd, PairEnd}
use Rattle.shapes.proofs.Nodes.{room_inside, refused_done, leaf_done, driven_done, gate_next, gate_in_room, gate_room, inv_done, nand_done, second_refused, second_done}
use Rattle.shapes.proofs.Progress.+read_node_read_pair.Goals as goal

pub read_node-read_code-requires : goal.read_node-read_code-requires
read_node-read_code-requires t c = room_inside c.requires

pub read_node-returns-in_err-code : goal.read_node-returns-in_err-code
read_node-returns-in_err-code t c s opens =
    let a = c.args in
    passed (NodeEnd s a.source.now.rules a.self.now a.symbols.now c.read_code.new.self a.symbols.now) _ c.from_residual.ensures.1 (refused_done c.requires s _ (c.in_err-code.ensures s opens))

pub read_node-returns-in-0 : goal.read_node-returns-in-0
read_node-returns-in-0 t c s opens =
    let done = c.read_leaf.ensures s opens in
    (leaf_done c.requires s _ (c.in_ok-code.ensures s opens) _ _ c.in-0.is done.0, done.1)

pub read_node-returns-in-3 : goal.read_node-returns-in-3
read_node-returns-in-3 t c s opens =
    let done = c.read_driven.ensures s opens in
    (driven_done c.requires s _ (c.in_ok-code.ensures s opens) _ _ c.in-3.is done.0, done.1)

pub read_node-read_node-requires : goal.read_node-read_node-requires
read_node-read_node-requires t c =
    let room = c.requires in
    let code = c.in_ok-code.ensures room.opened.sheet room.opened.opens in
    (omega (arith, gate_next room room.opened.sheet _ code _ c.draw.ensures, gate_in_room room room.opened.sheet _ code), gate_room room room.opened.sheet _ code _ c.draw.ensures (omega (arith, c.if-code-eq-INV.true)))

pub read_node-returns-then-code-eq-INV : goal.read_node-returns-then-code-eq-INV
read_node-returns-then-code-eq-INV t c s opens =
    let done = c.read_node.ensures s opens in
    let is = c.if-code-eq-INV.true in
    (inv_done c.requires s _ (c.in_ok-code.ensures s opens) _ c.draw.ensures _ _ is (omega (arith, is)) done.0, done.1)

pub read_node-read_pair-requires : goal.read_node-read_pair-requires
read_node-read_pair-requires t c =
    let room = c.requires in
    let code = c.in_ok-code.ensures room.opened.sheet room.opened.opens in
    (omega (arith, gate_next room room.opened.sheet _ code _ c.draw.ensures, gate_in_room room room.opened.sheet _ code), gate_room room room.opened.sheet _ code _ c.draw.ensures (omega (arith, code.coded.small, c.in_default)))

pub read_node-returns-else-code-eq-INV : goal.read_node-returns-else-code-eq-INV
read_node-returns-else-code-eq-INV t c s opens =
    let code = c.in_ok-code.ensures s opens in
    let done = c.read_pair.ensures s opens in
    (nand_done c.requires s _ code _ c.draw.ensures _ _ (omega (arith, code.coded.small, c.in_default, c.if-code-eq-INV.false)) (omega (arith, code.coded.small, c.in_default, c.if-code-eq-INV.false)) done.0, done.1)

pub read_pair-returns-in_err-read_node : goal.read_pair-returns-in_err-read_node
read_pair-returns-in_err-read_node t c s opens =
    let a = c.args in
    let done = c.in_err-read_node.ensures s opens in
    passed (PairEnd s a.source.now.rules a.self.now a.symbols.now c.read_node.new.self c.read_node.new.symbols) _ c.from_residual.ensures.1 (second_refused c.requires s c.read_node.new.self _ done.0, done.1)

pub read_pair-returns : goal.read_pair-returns
read_pair-returns t c s opens =
    let done = c.in_ok-read_node.ensures s opens in
    let last = c.read_node-2.ensures s opens in
    (second_done c.requires s c.read_node.new.self done.0 _ _ last.0, last.1)
