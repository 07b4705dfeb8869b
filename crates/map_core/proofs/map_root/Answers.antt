use native.Mathlib.Omega.{arith}
use Rattle.std.proofs.lemmas.Result.{err_from_is_err_and}
use Rattle.map_core.proofs.Core.{few_rows}
use Rattle.map_core.proofs.Root.{leaf_mapped, nothing_looked, gate_none, gate_chooses, gate_found}
use Rattle.map_core.proofs.map_root.Goals as goal

pub returns-then-symbol-ge-LEAF : goal.returns-then-symbol-ge-LEAF
returns-then-symbol-ge-LEAF c l t given =
    let e = c.if-symbol-ge-LEAF in
    leaf_mapped given (omega (arith, e)) c.map_leaf.result (rw c.from-load.ensures at c.map_leaf.ensures)

pub returns-in_err-w : goal.returns-in_err-w
returns-in_err-w c l t given =
    let e = c.if-symbol-ge-LEAF in
    let nowhere = c.in_err-w.ensures.ok_part in
    let p = err_from_is_err_and c.from_residual.result c.from_residual.ensures.1 in
    rw (p.1, p.2, nothing_looked c.in_err-w.ensures.value nowhere) (gate_none given (omega (arith, e)) (rw (nowhere, c.from.ensures) at c.look_up.ensures))

pub rows-requires : goal.rows-requires
rows-requires c = let (l, (t, given)) = c.requires.curved in few_rows given.prepared.decoded given.total_is

pub choose-requires : goal.choose-requires
choose-requires c =
    let (l, (t, given)) = c.requires.curved in
    let e = c.if-symbol-ge-LEAF in
    (l, (t, (t.shape, gate_chooses given (omega (arith, e)) c.in_ok-w.w (rw (c.in_ok-w.ensures.ok_part, c.from.ensures) at c.look_up.ensures) _ (cc) _ c.bare-cover.ensures _ c.rows.ensures _ c.requires.room)))

pub returns : goal.returns
returns c l t given =
    let e = c.if-symbol-ge-LEAF in
    gate_found given (omega (arith, e)) c.in_ok-w.w (rw (c.in_ok-w.ensures.ok_part, c.from.ensures) at c.look_up.ensures) _ (cc) _ c.bare-cover.ensures _ c.rows.ensures _ c.requires.room c.choose.new.cover c.choose.ensures
