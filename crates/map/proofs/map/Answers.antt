use Rattle.std.proofs.lemmas.Result.{err_from_is_err_and}
use Rattle.covers.specs.Answer.{map_answer}
use Rattle.covers.specs.Outcome.{map_bytes, map_outcome}
use Rattle.map_rules.specs.Public.{of_reply}
use Rattle.map_rules.proofs.Laws.{maps}
use Rattle.map.proofs.Laws.{lent_known, lent_little, library_refused, tree_refused, operated}
use Rattle.map.proofs.map.Goals as goal

pub returns-in_err-most : goal.returns-in_err-most
unfolding map_outcome of_reply
returns-in_err-most c =
    let a = c.args in
    let p = err_from_is_err_and c.from_residual.result c.from_residual.ensures.1 in
    rw (p.1, p.2) (maps a.library.now a.tree.now a.output.now a.work.now (lent_little map_bytes map_answer a.library.now a.tree.now a.output.now a.work.now _ c.in_err-most.ensures))

pub returns-in_err-library : goal.returns-in_err-library
unfolding map_outcome of_reply
returns-in_err-library c =
    let a = c.args in
    let p = err_from_is_err_and c.from_residual-in_err-library.result c.from_residual-in_err-library.ensures.1 in
    rw (p.1, p.2) (maps a.library.now a.tree.now a.output.now a.work.now (library_refused map_bytes map_answer a.library.now a.tree.now a.output.now a.work.now c.in_ok-most.ensures _ c.in_err-library.ensures))

pub returns-in_err-tree : goal.returns-in_err-tree
unfolding map_outcome of_reply
returns-in_err-tree c =
    let a = c.args in
    let p = err_from_is_err_and c.from_residual-in_err-tree.result c.from_residual-in_err-tree.ensures.1 in
    rw (p.1, p.2) (maps a.library.now a.tree.now a.output.now a.work.now (tree_refused map_bytes map_answer a.library.now a.tree.now a.output.now a.work.now c.in_ok-most.ensures c.in_ok-library.ensures _ c.in_err-tree.ensures))

pub map_stored-requires-clause-lent : goal.map_stored-requires-clause-lent
map_stored-requires-clause-lent c = lent_known _ _ _ c.in_ok-most.ensures

pub returns : goal.returns
unfolding map_outcome
returns c =
    let a = c.args in
    maps a.library.now a.tree.now a.output.now a.work.now (operated map_bytes map_answer a.library.now a.tree.now a.output.now a.work.now c.in_ok-most.ensures c.in_ok-library.ensures c.in_ok-tree.ensures c.map_stored.ensures)
