use Rattle.std.proofs.lemmas.Result.{err_from_is_err_and}
use Rattle.covers.specs.Answer.{list_answer}
use Rattle.covers.specs.Outcome.{list_bytes, list_outcome}
use Rattle.map_rules.specs.Public.{of_reply}
use Rattle.map_rules.proofs.Laws.{lists}
use Rattle.map.proofs.Laws.{lent_known, lent_little, library_refused, tree_refused, operated}
use Rattle.map.proofs.list.Goals as goal

pub returns-in_err-most : goal.returns-in_err-most
unfolding list_outcome of_reply
returns-in_err-most c =
    let a = c.args in
    let p = err_from_is_err_and c.from_residual.result c.from_residual.ensures.1 in
    rw (p.1, p.2) (lists a.library.now a.tree.now a.output.now a.work.now (lent_little list_bytes list_answer a.library.now a.tree.now a.output.now a.work.now _ c.in_err-most.ensures))

pub returns-in_err-library : goal.returns-in_err-library
unfolding list_outcome of_reply
returns-in_err-library c =
    let a = c.args in
    let p = err_from_is_err_and c.from_residual-in_err-library.result c.from_residual-in_err-library.ensures.1 in
    rw (p.1, p.2) (lists a.library.now a.tree.now a.output.now a.work.now (library_refused list_bytes list_answer a.library.now a.tree.now a.output.now a.work.now c.in_ok-most.ensures _ c.in_err-library.ensures))

pub returns-in_err-tree : goal.returns-in_err-tree
unfolding list_outcome of_reply
returns-in_err-tree c =
    let a = c.args in
    let p = err_from_is_err_and c.from_residual-in_err-tree.result c.from_residual-in_err-tree.ensures.1 in
    rw (p.1, p.2) (lists a.library.now a.tree.now a.output.now a.work.now (tree_refused list_bytes list_answer a.library.now a.tree.now a.output.now a.work.now c.in_ok-most.ensures c.in_ok-library.ensures _ c.in_err-tree.ensures))

pub list_stored-requires-clause-lent : goal.list_stored-requires-clause-lent
list_stored-requires-clause-lent c = lent_known _ _ _ c.in_ok-most.ensures

pub returns : goal.returns
unfolding list_outcome
returns c =
    let a = c.args in
    lists a.library.now a.tree.now a.output.now a.work.now (operated list_bytes list_answer a.library.now a.tree.now a.output.now a.work.now c.in_ok-most.ensures c.in_ok-library.ensures c.in_ok-tree.ensures c.list_stored.ensures)
