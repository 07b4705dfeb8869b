use Rattle.std.proofs.lemmas.Result.{err_from_is_err_and}
use Rattle.map_rules.specs.Public.{of_reply}
use Rattle.part_rules.proofs.Demands.{maps_part}
use Rattle.part.proofs.Replies.{lent_known, lent_little, library_refused, part_refused, operated}
use Rattle.part.proofs.map_part.Goals as goal

pub returns-in_err-most : goal.returns-in_err-most
unfolding of_reply
returns-in_err-most c =
    let a = c.args in
    let p = err_from_is_err_and c.from_residual.result c.from_residual.ensures.1 in
    rw (p.1, p.2) (maps_part a.library.now a.part.now a.output.now a.work.now (lent_little a.library.now a.part.now a.output.now a.work.now _ c.in_err-most.ensures))

pub returns-in_err-library : goal.returns-in_err-library
unfolding of_reply
returns-in_err-library c =
    let a = c.args in
    let p = err_from_is_err_and c.from_residual-in_err-library.result c.from_residual-in_err-library.ensures.1 in
    rw (p.1, p.2) (maps_part a.library.now a.part.now a.output.now a.work.now (library_refused a.library.now a.part.now a.output.now a.work.now c.in_ok-most.ensures _ c.in_err-library.ensures))

pub returns-in_err-part : goal.returns-in_err-part
unfolding of_reply
returns-in_err-part c =
    let a = c.args in
    let p = err_from_is_err_and c.from_residual-in_err-part.result c.from_residual-in_err-part.ensures.1 in
    rw (p.1, p.2) (maps_part a.library.now a.part.now a.output.now a.work.now (part_refused a.library.now a.part.now a.output.now a.work.now c.in_ok-most.ensures c.in_ok-library.ensures _ c.in_err-part.ensures))

pub map_stored-requires-clause-lent : goal.map_stored-requires-clause-lent
map_stored-requires-clause-lent c = lent_known _ _ c.in_ok-most.ensures

pub map_stored-requires-clause-stored : goal.map_stored-requires-clause-stored
map_stored-requires-clause-stored c =
    let library = c.in_ok-library.ensures.said in
    let part = c.in_ok-part.ensures in
    (library.0, (part.0, library.2, part.2))

pub returns : goal.returns
returns c =
    let a = c.args in
    maps_part a.library.now a.part.now a.output.now a.work.now (operated a.library.now a.part.now a.output.now a.work.now c.in_ok-most.ensures c.in_ok-library.ensures c.in_ok-part.ensures c.map_stored.ensures)
