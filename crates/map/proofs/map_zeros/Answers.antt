use Rattle.std.proofs.lemmas.Result.{err_from_is_err_and}
use Rattle.map_rules.specs.Public.{of_reply}
use Rattle.map.proofs.Laws.{map_refused, map_found}
use Rattle.map.proofs.map_zeros.Goals as goal

pub returns-in_err-cover : goal.returns-in_err-cover
unfolding of_reply
returns-in_err-cover c l t start =
    let p = err_from_is_err_and c.from_residual.result c.from_residual.ensures.1 in
    rw (p.1, p.2) (map_refused c.args.most l t c.args.output.now _ start.decoded.tree (c.in_err-cover.ensures l t start))

pub returns : goal.returns
unfolding of_reply
returns c l t start = map_found c.args.most l t c.args.output.now (c.in_ok-cover.ensures l t start) c.write_cover.ensures
