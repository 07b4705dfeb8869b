use Rattle.std.proofs.lemmas.Result.{err_from_is_err_and}
use Rattle.map_core.proofs.Core.{list_overfull}
use Rattle.map_core.proofs.list_tree.Goals as goal

pub returns-in_err-fill : goal.returns-in_err-fill
returns-in_err-fill c l t start =
    let p = err_from_is_err_and c.from_residual.result c.from_residual.ensures.1 in
    let (n, is, e) = c.in_err-fill.ensures l t start in
    rw (p.1, p.2) (list_overfull c.args.most l t c.fill.new.work _ n is e)
