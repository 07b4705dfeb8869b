use native.Mathlib.Omega.{arith}
use Rattle.std.proofs.lemmas.Result.{err_from_is_err_and}
use Rattle.map_core.proofs.Core.{work_long}
use Rattle.map_rules.specs.Public.{of_reply}
use Rattle.map.proofs.Laws.{list_refused, list_found}
use Rattle.map.proofs.list_zeros.Goals as goal

pub returns-in_err-count : goal.returns-in_err-count
unfolding of_reply
returns-in_err-count c l t start =
    let p = err_from_is_err_and c.from_residual.result c.from_residual.ensures.1 in
    rw (p.1, p.2) (list_refused c.args.most l t c.args.output.now c.list_tree.new.work _ start.decoded.tree (c.in_err-count.ensures l t start))

pub write_list-requires : goal.write_list-requires
write_list-requires c =
    let (l, (t, start)) = c.requires.started in
    let m = c.in_ok-count.ensures l t start in
    let few = c.requires.allowed.listed in
    (omega (arith, m.few, few), omega (arith, m.few, c.list_tree.auto.work, work_long start), omega (arith, m.few, few, c.requires.long), λ k h. m.small k (omega (arith, h)))

pub returns : goal.returns
unfolding of_reply
returns c l t start = list_found c.args.most l t c.args.output.now c.list_tree.new.work c.requires.allowed (c.in_ok-count.ensures l t start) c.write_list.ensures
