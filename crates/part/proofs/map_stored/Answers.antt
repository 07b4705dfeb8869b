use mathlib.Core.Path.{subst}
use mathlib.Core.List.{List, flat_map}
use native.Mathlib.Omega.{arith}
use lib.ListN.{length-take}
use Rattle.std.proofs.lemmas.Result.{err_from_is_err_and}
use Rattle.covers.specs.Cover.{Cover}
use Rattle.covers.specs.CoverSheet.{cover_sheet}
use Rattle.result_sheets.specs.Public.{Written}
use Rattle.map_rules.specs.Public.{of_reply}
use Rattle.part.proofs.Replies.{trees_refused, trees_found}
use Rattle.part.proofs.Trees.{few_front}
use Rattle.part.proofs.map_stored.Goals as goal

pub returns-in_err-covers : goal.returns-in_err-covers
unfolding of_reply
returns-in_err-covers c l p stored part =
    let says = c.in_err-covers.ensures.maps_trees l p stored part in
    let is = err_from_is_err_and c.from_residual.result c.from_residual.ensures.1 in
    rw (is.1, is.2) (trees_refused c.args.most l p c.requires.lent.most_is c.in_err-covers.ensures.work_after _ says.0 says.1)

pub write_sheets-requires : goal.write_sheets-requires
write_sheets-requires c =
    let (l, (p, stored, part)) = c.requires.stored in
    let says = c.in_ok-covers.ensures.maps_trees l p stored part in
    (omega (arith, part.count_is, part.trees_are.few, length-take c.args.part.now.count c.in_ok-covers.covers), c.requires.lent.long, few_front c.in_ok-covers.covers c.args.part.now.count says.2.few)

pub returns : goal.returns
unfolding of_reply
returns c l p stored part =
    let put = c.write_sheets in
    let says = c.in_ok-covers.ensures.maps_trees l p stored part in
    trees_found c.args.most l p c.requires.lent.most_is c.in_ok-covers.ensures.work_after says.1
    (subst (λ (cs : List Cover). Written (flat_map cover_sheet cs) c.args.output.now put.new.output put.result) says.2.covers_are put.ensures.0) put.ensures.1
