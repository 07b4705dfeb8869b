use native.Mathlib.Omega.{arith}
use Rattle.frame.proofs.Laws.{not_spoiled, rest_is}
use Rattle.treecover_text.proofs.sheets_of.Goals as goal

pub returns : goal.returns
returns c =
    let input = c.args.input.now in
    let (library, left) = c.in_ok-library.ensures input 1 0 (omega arith) c.in_ok-left.ensures in
    (not_spoiled input 1 left, library, rest_is input 1 left)
