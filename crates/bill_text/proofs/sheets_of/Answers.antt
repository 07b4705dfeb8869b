use native.Mathlib.Omega.{arith}
use Rattle.std.proofs.lemmas.Bool.Decides.{nat_tests}
use Prim.Native.Nat.{◌<◌}
use mathlib.Core.Path.{◌≡◌}
use lib.ListN.{length}
use Rattle.frame.proofs.Laws.{not_spoiled_exact, left_over}
use Rattle.bill_text.proofs.sheets_of.Goals as goal

pub returns-then-not-is_empty : goal.returns-then-not-is_empty
returns-then-not-is_empty c =
    let input = c.args.input.now in
    let one = (c.in_ok-library.ensures input 3 0 (omega arith) c.in_ok-left.ensures).1 in
    let two = (c.in_ok-tree.ensures input 3 1 (omega arith) one).1 in
    let some : 0 < length c.take_sheet-3.new.self.bytes.now = grind (arith, nat_tests) in
    left_over input 3 (c.in_ok-cover.ensures input 3 2 (omega arith) two).1 some

pub returns : goal.returns
returns c =
    let input = c.args.input.now in
    let (library, one) = c.in_ok-library.ensures input 3 0 (omega arith) c.in_ok-left.ensures in
    let (tree, two) = c.in_ok-tree.ensures input 3 1 (omega arith) one in
    let (cover, left) = c.in_ok-cover.ensures input 3 2 (omega arith) two in
    let none : length c.take_sheet-3.new.self.bytes.now ≡ 0 = grind (arith, nat_tests) in
    (not_spoiled_exact input 3 left none, library, tree, cover)
