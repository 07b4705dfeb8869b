-- The extent of one node.
use native.Mathlib.Omega.{arith}
use Prim.Native.Nat.{◌+◌, ◌%◌}
use mathlib.Core.Path.{◌∙◌, ap}
use lib.ListN.{get_or}
use Rattle.overlay.proofs.Measuring.{extent_leaf, extent_inv, nand_room, extent_nand}
use Rattle.overlay.proofs.extent_from.Goals as goal

pub returns-then-symbol-ge-LEAF : goal.returns-then-symbol-ge-LEAF
returns-then-symbol-ge-LEAF c = let a = c.args in λ s e. extent_leaf a.symbol a.words.now a.k s e (omega arith)

pub returns-then-symbol-eq-INVERTER : goal.returns-then-symbol-eq-INVERTER
returns-then-symbol-eq-INVERTER c = let a = c.args in λ s e. omega (arith, c.from-first.ensures, extent_inv a.symbol a.words.now a.k s e c.if-symbol-eq-INVERTER.true)

pub returns : goal.returns
returns c =
    let a = c.args in
    let words = a.words.now in
    let read = ap (λ i. get_or words (a.k + 1 + i % 32) 0) c.from-first.ensures in
    λ s e. omega (arith, c.from-first.ensures, c.from.ensures ∙ read, extent_nand a.symbol words a.k s e (omega arith) c.if-symbol-eq-INVERTER.false)

pub bounds-words-k-2 : goal.bounds-words-k-2
bounds-words-k-2 c =
    let a = c.args in
    omega (arith, c.from-first.ensures, nand_room a.symbol a.words.now a.k c.requires.0 c.requires.1 (omega arith) c.if-symbol-eq-INVERTER.false)
