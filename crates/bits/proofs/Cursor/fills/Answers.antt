use native.Mathlib.Omega.{arith}
use Prim.Native.Nat.{◌-◌}
use mathlib.Core.Path.{◌∙◌}
use borrow.Author.Tests.{le-ltb}
use Rattle.bits.specs.Bits.{place_of}
use Rattle.bits.proofs.Words.{value_part, stands, stands_there, fills_whole, fills_none, fills_rest}
use Rattle.bits.proofs.Cursor.fills.Goals as goal

pub returns-then-used-eq0 : goal.returns-then-used-eq0
unfolding place_of
returns-then-used-eq0 c =
    let a = c.args in
    let at = c.on-byte in
    fills_whole a.s.now (place_of a.self) at.result.byte at.result.used (stands_there at.ensures).1 (stands_there at.ensures).0 c.if-used-eq0.true

pub overflow_sub-left : goal.overflow_sub-left
overflow_sub-left c = omega (arith, stands c.on-byte.ensures)

pub cut-requires : goal.cut-requires
cut-requires c = omega (arith, stands c.on-byte.ensures)

pub returns-then-byte-s : goal.returns-then-byte-s
unfolding place_of
returns-then-byte-s c =
    let a = c.args in
    let at = c.on-byte in
    fills_rest a.s.now (place_of a.self) at.result.byte at.result.used (stands_there at.ensures).1 (stands_there at.ensures).0 c.if-used-eq0.false (omega arith) c.cut.result
    (c.cut.ensures ∙ value_part a.s.now at.result.byte at.result.used (8 - at.result.used) c.from.result c.from.ensures (omega (arith, c.from.ensures, c.type_inv.s at.result.byte)) (omega (arith, stands_there at.ensures)))

pub returns-else-byte-s : goal.returns-else-byte-s
unfolding place_of
returns-else-byte-s c =
    let a = c.args in
    let at = c.on-byte in
    le-ltb _ _ c.if-byte-s.false ∙ fills_none a.s.now (place_of a.self) at.result.byte at.result.used (stands_there at.ensures).1 (stands_there at.ensures).0 c.if-used-eq0.false (omega arith)
