use native.Mathlib.Omega.{arith}
use Prim.Native.Nat.{◌*◌}
use mathlib.Core.Path.{sym, ◌∙◌}
use borrow.Author.Tests.{leb-true, leb-false}
use Rattle.bits.specs.Bits.{place_of}
use Rattle.bits.proofs.Words.{word_cut, value_opened, stands, found, none}
use Rattle.bits.proofs.Cursor.field_of.Goals as goal

pub inside-requires : goal.inside-requires
inside-requires c = (stands c.on-next.ensures).0

pub returns-then-inside : goal.returns-then-inside
unfolding place_of
returns-then-inside c s opens =
    let a = c.args in
    let on = c.on-next in
    let reach = leb-true (place_of on.result) (8 * a.bytes) (sym c.inside.ensures ∙ c.if-inside.true) in
    let cut = c.cut.ensures ∙ word_cut a.opening.now a.self.byte a.self.used a.width c.word.result c.word.ensures.0 (omega arith) in
    found s (place_of a.self) a.width c.cut.result on.result (omega (arith, reach, opens.many, (stands on.ensures).1))
    (cut ∙ value_opened (place_of a.self) a.width opens (omega arith)) on.ensures

pub returns : goal.returns
unfolding place_of
returns c s opens =
    let a = c.args in
    let on = c.on-next in
    let reach = leb-false (place_of on.result) (8 * a.bytes) (sym c.inside.ensures ∙ c.if-inside.false) in
    none s (place_of a.self) a.width (omega (arith, reach, opens.many, (stands on.ensures).1))

pub on-next-requires : goal.on-next-requires
unfolding place_of
on-next-requires c = omega arith
