use native.Mathlib.Omega.{arith}
use Prim.Native.Nat.{◌*◌}
use mathlib.Core.Path.{sym, ◌∙◌}
use lib.ListN.{length}
use borrow.Author.Tests.{leb-true, leb-false}
use Rattle.bits.specs.Bits.{place_of}
use Rattle.bits.proofs.Words.{word_cut, stands, found, none}
use Rattle.bits.proofs.Cursor.field.Goals as goal

pub returns-then-byte-s : goal.returns-then-byte-s
unfolding place_of
returns-then-byte-s c =
    let a = c.args in
    found a.s.now (place_of a.self) a.width c.cut.result c.on-next.result (omega arith)
    (c.cut.ensures ∙ word_cut a.s.now a.self.byte a.self.used a.width c.word.result c.word.ensures.0 (omega arith))
    c.on-next.ensures

pub inside-requires : goal.inside-requires
inside-requires c = (stands c.on-next.ensures).0

pub spread-requires : goal.spread-requires
unfolding place_of
spread-requires c =
    let a = c.args in
    let reach = leb-true (place_of c.on-next.result) (8 * length a.s.now) (sym c.inside.ensures ∙ c.if-inside.true) in
    omega (arith, reach, (stands c.on-next.ensures).1)

pub returns-then-inside : goal.returns-then-inside
unfolding place_of
returns-then-inside c =
    let a = c.args in
    let on = c.on-next in
    let reach = leb-true (place_of on.result) (8 * length a.s.now) (sym c.inside.ensures ∙ c.if-inside.true) in
    found a.s.now (place_of a.self) a.width c.spread.result on.result (omega (arith, reach, (stands on.ensures).1)) c.spread.ensures.0 on.ensures

pub returns : goal.returns
unfolding place_of
returns c =
    let a = c.args in
    let on = c.on-next in
    let reach = leb-false (place_of on.result) (8 * length a.s.now) (sym c.inside.ensures ∙ c.if-inside.false) in
    none a.s.now (place_of a.self) a.width (omega (arith, reach, (stands on.ensures).1))

pub overflow_add-used : goal.overflow_add-used
unfolding place_of
overflow_add-used c = omega arith

pub overflow_add-byte : goal.overflow_add-byte
unfolding place_of
overflow_add-byte c = omega arith
