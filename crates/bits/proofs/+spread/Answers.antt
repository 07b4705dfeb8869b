use native.Mathlib.Omega.{arith}
use Prim.Native.Nat.{ℕ, ◌+◌, ◌-◌, ◌*◌}
use mathlib.Core.Path.{◌≡◌, sym, ap, ◌∙◌}
use lib.Pow.{pow_pos}
use Rattle.bits.specs.Bits.{value_at}
use Rattle.bits.proofs.Laws.{value_lt, value_small}
use Rattle.bits.proofs.Words.{value_part, value_straddle, straddle_fits}
use Rattle.bits.proofs.+spread.Goals as goal

pub returns-then-width-eq0 : goal.returns-then-width-eq0
unfolding value_at
returns-then-width-eq0 t c =
    let a = c.args in
    let none : a.width ≡ 0 = c.if-width-eq0.true in
    (sym (ap (value_at a.s.now (8 * a.byte + a.used)) none), pow_pos a.width)

pub spread-requires : goal.spread-requires
spread-requires t c = omega (arith, c.requires.0)

pub returns-then-used-ge-BYTE_BITS : goal.returns-then-used-ge-BYTE_BITS
returns-then-used-ge-BYTE_BITS t c =
    let a = c.args in
    let there : 8 * (a.byte + 1) + (a.used - 8) ≡ 8 * a.byte + a.used = omega (arith, c.if-used-ge-BYTE_BITS.true) in
    (c.spread.ensures.0 ∙ ap (λ (i : ℕ). value_at a.s.now i a.width) there, c.spread.ensures.1)

pub returns-then-width-left : goal.returns-then-width-left
returns-then-width-left t c =
    let a = c.args in
    let here = c.from-here in
    let e = c.cut.ensures ∙ value_part a.s.now a.byte a.used a.width here.result here.ensures (omega (arith, here.ensures, c.type_inv.s a.byte)) (omega arith) in
    (e, omega (arith, e, value_lt a.s.now (8 * a.byte + a.used) a.width))

-- the whole field, from the part that stands in its first byte and the rest
whole : (t : ℕ) (c : goal.After-spread-2 t) →
    let a = c.args in
    c.cut-high.result * c.power.result + c.spread-2.result ≡ value_at a.s.now (8 * a.byte + a.used) a.width
whole t c =
    let a = c.args in
    let here = c.from-here in
    let first : c.cut-high.result ≡ value_at a.s.now (8 * a.byte + a.used) (8 - a.used) = c.cut-high.ensures ∙ value_part a.s.now a.byte a.used (8 - a.used) here.result here.ensures (omega (arith, here.ensures, c.type_inv.s a.byte)) (omega arith) in
    rw c.power.ensures.0
    (value_straddle a.s.now a.byte a.used a.width c.cut-high.result c.spread-2.result (omega arith) (omega arith) first c.spread-2.ensures.0)

pub overflow_mul-result : goal.overflow_mul-result
overflow_mul-result t c =
    let a = c.args in
    let here = c.from-here in
    let first : c.cut-high.result ≡ value_at a.s.now (8 * a.byte + a.used) (8 - a.used) = c.cut-high.ensures ∙ value_part a.s.now a.byte a.used (8 - a.used) here.result here.ensures (omega (arith, here.ensures, c.type_inv.s a.byte)) (omega arith) in
    record { fits = rw c.power.ensures.0 (straddle_fits a.s.now a.byte a.used a.width c.cut-high.result (omega arith) (omega arith) (omega arith) first) }

pub spread-requires-2 : goal.spread-requires-2
spread-requires-2 t c = omega (arith, c.requires.0)

pub overflow_add-result : goal.overflow_add-result
overflow_add-result t c = record { fits = omega (arith, whole t c, value_small c.args.s.now (8 * c.args.byte + c.args.used) c.args.width 64 (omega arith)) }

pub returns : goal.returns
returns t c =
    let a = c.args in
    (whole t c, omega (arith, whole t c, value_lt a.s.now (8 * a.byte + a.used) a.width))
