use native.Mathlib.Omega.{arith}
use Prim.Native.Nat.{ℕ, ◌+◌, ◌*◌, ◌/◌, ◌%◌, ◌<◌}
use native.Mathlib.Nat.{mod-eq_of_lt}
use mathlib.Core.Path.{◌≡◌, ap, ◌∙◌}
use lib.ListN.{get_or, set}
use Rattle.bits.specs.Bits.{after, with_digit, with_bit}
use Rattle.bits.proofs.Laws.{after_lt, digit_lt, digit_is}
use Rattle.bits.proofs.put_bit.Goals as goal

pub returns : goal.returns
unfolding with_bit
returns c =
    let a = c.args in
    let x = c.from-byte.result in
    let h = c.weight-half.result in
    let byte : get_or a.s.now (a.i / 8) 0 < 256 = omega arith in
    let made : x / (2 * h) * (2 * h) + (a.b * h + x % h) ≡ with_digit (get_or a.s.now (a.i / 8) 0) (after a.i) a.b =
    digit_is x h (after a.i) a.b c.weight-half.ensures.worth ∙ ap (λ (y : ℕ). with_digit y (after a.i) a.b) c.from-byte.ensures in
    let fits : x / (2 * h) * (2 * h) + (a.b * h + x % h) < 256 = rw made (digit_lt (get_or a.s.now (a.i / 8) 0) (after a.i) a.b byte (after_lt a.i) (omega arith)) in
    ap (set a.s.now (a.i / 8)) (mod-eq_of_lt fits ∙ made)
