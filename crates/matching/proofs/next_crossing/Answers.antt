-- The next crossing.
use Prim.Native.Nat.{◌+◌, ◌-◌, ◌/◌, ◌^◌, ◌<◌}
use native.Mathlib.Omega.{arith}
use lib.Pow.{shr_le, shl_exact}
use Rattle.matching.proofs.Crossings.{next_above, next_limit}
use Rattle.matching.proofs.next_crossing.Goals as goal

pub returns : goal.returns
returns c =
    let a = c.args in
    let k = 5 - a.bits in
    let low : a.crossing / 2 ^ k + 1 < 2 ^ 6 = omega (arith, shr_le a.crossing k) in
    let same = shl_exact 6 k 32 low (omega arith) in
    (same, rw same (next_above a.crossing k), rw same (next_limit a.crossing k c.requires.0 (omega arith)))
