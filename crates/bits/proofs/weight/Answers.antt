use native.Mathlib.Omega.{arith}
use Prim.Native.Nat.{◌*◌, ◌%◌, ◌^◌, ◌≤◌}
use native.Mathlib.Nat.{one-mul, mod-eq_of_lt}
use mathlib.Core.Path.{◌≡◌}
use lib.Pow.{pow_pos, pow_mono}
use Rattle.bits.specs.Bits.{after}
use Rattle.bits.proofs.Laws.{after_lt}
use Rattle.bits.proofs.weight.Goals as goal

pub returns : goal.returns
unfolding after
returns c =
    let k = after c.args.i in
    let below : k ≤ 7 = omega (arith, after_lt c.args.i) in
    let most : 2 ^ k ≤ 128 = pow_mono below in
    let e : 1 * 2 ^ k % 4294967296 ≡ 2 ^ k = rw one-mul (mod-eq_of_lt (omega arith)) in
    record { worth = e; least = rw e (pow_pos k); most = rw e most }
