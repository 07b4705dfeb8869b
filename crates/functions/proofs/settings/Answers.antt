use native.Mathlib.Omega.{arith}
use Prim.Native.Nat.{◌^◌, ◌≤◌}
use lib.Pow.{pow_mono, pow_pos}
use Rattle.functions.proofs.settings.Goals as goal

pub returns : goal.returns
returns c =
    let n = c.args.pins in
    let few : n ≤ 6 = omega arith in
    let top : 2 ^ n ≤ 64 = pow_mono few in
    let some = pow_pos n in
    (omega arith, omega arith, omega arith)
