use native.Mathlib.Omega.{arith}
use Prim.Native.Nat.{◌^◌, ◌≤◌}
use mathlib.Core.Path.{refl}
use lib.Pow.{pow_mono}
use Rattle.bits.specs.Bits.{place_of}
use Rattle.fields.proofs.Laws.{found_fits, field_took}
use Rattle.fields.proofs.Sheet.raw.Goals as goal

pub overflow_cast-result : goal.overflow_cast-result
overflow_cast-result c =
    let a = c.args in
    let few : a.width ≤ 24 = omega arith in
    let top : 2 ^ a.width ≤ 16777216 = pow_mono few in
    omega (arith, top, found_fits a.self.now.bytes.now (place_of a.self.now.at) a.width c.in-Some.value c.in-Some.next _ c.field.ensures c.in-Some.is)

pub returns : goal.returns
returns c =
    let a = c.args in
    record { same = refl; takes = field_took a.self.now.bytes.now a.width a.self.now.at c.in-Some.value c.in-Some.next c.in-Some.ensures }
