use native.Mathlib.Omega.{arith}
use mathlib.Core.Path.{refl}
use Rattle.bits.specs.Bits.{place_of}
use Rattle.bits.proofs.Cursor.place.Goals as goal

pub overflow_mul-result : goal.overflow_mul-result
unfolding place_of
overflow_mul-result c = omega arith

pub overflow_add-result : goal.overflow_add-result
unfolding place_of
overflow_add-result c = omega arith

pub returns : goal.returns
unfolding place_of
returns c = refl
