use native.Mathlib.Omega.{arith}
use Rattle.bits.specs.Bits.{place_of}
use Rattle.bits.proofs.Laws.{cursor_is}
use Rattle.bits.proofs.Cursor.on.Goals as goal

pub returns : goal.returns
unfolding place_of
returns c = cursor_is _ _ _ (omega arith) (omega arith)

pub overflow_add-used : goal.overflow_add-used
unfolding place_of
overflow_add-used c = omega arith

pub overflow_add-byte : goal.overflow_add-byte
unfolding place_of
overflow_add-byte c = omega arith
