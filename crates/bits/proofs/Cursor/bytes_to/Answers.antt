use native.Mathlib.Omega.{arith}
use Rattle.bits.specs.Bits.{place_of}
use Rattle.bits.proofs.Words.{stands_there, bytes_whole, bytes_part}
use Rattle.bits.proofs.Cursor.bytes_to.Goals as goal

pub returns-then-used-eq0 : goal.returns-then-used-eq0
unfolding place_of
returns-then-used-eq0 c =
    let at = c.on-byte in
    let h = stands_there at.ensures in
    bytes_whole (place_of c.args.self) at.result.byte at.result.used h.1 h.0 c.if-used-eq0.true

pub overflow_add-result : goal.overflow_add-result
unfolding place_of
overflow_add-result c = omega (arith, stands_there c.on-byte.ensures)

pub returns : goal.returns
unfolding place_of
returns c =
    let at = c.on-byte in
    let h = stands_there at.ensures in
    bytes_part (place_of c.args.self) at.result.byte at.result.used h.1 h.0 c.if-used-eq0.false
