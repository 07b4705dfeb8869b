use native.Mathlib.Omega.{arith}
use Prim.Native.Nat.{◌+◌, ◌*◌}
use mathlib.Core.Path.{sym}
use borrow.Author.Tests.{le-leb, lt-leb}
use Rattle.bits.specs.Bits.{place_of}
use Rattle.bits.proofs.Laws.{at_end}
use Rattle.bits.proofs.Cursor.inside.Goals as goal

pub returns-then-byte-bytes : goal.returns-then-byte-bytes
unfolding place_of
returns-then-byte-bytes c =
    let a = c.args in
    sym (le-leb (8 * a.self.byte + a.self.used) (8 * a.bytes) (omega arith))

pub returns-then-bytes-byte : goal.returns-then-bytes-byte
unfolding place_of
returns-then-bytes-byte c =
    let a = c.args in
    sym (lt-leb (8 * a.self.byte + a.self.used) (8 * a.bytes) (omega arith))

pub returns : goal.returns
unfolding place_of
returns c =
    let a = c.args in
    at_end a.self.byte a.self.used a.bytes (omega arith)
