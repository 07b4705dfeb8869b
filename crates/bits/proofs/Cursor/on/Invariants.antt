use Prim.Native.Nat.{◌+◌, ◌*◌}
use mathlib.Core.Path.{◌≡◌}
use Rattle.bits.proofs.Cursor.on.Given as goal

abbrev pub invariant-loop-used : goal.invariant-loop-used
invariant-loop-used l = 8 * l.byte + l.used ≡ 8 * l.initial.byte + l.initial.used

abbrev pub decreases-loop-used : goal.decreases-loop-used
decreases-loop-used l = l.used
