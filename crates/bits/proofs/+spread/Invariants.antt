-- The value of a field byte by byte. It ends because the bits still to be passed fall.
use Prim.Native.Nat.{◌+◌}
use Rattle.bits.proofs.+spread.Given as goal

abbrev pub decreases-spread : goal.decreases-spread
decreases-spread l = l.used + l.width
