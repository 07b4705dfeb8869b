use mathlib.Core.Path.{◌≡◌}
use lib.ListN.{length}
use Rattle.bits.specs.Bits.{with_field}
use Rattle.bits.proofs.put.Given as goal

abbrev pub invariant-loop-k : goal.invariant-loop-k
invariant-loop-k l = (length l.s ≡ length l.initial.s) × (with_field l.s l.at l.k l.rest ≡ with_field l.initial.s l.at l.width l.v)
