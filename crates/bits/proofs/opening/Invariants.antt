use Rattle.bits.proofs.Words.{Copied}
use Rattle.bits.proofs.opening.Given as goal

abbrev pub invariant-loop-k : goal.invariant-loop-k
invariant-loop-k l = Copied l.s l.at l.k l.bytes
