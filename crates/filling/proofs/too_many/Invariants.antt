use Prim.Native.Nat.{ℕ, ◌≤◌, ◌<◌}
use lib.ListN.{get_or}
use Rattle.filling.proofs.too_many.Given as goal

abbrev pub invariant-loop-points : goal.invariant-loop-points
invariant-loop-points l = (k : ℕ) → k < l.points-index → get_or l.fn.counts.points k 0 ≤ l.turn.most
