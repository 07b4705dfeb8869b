-- The loop over a hit's inputs: those passed are read.
use Prim.Native.Nat.{ℕ, ◌<◌}
use mathlib.Core.Path.{◌≡◌}
use lib.ListN.{length, get_or}
use Rattle.sheets_rules.specs.Model.{Library}
use Rattle.covers.specs.Match.{Match}
use Rattle.choosing.specs.Inside.Promises.{HitHolds, goal_of, no_input, no_goal}
use Rattle.choosing.proofs.read_inputs.Given as goal

abbrev pub invariant-loop-k : goal.invariant-loop-k
invariant-loop-k l =
    (length l.goals ≡ 6)
    × ((r : Library) (m : Match) → HitHolds r l.one.pattern.now l.one.hit.now m → (i : ℕ) → i < l.k → get_or l.goals i no_goal ≡ goal_of r m l.load l.time (get_or m.inputs i no_input))
