-- The values of a shape in 64 settings. It ends because what is left of the row falls.
use Prim.Native.Nat.{◌-◌}
use Rattle.functions.proofs.+evaluate.Given as goal

abbrev pub decreases-evaluate : goal.decreases-evaluate
decreases-evaluate l = 46 - l.at
