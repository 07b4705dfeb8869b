use Prim.Native.Nat.{◌<◌}
use Rattle.sheets_rules.specs.Model.{Library, Tree}
use Rattle.filling.specs.Inside.Promises.{FillStart}
use Rattle.filling.proofs.Progress.{Progress}
use Rattle.filling.proofs.fill.Given as goal

abbrev pub invariant-loop-node : goal.invariant-loop-node
invariant-loop-node l = (0 < l.node) × ((library : Library) (tree : Tree) → FillStart library tree l.rows l.bins l.tree l.most l.initial.work → Progress l.most library tree l.node l.work)
