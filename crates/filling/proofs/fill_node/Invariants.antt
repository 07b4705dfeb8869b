use Rattle.filling.proofs.Steps.{Done}
use Rattle.filling.proofs.fill_node.Given as goal

abbrev pub invariant-loop-b : goal.invariant-loop-b
invariant-loop-b l = Done l.symbols l.initial.work l.matches.rows.now l.matches.hits.now l.turn l.b l.work l.points
