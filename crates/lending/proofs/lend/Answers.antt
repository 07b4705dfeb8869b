use native.Mathlib.Omega.{arith}
use mathlib.Core.Path.{refl}
use Rattle.fields.specs.Answer.{Bounded}
use Rattle.covers.specs.Capacity.{allowed}
use Rattle.covers.proofs.Lent.{lent_enough, short_output, short_work}
use Rattle.lending.proofs.lend.Goals as goal
use Rattle.lending.proofs.lend.Goals.{then-output-least-via-then-output-least, then-output-least-via-else-output-least+then-work-lt-WORK}

pub returns-then-output-least : goal.returns-then-output-least
unfolding Bounded
returns-then-output-least c =
    let a = c.args in
    elim c.then-output-least.branch [
      | then-output-least-via-then-output-least w ↦ (short_output a.least a.output a.work (omega arith), omega arith)
      | then-output-least-via-else-output-least+then-work-lt-WORK w ↦ (short_work a.least a.output a.work (omega arith) (omega arith), omega arith)
    ]

pub returns : goal.returns
unfolding allowed
returns c = let a = c.args in (allowed a.work, lent_enough a.least a.output a.work (omega arith) (omega arith), refl)
