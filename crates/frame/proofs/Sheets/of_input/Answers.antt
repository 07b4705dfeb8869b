use native.Mathlib.Omega.{arith}
use Rattle.frame.proofs.Laws.{spoiled_lacking, spoiled_long, taken_none}
use Rattle.frame.proofs.Sheets.of_input.Goals as goal

pub returns-then-input-gt-INPUT : goal.returns-then-input-gt-INPUT
returns-then-input-gt-INPUT c = spoiled_long c.args.input.now c.args.count (omega (arith, c.if-input-gt-INPUT.true))

pub returns-in_err-lengths : goal.returns-in_err-lengths
returns-in_err-lengths c = rw c.from_residual.ensures (spoiled_lacking c.args.input.now c.args.count c.in_err-lengths.ensures.cases)

pub returns : goal.returns
returns c = let split = c.in_ok-lengths.ensures.cases in taken_none c.args.input.now c.args.count split.0 (omega (arith, c.if-input-gt-INPUT.false)) split.1 split.2
