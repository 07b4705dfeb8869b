use Rattle.bits.proofs.Words.{copied_none}
use Rattle.bits.proofs.opening.Goals as goal

pub loop-k-init : goal.loop-k-init
loop-k-init c = copied_none c.args.s.now c.args.at
