use Rattle.frame.proofs.put_refusal.Goals as goal

pub put_refused-requires : goal.put_refused-requires
put_refused-requires c = rw c.number.ensures.0 c.requires

pub returns : goal.returns
returns c = rw c.number.ensures.0 at c.put_refused.ensures
