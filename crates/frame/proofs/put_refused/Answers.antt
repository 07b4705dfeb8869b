use native.Mathlib.Omega.{arith}
use Rattle.text.specs.Text.{line}
use Rattle.text.proofs.Laws.{appended_both}
use Rattle.frame.specs.Framed.{refusal_line}
use Rattle.frame.proofs.Laws.{refusal_length}
use Rattle.frame.proofs.put_refused.Goals as goal

pub put_word-requires : goal.put_word-requires
put_word-requires c = let a = c.args in omega (arith, refusal_length a.number a.place)

pub put_last-requires : goal.put_last-requires
put_last-requires c = let a = c.args in rw c.from.ensures (omega (arith, refusal_length a.number a.place))

pub returns : goal.returns
unfolding refusal_line line
returns c = appended_both c.put_word.ensures (rw c.from.ensures at c.put_last.ensures)
