use native.Mathlib.Omega.{arith}
use Rattle.text.specs.Text.{line, spaced}
use Rattle.text.proofs.Laws.{appended_both}
use Rattle.bill_rules.specs.Billed.{total_line}
use Rattle.bill_rules.proofs.Text.{total_length}
use Rattle.bill_text.proofs.put_total.Goals as goal

pub put_word-requires : goal.put_word-requires
put_word-requires c = omega (arith, total_length c.args.total)

pub put_number-requires : goal.put_number-requires
put_number-requires c = rw c.from.ensures (omega (arith, total_length c.args.total))

pub put_word-requires-2 : goal.put_word-requires-2
put_word-requires-2 c = let number = rw c.from.ensures at c.put_number.ensures.len in omega (arith, total_length c.args.total)

pub returns : goal.returns
unfolding total_line line spaced
returns c = appended_both c.put_word.ensures (appended_both (rw c.from.ensures at c.put_number.ensures) c.put_word-2.ensures)
