use native.Mathlib.Omega.{arith}
use Rattle.text.specs.Text.{spaced, line}
use Rattle.text.proofs.Laws.{appended_both}
use Rattle.treecover_text.specs.Printed.{cover_line}
use Rattle.treecover_text.proofs.Laws.{cover_line_length}
use Rattle.treecover_text.proofs.put_head.Goals as goal

pub put_word-requires : goal.put_word-requires
put_word-requires c = let a = c.args in omega (arith, cover_line_length a.area a.arrival a.count)

pub put_spaced-requires : goal.put_spaced-requires
put_spaced-requires c = let a = c.args in rw c.from.ensures (omega (arith, cover_line_length a.area a.arrival a.count))

pub put_last-requires : goal.put_last-requires
put_last-requires c = let a = c.args in rw c.from-2.ensures (omega (arith, cover_line_length a.area a.arrival a.count, rw c.from.ensures at c.put_spaced.ensures.len))

pub returns : goal.returns
unfolding cover_line line spaced
returns c = appended_both c.put_word.ensures (appended_both (rw c.from.ensures at c.put_spaced.ensures) (rw c.from-2.ensures at c.put_last.ensures))
