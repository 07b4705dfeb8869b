use native.Mathlib.Omega.{arith}
use Rattle.text.specs.Text.{decimal, spaced}
use Rattle.text.proofs.Laws.{appended_both, length_last}
use Rattle.text.proofs.Text.put_last.Goals as goal

pub put_spaced-requires : goal.put_spaced-requires
put_spaced-requires c = let a = c.args in omega (arith, length_last (decimal a.m) (decimal a.n))

pub put_spaced-requires-2 : goal.put_spaced-requires-2
put_spaced-requires-2 c = let a = c.args in omega (arith, length_last (decimal a.m) (decimal a.n))

pub put_word-requires : goal.put_word-requires
put_word-requires c = let a = c.args in omega (arith, length_last (decimal a.m) (decimal a.n))

pub returns : goal.returns
unfolding spaced
returns c = appended_both c.put_spaced.ensures (appended_both c.put_spaced-2.ensures c.put_word.ensures)
