use native.Mathlib.Omega.{arith}
use Rattle.text.specs.Text.{spaced}
use Rattle.text.proofs.Laws.{appended_both}
use Rattle.treecover_text.proofs.Laws.{row_line_lem, row_line_length}
use Rattle.treecover_text.proofs.put_match.Goals as goal

pub put_number-requires : goal.put_number-requires
put_number-requires c = let a = c.args in rw c.from-2.ensures (omega (arith, row_line_length a.rows.now a.one.node a.one.pattern a.one.crossing))

pub put_spaced-requires : goal.put_spaced-requires
put_spaced-requires c =
    let a = c.args in
    let node = rw c.from-2.ensures at c.put_number.ensures.len in
    rw (c.from-3.ensures, c.from.ensures) (omega (arith, row_line_length a.rows.now a.one.node a.one.pattern a.one.crossing))

pub put_last-requires : goal.put_last-requires
put_last-requires c =
    let a = c.args in
    let node = rw c.from-2.ensures at c.put_number.ensures.len in
    let cell = rw (c.from-3.ensures, c.from.ensures) at c.put_spaced.ensures.len in
    rw (c.from-4.ensures, c.from-5.ensures) (omega (arith, row_line_length a.rows.now a.one.node a.one.pattern a.one.crossing))

pub returns : goal.returns
unfolding spaced
returns c =
    let a = c.args in
    rw (← row_line_lem a.rows.now a.one.node a.one.pattern a.one.crossing)
    (appended_both (rw c.from-2.ensures at c.put_number.ensures)
    (appended_both (rw (c.from-3.ensures, c.from.ensures) at c.put_spaced.ensures) (rw (c.from-4.ensures, c.from-5.ensures) at c.put_last.ensures)))
