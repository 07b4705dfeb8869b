use native.Mathlib.Omega.{arith}
use mathlib.Core.Path.{◌≡◌}
use lib.ListN.{length}
use Rattle.bill_text.proofs.Laws.{entries_none, entry_fits, sum_fits, entry_put}
use Rattle.bill_text.proofs.put_entries.Goals as goal

pub loop-cell-init : goal.loop-cell-init
loop-cell-init c = λ l xs h. entries_none l xs c.args.text.now

pub put_entry-requires : goal.put_entry-requires
put_entry-requires c = let (l, (xs, h)) = c.requires in entry_fits h c.loop-cell-test.true (c.loop-cell.invariant l xs h)

pub overflow_add-total : goal.overflow_add-total
overflow_add-total c = let (l, (xs, h)) = c.requires in omega (arith, sum_fits h c.loop-cell-test.true (c.loop-cell.invariant l xs h))

pub loop-cell-preserved : goal.loop-cell-preserved
loop-cell-preserved c = λ l xs h. entry_put h c.loop-cell-test.true (c.loop-cell.invariant l xs h) c.put_entry.ensures

pub returns : goal.returns
returns c = let all : c.loop-cell.cell ≡ length c.args.entries.now = omega arith in rw all at c.loop-cell.invariant
