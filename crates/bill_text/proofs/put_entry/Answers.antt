use native.Mathlib.Omega.{arith}
use mathlib.Core.Path.{ap}
use Prim.Native.Nat.{◌<◌}
use lib.ListN.{length, length-append}
use Rattle.text.proofs.Laws.{appended_none, appended_both}
use Rattle.bill_text.proofs.Laws.{entry_none, entry_some}
use Rattle.bill_text.proofs.put_entry.Goals as goal

pub returns-then-entry-eq0 : goal.returns-then-entry-eq0
returns-then-entry-eq0 c = let a = c.args in rw (entry_none a.cell a.entry.count a.entry.amount c.if-entry-eq0.true) (appended_none a.text.now)

pub put_number-requires : goal.put_number-requires
put_number-requires c = let e = c.args.entry in omega (arith, simp length-append at (ap length (entry_some c.args.cell e.count e.amount (omega arith))))

pub put_last-requires : goal.put_last-requires
put_last-requires c =
    let e = c.args.entry in
    rw (c.from.ensures, c.from-2.ensures) (omega (arith, simp length-append at (ap length (entry_some c.args.cell e.count e.amount (omega arith)))))

pub returns : goal.returns
returns c =
    let e = c.args.entry in
    let some : 0 < e.count = omega arith in
    rw (← entry_some c.args.cell e.count e.amount some) (appended_both c.put_number.ensures (rw (c.from.ensures, c.from-2.ensures) at c.put_last.ensures))
