use native.Mathlib.Omega.{arith}
use Prim.Native.Nat.{ℕ, ◌+◌, ◌*◌, ◌<◌}
use mathlib.Core.Path.{◌≡◌, refl}
use mathlib.Core.List.{List, map}
use lib.ListN.{length, get_or, take, length-set}
use lib.Seq.{take_all}
use Rattle.sheets_rules.specs.Model.{Library}
use Rattle.sheets_rules.specs.Inside.Layout.{row_words}
use Rattle.result_sheets.specs.declared.MatchRecord.{MatchRecord}
use Rattle.result_sheets.specs.Public.{placed_of, no_match}
use Rattle.bill_text.specs.declared.Entry.{Entry}
use Rattle.bill_text.specs.Inside.Promises.{Countable, no_entry, TallyIs}
use Rattle.bill_text.proofs.Laws.{tally_none, Here, here, tally_turn}
use Rattle.bill_text.proofs.count_cells.Goals as goal

-- The match that is looked at: its row is there, and the numbers are small.
looked : {rows : List ℕ} (ms : List MatchRecord) {k p : ℕ} (entries : List Entry) → (l : Library) × Countable l rows (map placed_of ms) →
    (length entries ≡ 64) × ((l : Library) → Countable l rows (map placed_of ms) → TallyIs l (map placed_of (take k ms)) entries) →
    k < length ms → p ≡ (get_or ms k no_match).pattern → Here rows (row_words * p) (get_or entries (get_or rows (row_words * p + 0) 0) no_entry)
looked {rows} ms {k} {p} entries (l, h) (long, tally) below named = here l rows ms h k below named entries long (tally l h)

pub loop-one-init : goal.loop-one-init
loop-one-init c = (refl, λ l h. tally_none l)

pub bounds-rows-row : goal.bounds-rows-row
bounds-rows-row c = let h = looked _ _ c.requires c.loop-one.invariant c.loop-one-test.true c.from-row.ensures in omega arith

pub bounds-entries-rows : goal.bounds-entries-rows
bounds-entries-rows c = let h = looked _ _ c.requires c.loop-one.invariant c.loop-one-test.true c.from-row.ensures in omega arith

pub overflow_add-entry-in-loop-one : goal.overflow_add-entry-in-loop-one
overflow_add-entry-in-loop-one c = let h = looked _ _ c.requires c.loop-one.invariant c.loop-one-test.true c.from-row.ensures in omega arith

pub bounds-rows-row-in-loop-one : goal.bounds-rows-row-in-loop-one
bounds-rows-row-in-loop-one c = let h = looked _ _ c.requires c.loop-one.invariant c.loop-one-test.true c.from-row.ensures in omega arith

pub overflow_add-entry-in-loop-one-3 : goal.overflow_add-entry-in-loop-one-3
overflow_add-entry-in-loop-one-3 c = let h = looked _ _ c.requires c.loop-one.invariant c.loop-one-test.true c.from-row.ensures in omega arith

pub loop-one-preserved : goal.loop-one-preserved
loop-one-preserved c =
    let (long, tally) = c.loop-one.invariant in
    (simp length-set long, λ l h. tally_turn l c.args.rows.now c.args.matches.now h c.loop-one.one-index c.loop-one-test.true c.from-row.ensures c.loop-one.entries long (tally l h))

pub returns : goal.returns
returns c = rw (take_all c.loop-one.one-index c.args.matches.now c.loop-one-test.false) at c.loop-one.invariant.1
