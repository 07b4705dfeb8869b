use native.Mathlib.Omega.{arith}
use Prim.Native.Nat.{ℕ}
use mathlib.Core.Path.{ap}
use lib.IntN.{ℤ}
use lib.ListN.{length}
use Rattle.result_sheets.specs.Public.{cover_of}
use Rattle.bill_rules.specs.Billed.{total_line, margin_line}
use Rattle.bill_text.proofs.Laws.{margin_kept}
use Rattle.bill_text.proofs.Stored.{times, countable, parts_short, listing, listed, bill_put}
use Rattle.bill_text.proofs.put_bill.Goals as goal

pub count_cells-entries-requires : goal.count_cells-entries-requires
count_cells-entries-requires c = let (room, (l, (t, h))) = c.requires in (l, countable h)

pub put_entries-total-requires : goal.put_entries-total-requires
put_entries-total-requires c =
    let (room, (l, (t, h))) = c.requires in
    (l, ((cover_of c.args.cover).placed, listing h c.count_cells-entries.result (omega arith) (c.count_cells-entries.ensures l (countable h)) c.args.text.now room))

pub put_total-requires : goal.put_total-requires
put_total-requires c =
    let (room, (l, (t, h))) = c.requires in
    let es = c.count_cells-entries in
    let so = listed h es.result (omega arith) (c.put_entries-total.ensures l (cover_of c.args.cover).placed (listing h es.result (omega arith) (es.ensures l (countable h)) c.args.text.now room)) in
    omega (arith, so.lines_put.len, so.lines_put.same_room, ap (λ (n : ℕ). length (total_line n)) so.total_is, parts_short h, room)

pub margin_of-requires : goal.margin_of-requires
margin_of-requires c = let (room, (l, (t, h))) = c.requires in times h

pub put_margin-requires : goal.put_margin-requires
put_margin-requires c =
    let (room, (l, (t, h))) = c.requires in
    let es = c.count_cells-entries in
    let so = listed h es.result (omega arith) (c.put_entries-total.ensures l (cover_of c.args.cover).placed (listing h es.result (omega arith) (es.ensures l (countable h)) c.args.text.now room)) in
    let kept = margin_kept c.args.required c.args.cover.arrival (times h).0 (times h).1 c.margin_of.result c.margin_of.ensures in
    omega (
      arith,
      so.lines_put.len,
      so.lines_put.same_room,
      ap (λ (n : ℕ). length (total_line n)) so.total_is,
      ap (λ (z : ℤ). length (margin_line z)) kept,
      parts_short h,
      room,
    )

pub returns : goal.returns
returns c = λ l t h.
    let room = c.requires.0 in
    let es = c.count_cells-entries in
    let so = listed h es.result (omega arith) (c.put_entries-total.ensures l (cover_of c.args.cover).placed (listing h es.result (omega arith) (es.ensures l (countable h)) c.args.text.now room)) in
    bill_put h so c.put_total.ensures c.put_margin.ensures (margin_kept c.args.required c.args.cover.arrival (times h).0 (times h).1 c.margin_of.result c.margin_of.ensures)
