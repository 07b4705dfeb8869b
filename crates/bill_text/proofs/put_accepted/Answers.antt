use mathlib.Core.Path.{sym, subst, ◌∙◌}
use Rattle.fields.specs.Reading.{Live, start}
use Rattle.fields.proofs.Answer.{answer_apart}
use Rattle.sheets_rules.specs.LibrarySheet.{library as library_of}
use Rattle.sheets_rules.specs.TreeSheet.{tree as tree_of}
use Rattle.sheets_rules.proofs.Sound.{library_said_lem, tree_said_lem}
use Rattle.bill_rules.proofs.Accepted.{accepted}
use Rattle.bill_text.proofs.Stored.{stored_read, shown_read}
use Rattle.bill_text.proofs.put_accepted.Goals as goal

pub unreachable-requires : goal.unreachable-requires
unreachable-requires c =
    let a = c.args in
    let (room, (p, accepts)) = c.requires in
    answer_apart (sym (library_said_lem a.library.now (accepted a.library.now a.tree.now a.cover.now p accepts).library_live) ∙ c.in_default.ensures.said.0)

pub unreachable-requires-in_default-read_tree : goal.unreachable-requires-in_default-read_tree
unreachable-requires-in_default-read_tree c =
    let a = c.args in
    let (room, (p, accepts)) = c.requires in
    answer_apart (sym (tree_said_lem a.tree.now (accepted a.library.now a.tree.now a.cover.now p accepts).tree_live) ∙ c.in_default-read_tree.ensures.0)

pub unreachable-requires-in_default-read_cover : goal.unreachable-requires-in_default-read_cover
unreachable-requires-in_default-read_cover c =
    let a = c.args in
    let (room, (p, accepts)) = c.requires in
    subst Live c.in_default-read_cover.ensures.scan_is (accepted a.library.now a.tree.now a.cover.now p accepts).cover_live

pub put_bill-requires : goal.put_bill-requires
put_bill-requires c =
    let a = c.args in
    let (room, (p, accepts)) = c.requires in
    (room, ((library_of a.library.now start).0, ((tree_of a.tree.now start).0, stored_read a.library.now a.tree.now a.cover.now accepts c.in-Ok.ensures c.in-Ok-read_tree.ensures c.in-Ok-read_cover.ensures.holds)))

pub returns : goal.returns
returns c =
    let a = c.args in
    let (room, (p, accepts)) = c.requires in
    let stored = stored_read a.library.now a.tree.now a.cover.now accepts c.in-Ok.ensures c.in-Ok-read_tree.ensures c.in-Ok-read_cover.ensures.holds in
    rw (shown_read a.library.now a.tree.now a.cover.now accepts c.in-Ok.ensures c.in-Ok-read_tree.ensures c.in-Ok-read_cover.ensures.holds)
    at (c.put_bill.ensures (library_of a.library.now start).0 (tree_of a.tree.now start).0 stored)
