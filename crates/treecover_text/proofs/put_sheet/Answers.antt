use mathlib.Core.Path.{sym, subst, ◌∙◌}
use Rattle.fields.specs.Reading.{Live}
use Rattle.fields.proofs.Answer.{answer_apart}
use Rattle.sheets_rules.proofs.Sound.{library_said_lem}
use Rattle.treecover_text.proofs.Laws.{text_read, printable_read}
use Rattle.treecover_text.proofs.put_sheet.Goals as goal

pub unreachable-requires : goal.unreachable-requires
unreachable-requires c = answer_apart (sym (library_said_lem c.args.library.now c.requires.sound.0) ∙ c.in_default.ensures.said.0)

pub unreachable-requires-in_default-read_cover : goal.unreachable-requires-in_default-read_cover
unreachable-requires-in_default-read_cover c = subst Live c.in_default-read_cover.ensures.scan_is c.requires.sound.1

pub put_cover-requires : goal.put_cover-requires
put_cover-requires c =
    let found = c.in-Ok-read_cover.ensures.holds in
    (found.few, printable_read c.in-Ok.ensures c.requires.sound.0 found c.args.text.now c.requires.printable)

pub returns : goal.returns
returns c = rw (text_read c.in-Ok.ensures c.requires.sound.0 c.in-Ok-read_cover.ensures.holds) at c.put_cover.ensures
