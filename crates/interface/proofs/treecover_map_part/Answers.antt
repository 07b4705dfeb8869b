use mathlib.Core.Path.{sym, ap, subst, ◌∙◌}
use Rattle.fields.specs.Answer.{of_word}
use Rattle.fields.proofs.Answer.{word_reads}
use Rattle.map_rules.specs.Public.{of_reply}
use Rattle.part_rules.specs.Public.{MapsPart}
use Rattle.interface.proofs.treecover_map_part.Goals as goal

pub returns : goal.returns
returns c =
    let a = c.args in
    let call = c.map_part in
    subst (MapsPart a.library.now a.part.now a.output.now call.new.output a.work.now call.new.work) (sym (ap of_word c.reply_word.ensures ∙ word_reads (of_reply call.result) call.ensures.operated.bounded)) call.ensures
