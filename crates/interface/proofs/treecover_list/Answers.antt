use mathlib.Core.Path.{sym, ap, subst, ◌∙◌}
use Rattle.fields.specs.Answer.{of_word}
use Rattle.fields.proofs.Answer.{word_reads}
use Rattle.map_rules.specs.Public.{of_reply}
use Rattle.map_rules.specs.Public.{Lists}
use Rattle.interface.proofs.treecover_list.Goals as goal

pub returns : goal.returns
returns c =
    let a = c.args in
    let call = c.list in
    subst (Lists a.library.now a.tree.now a.output.now call.new.output a.work.now call.new.work) (sym (ap of_word c.reply_word.ensures ∙ word_reads (of_reply call.result) call.ensures.operated.bounded)) call.ensures
