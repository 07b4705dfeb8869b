use mathlib.Core.Path.{◌∙◌}
use Rattle.text.proofs.Laws.{decimal_is}
use Rattle.text.proofs.Text.put_number.Goals as goal

pub put_word-requires : goal.put_word-requires
put_word-requires c = let d = c.decimal-count in rw (d.ensures.digits ∙ decimal_is c.args.n d.result d.ensures.len) c.requires

pub returns : goal.returns
returns c = let d = c.decimal-count in rw (d.ensures.digits ∙ decimal_is c.args.n d.result d.ensures.len) at c.put_word.ensures
