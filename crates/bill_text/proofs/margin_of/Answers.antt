use Rattle.bill_text.proofs.Laws.{margin_fits, margin_is}
use Rattle.bill_text.proofs.margin_of.Goals as goal

pub overflow_sub-result : goal.overflow_sub-result
overflow_sub-result c = margin_fits c.args.required c.args.arrival c.requires.0 c.requires.1

pub returns : goal.returns
returns c = margin_is c.args.required c.args.arrival c.requires.0 c.requires.1
