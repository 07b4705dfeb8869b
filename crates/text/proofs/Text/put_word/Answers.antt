use borrow.Author.Rules.{rules}
use Rattle.std.proofs.lemmas.Slice.{overwrites}
use Rattle.text.proofs.Text.put_word.Goals as goal

pub returns : goal.returns
returns c = search (rules, overwrites)
