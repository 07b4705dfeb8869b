use Rattle.text.proofs.Laws.{appended_both}
use Rattle.text.proofs.Text.put_spaced.Goals as goal

pub returns : goal.returns
returns c = appended_both c.put_word.ensures c.put_number.ensures
