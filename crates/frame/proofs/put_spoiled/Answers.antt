use Rattle.text.specs.Text.{spaced, line}
use Rattle.frame.specs.Framed.{spoiled_line}
use Rattle.frame.proofs.put_spoiled.Goals as goal

pub put_word-requires : goal.put_word-requires
unfolding spoiled_line line spaced
put_word-requires c = c.requires

pub returns : goal.returns
unfolding spoiled_line line spaced
returns c = c.put_word.ensures
