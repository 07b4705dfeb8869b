use borrow.Author.Tests.{le-ltb}
use mathlib.Core.Path.{◌∙◌}
use Rattle.covers.specs.Crossing.{crossing_limit}
use Rattle.judge.proofs.Stored.{crossing_large, some_left, crossing_tested}
use Rattle.judge.proofs.is_crossing.Goals as goal

pub nonzero_rem-result : goal.nonzero_rem-result
nonzero_rem-result c = some_left c.args.nands c.requires

pub returns-then-crossing-lt-NUMBERS : goal.returns-then-crossing-lt-NUMBERS
returns-then-crossing-lt-NUMBERS c = λ d e. crossing_tested d c.args.nands c.args.crossing c.requires e c.if-crossing-lt-NUMBERS.true

pub returns-else-crossing-lt-NUMBERS : goal.returns-else-crossing-lt-NUMBERS
returns-else-crossing-lt-NUMBERS c = λ d e. le-ltb c.args.crossing crossing_limit c.if-crossing-lt-NUMBERS.false ∙ crossing_large d c.args.crossing c.if-crossing-lt-NUMBERS.false
