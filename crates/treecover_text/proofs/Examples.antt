-- By computation from the definitions.
use mathlib.Core.Path.{refl}
use Rattle.fields.specs.Answer.{◌>>=◌}
use Rattle.sheets_rules.specs.Report.{library_said, tree_said}
use Rattle.covers.specs.Capacity.{allowed}
use Rattle.covers.specs.Lending.{lent}
use Rattle.covers.specs.Outcome.{operation}
use Rattle.sheets_rules.proofs.Examples.{both_read}
use Rattle.treecover_text.specs.Printed.{printed}
use Rattle.treecover_text.specs.Examples.Printing.{Examples}

pub examples : Examples
unfolding printed operation lent allowed library_said tree_said ◌>>=◌ both_read
examples = refl
