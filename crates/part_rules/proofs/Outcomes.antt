-- The examples of whole outcomes hold, by computation from the definitions alone.
use mathlib.Core.Path.{refl}
use Rattle.bits.specs.Bits.{filled_at}
use Rattle.fields.specs.Answer.{◌>>=◌, on_success}
use Rattle.sheets_rules.specs.Report.{library_said}
use Rattle.sheets_rules.proofs.Examples.{both_read}
use Rattle.covers.specs.Capacity.{allowed}
use Rattle.covers.specs.Lending.{lent, work_after}
use Rattle.part_rules.specs.PartSheet.{link, counts}
use Rattle.part_rules.specs.PartRead.{sheet_read, after_counts, part}
use Rattle.part_rules.specs.Outcome.{part_sheets, part_outcome}
use Rattle.part_rules.specs.Examples.Outcomes.{Outcomes, Leaves, Heads}

pub outcomes : Outcomes
unfolding part_outcome lent allowed library_said part after_counts counts link part_sheets ◌>>=◌ on_success both_read filled_at
outcomes = refl

pub leaves : Leaves
unfolding part_outcome lent allowed library_said part after_counts counts link part_sheets work_after ◌>>=◌ on_success both_read filled_at
leaves = record { after_43 = refl; after_8 = refl; after_41 = refl }

pub heads : Heads
unfolding sheet_read counts link both_read filled_at
heads = record { counted = _; whole = refl; count_is = refl }
