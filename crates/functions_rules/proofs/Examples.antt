-- By computation from the definitions.
use mathlib.Core.Path.{refl}
use Rattle.fields.specs.Answer.{◌>>=◌}
use Rattle.sheets_rules.specs.Report.{library_said}
use Rattle.sheets_rules.proofs.Examples.{both_read}
use Rattle.functions_rules.specs.Function.{computes, every, value, bit_of, pin_in}
use Rattle.functions_rules.specs.FunctionSheet.{pin_counts, function_sheet}
use Rattle.functions_rules.specs.Report.{functions_judged, functions_report}
use Rattle.functions_rules.specs.Examples.Drawings.{Examples}
use Rattle.functions_rules.specs.Examples.Reports.{Reports}

pub examples : Examples
unfolding computes every value bit_of pin_in
examples = refl

pub reports : Reports
unfolding library_said ◌>>=◌ both_read pin_in pin_counts function_sheet functions_judged functions_report
reports = refl
