use Prim.Native.Nat.{◌*◌}
use mathlib.Core.Path.{◌≡◌}
use lib.ListN.{length}
use Rattle.std.specs.Prelude.{Ok}
use Rattle.fields.specs.Reading.{times}
use Rattle.fields.specs.Inside.Promises.{Reads}
use Rattle.functions_rules.specs.FunctionSheet.{function}
use Rattle.functions.specs.Inside.Promises.{FieldsLaid}
use Rattle.functions.proofs.read_fields.Given as goal

abbrev pub invariant-loop-k : goal.invariant-loop-k
invariant-loop-k l = Reads l.fn.sheet l.sheet (λ s. times l.k (function s l.pins)) (λ xs r. (length xs ≡ l.k) × FieldsLaid xs r) (64 * l.k) (Ok l.functions)
