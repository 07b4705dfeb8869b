use Prim.Native.Nat.{◌+◌, ◌*◌}
use mathlib.Core.Path.{◌≡◌}
use lib.ListN.{length}
use Rattle.fields.specs.Written.{written}
use Rattle.result_sheets.proofs.Laws.{matches_from}
use Rattle.result_sheets.proofs.put_matches.Given as goal

abbrev pub invariant-loop-one : goal.invariant-loop-one
invariant-loop-one l = record {
  place : l.at ≡ 52 + 18 * l.one-index;
  kept : length l.output ≡ length l.initial.output;
  rest : written (matches_from l.one-index l.matches) l.at l.output ≡ written (matches_from 0 l.matches) 52 l.initial.output;
}
