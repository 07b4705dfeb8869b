use Prim.Native.Nat.{◌≤◌, ◌+◌, ◌*◌}
use mathlib.Core.Path.{◌≡◌}
use lib.ListN.{length}
use Rattle.fields.specs.Written.{written}
use Rattle.result_sheets.proofs.Laws.{points_to}
use Rattle.result_sheets.proofs.put_points.Given as goal

abbrev pub invariant-loop-k : goal.invariant-loop-k
invariant-loop-k l = record {
  left : l.k ≤ length l.points;
  place : l.at + 46 * l.k ≡ 5 + 46 * length l.points;
  kept : length l.output ≡ length l.initial.output;
  rest : written (points_to l.k l.points) l.at l.output ≡ written (points_to (length l.points) l.points) 5 l.initial.output;
}
