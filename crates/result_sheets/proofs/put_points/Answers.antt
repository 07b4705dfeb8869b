use native.Mathlib.Omega.{arith}
use mathlib.Core.Path.{◌≡◌, ap, ◌∙◌}
use Prim.Native.Nat.{ℕ, suc, ◌-◌}
use Rattle.fields.specs.Written.{written}
use Rattle.result_sheets.proofs.Laws.{points_to, point_turn, points_done}
use Rattle.result_sheets.proofs.put_points.Goals as goal

pub overflow_cast-word-in-loop-k : goal.overflow_cast-word-in-loop-k
overflow_cast-word-in-loop-k c = omega (arith, c.requires.3 (c.loop-k.k - 1) (omega arith))

pub loop-k-preserved : goal.loop-k-preserved
loop-k-preserved c =
    let i = c.loop-k in
    let ws = c.args.points.now in
    let next : suc (i.k - 1) ≡ i.k = omega arith in
    let turn = point_turn ws (i.k - 1) (omega arith) i.at i.output c.put.new.s c.put-in-loop-k.new.s c.put.ensures c.put-in-loop-k.ensures in
    record {
      left = omega arith;
      place = omega arith;
      kept = turn.0 ∙ i.invariant.kept;
      rest = turn.1 ∙ ap (λ (k : ℕ). written (points_to k ws) i.at i.output) next ∙ i.invariant.rest;
    }

pub returns : goal.returns
returns c = points_done c.args.points.now c.loop-k.k c.loop-k.at c.loop-k.output c.args.output.now (omega arith) c.loop-k.invariant.rest
