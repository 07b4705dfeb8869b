use Prim.Native.Nat.{◌*◌, ◌≤◌, ◌<◌}
use mathlib.Core.Path.{◌≡◌}
use mathlib.Core.Option.{some}
use lib.ListN.{drop}
use Rattle.covers.specs.Inside.Curve.{both}
use Rattle.curves.specs.Inside.Words.{area_limit}
use Rattle.curves.specs.Inside.Best.{inputs_best}
use Rattle.curves.proofs.Match.hit_best.Given as goal

abbrev pub invariant-loop-input : goal.invariant-loop-input
invariant-loop-input l =
    let rest = inputs_best l.sources.curves.most l.sources.symbols.now l.sources.curves.work.now l.self.pattern.now l.load l.end in
    (l.area ≤ area_limit * l.input-index)
    × (l.arrival < l.end)
    × (rest l.input-items ≡ both (some (record { area = l.area; arrival = l.arrival })) (rest (drop l.input-index l.input-items)))
