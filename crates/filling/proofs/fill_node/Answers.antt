use native.Mathlib.Omega.{arith}
use Prim.Native.Nat.{ℕ, ◌+◌, ◌-◌, ◌<◌}
use mathlib.Core.Path.{◌≡◌, refl}
use mathlib.Core.List.{List}
use Rattle.matching.specs.declared.Hit.{Hit}
use Rattle.filling.specs.declared.Turn.{Turn}
use Rattle.filling.proofs.Steps.{Done, done_start, done_sources, done_fit, count_small, done_next, done_all}
use Rattle.filling.proofs.fill_node.Goals as goal

-- what stands before the next load, said of that load's number
so_far : {symbols work₀ rows : List ℕ} {hits : List Hit} {turn : Turn} {b : ℕ} {work points : List ℕ} → 0 < b → Done symbols work₀ rows hits turn b work points →
    Done symbols work₀ rows hits turn (b - 1 + 1) work points
so_far {b = b} h d = let e : b ≡ b - 1 + 1 = omega arith in rw (← e) d

pub loop-b-init : goal.loop-b-init
loop-b-init c = done_start c.requires.ready _ refl

pub curve-requires-clause-sources : goal.curve-requires-clause-sources
curve-requires-clause-sources c = done_sources c.requires.ready c.loop-b.invariant

pub curve-requires-clause-points_fit : goal.curve-requires-clause-points_fit
curve-requires-clause-points_fit c = rw c.from.ensures (done_fit c.requires.ready c.loop-b.invariant (c.loop-b.b - 1) (omega (arith, c.loop-b.auto.b)))

pub overflow_cast-points : goal.overflow_cast-points
overflow_cast-points c =
    let i = c.loop-b in
    omega (arith, count_small c.requires.ready i.invariant (i.b - 1) c.curve.result (rw c.from.ensures at c.curve.ensures).counted)

pub loop-b-preserved : goal.loop-b-preserved
loop-b-preserved c =
    let i = c.loop-b in
    let r = c.curve in
    done_next c.requires.ready (i.b - 1) (omega (arith, i.auto.b)) (so_far (omega arith) i.invariant) r.new.work r.result r.auto.work (rw c.from.ensures at r.ensures)

pub returns : goal.returns
returns c = let e : c.loop-b.b ≡ 0 = omega arith in done_all c.requires.ready (rw e at c.loop-b.invariant)
