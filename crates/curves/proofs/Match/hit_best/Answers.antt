use native.Mathlib.Omega.{arith}
use mathlib.Core.Path.{sym, ap}
use lib.ListN.{length}
use Rattle.covers.specs.Cover.{Point}
use Rattle.covers.proofs.Points.{both_nothing}
use Rattle.curves.specs.Inside.Best.{hit_inputs}
use Rattle.curves.proofs.Laws.{inputs_never, inputs_turn, inputs_stop, inputs_end, match_never, match_worth, few_inputs}
use Rattle.curves.proofs.Match.hit_best.Goals as goal

pub returns-then-end-eq0 : goal.returns-then-end-eq0
returns-then-end-eq0 c =
    let a = c.args in
    let s = a.sources.now in
    let m = a.self.now in
    match_never s.curves.most s.symbols.now s.curves.work.now m.pattern.now a.load a.end m.hit.now
    (inputs_never s.curves.most s.symbols.now s.curves.work.now m.pattern.now a.load a.end (hit_inputs m.hit.now) c.if-end-eq0.true)

pub loop-input-init : goal.loop-input-init
loop-input-init c = (omega arith, omega (arith, c.if-end-eq0.false), sym (both_nothing _))

pub returns-in_err-w : goal.returns-in_err-w
returns-in_err-w c =
    let a = c.args in
    let s = a.sources.now in
    let m = a.self.now in
    let i = c.loop-input in
    let stop = inputs_stop s.curves.most s.symbols.now s.curves.work.now m.pattern.now a.load a.end c.as_slice-input-items.result.now i.input-index (record { area = i.area; arrival = i.arrival }) i.invariant.2 c.loop-input-test.true c.in_err-w.ensures in
    rw c.from_residual.ensures (match_never s.curves.most s.symbols.now s.curves.work.now m.pattern.now a.load a.end m.hit.now (rw c.as_slice-input-items.ensures at stop))

pub loop-input-preserved : goal.loop-input-preserved
loop-input-preserved c =
    let a = c.args in
    let s = a.sources.now in
    let i = c.loop-input in
    let g = c.in_ok-w.ensures in
    let turn = inputs_turn s.curves.most s.symbols.now s.curves.work.now a.self.now.pattern.now a.load a.end c.as_slice-input-items.result.now i.input-index (record { area = i.area; arrival = i.arrival }) i.invariant.2 c.loop-input-test.true c.in_ok-w.w g.point in
    (omega (arith, g.small, i.invariant.0), omega (arith, g.intime, i.invariant.1, c.max-arrival.ensures), rw c.max-arrival.ensures turn)

pub returns : goal.returns
returns c =
    let a = c.args in
    let s = a.sources.now in
    let m = a.self.now in
    let i = c.loop-input in
    let e = c.as_slice-input-items.ensures in
    let p : Point = record { area = i.area; arrival = i.arrival } in
    let whole = inputs_end s.curves.most s.symbols.now s.curves.work.now m.pattern.now a.load a.end c.as_slice-input-items.result.now i.input-index p i.invariant.2 c.loop-input-test.false i.invariant.1 in
    rw c.from.ensures (match_worth s.curves.most s.symbols.now s.curves.work.now m.pattern.now a.load a.end m.hit.now p (rw e at whole) m.safe.area
    (omega (arith, i.invariant.0, c.loop-input.auto.input-index-end, ap length e, few_inputs m.safe)) i.invariant.1 c.requires.1)
