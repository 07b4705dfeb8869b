use Prim.Native.Nat.{◌/◌}
use mathlib.Core.Path.{◌≡◌, refl}
use native.Mathlib.Nat.{zero-mod}
use native.Mathlib.Omega.{arith}
use Rattle.std.specs.Prelude.{Ok, Err}
use Rattle.sheets_rules.specs.Model.{nands}
use Rattle.covers.specs.Lists.{select}
use Rattle.covers.specs.Crossing.{counted, crossings}
use Rattle.covers.specs.Match.{fitting_under}
use Rattle.overlay.proofs.Patterns.{hit, missed}
use Rattle.matching.proofs.Crossings.{matches_below, is_crossing_lem}
use Rattle.matching.proofs.Patterns.{all_below, turn_found, turn_missed, few_nands, nands_told, more_below, next_crosses}
use Rattle.matching.proofs.find_crossings.Goals as goal

pub loop-crossing-init : goal.loop-crossing-init
loop-crossing-init c = (omega arith, omega arith, λ p s t. ((λ h. is_crossing_lem p.drawing 0 (omega arith) (zero-mod _)), unfold counted select fitting_under in omega arith, unfold counted select fitting_under in refl))

pub next_crossing-crossing-requires : goal.next_crossing-crossing-requires
next_crossing-crossing-requires c =
    let t = c.requires.1.1 in
    (c.loop-crossing-test.true, omega (arith, c.from-nands.ensures, nands_told t (c.measure-extents.ensures _ t.drawing t.sound.size), few_nands t))

pub loop-crossing-preserved-in-Ok : goal.loop-crossing-preserved-in-Ok
loop-crossing-preserved-in-Ok c =
    let a = c.args in
    let i = c.loop-crossing in
    let next = c.next_crossing-crossing.ensures in (
      next.2,
      omega (arith, i.invariant.1, next.1),
      λ p s t.
          let was = i.invariant.2 p s t in
          let crossing = was.0 c.loop-crossing-test.true in
          let measured = c.measure-extents.ensures p.drawing t.drawing t.sound.size in
          let walk = c.in-Ok.ensures p.drawing s (t.walkable _ measured) in
          let told : c.from-nands.result / 32 ≡ nands p.drawing = rw c.from-nands.ensures (nands_told t measured) in
          let here = hit a.n s i.crossing t.sound walk in
          let more = more_below t i.crossing crossing (Ok c.in-Ok.inputs) walk _ told _ next.0 in
          let turn = turn_found a.n s a.pattern p i.crossing a.table.now i.table a.count i.found c.next_crossing-crossing.result here.inputs here.fits here.inputs_are more was.1 was.2 in
          (next_crosses t i.crossing crossing (Ok c.in-Ok.inputs) walk _ told _ next.0, turn.0, turn.1),
    )

pub loop-crossing-preserved : goal.loop-crossing-preserved
loop-crossing-preserved c =
    let a = c.args in
    let i = c.loop-crossing in
    let next = c.next_crossing-crossing-in-Err.ensures in (
      next.2,
      omega (arith, i.invariant.1, next.1),
      λ p s t.
          let was = i.invariant.2 p s t in
          let crossing = was.0 c.loop-crossing-test.true in
          let walk = c.in-Err.ensures p.drawing s (t.walkable _ (c.measure-extents.ensures p.drawing t.drawing t.sound.size)) in
          let more = more_below t i.crossing crossing (Err c.in-Err.used) walk _ refl _ next.0 in
          let turn = turn_missed a.n s a.pattern p i.crossing a.table.now i.table a.count i.found c.next_crossing-crossing-in-Err.result (missed a.n s i.crossing t.sound walk) more was.1 was.2 in
          (next_crosses t i.crossing crossing (Err c.in-Err.used) walk _ refl _ next.0, turn.0, turn.1),
    )

pub returns : goal.returns
returns c = λ p s t.
    let a = c.args in
    let i = c.loop-crossing in
    let done : i.crossing ≡ 32 = omega (arith, i.invariant.0, c.loop-crossing-test.false) in
    let all : matches_below a.n s a.pattern p i.crossing ≡ fitting_under a.n s a.pattern p (crossings p.drawing) = all_below a.n s a.pattern p done in
    let r = i.invariant.2 p s t in
    (rw all at r.1, rw all at r.2)
