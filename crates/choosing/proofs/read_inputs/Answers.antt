use native.Mathlib.Omega.{arith}
use Prim.Native.Nat.{ℕ, ◌-◌}
use mathlib.Core.Path.{ap, ◌∙◌}
use mathlib.Core.List.{List}
use lib.ListN.{length, get_or, length-set}
use Rattle.cells.specs.Inside.Cell.{row_figures}
use Rattle.overlay.specs.declared.Input.{Input}
use Rattle.overlay.specs.Inside.Promises.{blank_input}
use Rattle.choosing.proofs.Reading.{count_at, pattern_at_lem, crossing_at, inputs_turn}
use Rattle.choosing.proofs.read_inputs.Goals as goal

pub loop-k-preserved : goal.loop-k-preserved
loop-k-preserved c =
    let one = c.args.one.now in
    let hit = one.hit.now in
    let i = c.loop-k in
    let is = ap (λ (is : List Input). get_or is i.k blank_input) c.as_slice-inputs.ensures in
    let pin = c.pin_figures-pin in (
      length-set i.goals i.k _ ∙ i.invariant.0,
      λ l m h.
          inputs_turn l one.pattern.now hit m h c.args.load c.args.time i.k c.saturating_sub.result c.from-in-loop-k.result pin.result
          (pin.ensures ∙ ap (row_figures one.pattern.now) (c.from.ensures ∙ ap (λ (x : Input). x.pin) is))
          (c.saturating_sub.ensures ∙ ap (λ (d : ℕ). c.args.time - d) c.delay.ensures.0) (c.from-in-loop-k.ensures ∙ ap (λ (x : Input). x.node) is)
          i.goals (omega (arith, ap length c.as_slice-inputs.ensures)) i.invariant.0 (i.invariant.1 l m h),
    )

pub returns : goal.returns
returns c = λ l m h.
    let one = c.args.one.now in
    let many = ap length c.as_slice-inputs.ensures ∙ count_at l one.pattern.now one.hit.now m h in
    record {
      pattern_is = pattern_at_lem l one.pattern.now one.hit.now m h;
      crossing_is = crossing_at l one.pattern.now one.hit.now m h;
      count_is = many;
      few = h.few;
      each = λ k g. c.loop-k.invariant.1 l m h k (omega (arith, many));
    }
