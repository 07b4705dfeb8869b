use native.Mathlib.Omega.{arith}
use Prim.Native.Nat.{ℕ, ◌+◌}
use mathlib.Core.Path.{◌≡◌, sym, ap, subst, ◌∙◌}
use mathlib.Core.List.{List}
use Rattle.std.proofs.Common.{length, take, get_or}
use lib.Seq.{take-length}
use Rattle.std.specs.Iterator.Adapters.{rev_source}
use Rattle.std.specs.Slice.Iter.{iter_rest}
use Rattle.sheets_rules.specs.Model.{Library}
use Rattle.covers.specs.Match.{Match}
use Rattle.cells.specs.declared.PinFigures.{PinFigures}
use Rattle.cells.specs.Inside.Cell.{row_figures, delay_of, PinSafe}
use Rattle.leaves.specs.Inside.Leaf.{Heads}
use Rattle.overlay.specs.Inside.Promises.{blank_input}
use Rattle.overlay.specs.declared.Input.{Input as InputRecord}
use Rattle.judge_rules.specs.Walk.{Walk}
use Rattle.judge.specs.Inside.Promises.{WalkStored, Entering}
use Rattle.judge.proofs.Entering.{TurnBack, turn_back, from, slice_long, few, from_none, InputRead, input_read}
use Rattle.judge.proofs.WalkRecord.visit_inputs.Goals as goal
use Rattle.judge.proofs.WalkRecord.visit_inputs.Goals.{In-Some, After-pin_figures-pin}

-- The turn at an input, and what it reads.
turn : (c : In-Some) → TurnBack (take c.args.inputs.count c.args.inputs.list) (iter_rest (rev_source c.loop-input.input-iterator)) (iter_rest (rev_source c.next.new.self)) c.in-Some.input.now
turn c = turn_back _ _ _ _ c.loop-input.invariant.0 c.loop-input.invariant.1 c.in-Some.ensures.steps

at_input : (c : In-Some) {l : Library} {m : Match} {w : Walk} (h : Entering l c.args.row.now c.args.symbols.now c.args.inputs c.args.one c.args.self.now m w) →
    InputRead h (length (iter_rest (rev_source c.next.new.self))) c.in-Some.input.now
at_input c h = let t = turn c in input_read h _ _ (omega (arith, t.inside, slice_long h)) (t.here blank_input)

-- The inputs after it were reached.
after_kept : (c : In-Some) {l : Library} {m : Match} {w : Walk} (h : Entering l c.args.row.now c.args.symbols.now c.args.inputs c.args.one c.args.self.now m w) →
    WalkStored (from h (length (iter_rest (rev_source c.next.new.self)) + 1)) c.loop-input.self
after_kept c h = subst (λ (n : ℕ). WalkStored (from h n) c.loop-input.self) (turn c).long (c.loop-input.invariant.2 _ _ _ h)

-- The figures of the pin that it feeds.
figures_are : (c : After-pin_figures-pin) → c.pin_figures-pin.result ≡ row_figures c.args.row.now c.in-Some.input.now.pin
figures_are c = c.pin_figures-pin.ensures ∙ ap (row_figures c.args.row.now) c.from.ensures

safe : (c : In-Some) (pin : PinFigures) → pin ≡ row_figures c.args.row.now c.in-Some.input.now.pin → PinSafe pin
safe c pin e = subst PinSafe (sym e) (at_input c c.requires.1.1.1).safe

pub as_slice-requires : goal.as_slice-requires
as_slice-requires c = few c.requires.1.1.1

pub loop-input-init : goal.loop-input-init
loop-input-init c =
    let a = c.args in
    let all : List InputRecord = take a.inputs.count a.inputs.list in
    let same : iter_rest (rev_source c.into_iter-input-iterator.result) ≡ all =
    ap (λ r. iter_rest (rev_source r)) c.into_iter-input-iterator.ensures.into_iter_gives ∙ ap iter_rest c.rev-input-items.ensures.source ∙ c.iter.ensures.rest ∙ c.as_slice.ensures in
    rw same (omega arith, sym (take-length all), λ l m w h. subst (λ (v : Walk). WalkStored v a.self.now) (sym (from_none h)) h.kept)

pub pin_figures-pin-requires : goal.pin_figures-pin-requires
pin_figures-pin-requires c =
    let h = c.requires.1.1.1 in
    (h.stored.cell.long, omega (arith, c.from.ensures, (at_input (goal.at.pin_figures-pin-requires c).In-Some h).pin_small))

pub overflow_cast-below : goal.overflow_cast-below
overflow_cast-below c = record { fits = omega (arith, (safe (goal.at.overflow_cast-below c).In-Some _ (figures_are (goal.at.overflow_cast-below c).After-pin_figures-pin)).load) }

pub delay-requires : goal.delay-requires
delay-requires c = (safe (goal.at.delay-requires c).In-Some _ (figures_are (goal.at.delay-requires c).After-pin_figures-pin), omega (arith, c.from-load.ensures, c.requires.1.1.1.light))

pub bounds-symbols-from : goal.bounds-symbols-from
bounds-symbols-from c =
    let h = c.requires.1.1.1 in
    omega (arith, c.from-in-loop-input.ensures, (at_input (goal.at.bounds-symbols-from c).In-Some h).node_small, h.symbols_long)

pub visit-requires : goal.visit-requires
visit-requires c =
    let p = c.requires in
    let h = p.1.1.1 in
    let turn = (goal.at.visit-requires c).In-Some in
    let figures = safe turn _ (figures_are (goal.at.visit-requires c).After-pin_figures-pin) in
    (h.symbols_small _, omega (arith, (at_input turn h).room, (after_kept turn h).count_is), omega (arith, figures.load, h.light), omega (arith, c.delay.ensures.1, h.near))

pub loop-input-preserved : goal.loop-input-preserved
loop-input-preserved c =
    let here = (goal.at.loop-input-preserved c).In-Some in
    let t = turn here in
    let ss = c.args.symbols.now in (
      omega (arith, t.inside),
      t.left,
      λ l m w h.
          (at_input here h).kept (after_kept here h) c.pin_figures-pin.result c.delay.result (figures_are (goal.at.loop-input-preserved c).After-pin_figures-pin)
          (c.delay.ensures.0 ∙ ap (delay_of c.pin_figures-pin.result) c.from-load.ensures)
          (λ v s k o. c.visit.ensures v s k (subst (λ (n : ℕ). Heads (get_or ss n 0) s) (sym c.from-in-loop-input.ensures) o)),
    )

pub returns : goal.returns
returns c = λ l m w h. subst (λ (n : ℕ). WalkStored (from h n) c.loop-input.self) c.in-None.ensures.steps.0 (c.loop-input.invariant.2 l m w h)
