use native.Mathlib.Omega.{arith}
use mathlib.Core.Path.{◌∙◌}
use Rattle.std.proofs.Common.{length-set}
use Rattle.std.proofs.lemmas.List.{length_push}
use Rattle.functions.proofs.Rows.{goes_on, row_next, no_row, noted_more, noted_all}
use Rattle.functions.proofs.pin_counts.Goals as goal

pub overflow_cast-counts : goal.overflow_cast-counts
overflow_cast-counts c = let r = row_next c.loop-row.invariant.0 c.next.new.self c.requires.1 c.in-Some.row c.in-Some.ensures.steps in record { fits = omega (arith, r.1.pins_are, r.1.few_pins) }

pub bounds-counts-row : goal.bounds-counts-row
bounds-counts-row c = let r = row_next c.loop-row.invariant.0 c.next.new.self c.requires.1 c.in-Some.row c.in-Some.ensures.steps in omega (arith, r.1.number_is, r.1.number_small)

pub loop-row-preserved : goal.loop-row-preserved
loop-row-preserved c =
    let i = c.loop-row in
    let turn = c.in-Some.ensures.steps in
    let more = length_push i.yielded c.in-Some.row in (
      rw more (goes_on i.invariant.0 c.next.new.self c.in-Some.row turn),
      length-set i.counts _ _ ∙ i.invariant.1,
      λ l h. let r = row_next i.invariant.0 c.next.new.self h c.in-Some.row turn in rw more (noted_more h i.counts i.invariant.1 _ _ _ r.0 r.1.number_is r.1.pins_are (i.invariant.2 l h)),
    )

pub returns : goal.returns
returns c =
    let i = c.loop-row in
    (i.invariant.1, λ l h. noted_all h i.counts i.invariant.1 _ (no_row i.invariant.0 c.next.new.self h c.in-None.ensures.steps) (i.invariant.2 l h))
