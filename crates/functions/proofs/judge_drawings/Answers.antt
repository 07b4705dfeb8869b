use native.Mathlib.Omega.{arith}
use mathlib.Core.Path.{sym, ap, ◌∙◌}
use Rattle.std.proofs.lemmas.List.{length_push}
use Rattle.std.specs.Iterator.Adapters.{enumerate_source}
use Rattle.fields.specs.Answer.{success, refused}
use Rattle.functions_rules.specs.Report.{other_number}
use Rattle.sheets_rules.specs.Model.{patterns}
use Rattle.sheets_rules.specs.Report.{of_library_judged, counts_of}
use Rattle.functions.proofs.Rows.{goes_on, row_next, no_row}
use Rattle.functions.proofs.Judged.{judged_other, judged_right, judged_all, stated_fits}
use Rattle.functions.proofs.judge_drawings.Goals as goal

pub computes-requires : goal.computes-requires
computes-requires c =
    let p = c.requires in
    let r = row_next c.loop-number.invariant.0 (enumerate_source c.next.new.self) p.1.1 c.in-Some.row c.in-Some.ensures.steps.0 in
    (p.0, (_, r.1))

pub returns-then-not-computes : goal.returns-then-not-computes
unfolding of_library_judged
returns-then-not-computes c =
    let fs = c.args.functions.now in
    let i = c.loop-number in
    λ l h g e.
    let r = row_next i.invariant.0 (enumerate_source c.next.new.self) h c.in-Some.row c.in-Some.ensures.steps.0 in
    ap (refused other_number) (c.in-Some.ensures.steps.1 ∙ i.invariant.1)
    ∙ judged_other fs (counts_of l) (patterns l) _ r.0 (i.invariant.2 l h g) (sym (c.computes.ensures _ r.1 (stated_fits h _ r.0 fs g)) ∙ c.if-not-computes.true)

pub loop-number-preserved : goal.loop-number-preserved
loop-number-preserved c =
    let fs = c.args.functions.now in
    let i = c.loop-number in
    let turn = c.in-Some.ensures.steps in
    let more = length_push i.yielded (c.in-Some.number, c.in-Some.row) in (
      rw more (goes_on i.invariant.0 (enumerate_source c.next.new.self) c.in-Some.row turn.0),
      omega (arith, more, turn.2, i.invariant.1),
      λ l h g.
          let r = row_next i.invariant.0 (enumerate_source c.next.new.self) h c.in-Some.row turn.0 in
          rw more (judged_right fs (counts_of l) (patterns l) _ r.0 (i.invariant.2 l h g) (sym (c.computes.ensures _ r.1 (stated_fits h _ r.0 fs g)) ∙ c.if-not-computes.false)),
    )

pub returns : goal.returns
unfolding of_library_judged
returns c =
    let i = c.loop-number in
    λ l h g e.
    ap success e
    ∙ judged_all c.args.functions.now (counts_of l) (patterns l) _ (no_row i.invariant.0 (enumerate_source c.next.new.self) h c.in-None.ensures.steps.0) (i.invariant.2 l h g)
