use native.Mathlib.Omega.{arith}
use mathlib.Core.Path.{◌≡◌, ap, ◌∙◌}
use Prim.Native.Nat.{◌*◌}
use Rattle.std.proofs.Common.{take, length-take}
use Rattle.sheets_rules.specs.declared.LibraryRecord.{LibraryRecord}
use Rattle.sheets_rules.specs.declared.TreeRecord.{TreeRecord}
use Rattle.sheets_rules.specs.Inside.Layout.{row_words}
use Rattle.std.proofs.lemmas.Result.{err_from_is_err_and}
use Rattle.sheets_rules.specs.declared.Reason.{Reason}
use Rattle.sheets_rules.specs.Model.{Library, Tree}
use Rattle.covers.specs.Cover.{Point}
use Rattle.overlay.specs.Inside.Promises.{SheetsStored}
use Rattle.overlay.proofs.Sheets.{total_few, decoded_of}
use Rattle.judge_rules.specs.Judgement.{figures}
use Rattle.judge_rules.specs.Public.{of_cover_judged}
use Rattle.judge.specs.Inside.Promises.{Judging}
use Rattle.judge.proofs.Stored.{figures_true, figures_false}
use Rattle.judge.proofs.Judged.{refused_told, figures_refused}
use Rattle.judge.proofs.with_records.Goals as goal
use Rattle.judge.proofs.with_records.Goals.{then-figures-cover-via-then-figures-cover, then-figures-cover-via-else-figures-cover+then-figures-cover-2}

judging : {l : Library} {t : Tree} {library : LibraryRecord} {tree : TreeRecord} → SheetsStored l t library tree → Judging l t (take (row_words * library.total) library.rows) tree
judging h = record { decoded = decoded_of h; tree_is = h.tree_is }

pub overflow_mul-rows : goal.overflow_mul-rows
overflow_mul-rows c = record { fits = omega (arith, total_few c.requires.1.1.1) }

pub shared_ref_as_front-rows : goal.shared_ref_as_front-rows
shared_ref_as_front-rows c = omega (arith, total_few c.requires.1.1.1)

pub walk_cover-requires : goal.walk_cover-requires
walk_cover-requires c =
    let p = c.requires in
    (omega (arith, p.0, length-take c.args.cover.now.count c.args.cover.now.matches), (p.1.0, (p.1.1.0, judging p.1.1.1)))

pub returns-in_err-figures : goal.returns-in_err-figures
returns-in_err-figures c = λ l t h.
    let p = err_from_is_err_and c.from_residual.result c.from_residual.ensures.1 in
    rw (p.1, p.2) (figures_refused _ _ (c.in_err-figures.ensures l t (judging h)))

pub returns-then-figures-cover : goal.returns-then-figures-cover
unfolding of_cover_judged
returns-then-figures-cover c = λ l t h.
    let a = c.args.cover.now in
    let stated : Point = record { area = a.area; arrival = a.arrival } in
    let found = c.in_ok-figures.figures in
    let other : record { area = found.area; arrival = found.arrival } ≡ stated → ⊥ = elim c.then-figures-cover.branch [
      | then-figures-cover-via-then-figures-cover w ↦ λ e. w.if-figures-cover.true (ap (λ (p : Point). p.area) e)
      | then-figures-cover-via-else-figures-cover+then-figures-cover-2 w ↦ λ e. w.if-figures-cover-2.true (ap (λ (p : Point). p.arrival) e)
    ] in
    refused_told Reason.Figures 0 _ c.refused.ensures (figures_false other ∙ ap (figures stated) (c.in_ok-figures.ensures l t (judging h)))

pub returns : goal.returns
unfolding of_cover_judged
returns c = λ l t h.
    let a = c.args.cover.now in
    let stated : Point = record { area = a.area; arrival = a.arrival } in
    figures_true (λ i. record { area = c.if-figures-cover.false i; arrival = c.if-figures-cover-2.false i }) ∙ ap (figures stated) (c.in_ok-figures.ensures l t (judging h))
