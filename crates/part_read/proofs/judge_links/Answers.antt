use native.Mathlib.Omega.{arith}
use mathlib.Core.Path.{◌≡◌, refl, ap, ◌∙◌}
use mathlib.Core.List.{List, [], ◌∷◌}
use lib.ListN.{length, length-append, length-set}
use Rattle.fields.proofs.Readers.{passed}
use Rattle.sheets_rules.specs.declared.TreeRecord.{TreeRecord}
use Rattle.part_rules.specs.Part.{Link}
use Rattle.part_rules.specs.PartRead.{links_judged}
use Rattle.part_read.specs.Inside.Promises.{JudgesLinks}
use Rattle.part_read.proofs.Links.{marks_none, reached_more, reached_stops}
use Rattle.part_read.proofs.judge_links.Goals as goal

-- what the code has where an array ends
abbrev blank : TreeRecord
blank = record { load = 0; required = 0; count = 0; symbols = []; sizes = [] }

no_more : (xs : List Link) → length xs ≡ 0 → xs ≡ []
no_more [] e = refl
no_more (x ∷ xs) e = absurd (omega (arith, e))

pub loop-k-init : goal.loop-k-init
loop-k-init c = (refl, λ ts xs h e n. record { before = []; rest = xs; all = refl; many = refl; judged = refl; marks = marks_none })

pub returns-in_err-judge_link : goal.returns-in_err-judge_link
returns-in_err-judge_link c =
    let i = c.loop-k in
    passed (JudgesLinks c.args.trees.now c.args.counts.now) _ c.from_residual.ensures.1
    (λ ts xs stored laid n. reached_stops blank stored laid (omega (arith, n, c.requires.links)) (omega (arith, n)) (c.requires.small i.k) (i.invariant.1 ts xs stored laid n) _ c.in_err-judge_link.ensures)

pub loop-k-preserved : goal.loop-k-preserved
loop-k-preserved c =
    let i = c.loop-k in (
      length-set i.drivers _ _ ∙ i.invariant.0,
      λ ts xs stored laid n. reached_more blank stored laid (omega (arith, n, c.requires.links)) (omega (arith, n)) (c.requires.small i.k) (i.invariant.1 ts xs stored laid n) c.in_ok-judge_link.ensures,
    )

pub returns : goal.returns
unfolding links_judged
returns c ts xs stored laid n =
    let i = c.loop-k in
    let h = i.invariant.1 ts xs stored laid n in
    let none_left : h.rest ≡ [] = no_more h.rest (omega (arith, ap length h.all, length-append h.before h.rest, h.many)) in
    (h.before, h.judged ∙ ap (links_judged ts h.before) none_left, h.marks)
