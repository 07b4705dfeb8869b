use native.Mathlib.Omega.{arith}
use mathlib.Core.Path.{sym, ap, subst, ◌∙◌}
use lib.ListN.{drop}
use Rattle.std.specs.Prelude.{Err}
use Rattle.fields.specs.Answer.{Answer, Bounded}
use Rattle.fields.specs.Reading.{start}
use Rattle.sheets_rules.specs.declared.Refusal.{Refusal}
use Rattle.sheets_rules.specs.Inside.Readers.{Says}
use Rattle.part_rules.specs.Part.{Part}
use Rattle.part_rules.specs.PartSheet.{counts}
use Rattle.part_rules.specs.PartRead.{after_counts, part}
use Rattle.part_read.specs.Inside.Decoded.{PartStored}
use Rattle.part_read.proofs.Laws.{part_from, part_stops, counts_room, whole}
use Rattle.part_read.proofs.read_part.Goals as goal

pub slice_bounds-read_rest-count : goal.slice_bounds-read_rest-count
slice_bounds-read_rest-count c = omega (arith, c.bytes_to.ensures, counts_room c.args.s.now c.in-Ok.counts.after c.in-Ok.ensures.at)

pub slice_bounds-read_rest-start : goal.slice_bounds-read_rest-start
slice_bounds-read_rest-start c = omega (arith, c.bytes_to.ensures, counts_room c.args.s.now c.in-Ok.counts.after c.in-Ok.ensures.at)

pub returns-in-Ok : goal.returns-in-Ok
returns-in-Ok c =
    let s = c.args.s.now in
    let r = c.in-Ok.counts in
    let h = c.in-Ok.ensures in
    let xs = (counts s start).0.links in
    let rest = whole s c.bytes_to.result ∙ ap (λ n. drop n s) c.bytes_to.ensures in
    let from = part_from s r.trees r.after h.holds.trees_are h.at ∙ ap (after_counts r.trees xs) (sym rest) in
    subst (λ (o : Answer Part). Says PartStored o c.read_rest.result) (sym from) (c.read_rest.ensures xs h.holds.links_are h.holds.counted)

pub returns-in-Err : goal.returns-in-Err
unfolding Bounded
returns-in-Err c =
    let s = c.args.s.now in
    let h = c.in-Err.ensures in
    subst (λ (q : Refusal). Says PartStored (part s) (Err q)) (sym c.refuse.ensures)
    (part_stops s c.in-Err.flaw.fault c.in-Err.flaw.place h.says, (omega arith, omega arith, omega arith, omega (arith, h.near)))
