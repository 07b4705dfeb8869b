use mathlib.Core.Path.{sym, ◌∙◌}
use Rattle.fields.proofs.Answer.{after_success, after_refused}
use Rattle.fields.proofs.Readers.{passed}
use Rattle.sheets_rules.specs.Inside.Readers.{Says}
use Rattle.part_rules.specs.PartRead.{after_counts}
use Rattle.part_read.specs.Inside.Decoded.{PartStored}
use Rattle.part_read.proofs.Laws.{rest_stops, rest_judged}
use Rattle.part_read.proofs.read_rest.Goals as goal

pub returns-in_err-trees : goal.returns-in_err-trees
returns-in_err-trees c xs laid n =
    let s = c.args.s.now in
    let count = c.args.counts.now.trees in
    let e = c.in_err-trees.ensures in
    passed (Says PartStored (after_counts count xs s)) _ c.from_residual.ensures.1 (rest_stops count xs s e.0, e.1)

pub returns-in_err-drivers : goal.returns-in_err-drivers
returns-in_err-drivers c xs laid n =
    let s = c.args.s.now in
    let count = c.args.counts.now.trees in
    let t = c.in_ok-trees.ensures in
    let e = c.in_err-drivers.ensures t.0 xs t.2.0 laid n in
    passed (Says PartStored (after_counts count xs s)) _ c.from_residual-in_err-drivers.ensures.1 (rest_judged count xs s t.0 t.1 ∙ after_refused _ e.0, e.1)

pub returns : goal.returns
returns c xs laid n =
    let t = c.in_ok-trees.ensures in
    let d = c.in_ok-drivers.ensures t.0 xs t.2.0 laid n in (
      record { trees = t.0; links = d.0 },
      rest_judged c.args.counts.now.trees xs c.args.s.now t.0 t.1 ∙ after_success _ d.1,
      record { count_is = sym t.2.1; trees_are = t.2.0; drivers_are = d.2 },
    )
