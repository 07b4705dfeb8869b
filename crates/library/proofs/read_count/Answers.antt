use mathlib.Core.Path.{sym, ◌∙◌}
use Rattle.fields.proofs.Laws.{judged_sound}
use Rattle.sheets_rules.specs.LibrarySheet.{count_verdict}
use Rattle.sheets_rules.proofs.LibrarySheet.{count_passes}
use Rattle.library.proofs.read_count.Goals as goal

pub returns : goal.returns
returns c =
    let a = c.args in
    let x = c.in_ok-count.count in
    let read = c.in_ok-count.ensures in
    let sound = sym c.count_verdict.ensures ∙ c.in_ok-settle.ensures in
    let passes = count_passes a.total x sound in
    let took = judged_sound a.sheet.now.bytes.now 3 a.sheet.now.at (count_verdict a.total) _ _ _ x read.takes 7 sound passes.1 in
    record { same = read.same; takes = record { at = took.at; holds = record { is = took.holds.0; few = took.holds.1; fits = passes.0 }; near = took.near } }
