use mathlib.Core.Path.{sym, subst}
use Rattle.fields.specs.Reading.{Live}
use Rattle.sheets_rules.specs.declared.Reason.{Reason}
use Rattle.judge.proofs.Judged.{refused_told, cover_answered, cover_not_read}
use Rattle.judge.proofs.with_tree.Goals as goal

pub with_records-requires : goal.with_records-requires
with_records-requires c = (c.in-Ok.ensures.holds.few, c.requires)

pub returns-in-Ok : goal.returns-in-Ok
returns-in-Ok c = λ l t h.
    let read = c.in-Ok.ensures in
    cover_answered c.args.cover.now l t (record { live = subst Live (sym read.scan_is) tt; holds = read.holds }) c.with_records.result (c.with_records.ensures l t h)

pub returns-in-Err : goal.returns-in-Err
returns-in-Err c = λ l t h.
    let read = c.in-Err.ensures in
    refused_told Reason.CoverSheet c.in-Err.flawed.flaw.place _ c.refused.ensures (cover_not_read c.args.cover.now l t (record { says = read.scan_is; near = read.near }))
