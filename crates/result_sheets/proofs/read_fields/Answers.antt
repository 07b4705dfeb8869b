-- At each exit: what was read before it, in the same bytes.
use native.Mathlib.Omega.{arith}
use mathlib.Core.Path.{◌∙◌}
use Rattle.fields.proofs.Readers.{on_same}
use Rattle.result_sheets.proofs.Laws.{put_flawed, area_flawed, arrival_flawed, count_flawed, cover_put, none_taken, matches_on, closed_put}
use Rattle.result_sheets.proofs.read_fields.Goals as goal

pub returns-in_err-cover-clause-put : goal.returns-in_err-cover-clause-put
returns-in_err-cover-clause-put c =
    let a = c.args in
    let h = c.in_err-cover.ensures in
    put_flawed c.from_residual.result c.from_residual.ensures.1
    (record { same = h.same; reads_are = area_flawed a.sheet.now.bytes.now a.sheet.now.at a.cover.now c.requires.0 h.takes; near = omega (arith, h.takes.near) })

pub returns-in_err-cover-2-clause-put : goal.returns-in_err-cover-2-clause-put
returns-in_err-cover-2-clause-put c =
    let a = c.args in
    let s = a.sheet.now.bytes.now in
    let area = c.in_ok-cover.ensures in
    let h = c.in_err-cover-2.ensures in
    let arrival = on_same s area.same h in
    put_flawed c.from_residual-in_err-cover-2.result c.from_residual-in_err-cover-2.ensures.1
    (record { same = h.same ∙ area.same; reads_are = arrival_flawed s a.sheet.now.at a.cover.now c.requires.0 area.takes arrival; near = omega (arith, area.takes.near, arrival.near) })

pub returns-in_err-cover-3-clause-put : goal.returns-in_err-cover-3-clause-put
returns-in_err-cover-3-clause-put c =
    let a = c.args in
    let s = a.sheet.now.bytes.now in
    let area = c.in_ok-cover.ensures in
    let t = c.in_ok-cover-2.ensures in
    let h = c.in_err-cover-3.ensures in
    let arrival = on_same s area.same t in
    let count = on_same s (t.same ∙ area.same) h in
    put_flawed c.from_residual-in_err-cover-3.result c.from_residual-in_err-cover-3.ensures.1
    (record {
      same = h.same ∙ t.same ∙ area.same;
      reads_are = count_flawed s a.sheet.now.at a.cover.now c.requires.0 area.takes arrival count;
      near = omega (arith, area.takes.near, arrival.near, count.near);
    })

pub read_matches-requires-clause-none : goal.read_matches-requires-clause-none
read_matches-requires-clause-none c = none_taken c.args.cover.now _ c.requires.0 (omega (arith, c.in_ok-cover-3.ensures.takes.holds.1))

pub returns-in_err-read_matches-clause-put : goal.returns-in_err-read_matches-clause-put
returns-in_err-read_matches-clause-put c =
    let a = c.args in
    let s = a.sheet.now.bytes.now in
    let area = c.in_ok-cover.ensures in
    let t = c.in_ok-cover-2.ensures in
    let n = c.in_ok-cover-3.ensures in
    let m = c.in_err-read_matches.ensures in
    let arrival = on_same s area.same t in
    let count = on_same s (t.same ∙ area.same) n in
    let same = n.same ∙ t.same ∙ area.same in
    put_flawed c.from_residual-in_err-read_matches.result c.from_residual-in_err-read_matches.ensures.1
    (record {
      same = m.same ∙ same;
      reads_are = cover_put s a.sheet.now.at a.cover.now c.requires.0 area.takes arrival count _ (matches_on s c.read_matches.new.matches _ same m (omega arith) (omega arith));
      near = omega (arith, area.takes.near, arrival.near, count.near, m.near, count.holds.1);
    })

pub returns-clause-put : goal.returns-clause-put
returns-clause-put c =
    let a = c.args in
    let s = a.sheet.now.bytes.now in
    let area = c.in_ok-cover.ensures in
    let t = c.in_ok-cover-2.ensures in
    let n = c.in_ok-cover-3.ensures in
    let m = c.in_ok-read_matches.ensures in
    let arrival = on_same s area.same t in
    let count = on_same s (t.same ∙ area.same) n in
    let same = n.same ∙ t.same ∙ area.same in
    closed_put c.end.result (m.same ∙ same) (cover_put s a.sheet.now.at a.cover.now c.requires.0 area.takes arrival count _ (matches_on s c.read_matches.new.matches _ same m (omega arith) (omega arith)))
    c.end.ensures (omega (arith, area.takes.near, arrival.near, count.near, m.near, count.holds.1))
