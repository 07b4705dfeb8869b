-- At each exit: what was read before it, in the same bytes.
use native.Mathlib.Omega.{arith}
use mathlib.Core.Path.{◌∙◌}
use Rattle.fields.proofs.Readers.{on_same}
use Rattle.result_sheets.proofs.Laws.{put_flawed, node_flawed, pattern_flawed, crossing_flawed, match_told}
use Rattle.result_sheets.proofs.read_match.Goals as goal

pub returns-in_err-one : goal.returns-in_err-one
returns-in_err-one c =
    let a = c.args in
    let h = c.in_err-one.ensures in
    put_flawed c.from_residual.result c.from_residual.ensures.1
    (record { same = h.same; reads_are = node_flawed a.sheet.now.bytes.now a.sheet.now.at a.one.now c.requires.0 h.takes; near = omega (arith, h.takes.near) })

pub returns-in_err-one-2 : goal.returns-in_err-one-2
returns-in_err-one-2 c =
    let a = c.args in
    let s = a.sheet.now.bytes.now in
    let n = c.in_ok-one.ensures in
    let h = c.in_err-one-2.ensures in
    let pattern = on_same s n.same h in
    put_flawed c.from_residual-in_err-one-2.result c.from_residual-in_err-one-2.ensures.1
    (record { same = h.same ∙ n.same; reads_are = pattern_flawed s a.sheet.now.at a.one.now c.requires.0 n.takes pattern; near = omega (arith, n.takes.near, pattern.near) })

pub returns-in_err-one-3 : goal.returns-in_err-one-3
returns-in_err-one-3 c =
    let a = c.args in
    let s = a.sheet.now.bytes.now in
    let n = c.in_ok-one.ensures in
    let p = c.in_ok-one-2.ensures in
    let h = c.in_err-one-3.ensures in
    let pattern = on_same s n.same p in
    let crossing = on_same s (p.same ∙ n.same) h in
    put_flawed c.from_residual-in_err-one-3.result c.from_residual-in_err-one-3.ensures.1
    (record {
      same = h.same ∙ p.same ∙ n.same;
      reads_are = crossing_flawed s a.sheet.now.at a.one.now c.requires.0 n.takes pattern crossing;
      near = omega (arith, n.takes.near, pattern.near, crossing.near);
    })

pub returns : goal.returns
returns c =
    let a = c.args in
    let s = a.sheet.now.bytes.now in
    let n = c.in_ok-one.ensures in
    let p = c.in_ok-one-2.ensures in
    let x = c.in_ok-one-3.ensures in
    let pattern = on_same s n.same p in
    let crossing = on_same s (p.same ∙ n.same) x in
    record {
      same = x.same ∙ p.same ∙ n.same;
      reads_are = match_told s a.sheet.now.at a.one.now c.requires.0 n.takes pattern crossing;
      near = omega (arith, n.takes.near, pattern.near, crossing.near);
    }
