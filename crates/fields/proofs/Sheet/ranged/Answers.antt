use mathlib.Core.Path.{sym, ◌∙◌}
use Rattle.fields.specs.Reading.{within}
use Rattle.fields.proofs.Laws.{judged_sound, range_passes}
use Rattle.fields.proofs.Sheet.ranged.Goals as goal

pub returns : goal.returns
returns c =
    let a = c.args in
    let x = c.in_ok-value.value in
    let read = c.in_ok-value.ensures in
    let sound = sym c.in_range.ensures ∙ c.in_ok-settle.ensures in
    record {
      same = read.same;
      takes = judged_sound a.self.now.bytes.now a.width a.self.now.at (within a.least a.most) _ _ _ x read.takes a.most sound (range_passes a.least a.most x sound);
    }
