use mathlib.Core.Path.{refl}
use Rattle.fields.proofs.Laws.{field_took}
use Rattle.fields.proofs.Sheet.raw_wide.Goals as goal

pub returns : goal.returns
returns c =
    let a = c.args in
    record { same = refl; takes = field_took a.self.now.bytes.now a.width a.self.now.at c.in-Some.value c.in-Some.next c.in-Some.ensures }
