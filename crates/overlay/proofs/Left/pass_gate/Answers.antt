-- Past a gate.
use mathlib.Core.Path.{sym, ◌∙◌}
use Rattle.overlay.proofs.Walking.{passed_inv, passed_nand}
use Rattle.overlay.proofs.Left.pass_gate.Goals as goal

pub returns-then-symbol-eq-INVERTER : goal.returns-then-symbol-eq-INVERTER
returns-then-symbol-eq-INVERTER c = let a = c.args in passed_inv a.self.now a.extents.words a.crossing c.if-symbol-eq-INVERTER.true

pub returns-then-is_exchanged : goal.returns-then-is_exchanged
returns-then-is_exchanged c =
    let a = c.args in
    c.push.ensures
    ∙ rw c.from.ensures (passed_nand a.self.now a.extents.words a.crossing c.if-symbol-eq-INVERTER.false (sym c.is_exchanged.ensures ∙ c.if-is_exchanged.true) c.max-self.ensures)

pub returns-else-is_exchanged : goal.returns-else-is_exchanged
returns-else-is_exchanged c =
    let a = c.args in
    c.push-else-is_exchanged.ensures
    ∙ rw c.from.ensures (passed_nand a.self.now a.extents.words a.crossing c.if-symbol-eq-INVERTER.false (sym c.is_exchanged.ensures ∙ c.if-is_exchanged.false) c.max-self.ensures)
