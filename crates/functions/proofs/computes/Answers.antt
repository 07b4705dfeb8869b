use Rattle.functions.proofs.Computing.{row_computes}
use Rattle.functions.proofs.computes.Goals as goal

pub returns : goal.returns
returns c =
    let first = c.args in
    λ p h fits. row_computes first.row.now first.functions.now p c.settings-count.result c.evaluate-drawn.result h fits c.settings-count.ensures.0 (c.evaluate-drawn.ensures p.drawing h.drawing)
