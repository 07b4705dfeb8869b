use mathlib.Core.Path.{◌∙◌}
use Rattle.curves.proofs.Laws.{input_missing, input_found}
use Rattle.curves.proofs.Match.input_word.Goals as goal

pub returns-in_err-w : goal.returns-in_err-w
returns-in_err-w c =
    let a = c.args in
    let s = a.sources.now in
    let pin = c.pin_figures-pin in
    rw c.from_residual.ensures (input_missing s.curves.most s.symbols.now s.curves.work.now a.self.now.pattern.now a.load a.end a.input pin.result c.from-d.result c.saturating_sub.result (rw c.from.ensures at pin.ensures) (c.from-d.ensures ∙ c.delay.ensures.0) c.saturating_sub.ensures (rw c.from-2.ensures at c.in_err-w.ensures))

pub returns : goal.returns
returns c =
    let a = c.args in
    let s = a.sources.now in
    let pin = c.pin_figures-pin in
    input_found s.curves.most s.symbols.now s.curves.work.now a.self.now.pattern.now a.load a.end a.input pin.result c.from-d.result c.saturating_sub.result (rw c.from.ensures at pin.ensures) (c.from-d.ensures ∙ c.delay.ensures.0) c.saturating_sub.ensures c.in_ok-w.w c.requires.load_bound.1 (rw c.from-2.ensures at c.in_ok-w.ensures)
