use mathlib.Core.Path.{ap, ◌∙◌}
use native.Mathlib.Omega.{arith}
use lib.ListN.{length}
use lib.Seq.{sets, length-take-le}
use Rattle.std.proofs.lemmas.Bool.{not-true, not-false}
use Rattle.fields.proofs.Readers.{stopped}
use Rattle.library.proofs.Laws.{front_copied, pattern_stops, pattern_lacks, pattern_drawn}
use Rattle.library.proofs.read_pattern.Goals as goal

pub returns-in_err-read : goal.returns-in_err-read
returns-in_err-read c =
    let a = c.args in
    stopped _ c.from_residual.ensures.1
    (pattern_stops a.pins c.requires.0.0 a.sheet.now c.read_shape.new.sheet c.read_shape.new.symbols a.symbols.now _ (rw c.saturating_sub.ensures at c.in_err-read.ensures))

pub returns-then-not-read : goal.returns-then-not-read
returns-then-not-read c =
    let a = c.args in
    pattern_lacks a.pins c.requires.0.0 a.sheet.now c.read_shape.new.sheet c.read_shape.new.symbols a.symbols.now _ c.in_ok-read.read (rw c.saturating_sub.ensures at c.in_ok-read.ensures)
    (not-true _ c.if-not-read.true) c.at.ensures

pub returns : goal.returns
returns c =
    let a = c.args in
    let n = c.in_ok-read.read.size in
    let h = rw c.saturating_sub.ensures at c.in_ok-read.ensures in
    let long = length-take-le n c.read_shape.new.symbols (omega (arith, h.symbols_long, h.reads.takes.holds.few)) in
    pattern_drawn a.pins c.requires.0.0 a.sheet.now c.read_shape.new.sheet c.read_shape.new.symbols a.symbols.now _ c.in_ok-read.read h (not-false _ c.if-not-read.false)
    (front_copied a.symbols.now c.copy_from_slice.new.self n (omega (arith, ap length c.copy_from_slice.ensures.after)) (omega (arith, h.reads.takes.holds.few)) ∙ ap (sets a.symbols.now 0) c.copy_from_slice.ensures.after)
