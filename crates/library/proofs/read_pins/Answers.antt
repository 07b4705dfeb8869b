use native.Mathlib.Omega.{arith}
use mathlib.Core.Path.{refl, ap, ◌∙◌}
use mathlib.Core.List.{[], ◌∷◌}
use lib.ListN.{length-append, set}
use Rattle.fields.proofs.Readers.{stopped, none_yet, one_more, one_stops}
use Rattle.sheets_rules.specs.LibrarySheet.{pin}
use Rattle.sheets_rules.specs.declared.PinRecord.{PinRecord}
use Rattle.library.proofs.Laws.{pins_more}
use Rattle.library.proofs.read_pins.Goals as goal

pub loop-k-init : goal.loop-k-init
loop-k-init c = none_yet (λ s. pin s c.args.bins.count) c.args.sheet.now (refl, refl)

pub returns-in_err-pins : goal.returns-in_err-pins
unfolding pin
returns-in_err-pins c =
    stopped _ c.from_residual.ensures.1
    (one_stops (λ s. pin s c.args.bins.count) c.loop-k.k c.loop-k.invariant c.in_err-pins.ensures (omega arith) (omega arith) (λ s xs f p. refl))

pub loop-k-preserved : goal.loop-k-preserved
unfolding pin
loop-k-preserved c =
    let i = c.loop-k in
    one_more (λ s. pin s c.args.bins.count) i.k i.invariant c.in_ok-pins.ensures (omega arith)
    (λ ps p h g. (
      omega (arith, length-append ps (p ∷ []), h.0),
      ap (λ (q : PinRecord). set i.pins i.k q) g ∙ pins_more c.args.bins ps p i.k i.pins h.0 h.1,
    ))
