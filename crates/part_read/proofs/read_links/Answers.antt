use native.Mathlib.Omega.{arith}
use mathlib.Core.Path.{refl}
use Rattle.fields.proofs.Readers.{stopped, none_yet, one_more, one_stops}
use Rattle.part_rules.specs.PartSheet.{link}
use Rattle.part_read.proofs.Laws.{links_none, links_more}
use Rattle.part_read.proofs.read_links.Goals as goal

pub loop-k-init : goal.loop-k-init
loop-k-init c = none_yet (λ s. link s c.args.trees) c.args.sheet.now links_none

pub returns-in_err-links : goal.returns-in_err-links
unfolding link
returns-in_err-links c =
    let so = c.loop-k.invariant in
    stopped _ c.from_residual.ensures.1 (one_stops (λ s. link s c.args.trees) c.loop-k.k so c.in_err-links.ensures (omega arith) (omega arith) (λ s xs f p. refl))

pub loop-k-preserved : goal.loop-k-preserved
unfolding link
loop-k-preserved c =
    let so = c.loop-k.invariant in
    one_more (λ s. link s c.args.trees) c.loop-k.k so c.in_ok-links.ensures (omega arith) (λ xs x h g. links_more c.loop-k.k xs x _ _ h g)
