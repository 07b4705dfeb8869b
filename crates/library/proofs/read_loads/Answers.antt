use native.Mathlib.Omega.{arith}
use mathlib.Core.Path.{refl, sym, ap₂, ◌∙◌}
use mathlib.Core.List.{List, [], ◌∷◌}
use lib.ListN.{length-append, set}
use Prim.Native.Nat.{ℕ}
use Rattle.fields.proofs.Readers.{stopped, none_yet, one_more, one_stops}
use Rattle.sheets_rules.specs.LibrarySheet.{bin_load, last}
use Rattle.sheets_rules.proofs.Laid.{padded_more}
use Rattle.library.proofs.Laws.{bin_read, last_more}
use Rattle.library.proofs.read_loads.Goals as goal

pub loop-k-init : goal.loop-k-init
unfolding last
loop-k-init c = none_yet bin_load c.args.sheet.now (refl, refl, omega arith, refl)

pub returns-in_err-before : goal.returns-in_err-before
unfolding bin_load
returns-in_err-before c =
    let i = c.loop-k in
    let so = i.invariant in
    stopped _ c.from_residual.ensures.1 (one_stops bin_load i.k so (bin_read i.before _ so.takes.holds.1 c.in_err-before.ensures) (omega arith) (omega arith) (λ s xs f p. refl))

pub loop-k-preserved : goal.loop-k-preserved
unfolding bin_load
loop-k-preserved c =
    let i = c.loop-k in
    let so = i.invariant in
    one_more bin_load i.k so (bin_read i.before _ so.takes.holds.1 c.in_ok-before.ensures) (omega arith)
    (λ xs x h g. (
      omega (arith, length-append xs (x ∷ []), h.0),
      g.0 ∙ sym (last_more xs x),
      g.1,
      ap₂ (λ (l : List ℕ) (v : ℕ). set l i.k v) h.3 g.0 ∙ padded_more 4 0 x xs i.k (sym h.0),
    ))
