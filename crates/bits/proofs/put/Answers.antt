use native.Mathlib.Omega.{arith}
use Prim.Native.Nat.{ℕ, ◌-◌, ◌+◌, ◌%◌, ◌/◌}
use mathlib.Core.Path.{◌≡◌, sym, ap, ◌∙◌}
use mathlib.Core.List.{List}
use lib.ListN.{length}
use Rattle.bits.specs.Bits.{with_field}
use Rattle.bits.proofs.Laws.{field_step, length_bit}
use Rattle.bits.proofs.put.Goals as goal

pub loop-k-preserved : goal.loop-k-preserved
loop-k-preserved c =
    let a = c.args in
    let i = c.loop-k in
    let e = c.put_bit.ensures in (
      ap length e ∙ length_bit i.s (a.at + (i.k - 1)) (i.rest % 2) ∙ i.invariant.0,
      ap (λ (l : List ℕ). with_field l a.at (i.k - 1) (i.rest / 2)) e ∙ sym (field_step i.s a.at i.k i.rest (omega arith)) ∙ i.invariant.1,
    )

pub returns : goal.returns
unfolding with_field
returns c =
    let i = c.loop-k in
    let done : i.k ≡ 0 = omega arith in
    ap (λ (k : ℕ). with_field i.s c.args.at k i.rest) (sym done) ∙ i.invariant.1
