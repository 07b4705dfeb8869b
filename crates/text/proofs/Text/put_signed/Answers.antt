use native.Mathlib.Omega.{arith}
use Prim.Native.Nat.{ℕ}
use mathlib.Core.Path.{◌≡◌, refl, ap, ◌∙◌}
use mathlib.Core.Bool.{true, false}
use mathlib.Core.List.{◌∷◌}
use lib.IntN.{ℤ, pos, nat_abs}
use lib.ListN.{length}
use lib.Signed.{lt_z}
use mir.Syntax.{w32}
use mir.Val.{SFits, to_z, of_z}
use mir.ValLaws.{to_z-of_z}
use Rattle.text.specs.Text.{decimal, minus, signed}
use Rattle.text.proofs.Laws.{signed_negative, signed_other, appended_both}
use Rattle.text.proofs.Text.put_signed.Goals as goal
use Rattle.text.proofs.Text.put_signed.Goals.{then-n-lt0, else-n-lt0}

-- The text of an integer by its sign, where the machine reads the integer back from its bits.
module _ (n : ℤ) (fits : SFits w32 n) where
  abbrev read : ℤ
  read = to_z w32 (of_z w32 n)

  negative : {digits : ℕ} → digits ≡ nat_abs read → lt_z read (pos 0) ≡ true → signed n ≡ minus ∷ decimal digits
  negative e t = rw (e, ← signed_negative read t, to_z-of_z w32 n fits)

  other : {digits : ℕ} → digits ≡ nat_abs read → lt_z read (pos 0) ≡ false → signed n ≡ decimal digits
  other e t = rw (e, ← signed_other read t, to_z-of_z w32 n fits)

pub put_word-requires : goal.put_word-requires
put_word-requires c = omega (arith, ap length (negative c.args.n c.ranges.n refl c.if-n-lt0.true))

pub put_number-requires : goal.put_number-requires
put_number-requires c =
    let digits : c.from.result ≡ _ = c.from.ensures ∙ c.unsigned_abs.ensures.value in
    elim c.if-n-lt0.branch [
      | then-n-lt0 w ↦ rw w.self-is (omega (arith, ap length (negative c.args.n c.ranges.n digits w.if-n-lt0.true)))
      | else-n-lt0 w ↦ rw w.self-is (omega (arith, ap length (other c.args.n c.ranges.n digits w.if-n-lt0.false)))
    ]

pub returns : goal.returns
returns c =
    let digits : c.from.result ≡ _ = c.from.ensures ∙ c.unsigned_abs.ensures.value in
    elim c.if-n-lt0.branch [
      | then-n-lt0 w ↦ rw (negative c.args.n c.ranges.n digits w.if-n-lt0.true) (appended_both w.put_word.ensures (rw w.self-is at c.put_number.ensures))
      | else-n-lt0 w ↦ rw (other c.args.n c.ranges.n digits w.if-n-lt0.false) (rw w.self-is at c.put_number.ensures)
    ]
