use native.Mathlib.Omega.{arith}
use mir.Syntax.{w32}
use mir.ValLaws.{to_z-of_z}
use Rattle.text.specs.Text.{line, spaced}
use Rattle.text.proofs.Laws.{appended_both}
use Rattle.bill_rules.specs.Billed.{margin_line}
use Rattle.bill_rules.proofs.Text.{margin_length}
use Rattle.bill_text.proofs.put_margin.Goals as goal

pub put_word-requires : goal.put_word-requires
put_word-requires c = omega (arith, margin_length c.args.margin)

pub put_signed-requires : goal.put_signed-requires
put_signed-requires c = rw (to_z-of_z w32 c.args.margin c.ranges.margin) (omega (arith, margin_length c.args.margin))

pub put_word-requires-2 : goal.put_word-requires-2
put_word-requires-2 c = let signed = rw (to_z-of_z w32 c.args.margin c.ranges.margin) at c.put_signed.ensures.len in omega (arith, margin_length c.args.margin)

pub returns : goal.returns
unfolding margin_line line spaced
returns c = appended_both c.put_word.ensures (appended_both (rw (to_z-of_z w32 c.args.margin c.ranges.margin) at c.put_signed.ensures) c.put_word-2.ensures)
