use native.Mathlib.Omega.{arith}
use lib.ListN.{length}
use Prim.Native.Nat.{◌-◌}
use mathlib.Core.Path.{◌∙◌}
use Rattle.std.proofs.lemmas.Grind.{common_steps}
use Rattle.curves.proofs.Laws.{probed_line, probed_rest}
use Rattle.curves.proofs.probe.Goals as goal

pub returns-in-None : goal.returns-in-None
returns-in-None c = let curve = c.args.curve.now in c.probe_words-in-None.ensures ∙ probed_rest 32 (length curve - 32) c.args.end curve c.in-None.ensures (omega arith)

pub returns-in_default : goal.returns-in_default
returns-in_default c = let h = c.in_default.ensures in let e = probed_line 32 c.args.end c.args.curve.now in grind (arith, common_steps, h)
