use native.Mathlib.Numerals.{add-one}
use native.Mathlib.Omega.{arith}
use Prim.Native.Nat.{◌+◌}
use mathlib.Core.Path.{◌∙◌}
use lib.ListN.{take}
use Rattle.std.proofs.Common.{rules, tests}
use Rattle.std.proofs.lemmas.Iterator.{YieldsList-from_slice}
use Rattle.std.proofs.lemmas.Iterator.Search.{all_from_yields_List}
use Rattle.shapes.proofs.Marks.{marks_all}
use Rattle.shapes.proofs.Progress.has_pins.Goals as goal

pub returns-then-rules : goal.returns-then-rules
returns-then-rules c =
    rw (c.if-rules.true, ← (add-one c.args.rules.most))
    (all_from_yields_List (λ b. b) _ _ c.all.result c.all.ensures.ran (YieldsList-from_slice (take (c.args.rules.most + 1) c.args.self.now.pins) (search rules)) (λ x b q k. search (rules, tests))
    ∙ marks_all c.args.self.now.pins (c.args.rules.most + 1) (omega arith))
