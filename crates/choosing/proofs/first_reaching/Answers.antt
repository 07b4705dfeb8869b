use native.Mathlib.Omega.{arith}
use mathlib.Core.Path.{sym}
use borrow.Author.Count.{below_more}
use Rattle.choosing.proofs.Reading.{reached, unreached}
use Rattle.choosing.proofs.first_reaching.Goals as goal

pub loop-j-preserved : goal.loop-j-preserved
loop-j-preserved c =
    let i = c.loop-j.invariant in
    (i.0, below_more _ _ i.1 (unreached _ _ c.args.w c.legal_best.result _ (rw (c.at.ensures.pattern_is, c.at.ensures.hit_is) at c.legal_best.ensures) (sym c.if-eq.ensures)))

pub returns-then-eq : goal.returns-then-eq
returns-then-eq c =
    record {
      within = c.loop-j-test.true;
      before = c.loop-j.invariant.1;
      here = reached _ _ c.args.w c.legal_best.result _ (rw (c.at.ensures.pattern_is, c.at.ensures.hit_is) at c.legal_best.ensures) (sym c.if-eq.ensures);
    }

pub returns-after-loop-j : goal.returns-after-loop-j
returns-after-loop-j c = rw c.loop-j.invariant.0 (λ j h. c.loop-j.invariant.1 j (omega (arith, c.loop-j-test.false)))
