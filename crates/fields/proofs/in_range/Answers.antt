use borrow.Author.Tests.{le-leb, lt-leb}
use Rattle.fields.specs.Reading.{within}
use Rattle.fields.proofs.in_range.Goals as goal
use Rattle.fields.proofs.in_range.Goals.{then-value-least-via-then-value-least, then-value-least-via-else-value-least+then-most-value}

pub returns-then-value-least : goal.returns-then-value-least
unfolding within
returns-then-value-least c =
    let a = c.args in
    elim c.then-value-least.branch [
      | then-value-least-via-then-value-least w ↦ simp (lt-leb a.least a.value w.if-value-least.true)
      | then-value-least-via-else-value-least+then-most-value w ↦ simp (le-leb a.least a.value w.if-value-least.false, lt-leb a.value a.most w.if-most-value.true)
    ]

pub returns : goal.returns
unfolding within
returns c =
    let a = c.args in
    simp (le-leb a.least a.value c.if-value-least.false, le-leb a.value a.most c.if-most-value.false)
