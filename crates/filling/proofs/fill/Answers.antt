use native.Mathlib.Omega.{arith}
use Prim.Native.Nat.{ℕ, ◌+◌, ◌-◌, ◌≤◌, ◌<◌}
use mathlib.Core.Path.{◌≡◌, ◌∙◌}
use mathlib.Core.List.{List}
use Rattle.sheets_rules.specs.Model.{Library, Tree}
use Rattle.filling.proofs.Progress.{Progress, begun, some_node, few_bins, ready_below, ready_root, turn_below, turn_root}
use Rattle.filling.proofs.fill.Goals as goal

-- what stands before the next node, said of that node's number; and before the root
at_next : {most node : ℕ} {l : Library} {t : Tree} {work : List ℕ} → 1 < node → Progress most l t node work → Progress most l t (node - 1 + 1) work
at_next {node = node} h p = let e : node ≡ node - 1 + 1 = omega arith in rw (← e) p

at_root : {most node : ℕ} {l : Library} {t : Tree} {work : List ℕ} → 0 < node → node ≤ 1 → Progress most l t node work → Progress most l t 1 work
at_root {node = node} g h p = let e : node ≡ 1 = omega arith in rw e at p

pub loop-node-init : goal.loop-node-init
loop-node-init c = (some_node c.requires.start.1.1, λ l t g. begun g)

pub fill_at-counts-requires-clause-ready : goal.fill_at-counts-requires-clause-ready
fill_at-counts-requires-clause-ready c =
    let i = c.loop-node in
    let p = c.requires.start in
    let g = p.1.1 in
    (p.0, (p.1.0, ready_below g (i.auto.found ∙ c.requires.room.0) i.auto.work (i.node - 1) (omega (arith, i.auto.node)) (at_next c.loop-node-test.true (i.invariant.1 p.0 p.1.0 g))))

pub too_many-requires : goal.too_many-requires
too_many-requires c = few_bins c.requires.start.1.1

pub returns-then-too_many : goal.returns-then-too_many
returns-then-too_many c = λ l t g.
    let i = c.loop-node in
    (turn_below g (i.auto.found ∙ c.requires.room.0) i.auto.work (i.node - 1) (omega arith) (omega (arith, i.auto.node)) (at_next c.loop-node-test.true (i.invariant.1 l t g)) (c.fill_at-counts.ensures l t)).0
    (rw c.if-too_many.true at c.too_many.ensures)

pub loop-node-preserved : goal.loop-node-preserved
loop-node-preserved c =
    let i = c.loop-node in (
      omega arith,
      λ l t g.
          (turn_below g (i.auto.found ∙ c.requires.room.0) i.auto.work (i.node - 1) (omega arith) (omega (arith, i.auto.node)) (at_next c.loop-node-test.true (i.invariant.1 l t g)) (c.fill_at-counts.ensures l t)).1
          (rw c.if-too_many.false at c.too_many.ensures),
    )

pub fill_at-counts-requires-2-clause-ready : goal.fill_at-counts-requires-2-clause-ready
fill_at-counts-requires-2-clause-ready c =
    let i = c.loop-node in
    let p = c.requires.start in
    let g = p.1.1 in
    (p.0, (p.1.0, ready_root g (i.auto.found ∙ c.requires.room.0) i.auto.work (at_root i.invariant.0 c.loop-node-test.false (i.invariant.1 p.0 p.1.0 g))))

pub returns-then-too_many-2 : goal.returns-then-too_many-2
returns-then-too_many-2 c = λ l t g.
    let i = c.loop-node in
    (turn_root g (i.auto.found ∙ c.requires.room.0) i.auto.work (at_root i.invariant.0 c.loop-node-test.false (i.invariant.1 l t g)) (c.fill_at-counts-2.ensures l t)).0
    (rw c.if-too_many-2.true at c.too_many-2.ensures)

pub returns : goal.returns
returns c = λ l t g.
    let i = c.loop-node in
    (turn_root g (i.auto.found ∙ c.requires.room.0) i.auto.work (at_root i.invariant.0 c.loop-node-test.false (i.invariant.1 l t g)) (c.fill_at-counts-2.ensures l t)).1
    (rw c.if-too_many-2.false at c.too_many-2.ensures)
