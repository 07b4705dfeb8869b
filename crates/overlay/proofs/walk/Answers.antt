use Prim.Native.Nat.{ℕ, ◌+◌, ◌%◌, ◌≤◌, ◌<◌}
use mathlib.Core.Path.{◌≡◌}
use mathlib.Core.List.{List}
use native.Mathlib.Omega.{arith}
use lib.ListN.{get_or, length}
use Rattle.sheets_rules.specs.Inside.Layout.{symbols_at, row_words}
use Rattle.overlay.specs.declared.Left.{Left}
use Rattle.sheets_rules.specs.Model.{Shape}
use Rattle.covers.specs.Crossing.{crossing_limit}
use Rattle.overlay.specs.declared.Inputs.{Inputs}
use Rattle.overlay.specs.Inside.Promises.{Passable, Walkable}
use Rattle.overlay.proofs.Walking.{going_start, within, symbol_small, passable, going_pass, going_skip, going_end, going_missed, Going}
use Rattle.overlay.proofs.walk.Goals as goal

-- What the walk may read and write next.
record Near (row words symbols sizes : List ℕ) (count : ℕ) (left : Left) (at : ℕ) : Type 0 where
  row_long : length row ≡ row_words
  symbols_long : length symbols ≡ 64
  sizes_long : length sizes ≡ 64
  spot : left.spot % 32 < 16
  noted : count + left.depth < 6
  some : 0 < get_or sizes at 0
  ends : at + get_or sizes at 0 ≤ 64
  symbol : get_or row (symbols_at + left.spot % 32) 0 < 8
  passes : get_or row (symbols_at + left.spot % 32) 0 < 2 → Passable left (get_or row (symbols_at + left.spot % 32) 0) words

near : {row words ss zs : List ℕ} {n crossing : ℕ} {inputs : Inputs} {left : Left} {at : ℕ} →
    (crossing < crossing_limit) × ((d : Shape) × ((s : Shape) × Walkable row words ss zs n d s)) →
    ((d s : Shape) → Walkable row words ss zs n d s → Going row words ss zs d s n crossing inputs left at) →
    Near row words ss zs inputs.count left at
near r invariant =
    let p = r.1 in
    let w = p.1.1 in
    let g = invariant p.0 p.1.0 w in
    let b = within _ _ _ _ _ _ _ _ w g in
    record {
      row_long = w.long;
      symbols_long = w.subject.symbols_long;
      sizes_long = w.subject.sizes_long;
      spot = b.spot_small;
      noted = b.noted_few;
      some = b.at_some;
      ends = b.at_ends;
      symbol = symbol_small _ _ _ _ _ _ _ _ w g;
      passes = passable _ _ _ _ _ _ _ _ w g;
    }

pub loop-extents-init : goal.loop-extents-init
loop-extents-init c = λ d s w. going_start _ _ _ _ _ _ _ _ w

pub bounds-row-left : goal.bounds-row-left
bounds-row-left c = let b = near c.requires c.loop-extents.invariant in omega arith

pub offset_bounds-tree-at : goal.offset_bounds-tree-at
offset_bounds-tree-at c = let b = near c.requires c.loop-extents.invariant in omega arith

pub bounds-tree-at : goal.bounds-tree-at
bounds-tree-at c = let b = near c.requires c.loop-extents.invariant in omega arith

pub overflow_add-at : goal.overflow_add-at
overflow_add-at c = let b = near c.requires c.loop-extents.invariant in omega arith

pub loop-extents-smaller-then-symbol-lt-LEAF : goal.loop-extents-smaller-then-symbol-lt-LEAF
loop-extents-smaller-then-symbol-lt-LEAF c = let b = near c.requires c.loop-extents.invariant in omega arith

pub overflow_cast-symbol : goal.overflow_cast-symbol
overflow_cast-symbol c = let b = near c.requires c.loop-extents.invariant in omega arith

pub overflow_cast-at : goal.overflow_cast-at
overflow_cast-at c = let b = near c.requires c.loop-extents.invariant in omega arith

pub bounds-tree-at-else-symbol-lt-LEAF : goal.bounds-tree-at-else-symbol-lt-LEAF
bounds-tree-at-else-symbol-lt-LEAF c = let b = near c.requires c.loop-extents.invariant in omega arith

pub push-requires : goal.push-requires
push-requires c = let b = near c.requires c.loop-extents.invariant in omega arith

pub pop-requires : goal.pop-requires
pop-requires c = let b = near c.requires c.loop-extents.invariant in omega arith

pub loop-extents-smaller : goal.loop-extents-smaller
loop-extents-smaller c = let b = near c.requires c.loop-extents.invariant in omega arith

pub returns-then-tree-at : goal.returns-then-tree-at
returns-then-tree-at c = λ d s w. going_missed _ _ _ _ _ _ _ _ w (c.loop-extents.invariant d s w) c.if-symbol-lt-LEAF.true c.if-tree-at.true

pub pass_gate-requires : goal.pass_gate-requires
pass_gate-requires c = let b = near c.requires c.loop-extents.invariant in (b.passes c.if-symbol-lt-LEAF.true, c.requires.0)

pub loop-extents-preserved-then-symbol-lt-LEAF : goal.loop-extents-preserved-then-symbol-lt-LEAF
loop-extents-preserved-then-symbol-lt-LEAF c = λ d s w.
    rw c.pass_gate.ensures (going_pass _ _ _ _ _ _ _ _ w (c.loop-extents.invariant d s w) c.if-symbol-lt-LEAF.true c.if-tree-at.false)

pub returns-in_default : goal.returns-in_default
returns-in_default c = λ d s w. rw c.push.ensures (going_end _ _ _ _ _ _ _ _ w (c.loop-extents.invariant d s w) c.if-symbol-lt-LEAF.false (omega (arith, c.in_default.ensures)))

pub loop-extents-preserved : goal.loop-extents-preserved
loop-extents-preserved c = λ d s w.
    let p = c.in-Some.ensures in
    rw (c.push.ensures, p.resumed_is, c.from-at.ensures) (going_skip _ _ _ _ _ _ _ _ w (c.loop-extents.invariant d s w) c.if-symbol-lt-LEAF.false p.some_waits)
