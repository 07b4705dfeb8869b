use native.Mathlib.Omega.{arith}
use Prim.Native.Nat.{◌-◌}
use mathlib.Core.Path.{refl, sym, ap, ◌∙◌}
use lib.ListN.{get_or}
use borrow.Author.Tests.{lt-ltb, le-ltb}
use Rattle.part_rules.specs.Outcome.{latest_linked}
use Rattle.std.specs.Prelude.{Some as Is}
use Rattle.part_link.specs.Inside.Promises.{symbol_linked}
use Rattle.part_link.proofs.Trees.{brought_none, brought_some}
use Rattle.part_link.proofs.link_symbol.Goals as goal

pub returns-then-driver-eq0 : goal.returns-then-driver-eq0
unfolding symbol_linked
returns-then-driver-eq0 c = let a = c.args in sym (rw (brought_none a.arrivals.now a.driver c.if-driver-eq0.true) refl)

pub returns-then-symbol-lt-LEAF : goal.returns-then-symbol-lt-LEAF
unfolding symbol_linked
returns-then-symbol-lt-LEAF c = let a = c.args in sym (rw (brought_some a.arrivals.now a.driver c.if-driver-eq0.false, lt-ltb a.symbol 2 (omega arith)) refl)

pub returns-then-arrival-gt-ARRIVAL : goal.returns-then-arrival-gt-ARRIVAL
unfolding symbol_linked
returns-then-arrival-gt-ARRIVAL c =
    let a = c.args in
    sym (rw (brought_some a.arrivals.now a.driver c.if-driver-eq0.false, le-ltb a.symbol 2 (omega arith), lt-ltb latest_linked (get_or a.arrivals.now (a.driver - 1) 0) (omega arith)) refl)

pub returns : goal.returns
unfolding symbol_linked
returns c =
    let a = c.args in
    ap Is c.with_arrival.ensures ∙ sym (rw (brought_some a.arrivals.now a.driver c.if-driver-eq0.false, le-ltb a.symbol 2 (omega arith), le-ltb latest_linked (get_or a.arrivals.now (a.driver - 1) 0) (omega arith)) refl)
