use borrow.Author.Rules.{rules}
use borrow.Author.Tests.{tests}
use Prim.Native.Nat.{ℕ}
use lib.Dec.{eqb}
use Rattle.std.proofs.lemmas.Iterator.{YieldsList-from_slice}
use Rattle.std.proofs.lemmas.Iterator.Search.{position_from_yields_List}
use Rattle.map_core.proofs.Points.{counted}
use Rattle.map_core.proofs.count_points.Goals as goal

pub returns : goal.returns
returns c =
    let ws = c.args.curve.now in
    let first = position_from_yields_List (λ (w : ℕ). eqb w 0) _ _ c.position.result c.position.ensures.ran (YieldsList-from_slice ws cc) (λ x b q k. search (rules, tests)) in
    counted ws c.position.result c.unwrap_or.result first c.unwrap_or.ensures
