-- The words that the judge's inner functions promise in: what is still to be covered, in order. No public promise rests on these.
use Rattle.std.specs.Prelude.{ℕ, ◌+◌, ◌≤◌, ◌<◌, List, [], ◌∷◌}
use Rattle.sheets_rules.specs.Model.{size}
use Rattle.covers.specs.Inside.Curve.{gates}
use Rattle.judge_rules.specs.Walk.{Uncovered}

-- In order from node `low` on, each an inverter or NAND whose subtree ends before the next, the last by `high`.
pub data Apart : ℕ → ℕ → List Uncovered → Type 0 where
  last : {low high : ℕ} → low ≤ high → Apart low high []
  next : {low high : ℕ} {o : Uncovered} {os : List Uncovered} → low ≤ o.node → 0 < gates o.shape → Apart (o.node + size o.shape) high os → Apart low high (o ∷ os)
