-- What is known of the number of trade-offs that a node may have.
use Rattle.std.specs.Prelude.{ℕ, ◌≤◌}
use Rattle.covers.specs.Capacity.{capacity}

-- The core works with it, and a list sheet has room for as many.
pub record Allowed (most : ℕ) : Type 0 where
  pub some : 1 ≤ most
  pub bounded : most ≤ 254
  pub listed : most ≤ capacity
