-- Words about a list and a test.
use Rattle.std.specs.Prelude.{Bool, true, false, ◌||◌, cond}
use mathlib.Core.List.{List, [], ◌∷◌}
use Rattle.std.proofs.Math.Option.{Option, none, some}

module _ {A : Type 0} where
  -- Some entry passes.
  unfoldable pub any : (A → Bool) → List A → Bool
  any test [] = false
  any test (a ∷ rest) = test a || any test rest

  -- An entry put before others, if it passed.
  unfoldable pub keep_if : Bool → A → List A → List A
  keep_if true a rest = a ∷ rest
  keep_if false a rest = rest

  -- The entries that pass, in order.
  unfoldable pub select : (A → Bool) → List A → List A
  unfolding keep_if
  select test [] = []
  select test (a ∷ rest) = keep_if (test a) a (select test rest)

  -- The first entry that passes.
  unfoldable pub first_such : (A → Bool) → List A → Option A
  first_such test [] = none
  first_such test (a ∷ rest) = cond (test a) (some a) (first_such test rest)
