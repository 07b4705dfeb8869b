-- The specimen table and the examples of exchanged inputs and of driven leaves hold, by computation from the definitions alone, but that row l, for any load, is one law.
use mathlib.Core.Path.{◌≡◌, refl, ap, ap₂, ◌∙◌}
use mathlib.Core.Bool.{false, cond, ◌||◌}
use mathlib.Core.List.{List, [], ◌∷◌, ◌++◌, map}
use mathlib.Core.Option.{Option, none, some}
use Prim.Native.Nat.{ℕ}
use native.Mathlib.Omega.{arith}
use lib.Dec.{leb, ltb}
use lib.ListN.{length, take}
use Rattle.fields.specs.Answer.{Answer}
use Rattle.sheets_rules.specs.Model.{Leaf, leaf, Library}
use Rattle.covers.specs.Crossing.{redrawn, crossings}
use Rattle.covers.specs.Cover.{Point, Cover, leaf_arrival, leaf_point, leaf_cover}
use Rattle.covers.specs.Choice.{choice_step}
use Rattle.covers.specs.Capacity.{capacity}
use Rattle.covers.specs.Answer.{answered, mapped}
use Rattle.covers.specs.Examples.Specimens.{specimen, tree, Case, cases, Specimens}
use Rattle.covers.specs.Examples.Exchanges.{Redrawings, Crossings, Exchanges}
use Rattle.covers.specs.Examples.Drivers.{Drivers}
use Rattle.covers.proofs.Tradeoffs.{leaf_tradeoffs}
use Rattle.covers.proofs.Unroll.{choice_unroll}

-- The answer to a leaf that arrives at a time.
abbrev arriving : ℕ → ℕ → Option Cover
arriving a time = cond (leb a time) (some (record { point = record { area = 0; arrival = a }; placed = [] })) none

leaf_answer : (l : Library) (load time : ℕ) (x : Leaf) → mapped capacity l (record { load = load; required = time; shape = leaf x }) ≡ answered none (arriving (leaf_arrival x load) time)
unfolding mapped choice_step leaf_cover leaf_point
leaf_answer l load time x =
    ap₂ answered (ap (λ (ps : List Point). cond (ltb capacity (length ps) || false) (some 0) none) (leaf_tradeoffs l load 0 x)) (ap (λ (f : ℕ → Option Cover). f time) (choice_unroll l load 0 (leaf x)))

-- A leaf at 7 arrives at 7 under any load.
specimen_l : (any time : ℕ) → mapped capacity specimen (tree (leaf (record { number = 7; drive = 0 })) any time) ≡ answered none (arriving 7 time)
unfolding leaf_arrival
specimen_l any time =
    let at : leaf_arrival (record { number = 7; drive = 0 }) any ≡ 7 = omega arith in
    leaf_answer specimen any time (record { number = 7; drive = 0 }) ∙ ap (λ (a : ℕ). answered none (arriving a time)) at

pub specimens : Specimens
unfolding mapped
specimens any =
    ap₂ (λ (p q : Answer Cover). map (λ (c : Case). mapped capacity specimen c.tree) (take 11 (cases any)) ++ (p ∷ q ∷ [])) (specimen_l any 7) (specimen_l any 6)

pub redrawings : Redrawings
unfolding redrawn
redrawings = refl

pub crossings_listed : Crossings
unfolding crossings
crossings_listed = refl

pub exchanges : Exchanges
unfolding mapped
exchanges = refl

pub drivers : Drivers
unfolding mapped
drivers = refl
