-- Document 02, Paper 1: "The list is walked from the front: each match must stand at the lowest INV or NAND still to be covered."
use Rattle.std.specs.Prelude.{ℕ, suc, ◌+◌, not, ◌&&◌, cond, List, [], ◌∷◌, eqb, ltb}
use Rattle.std.proofs.Math.Option.{Option, none, some, map}
use Rattle.std.proofs.Math.ListN.{get_elem?}
use Rattle.fields.specs.Answer.{Answer, refused, success}
use Rattle.sheets_rules.specs.Model.{Shape, leaf, inv, nand, Cell, Library, Pattern, patterns, patterns_from, drawn, Tree}
use Rattle.covers.specs.Lists.{any, select, first_such}
use Rattle.covers.specs.Crossing.{redrawn, is_crossing}
use Rattle.covers.specs.Match.{Input, Match, matched, legal, pin_load}
use Rattle.covers.specs.Cover.{Point, Placed, beside, late, raised, leaf_point, feeds, input_delay}

-- An inverter or NAND that is to be covered: its node, the subtree there, the load that it is to drive, and the delay from there to the root.
pub record Uncovered : Type 0 where
  pub node : ℕ
  pub shape : Shape
  pub load : ℕ
  pub delay : ℕ

-- How far a walk has come: what is still to be covered, in any order; the areas of the matches so far added up, and the latest arrival, at the root, of the leaves reached so far.
pub record Walk : Type 0 where
  pub left : List Uncovered
  pub point : Point

-- The walk reaches a node under a load, with a delay from there to the root: a leaf arrives, an inverter or NAND is to be covered.
unfoldable pub visited : (load delay n : ℕ) → Shape → Walk → Walk
unfolding beside late leaf_point
visited load delay n (leaf x) w = record { left = w.left; point = beside (late delay (leaf_point x load)) w.point }
visited load delay n (inv s) w = record { left = record { node = n; shape = inv s; load = load; delay = delay } ∷ w.left; point = w.point }
visited load delay n (nand s t) w = record { left = record { node = n; shape = nand s t; load = load; delay = delay } ∷ w.left; point = w.point }

-- The inputs of a match that drives a load: each under the load of its pin, and later by that pin's delay.
unfoldable pub inputs_visited : Library → Cell → (load delay : ℕ) → List Input → Walk → Walk
unfolding visited pin_load feeds input_delay
inputs_visited l c load delay [] w = w
inputs_visited l c load delay (i ∷ is) w = visited (pin_load l (feeds c i)) (input_delay c load i + delay) i.node i.shape (inputs_visited l c load delay is w)

-- At first the root is to be covered, under the root load.
unfoldable pub started : Tree → Walk
unfolding visited
started t = visited t.load 0 0 t.shape (record { left = []; point = record { area = 0; arrival = 0 } })

-- What is to be covered at node n; none if a lower node is still to be covered.
unfoldable pub lowest_at : ℕ → List Uncovered → Option Uncovered
unfolding any first_such
lowest_at n os = cond (any (λ o. ltb o.node n) os) none (first_such (λ o. eqb o.node n) os)

-- What is still to be covered beside it.
unfoldable pub others : ℕ → List Uncovered → List Uncovered
unfolding select
others n os = select (λ o. not (eqb o.node n)) os

-- The match of pattern number k under a crossing at what is to be covered: none if there is no such pattern, if that is no crossing of it, if it does not match there, or if it is not legal under the load.
unfoldable pub match_at : ℕ → ℕ → Uncovered → Option Pattern → Option Match
unfolding legal is_crossing redrawn matched
match_at k x o none = none
match_at k x o (some p) = cond (legal p.cell o.load && is_crossing p.drawing x) (map (λ is. record { number = k; crossing = x; pattern = p; inputs = is }) (matched (redrawn x p.drawing) o.node o.shape)) none

-- The walk after a match was taken at what is to be covered: its inputs are reached in its place.
unfoldable pub match_taken : Library → Walk → Uncovered → Option Match → Option Walk
unfolding inputs_visited others raised
match_taken l w o none = none
match_taken l w o (some m) =
    some (inputs_visited l m.pattern.cell o.load o.delay m.inputs
    (record { left = others o.node w.left; point = raised m.pattern.cell.area w.point }))

-- The walk after a listed match; none if it stands wrongly.
unfoldable pub placed_at : Library → Walk → Placed → Option Uncovered → Option Walk
unfolding match_taken match_at patterns patterns_from drawn
placed_at l w x none = none
placed_at l w x (some o) = match_taken l w o (match_at x.pattern x.crossing o (get_elem? (patterns l) x.pattern))

unfoldable pub step : Library → Walk → Placed → Option Walk
unfolding placed_at lowest_at
step l w x = placed_at l w x (lowest_at x.node w.left)

-- "23 for the first match that is misplaced or not legal, or a list that ends early or late", and "where a bit is wrong".
abbrev pub match_number : ℕ
match_number = 23

-- At the end of a list of k matches nothing may be left to cover.
unfoldable pub list_ended : ℕ → List Uncovered → Point → Answer Point
list_ended k [] p = success p
list_ended k (o ∷ os) p = refused match_number k

-- From a match at position k on.
unfoldable pub onward : ℕ → (Walk → Answer Point) → Option Walk → Answer Point
onward k rest none = refused match_number k
onward k rest (some w) = rest w

-- The walk over listed matches, the first of which is at position k: the first that stands wrongly or the early end, or area and arrival.
unfoldable pub walk : Library → ℕ → List Placed → Walk → Answer Point
unfolding list_ended onward step
walk l k [] w = list_ended k w.left w.point
walk l k (x ∷ xs) w = onward k (walk l (suc k) xs) (step l w x)
