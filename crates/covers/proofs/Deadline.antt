-- The deadline theorem: the least point of a node's covers before an instant comes from the least points of its matches' inputs, each before what is left of it.
use Prim.Native.Nat.{ℕ, ◌-◌}
use mathlib.Core.Path.{◌≡◌, refl, ap, ap₂, ◌∙◌}
use mathlib.Core.List.{List, [], ◌∷◌, map, flat_map}
use mathlib.Core.Option
use mathlib.Core.Option.{Option, none}
use Rattle.sheets_rules.specs.Model.{Pin, Cell}
use Rattle.covers.specs.Match.{Input, Match}
use Rattle.covers.specs.Cover.{Point, Cover, late, raised, nothing, delayed, topped, feeds, input_delay}
use Rattle.covers.specs.Enumeration.{input_covers, match_covers}
use Rattle.covers.specs.Choice.{lesser, before, least}
use Rattle.covers.specs.Inside.Curve.{both}
use Rattle.covers.proofs.Points.{lesser_none, late_carries, raised_carries, before_late, before_raised}
use Rattle.covers.proofs.Least.{least_append, least_map, least_combined}

-- The best of a match's inputs side by side, given the best of an input that feeds a pin before an instant.
unfoldable pub best_inputs : (Pin → Input → ℕ → Option Point) → Cell → ℕ → ℕ → List Input → Option Point
best_inputs best cell load end [] = before end (record { area = 0; arrival = 0 })
best_inputs best cell load end (i ∷ is) = both (Option.map (late (input_delay cell load i)) (best (feeds cell i) i (end - input_delay cell load i))) (best_inputs best cell load end is)

-- The best of one match, and of several.
unfoldable pub best_match : (Pin → Input → ℕ → Option Point) → ℕ → ℕ → Match → Option Point
best_match best load end m = Option.map (raised m.pattern.cell.area) (best_inputs best m.pattern.cell load end m.inputs)

unfoldable pub best_of : (Pin → Input → ℕ → Option Point) → ℕ → ℕ → List Match → Option Point
best_of best load end [] = none
best_of best load end (m ∷ ms) = lesser (best_match best load end m) (best_of best load end ms)

module _ (of : Pin → Input → List Cover) where
  abbrev pub least_input : Pin → Input → ℕ → Option Point
  least_input p i end = least end (of p i)

  pub deadline_inputs : (cell : Cell) (load end : ℕ) (is : List Input) → least end (input_covers of cell load is) ≡ best_inputs least_input cell load end is
  unfolding input_covers best_inputs least lesser before nothing delayed
  deadline_inputs cell load end [] = lesser_none (before end (record { area = 0; arrival = 0 }))
  deadline_inputs cell load end (i ∷ is) = let d = input_delay cell load i in least_combined end (map (delayed d) (of (feeds cell i) i)) (input_covers of cell load is) ∙ ap₂ both (least_map end (end - d) (delayed d) (Option.map (late d)) (late_carries d) (λ c. before_late end d c.point) (of (feeds cell i) i)) (deadline_inputs cell load end is)

  -- For one match.
  pub deadline_match : (load n end : ℕ) (m : Match) → least end (match_covers of load n m) ≡ best_match least_input load end m
  unfolding match_covers best_match topped
  deadline_match load n end m = let a = m.pattern.cell.area in least_map end end (topped n m) (Option.map (raised a)) (raised_carries a) (λ c. before_raised end a c.point) (input_covers of m.pattern.cell load m.inputs) ∙ ap (Option.map (raised a)) (deadline_inputs m.pattern.cell load end m.inputs)

  -- The theorem, for all matches of a node.
  pub deadline : (load n end : ℕ) (ms : List Match) → least end (flat_map (match_covers of load n) ms) ≡ best_of least_input load end ms
  unfolding flat_map best_of least
  deadline load n end [] = refl
  deadline load n end (m ∷ ms) = least_append end (match_covers of load n m) (flat_map (match_covers of load n) ms) ∙ ap₂ lesser (deadline_match load n end m) (deadline load n end ms)
