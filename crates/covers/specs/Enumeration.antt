-- The list of every cover of a node under a load. It computes what the relation says.
use Rattle.std.specs.Prelude.{ℕ, zero, suc}
use mathlib.Core.List.{List, [], ◌∷◌, map, flat_map}
use Rattle.sheets_rules.specs.Model.{Shape, leaf, inv, nand, size, Pin, Cell, Library}
use Rattle.covers.specs.Match.{Input, Match, matches, pin_load}
use Rattle.covers.specs.Cover.{Cover, leaf_cover, nothing, together, delayed, topped, feeds, input_delay}

module _ {A : Type 0} where
  -- A value for every node from those of the nodes below it, k nodes deep.
  unfoldable pub deepened : A → ((ℕ → ℕ → Shape → A) → ℕ → ℕ → Shape → A) → ℕ → ℕ → ℕ → Shape → A
  deepened base step zero load n s = base
  deepened base step (suc k) load n s = step (deepened base step k) load n s

  -- The same, as deep as the subtree goes: no path down is longer than its size.
  unfoldable pub throughout : A → ((ℕ → ℕ → Shape → A) → ℕ → ℕ → Shape → A) → ℕ → ℕ → Shape → A
  unfolding deepened size
  throughout base step load n s = deepened base step (size s) load n s

-- Each cover of the first list together with each of the second.
unfoldable pub combined : List Cover → List Cover → List Cover
unfolding together flat_map
combined cs ds = flat_map (λ c. map (together c) ds) cs

-- Given the covers of an input that feeds a pin: every choice of covers of a match's inputs.
unfoldable pub input_covers : (Pin → Input → List Cover) → Cell → ℕ → List Input → List Cover
unfolding combined delayed input_delay nothing
input_covers of cell load [] = nothing ∷ []
input_covers of cell load (i ∷ is) = combined (map (delayed (input_delay cell load i)) (of (feeds cell i) i)) (input_covers of cell load is)

-- Every cover by one match.
unfoldable pub match_covers : (Pin → Input → List Cover) → ℕ → ℕ → Match → List Cover
unfolding input_covers topped
match_covers of load n m = map (topped n m) (input_covers of m.pattern.cell load m.inputs)

-- Every cover of an inverter or NAND.
unfoldable pub gate_covers : (Pin → Input → List Cover) → Library → ℕ → ℕ → Shape → List Cover
unfolding match_covers matches flat_map
gate_covers of l load n s = flat_map (match_covers of load n) (matches l load n s)

-- What stands at an input, taken under the load of the pin that it feeds.
unfoldable pub under {ℓ} : {A : Type ℓ} → Library → (ℕ → ℕ → Shape → A) → Pin → Input → A
unfolding pin_load
under l at p i = at (pin_load l p) i.node i.shape

-- Every cover of a node, given those of the nodes below.
unfoldable pub covers_step : Library → (ℕ → ℕ → Shape → List Cover) → ℕ → ℕ → Shape → List Cover
unfolding gate_covers leaf_cover under
covers_step l below load n (leaf x) = leaf_cover x load ∷ []
covers_step l below load n (inv s) = gate_covers (under l below) l load n (inv s)
covers_step l below load n (nand s t) = gate_covers (under l below) l load n (nand s t)

-- Every cover of a node under a load: nothing for a leaf, otherwise each legal match with each choice of covers of its inputs under the loads of their pins.
unfoldable pub covers : Library → ℕ → ℕ → Shape → List Cover
unfolding covers_step throughout
covers l = throughout [] (covers_step l)

-- Every cover of what stands at an input, under the load of the pin that it feeds.
abbrev pub all_below : Library → Pin → Input → List Cover
all_below l = under l (covers l)
