-- Which cover is handed over under a required time.
use Rattle.std.specs.Prelude.{ℕ, suc, ◌-◌, Bool, ◌&&◌, ◌||◌, cond, List, [], ◌∷◌, leb, ltb, eqb}
use Rattle.std.proofs.Math.Option.{Option, none, some, map}
use Rattle.sheets_rules.specs.Model.{Shape, leaf, inv, nand, Pin, Cell, Library}
use Rattle.covers.specs.Lists.{any, first_such}
use Rattle.covers.specs.Match.{Input, Match, matches}
use Rattle.covers.specs.Cover.{Point, Cover, leaf_arrival, leaf_cover, nothing, together, delayed, topped, feeds, input_delay}
use Rattle.covers.specs.Enumeration.{match_covers, under, covers, throughout, all_below}
use Rattle.covers.specs.Tradeoff.{same}

-- Less area, or the same area and no later.
unfoldable pub cheaper : Point → Point → Bool
cheaper p q = ltb p.area q.area || eqb p.area q.area && leb p.arrival q.arrival

-- The lesser of two points, by area and then by arrival.
unfoldable pub pick : Point → Point → Point
unfolding cheaper
pick p q = cond (cheaper p q) p q

-- The same of points that may be missing.
unfoldable pub lesser : Option Point → Option Point → Option Point
unfolding pick
lesser none q = q
lesser (some p) none = some p
lesser (some p) (some q) = some (pick p q)

-- A point, if it arrives before an instant.
unfoldable pub before : ℕ → Point → Option Point
before end p = cond (ltb p.arrival end) (some p) none

-- Of the covers that arrive before an instant: the least area, and the least arrival with that area. At most `time` is before `suc time`.
unfoldable pub least : ℕ → List Cover → Option Point
unfolding lesser before
least end [] = none
least end (c ∷ cs) = lesser (before end c.point) (least end cs)

-- Some cover of these has that area and arrival.
unfoldable pub reaches : Point → List Cover → Bool
unfolding any same
reaches p = any (λ c. same c.point p)

-- Two choices together, if both are there.
unfoldable pub both_chosen : Option Cover → Option Cover → Option Cover
unfolding together
both_chosen none d = none
both_chosen (some c) none = none
both_chosen (some c) (some d) = some (together c d)

-- Each input chosen by the same rule, under the time t less what its pin adds.
unfoldable pub chosen_inputs : (Pin → Input → ℕ → Option Cover) → Cell → ℕ → ℕ → List Input → Option Cover
unfolding both_chosen input_delay delayed nothing
chosen_inputs of cell load t [] = some nothing
chosen_inputs of cell load t (i ∷ is) = both_chosen (map (delayed (input_delay cell load i)) (of (feeds cell i) i (t - input_delay cell load i))) (chosen_inputs of cell load t is)

-- A match on top of the choices of its inputs.
unfoldable pub with_inputs : (Pin → Input → ℕ → Option Cover) → ℕ → ℕ → ℕ → Option Match → Option Cover
unfolding chosen_inputs topped
with_inputs of load n t none = none
with_inputs of load n t (some m) = map (topped n m) (chosen_inputs of m.pattern.cell load t m.inputs)

-- The match of the lowest-numbered pattern some cover of which reaches the point, under its lowest crossing number that does.
unfoldable pub first_reaching : Library → ℕ → ℕ → Shape → Point → Option Match
unfolding first_such reaches match_covers under covers matches
first_reaching l load n s p = first_such (λ m. reaches p (match_covers (all_below l) load n m)) (matches l load n s)

-- The choice at an inverter or NAND, given the least area and arrival.
unfoldable pub gate_choice : Library → (ℕ → ℕ → Shape → ℕ → Option Cover) → ℕ → ℕ → Shape → Option Point → Option Cover
unfolding with_inputs first_reaching
gate_choice l below load n s none = none
gate_choice l below load n s (some p) = with_inputs (under l below) load n p.arrival (first_reaching l load n s p)

-- The choice at a node, given the choices at the nodes below.
unfoldable pub choice_step : Library → (ℕ → ℕ → Shape → ℕ → Option Cover) → ℕ → ℕ → Shape → ℕ → Option Cover
unfolding gate_choice least leaf_arrival leaf_cover
choice_step l below load n (leaf x) time = cond (leb (leaf_arrival x load) time) (some (leaf_cover x load)) none
choice_step l below load n (inv s) time = gate_choice l below load n (inv s) (least (suc time) (covers l load n (inv s)))
choice_step l below load n (nand s t) time = gate_choice l below load n (nand s t) (least (suc time) (covers l load n (nand s t)))

-- The cover handed over for a node under a load and a required time: of the least area with arrival at most that time, then of the least arrival t with that area,
-- by the lowest-numbered pattern that reaches both under the lowest crossing number that does, with each input chosen by the same rule.
unfoldable pub choice : Library → ℕ → ℕ → Shape → ℕ → Option Cover
unfolding choice_step throughout
choice l = throughout (λ time. none) (choice_step l)
