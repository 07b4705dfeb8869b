-- Which hit reaches a word, and the inputs read from a hit.
use mathlib.Core.Path.{◌≡◌, sym, ap, ◌∙◌}
use mathlib.Core.Option as Maybe
use mathlib.Core.Option.{some, none-ne-some, some-injective}
use mathlib.Core.List.{List, map}
use Prim.Native.Nat.{ℕ, ◌+◌, ◌-◌, ◌<◌}
use native.Mathlib.Omega.{arith}
use borrow.Author.Count.{below_more}
use lib.ListN.{length, get_or, set, length-map}
use lib.Seq.{get_or-set_same, get_or-set_other}
use mathlib.Core.Bool.{true, false, false≢true}
use lib.Dec.{eqb}
use Rattle.std.proofs.lemmas.Bool.{eqb-true}
use Rattle.std.proofs.Common.{eq-eqb}
use Rattle.std.specs.Prelude.{Option, None, Some}
use Rattle.std.specs.Option.{option_eq}
use Rattle.sheets_rules.specs.Model.{Library}
use Rattle.covers.specs.Match.{Match}
use Rattle.covers.specs.Cover.{Point, feeds}
use Rattle.covers.specs.Inside.Curve.{point_of, word_of}
use Rattle.fields.proofs.Lists.{at_mem, at_map}
use Rattle.cells.specs.declared.PinFigures.{PinFigures}
use Rattle.cells.specs.Inside.Cell.{delay_of, figures_of}
use Rattle.cells.proofs.Laws.{figures_are, delay_is}
use Rattle.overlay.specs.declared.Input.{Input}
use Rattle.overlay.specs.Inside.Promises.{blank_input, input_of}
use Rattle.overlay.proofs.Patterns.{slice_kept}
use Rattle.matching.specs.declared.Hit.{Hit}
use Rattle.matching.specs.Inside.Found.{hit_of}
use Rattle.matching.proofs.Patterns as matching
use Rattle.curves.specs.Inside.Best.{hit_inputs, input_figures}
use Rattle.curves.specs.Inside.Promises.{Worth}
use Rattle.curves.proofs.Laws.{word_point}
use Rattle.choosing.specs.declared.Goal.{Goal}
use Rattle.choosing.specs.Inside.Promises.{HitHolds, goal_of, no_input, no_goal}

-- The word found is the word sought exactly when its point is.
pub reached : (limit end w : ℕ) (r : Option ℕ) (o : Maybe.Option Point) → Worth limit end r o → option_eq eqb r (Some w) ≡ true → o ≡ some (point_of w)
reached limit end w None o g e = absurd (false≢true e)
reached limit end w (Some v) o g e = g.point ∙ ap (λ (x : ℕ). some (point_of x)) (eqb-true v w e)

pub unreached : (limit end w : ℕ) (r : Option ℕ) (o : Maybe.Option Point) → Worth limit end r o → option_eq eqb r (Some w) ≡ false → o ≡ some (point_of w) → ⊥
unreached limit end w None o g e q = none-ne-some (point_of w) (sym g ∙ q)
unreached limit end w (Some v) o g e q =
    let same : v ≡ w = sym (word_point v) ∙ ap word_of (some-injective _ _ (sym g.point ∙ q)) ∙ word_point w in
    false≢true (sym e ∙ eq-eqb v w same)

-- ---- the inputs in a hit

module _ (l : Library) (pattern : List ℕ) (hit : Hit) (m : Match) (holds : HitHolds l pattern hit m) where
  pub inputs_at : hit_inputs hit ≡ map input_of m.inputs
  inputs_at = slice_kept m.inputs (ap (λ (h : Hit). h.inputs) holds.hit_is ∙ matching.hit_inputs m) holds.few

  pub count_at : length (hit_inputs hit) ≡ length m.inputs
  count_at = ap length inputs_at ∙ length-map m.inputs input_of

  pub pattern_at_lem : hit.pattern ≡ m.number
  unfolding hit_of
  pattern_at_lem = ap (λ (h : Hit). h.pattern) holds.hit_is

  pub crossing_at : hit.crossing ≡ m.crossing
  unfolding hit_of
  crossing_at = ap (λ (h : Hit). h.crossing) holds.hit_is

  -- Input k, from its pin's figures and what they leave of the time.
  module _ (load t k x node : ℕ) (pin : PinFigures) (pin-read : pin ≡ input_figures pattern (get_or (hit_inputs hit) k blank_input)) (e : x ≡ t - delay_of pin load) (node-read : node ≡ (get_or (hit_inputs hit) k blank_input).node) where
    abbrev asked : Goal
    asked = record { node = node; load = pin.load; bin = pin.bin; time = x }

    goal_read : k < length m.inputs → asked ≡ goal_of l m load t (get_or m.inputs k no_input)
    unfolding figures_of
    goal_read h =
        let i = get_or m.inputs k no_input in
        let is : get_or (hit_inputs hit) k blank_input ≡ input_of i = ap (λ (is : List Input). get_or is k blank_input) inputs_at ∙ at_map input_of m.inputs k no_input blank_input h in
        let node-is : node ≡ i.node = node-read ∙ ap (λ (j : Input). j.node) is in
        let f : pin ≡ figures_of l (feeds m.pattern.cell i) = pin-read ∙ figures_are holds.stored i (holds.pinned i (at_mem m.inputs k no_input h)) (ap (λ (j : Input). j.pin) is) in
        rw (e, f, node-is, delay_is l m.pattern.cell load i)

    -- One input more.
    pub inputs_turn : (goals : List Goal) → k < length (hit_inputs hit) → length goals ≡ 6 → ((i : ℕ) → i < k → get_or goals i no_goal ≡ goal_of l m load t (get_or m.inputs i no_input)) →
        (i : ℕ) → i < k + 1 → get_or (set goals k asked) i no_goal ≡ goal_of l m load t (get_or m.inputs i no_input)
    inputs_turn goals h long old = below_more _ k
        (λ i g. get_or-set_other goals k i asked no_goal (λ e. omega arith) ∙ old i g)
        (get_or-set_same goals k asked no_goal (omega (arith, holds.few, count_at)) ∙ goal_read (omega (arith, count_at)))
