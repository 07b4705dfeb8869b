-- The choices of a match's inputs, one after another: where each stands, and what they list.
use Prim.Native.Nat.{ℕ, zero, suc, ◌+◌, ◌-◌, ◌≤◌, ◌<◌}
use mathlib.Core.Path.{◌≡◌, refl, sym, ap, ap₂, ◌∙◌}
use mathlib.Core.Bool.{Bool}
use mathlib.Core.List.Memᴰ
use mathlib.Core.List.{List, [], ◌∷◌, ◌++◌, append_assoc, append-nil, Memᴰ}
use mathlib.Core.Option
use mathlib.Core.Option.{Option, none, some, none-ne-some, some-injective, map-eq-some_iff}
use native.Mathlib.Numerals.{add-one}
use native.Mathlib.Omega.{arith}
use lib.ListN.{length, get_or, take, length-append}
use lib.Seq.{take-suc, take_all}
use Rattle.fields.proofs.Lists.{at_mem}
use Rattle.sheets_rules.specs.Model.{Shape, Cell, Library, Tree}
use Rattle.covers.specs.Match.{Input, Match, IsMatch, matches, pin_at, pin_load}
use Rattle.covers.specs.Cover.{Point, Placed, Cover, nothing, together, delayed, topped, feeds, input_delay}
use Rattle.covers.specs.Enumeration.{under, covers}
use Rattle.covers.specs.Tradeoff.{nodes}
use Rattle.covers.specs.Choice.{least, chosen_inputs, first_reaching, choice}
use Rattle.covers.specs.Inside.Curve.{base, gates}
use Rattle.covers.proofs.Basics.{at_all, FirstOf, nowhere, somewhere, first_of}
use Rattle.covers.proofs.Least.{least_is, least_some}
use Rattle.covers.proofs.Matching.{Spread, last, next, matches_are, match_inside, spread_in, input_smaller}
use Rattle.covers.proofs.Handed.{chosen_some, choice_point, choice_handed}
use Rattle.covers.proofs.Listing.{few_matches}
use Rattle.covers.proofs.Nodes.{input_in, nodes_within}
use Rattle.covers.proofs.Bounds.{match_cell}
use Rattle.covers.proofs.FromSheets.{binned}
use Rattle.filling.proofs.Node.{leaf_here}
use Rattle.result_sheets.specs.declared.CoverRecord.{CoverRecord}
use Rattle.result_sheets.specs.Public.{appended}
use Rattle.result_sheets.proofs.Laws.{appended_none}
use Rattle.choosing.specs.declared.Goal.{Goal}
use Rattle.choosing.specs.declared.Inputs.{Inputs}
use Rattle.choosing.specs.Inside.Promises.{no_input, goal_of, no_goal, InputsAre, Prepared, below, Driven, Chooses}
use Rattle.choosing.proofs.Gate.{parts, size_at, ready}

-- The matches of a choice, if there is one.
unfoldable pub chosen_placed : Option Cover → List Placed
chosen_placed none = []
chosen_placed (some c) = c.placed

module _ (l : Library) (cell : Cell) (load t : ℕ) where
  -- The choice of one input, and the matches of the choices of several.
  abbrev pub input_choice : Input → Option Cover
  input_choice i = choice l (pin_load l (feeds cell i)) i.node i.shape (t - input_delay cell load i)

  unfoldable pub inputs_placed : List Input → List Placed
  inputs_placed [] = []
  inputs_placed (i ∷ is) = chosen_placed (input_choice i) ++ inputs_placed is

  -- Each input is chosen, and the whole lists what they list.
  abbrev together_chosen : List Input → Cover → Type 0
  together_chosen is d = chosen_inputs (under l (choice l)) cell load t is ≡ some d

  first_chosen : (j : Input) (is : List Input) {d : Cover} → together_chosen (j ∷ is) d →
      (c : Cover) × (x : Cover) × (input_choice j ≡ some c) × together_chosen is x × (d.placed ≡ c.placed ++ x.placed)
  unfolding chosen_inputs under together delayed
  first_chosen j is e =
      let r = chosen_some (Option.map (delayed (input_delay cell load j)) (input_choice j)) (chosen_inputs (under l (choice l)) cell load t is) e in
      let k = (map-eq-some_iff (delayed (input_delay cell load j)) (input_choice j)).0 r.2 in
      (k.0, r.1, k.1, r.3, ap (λ (c : Cover). c.placed) (rw (← k.2) at r.4))

  pub each_chosen : (is : List Input) {d : Cover} → chosen_inputs (under l (choice l)) cell load t is ≡ some d → (i : Input) → Memᴰ i is → (c : Cover) × (input_choice i ≡ some c)
  each_chosen [] e i m = absurd (Memᴰ.not-nil m)
  each_chosen (j ∷ is) e i (Memᴰ.head q) = let r = first_chosen j is e in (r.0, ap input_choice q ∙ r.2)
  each_chosen (j ∷ is) e i (Memᴰ.tail k) = each_chosen is (first_chosen j is e).3 i k

  pub all_placed : (is : List Input) {d : Cover} → chosen_inputs (under l (choice l)) cell load t is ≡ some d → d.placed ≡ inputs_placed is
  unfolding chosen_inputs inputs_placed chosen_placed nothing
  all_placed [] e = ap (λ (c : Cover). c.placed) (sym (some-injective _ _ e))
  all_placed (j ∷ is) e = let r = first_chosen j is e in rw (r.2, ← all_placed is r.3) r.4

  placed_last : (js : List Input) (i : Input) → inputs_placed (js ++ (i ∷ [])) ≡ inputs_placed js ++ chosen_placed (input_choice i)
  unfolding inputs_placed
  placed_last [] i = append-nil (chosen_placed (input_choice i))
  placed_last (j ∷ js) i = ap (λ (xs : List Placed). chosen_placed (input_choice j) ++ xs) (placed_last js i) ∙ sym (append_assoc (chosen_placed (input_choice j)) (inputs_placed js) (chosen_placed (input_choice i)))

  pub placed_more : (is : List Input) (k : ℕ) → k < length is → inputs_placed (take (k + 1) is) ≡ inputs_placed (take k is) ++ chosen_placed (input_choice (get_or is k no_input))
  placed_more is k h = ap (λ (j : ℕ). inputs_placed (take j is)) (add-one k) ∙ ap inputs_placed (take-suc is k no_input h) ∙ placed_last (take k is) (get_or is k no_input)

  -- No more matches than gates, so what is listed before an input leaves room for it.
  pub spread_few : {low high g : ℕ} {is : List Input} → Spread low high g is → ((i : Input) → Memᴰ i is → length (chosen_placed (input_choice i)) ≤ gates i.shape) → (k : ℕ) → k < length is →
      length (inputs_placed (take k is)) + gates (get_or is k no_input).shape ≤ g
  unfolding inputs_placed
  spread_few (last a) h k l = absurd (omega arith)
  spread_few (next {i = i} {is = is} a b s) h zero l = omega arith
  spread_few (next {i = i} {is = is} a b s) h (suc k) l =
      omega (arith, length-append (chosen_placed (input_choice i)) (inputs_placed (take k is)), h i (Memᴰ.head refl), spread_few s (λ j m. h j (Memᴰ.tail m)) k (omega arith))

-- ---- the match at a gate

first_in : {A : Type 0} {test : A → Bool} {xs : List A} {o : Option A} {x : A} → FirstOf test xs o → o ≡ some x → Memᴰ x xs
first_in (nowhere a) e = absurd (none-ne-some _ e)
first_in (somewhere m h) e = rw (some-injective _ _ e) at m

pub first_match : (l : Library) (load n : ℕ) (s : Shape) (p : Point) {m : Match} → first_reaching l load n s p ≡ some m → IsMatch l load n s m
unfolding first_reaching
first_match l load n s p e = matches_are l load n s (first_in (first_of _ (matches l load n s)) e)

-- The same, of equal lengths.
rehoused : {most : ℕ} {l : Library} {t : Tree} {rows ss zs : List ℕ} {room room' : ℕ} {work : List ℕ} → Prepared most l t rows ss zs room work → room ≡ room' → Prepared most l t rows ss zs room' work
rehoused p e = record { decoded = p.decoded; room_is = sym e ∙ p.room_is; area = p.area; curves = p.curves }

-- A gate at node n, its match and the choices of the match's inputs, as they were read; from place `start` on there is room for what they list.
pub record Topmost (most : ℕ) (l : Library) (t : Tree) (rows ss zs : List ℕ) (room : ℕ) (work : List ℕ) (n : ℕ) (inputs : Inputs) (start : ℕ) : Type 0 where
  pub shape : Shape
  pub load : ℕ
  pub time : ℕ
  pub match : Match
  pub rest : Cover
  pub prepared : Prepared most l t rows ss zs room work
  pub here : Memᴰ (record { number = n; shape = shape }) (nodes 0 t.shape)
  pub fitting : IsMatch l load n shape match
  pub inputs_are : InputsAre l match load time inputs
  pub time_small : time < base
  pub chosen : chosen_inputs (under l (choice l)) match.pattern.cell load time match.inputs ≡ some rest
  pub fits : start + gates shape ≤ 65

-- What the first k inputs list.
module _ {most : ℕ} {l : Library} {t : Tree} {rows ss zs : List ℕ} {room : ℕ} {work : List ℕ} {n : ℕ} {inputs : Inputs} {start : ℕ} (top : Topmost most l t rows ss zs room work n inputs start) where
  abbrev pub placed_to : ℕ → List Placed
  placed_to k = inputs_placed l top.match.pattern.cell top.load top.time (take k top.match.inputs)

  pub few_inputs : inputs.count ≤ 6
  few_inputs = omega (arith, top.inputs_are.count_is, top.inputs_are.few)

  pub placed_start : placed_to 0 ≡ []
  unfolding inputs_placed
  placed_start = refl

  pub placed_all : (k : ℕ) → inputs.count ≤ k → placed_to k ≡ top.rest.placed
  placed_all k h =
      ap (inputs_placed l top.match.pattern.cell top.load top.time) (take_all k top.match.inputs (omega (arith, top.inputs_are.count_is)))
      ∙ sym (all_placed l top.match.pattern.cell top.load top.time top.match.inputs top.chosen)

-- The next input: what its own choice is lent, that its subtree is smaller, and what it lists.
pub record Following (most : ℕ) (l : Library) (t : Tree) (rows ss zs : List ℕ) (room : ℕ) (work : List ℕ) (n : ℕ) (goal : Goal) (cover : CoverRecord) (before after : List Placed) : Type 0 where
  pub shape : Shape
  pub chooses : Chooses most l t rows ss zs room work goal cover shape
  pub smaller : get_or zs goal.node 0 < get_or zs n 0
  pub chosen : Cover
  pub choice_is : choice l goal.load goal.node shape goal.time ≡ some chosen
  pub more : after ≡ before ++ chosen.placed

module _ {most : ℕ} {l : Library} {t : Tree} {rows ss zs : List ℕ} {room : ℕ} {work : List ℕ} {n : ℕ} {inputs : Inputs} {start : ℕ} (top : Topmost most l t rows ss zs room work n inputs start)
    {k : ℕ} (inside : k < inputs.count) {cover : CoverRecord} (so_far : cover.count ≡ start + length (placed_to top k)) {room' : ℕ} (same : room ≡ room') {next : Goal} (asked : next ≡ get_or inputs.goals k no_goal) where
  pub following : Following most l t rows ss zs room' work n next cover (placed_to top k) (placed_to top (k + 1))
  unfolding chosen_placed feeds pin_at pin_load
  following =
      let m = top.match in
      let cell = m.pattern.cell in
      let is : k < length m.inputs = omega (arith, top.inputs_are.count_is) in
      let i = get_or m.inputs k no_input in
      let goal = goal_of l m top.load top.time i in
      let mem = at_mem m.inputs k no_input is in
      let deep = spread_in (match_inside top.fitting).spread mem in
      let each = each_chosen l cell top.load top.time m.inputs top.chosen in
      let c = each i mem in
      let b = binned top.prepared.decoded.library in
      let driven : Driven l t goal i.shape = record {
        node = nodes_within 0 t.shape top.here (input_in top.fitting i mem);
        drives = below (omega (arith, deep.0)) (at_all (λ p. p.bin < length l.bins) cell.pins i.pin _ b.some_bin (b.pins cell (match_cell top.fitting))) refl;
        time_small = omega (arith, top.time_small);
        some_cover = (c.0.point, sym (choice_point l goal.load i.node i.shape goal.time) ∙ ap (Option.map (λ (x : Cover). x.point)) c.1);
      } in
      let room-left = spread_few l cell top.load top.time (match_inside top.fitting).spread (λ j h. rw (each j h).1 (few_matches (choice_handed l _ _ _ _ (each j h).1).legal)) k is in
      rw (asked ∙ top.inputs_are.each k is) (record {
        shape = i.shape;
        chooses = record { prepared = rehoused top.prepared same; driven = driven; fits = omega (arith, room-left, (match_inside top.fitting).fewer, so_far, top.fits) };
        smaller = omega (arith, size_at (ready top.prepared driven), size_at (record { decoded = top.prepared.decoded; here = top.here; room_is = top.prepared.room_is }), input_smaller top.fitting mem);
        chosen = c.0;
        choice_is = c.1;
        more = placed_more l cell top.load top.time m.inputs k is ∙ ap (λ (o : Option Cover). placed_to top k ++ chosen_placed o) c.1;
      })

-- ---- the choice at a node

module _ {most : ℕ} {l : Library} {t : Tree} {rows ss zs : List ℕ} {room : ℕ} {work : List ℕ} {goal : Goal} {cover : CoverRecord} {s : Shape} (all : Chooses most l t rows ss zs room work goal cover s) where
  -- At a leaf nothing is listed.
  pub leaf_appended : 2 ≤ get_or ss goal.node 0 → (c : Cover) → choice l goal.load goal.node s goal.time ≡ some c → cover ≡ appended cover c.placed
  leaf_appended h c e =
      let no-gate = leaf_here (ready all.prepared all.driven) h in
      (elim c.placed as (λ xs. length xs ≤ gates s → cover ≡ appended cover xs) [ [] ↦ λ k. appended_none cover | x ∷ xs ↦ λ k. absurd (omega arith) ])
      (few_matches (choice_handed l goal.load goal.node s goal.time e).legal)

  -- At a gate the match is listed, then what its inputs list.
  pub gate_top : 0 < gates s → (c : Cover) → choice l goal.load goal.node s goal.time ≡ some c → (inputs : Inputs) →
      ((p : Point) → least (suc goal.time) (covers l goal.load goal.node s) ≡ some p → (m : Match) → first_reaching l goal.load goal.node s p ≡ some m → InputsAre l m goal.load p.arrival inputs) →
      {room' start : ℕ} → room ≡ room' → start ≡ cover.count + 1 →
      (top : Topmost most l t rows ss zs room' work goal.node inputs start) × (c.placed ≡ record { node = goal.node; pattern = inputs.pattern; crossing = inputs.crossing } ∷ top.rest.placed)
  unfolding topped
  gate_top g c e inputs are same from =
      let p = all.driven.some_cover in
      let m = parts l goal.load goal.node s goal.time g p.1 e in
      let is = are p.0 p.1 m.match m.first in (
        record {
          shape = s;
          load = goal.load;
          time = p.0.arrival;
          match = m.match;
          rest = m.inputs;
          prepared = rehoused all.prepared same;
          here = all.driven.node;
          inputs_are = is;
          fitting = first_match l goal.load goal.node s p.0 m.first;
          time_small = omega (arith, (least_some (least_is (suc goal.time) (covers l goal.load goal.node s)) p.1).intime, all.driven.time_small);
          chosen = m.chosen;
          fits = omega (arith, all.fits, from);
        },
        ap (λ (x : Cover). x.placed) m.whole ∙ ap₂ (λ (q x : ℕ). record { node = goal.node; pattern = q; crossing = x } ∷ m.inputs.placed) (sym is.pattern_is) (sym is.crossing_is),
      )
