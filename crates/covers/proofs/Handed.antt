-- What the choice rule hands over.
use Prim.Native.Nat.{ℕ, suc, ◌+◌, ◌-◌, ◌*◌, ◌≤◌, ◌<◌}
use mathlib.Core.Path.{◌≡◌, refl, sym, ap, ◌∙◌}
use mathlib.Core.Logic.{⊎_elim, ◌↔◌}
use mathlib.Core.Bool.{true, false≢true}
use mathlib.Core.List.Memᴰ
use mathlib.Core.List.{List, [], ◌∷◌, Memᴰ}
use mathlib.Core.Option.{Option, none, some, map, none-ne-some, some-injective, map-eq-some_iff}
use native.Mathlib.Nat.{le_refl}
use native.Mathlib.Omega.{arith}
use lib.Dec.{leb}
use borrow.Table.Steps.{cases}
use borrow.Author.Tests.{le-leb, lt-leb}
use Rattle.sheets_rules.specs.Model.{Leaf, Shape, leaf, inv, nand, size, Pin, Cell, Library}
use Rattle.covers.specs.Match.{Input, Match, matches, pin_load}
use Rattle.covers.specs.Cover.{Point, Cover, IsCover, bare, matching, AreCovers, done, more, leaf_arrival, leaf_cover, nothing, late, raised, together, delayed, topped, feeds, input_delay}
use Rattle.covers.specs.Enumeration.{input_covers, match_covers, gate_covers, under, covers_step, covers, all_below}
use Rattle.covers.specs.Tradeoff.{same}
use Rattle.covers.specs.Choice.{lesser, least, reaches, both_chosen, chosen_inputs, with_inputs, first_reaching, gate_choice, choice_step, choice}
use Rattle.covers.specs.Crossing.{crossing_limit}
use Rattle.covers.specs.Promise.{first_placed, root_pattern, root_crossing, Handed}
use Rattle.covers.proofs.Basics.{lt_or_le, option_cases, before_next, by_then, any_true, true_any, first_cases, in_flat_map, of_flat_map}
use Rattle.covers.specs.Inside.Curve.{both, gates}
use Rattle.covers.proofs.Points.{same_true, same_refl, leq_area, leq_time, before_yes, before_no}
use Rattle.covers.proofs.Least.{IsLeast, In, least_is, least_cases, least_some, least_none, is_least}
use Rattle.covers.proofs.Deadline.{best_inputs, best_match, least_input, deadline_match}
use Rattle.covers.proofs.Matching.{crossing_small, rank, matches_are, matches_ascend, match_inside, input_smaller}
use Rattle.covers.proofs.Ascending.{first_lowest}
use Rattle.covers.proofs.Unroll.{covers_unroll, gate_covers_lem, choice_unroll, gate_choice_lem, by_gate}
use Rattle.covers.proofs.Relation.{covers_all}

-- The test finds a cover of that point if there is one.
true_reaches : (p : Point) (cs : List Cover) {c : Cover} → In cs c → c.point ≡ p → reaches p cs ≡ true
unfolding reaches
true_reaches p cs m h = true_any (λ c. same c.point p) cs m (rw h (same_refl p))

-- With p the least point before an instant, some of these covers reach p exactly when their own least before the instant after p's arrival is p.
pub reaches_when_best : {end : ℕ} {p : Point} (cs ds : List Cover) → IsLeast end (In cs) p → ((c : Cover) → In ds c → In cs c) → (reaches p ds ≡ true) ↔ (least (suc p.arrival) ds ≡ some p)
unfolding reaches
reaches_when_best {p = p} cs ds f sub = (
  λ h. let r = any_true (λ c. same c.point p) ds h in
      is_least ds record { cover = r.0; among = r.1; point = same_true r.0.point p r.2; intime = le_refl (suc p.arrival); first = λ c m t. f.first c (sub c m) (omega (arith, f.intime)) },
  λ h. let g = least_some (least_is (suc p.arrival) ds) h in true_reaches p ds g.among g.point,
)

both_some : (a b : Option Point) {r : Point} → both a b ≡ some r → (p : Point) × (q : Point) × (a ≡ some p) × (b ≡ some q)
unfolding both
both_some none b = λ e. absurd (none-ne-some _ e)
both_some (some p) none = λ e. absurd (none-ne-some _ e)
both_some (some p) (some q) = λ e. (p, q, refl, refl)

pub chosen_some : (a b : Option Cover) {e : Cover} → both_chosen a b ≡ some e → (c : Cover) × (d : Cover) × (a ≡ some c) × (b ≡ some d) × (e ≡ together c d)
unfolding both_chosen
chosen_some none b = λ h. absurd (none-ne-some _ h)
chosen_some (some c) none = λ h. absurd (none-ne-some _ h)
chosen_some (some c) (some d) = λ h. (c, d, refl, refl, cc)

-- The point of a cover that may be there.
abbrev pub cost_of : Option Cover → Option Point
cost_of = map (λ c. c.point)

point_both : (a b : Option Cover) → cost_of (both_chosen a b) ≡ both (cost_of a) (cost_of b)
unfolding both_chosen both together
point_both none b = refl
point_both (some c) none = refl
point_both (some c) (some d) = refl

point_map : (f : Cover → Cover) (g : Point → Point) → ((c : Cover) → (f c).point ≡ g c.point) → (a : Option Cover) → cost_of (map f a) ≡ map g (cost_of a)
point_map f g e none = refl
point_map f g e (some c) = ap {B = Option Point} some (e c)

module _ (l : Library) where
  abbrev chosen_below : Pin → Input → ℕ → Option Cover
  chosen_below = under l (choice l)

  -- What is claimed of a shape: the chosen cover has the least point.
  abbrev Chosen : Shape → Type 0
  Chosen s = (load n time : ℕ) → cost_of (choice l load n s time) ≡ least (suc time) (covers l load n s)

  inputs_point : (cell : Cell) (load t : ℕ) (is : List Input) {q : Point} → ((i : Input) → Memᴰ i is → Chosen i.shape) → best_inputs (least_input (all_below l)) cell load (suc t) is ≡ some q → cost_of (chosen_inputs chosen_below cell load t is) ≡ some q
  unfolding chosen_inputs best_inputs under nothing delayed
  inputs_point cell load t [] {q} h e = sym (before_yes (suc t) (record { area = 0; arrival = 0 }) (omega arith)) ∙ e
  inputs_point cell load t (i ∷ is) {q} h e =
      let d = input_delay cell load i in
      let below = covers l (pin_load l (feeds cell i)) i.node i.shape in
      let parts = both_some (map (late d) (least (suc t - d) below)) (best_inputs (least_input (all_below l)) cell load (suc t) is) e in
      let best = (map-eq-some_iff (late d) (least (suc t - d) below)).0 parts.2 in
      let left : suc (t - d) ≡ suc t - d = omega (arith, (least_some (least_is (suc t - d) below) best.1).intime) in
      let first = chosen_below (feeds cell i) i (t - d) in
      let here = h i (Memᴰ.head refl) (pin_load l (feeds cell i)) i.node (t - d) in
      let rest = inputs_point cell load t is (λ j m. h j (Memᴰ.tail m)) parts.3 in
      cc (point_both (map (delayed d) first) (chosen_inputs chosen_below cell load t is), point_map (delayed d) (late d) (λ c. refl) first)

  module _ (load n : ℕ) (s : Shape) where
    -- Every cover of a match at the node is a cover of the node.
    match_covers_in : {m : Match} → Memᴰ m (matches l load n s) → (c : Cover) → In (match_covers (all_below l) load n m) c → In (covers l load n s) c
    unfolding gate_covers
    match_covers_in h c k = rw (gate_covers_lem l load n s (let f = match_inside (matches_are l load n s h) in omega (arith, f.fewer))) (in_flat_map (match_covers (all_below l) load n) h k)

    -- What the loop over the patterns tests.
    pub pattern_reaches : {end : ℕ} {p : Point} {m : Match} → IsLeast end (In (covers l load n s)) p → Memᴰ m (matches l load n s) → (reaches p (match_covers (all_below l) load n m) ≡ true) ↔ (best_match (least_input (all_below l)) load (suc p.arrival) m ≡ some p)
    pattern_reaches {p} {m} f h = rw (← (deadline_match (all_below l) load n (suc p.arrival) m)) (reaches_when_best (covers l load n s) (match_covers (all_below l) load n m) f (match_covers_in h))

  gate_point : (s : Shape) → 0 < gates s → ((t : Shape) → size t < size s → Chosen t) → Chosen s
  unfolding gate_choice gate_covers first_reaching with_inputs topped best_match
  gate_point s g below load n time =
      let by = match_covers (all_below l) load n in
      rw (gate_choice_lem l load n s time g) (least_cases (λ o. cost_of (gate_choice l (choice l) load n s o) ≡ o) (suc time) (covers l load n s) (λ a. refl)
      (λ p f. first_cases (λ m. reaches p (by m)) (λ o. cost_of (with_inputs chosen_below load n p.arrival o) ≡ some p) (matches l load n s)
      (λ a. let r = of_flat_map by (matches l load n s) (rw (gate_covers_lem l load n s g) at f.among) in absurd (false≢true (sym (a r.0 r.1) ∙ true_reaches p (by r.0) r.2 f.point)))
      (λ m k r. let cell = m.pattern.cell in
      let q = (map-eq-some_iff (raised cell.area) (best_inputs (least_input (all_below l)) cell load (suc p.arrival) m.inputs)).0 ((pattern_reaches load n s f k).0 r) in
      let given = inputs_point cell load p.arrival m.inputs (λ i j. below i.shape (input_smaller (matches_are l load n s k) j)) q.1 in
      cc (point_map (topped n m) (raised cell.area) (λ c. refl) (chosen_inputs chosen_below cell load p.arrival m.inputs), given, q.2))))

  leaf_point_lem : (x : Leaf) → Chosen (leaf x)
  unfolding covers_step least lesser
  leaf_point_lem x load n time =
      let a = leaf_arrival x load in
      let p = (leaf_cover x load).point in
      rw (choice_unroll l load n (leaf x), covers_unroll l load n (leaf x))
      (unfold choice_step in ⊎_elim (λ h. rw (le-leb a time (omega arith), before_yes (suc time) p h)) (λ h. rw (lt-leb a time h, before_no (suc time) p h)) (lt_or_le a (suc time)))

  -- The choice rule hands over the least point: the least area with arrival at most the time, and the least arrival with that area.
  pub choice_point : (load n : ℕ) (s : Shape) (time : ℕ) → cost_of (choice l load n s time) ≡ least (suc time) (covers l load n s)
  choice_point load n s = by_gate Chosen leaf_point_lem gate_point s load n

  -- What is claimed of a shape: the chosen cover is a legal one.
  abbrev Legal : Shape → Type 0
  Legal s = (load n time : ℕ) (c : Cover) → choice l load n s time ≡ some c → IsCover l load n s c

  inputs_legal : (cell : Cell) (load t : ℕ) (is : List Input) {c : Cover} → ((i : Input) → Memᴰ i is → Legal i.shape) → chosen_inputs chosen_below cell load t is ≡ some c → AreCovers l cell load is c
  unfolding chosen_inputs under
  inputs_legal cell load t [] h e = done (sym (some-injective _ _ e))
  inputs_legal cell load t (i ∷ is) {c} h e =
      let d = input_delay cell load i in
      let r = chosen_some (map (delayed d) (chosen_below (feeds cell i) i (t - d))) (chosen_inputs chosen_below cell load t is) e in
      let k = (map-eq-some_iff (delayed d) (chosen_below (feeds cell i) i (t - d))).0 r.2 in
      more (h i (Memᴰ.head refl) _ _ _ _ k.1) (inputs_legal cell load t is (λ j m. h j (Memᴰ.tail m)) r.3) (r.4 ∙ ap (λ x. together x r.1) (sym k.2))

  gate_legal : (s : Shape) → 0 < gates s → ((t : Shape) → size t < size s → Legal t) → Legal s
  unfolding gate_choice first_reaching with_inputs
  gate_legal s g below load n time c e =
      let w : gate_choice l (choice l) load n s (least (suc time) (covers l load n s)) ≡ some c = rw (gate_choice_lem l load n s time g) at e in
      option_cases (least (suc time) (covers l load n s)) (λ f. absurd (none-ne-some _ (rw f at w)))
      (λ p f. first_cases (λ m. reaches p (match_covers (all_below l) load n m)) (λ o. with_inputs chosen_below load n p.arrival o ≡ some c → IsCover l load n s c) (matches l load n s)
      (λ a e. absurd (none-ne-some _ e))
      (λ m k r e. let q = (map-eq-some_iff (topped n m) (chosen_inputs chosen_below m.pattern.cell load p.arrival m.inputs)).0 e in let h = matches_are l load n s k in
      matching m h (inputs_legal m.pattern.cell load p.arrival m.inputs (λ i j. below i.shape (input_smaller h j)) q.1) (sym q.2)) (rw f at w))

  leaf_legal : (x : Leaf) → Legal (leaf x)
  unfolding choice_step
  leaf_legal x load n time c e =
      let f : choice_step l (choice l) load n (leaf x) time ≡ some c = rw (choice_unroll l load n (leaf x)) at e in
      cases (leb (leaf_arrival x load) time) (λ k. bare (sym (some-injective _ _ (rw k at f)))) (λ k. absurd (none-ne-some _ (rw k at f)))

  choice_legal : (load n : ℕ) (s : Shape) (time : ℕ) {c : Cover} → choice l load n s time ≡ some c → IsCover l load n s c
  choice_legal load n s time {c} = by_gate Legal leaf_legal gate_legal s load n time c

  -- The order of the match at a cover's root.
  abbrev root_rank : Cover → ℕ
  root_rank c = 32 * root_pattern c + root_crossing c

  root_crossing_small : {load n : ℕ} {s : Shape} {c : Cover} → IsCover l load n s c → root_crossing c < crossing_limit
  unfolding first_placed root_crossing leaf_cover topped
  root_crossing_small (bare e) = rw e (omega arith)
  root_crossing_small (matching m f g e) = rw e (crossing_small m.pattern.drawing m.crossing f.crossed)

  -- Of the matches that reach the point the first is taken.
  gate_lowest : (load n : ℕ) (s : Shape) (time : ℕ) → 0 < gates s → {c : Cover} → choice l load n s time ≡ some c → (d : Cover) → IsCover l load n s d → d.point ≡ c.point → root_rank c ≤ root_rank d
  unfolding gate_choice gate_covers match_covers first_reaching with_inputs topped first_placed root_pattern root_crossing
  gate_lowest load n s time g {c} e d k h =
      let by = match_covers (all_below l) load n in
      let q : least (suc time) (covers l load n s) ≡ some c.point = sym (choice_point load n s time) ∙ ap cost_of e in
      let r = of_flat_map by (matches l load n s) (rw (gate_covers_lem l load n s g) at (covers_all l k)) in
      let t = Memᴰ.of_map (topped n r.0) (input_covers (all_below l) r.0.pattern.cell load r.0.inputs) r.2 in
      let w : with_inputs chosen_below load n c.point.arrival (first_reaching l load n s c.point) ≡ some c = rw (gate_choice_lem l load n s time g, q) at e in
      rw (← t.2) (option_cases {X = root_rank c ≤ rank r.0} (first_reaching l load n s c.point) (λ f. absurd (none-ne-some _ (rw f at w)))
      (λ x f. let u = (map-eq-some_iff (topped n x) (chosen_inputs chosen_below x.pattern.cell load c.point.arrival x.inputs)).0 (rw f at w) in
      rw (← (ap root_rank u.2)) (first_lowest (λ m. reaches c.point (by m)) (matches_ascend l load n s) f r.1 (true_reaches c.point (by r.0) r.2 h))))

  choice_lowest : (load n : ℕ) (s : Shape) (time : ℕ) {c : Cover} → choice l load n s time ≡ some c → (d : Cover) → IsCover l load n s d → d.point ≡ c.point → root_rank c ≤ root_rank d
  unfolding gates covers_step leaf_cover first_placed root_pattern root_crossing
  choice_lowest load n (leaf x) time {c} e d k h = let f : c ≡ leaf_cover x load = Memᴰ.eq_of_singleton (rw (covers_unroll l load n (leaf x)) at (covers_all l (choice_legal load n (leaf x) time e))) in rw f (omega arith)
  choice_lowest load n (inv s) time e d k h = gate_lowest load n (inv s) time (omega arith) e d k h
  choice_lowest load n (nand s t) time e d k h = gate_lowest load n (nand s t) time (omega arith) e d k h

  module _ (load n : ℕ) (s : Shape) (time : ℕ) where
    -- What is handed over is a legal cover that meets the time, of least area among all legal covers that meet it, and earliest among those of that area.
    pub choice_handed : {c : Cover} → choice l load n s time ≡ some c → Handed l load n s time c
    choice_handed {c} e =
        let h = least_some (least_is (suc time) (covers l load n s)) (sym (choice_point load n s time) ∙ ap cost_of e) in
        let legal = choice_legal load n s time e in
        record {
          legal = legal;
          intime = by_then h.intime;
          smallest = λ d k t. leq_area (h.first d (covers_all l k) (before_next t));
          earliest = λ d k a. ⊎_elim (λ t. leq_time (h.first d (covers_all l k) t) (omega arith)) (λ t. omega (arith, h.intime)) (lt_or_le d.point.arrival (suc time));
          lowest = λ d k q. omega (arith, choice_lowest load n s time e d k q, root_crossing_small legal, root_crossing_small k);
          least_crossed = λ d k q r. omega (arith, choice_lowest load n s time e d k q);
        }

    -- None is handed over only if no legal cover meets the time.
    pub choice_none : choice l load n s time ≡ none → (d : Cover) → IsCover l load n s d → time < d.point.arrival
    choice_none e d k = least_none (least_is (suc time) (covers l load n s)) (sym (choice_point load n s time) ∙ ap cost_of e) d (covers_all l k)
