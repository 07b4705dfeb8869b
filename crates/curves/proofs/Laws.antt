-- Laws about words and stored curves.
use mathlib.Core.Path.{◌≡◌, refl, sym, ap, subst, ◌∙◌}
use mathlib.Core.List.{List, [], ◌∷◌}
use mathlib.Core.Logic.{⊎_elim}
use mathlib.Core.Bool.{not, cond}
use native.Mathlib.Decide.{ℕ_discrete}
use mathlib.Core.Option.{Option, none, some, map}
use Prim.Native.Nat.{ℕ, suc, ◌+◌, ◌-◌, ◌*◌, ◌/◌, ◌%◌, ◌≤◌, ◌<◌, min, max}
use native.Mathlib.Nat.{div-add-mod', mul-suc, mul-le-mul_left}
use native.Mathlib.Numerals.{add-one}
use native.Mathlib.Omega.{arith}
use lib.ListN.{length, get_or, take, drop, length-drop, length-take, drop_of_length-le, get_or-eq_default}
use lib.Seq.{take_all, length-take-le, get_or-take, get_or-drop, drop-cons}
use lib.Dec.{eqb, ltb}
use borrow.Author.Tests.{eqb-true, ltb-true, ltb-false, eq-eqb, ne_eqb, lt-ltb, le-ltb, le-leb, lt-leb}
use borrow.Table.Steps.{cases}
use Rattle.std.specs.Prelude.{Option as Maybe, None, Some, unwrap_or}
use Rattle.std.specs.Bool.{then_some}
use Rattle.std.specs.Option.{option_or}
use Rattle.std.proofs.lemmas.List.{take-append-drop}
use Rattle.std.proofs.lemmas.List.Folds.{find-append}
use Rattle.std.proofs.lemmas.Option.{none-some, same_Some}
use Rattle.covers.specs.Cover.{Point, late, raised, beside, leaf_arrival, leaf_point}
use Rattle.covers.specs.Choice.{before, lesser}
use Rattle.covers.specs.Inside.Curve.{base, both, lookup, point_of, word_of}
use Rattle.covers.proofs.Points.{point_path, both_assoc, both_carries, Leq, smaller, earlier, pick_left, pick_right, lesser_none}
use Rattle.covers.proofs.Basics.{lt_or_le}
use Rattle.curves.specs.Inside.Words.{absent, area_limit, point_limit, match_limit, stored, slot, table_of, Small, ZeroBelow, WorkArea}
use Rattle.cells.specs.declared.PinFigures.{PinFigures}
use Rattle.cells.specs.Inside.Cell.{delay_of}
use Rattle.overlay.specs.declared.Input.{Input}
use Rattle.overlay.specs.Inside.Promises.{blank_input}
use Rattle.matching.specs.declared.Hit.{Hit}
use Rattle.curves.specs.Inside.Best.{InputSafe, HitSafe, row_area, hit_count, hit_inputs, input_figures, input_best, input_late, inputs_best, hit_best, hits_best}
use Rattle.curves.specs.Inside.Promises.{first_before, PointWord, Worth, Held, match_before}
use Rattle.leaves.specs.Inside.Leaf.{leaf_of}

-- ---- words

pub word_point : (w : ℕ) → word_of (point_of w) ≡ w
unfolding word_of point_of
word_point w = div-add-mod' w base

pub point_word_lem : (p : Point) → p.arrival < base → point_of (word_of p) ≡ p
unfolding word_of point_of
point_word_lem p h = point_path (omega arith) (omega arith)

-- In a word, the arrival stands below the base.
pub word_arrival : (p : Point) → p.arrival < base → word_of p % base ≡ p.arrival
unfolding word_of
word_arrival p h = omega arith

-- A kept word that is in use, and one that is not.
pub held_point : (limit end w : ℕ) (o : Option Point) → w < absent → PointWord limit end w o → Held limit end w o
held_point limit end w o l g = record { missing = λ z. absurd (omega arith); point = λ n. g }

pub held_none : (limit end : ℕ) (o : Option Point) → o ≡ none → Held limit end absent o
held_none limit end o e = record { missing = λ z. e; point = λ n. absurd (n refl) }

-- What is kept of what was found, and what is found of what is kept.
pub held : (limit end : ℕ) (r : Maybe ℕ) (o : Option Point) → limit ≤ absent → Worth limit end r o → Held limit end (unwrap_or r absent) o
held limit end None o h e = held_none limit end o e
held limit end (Some w) o h g = held_point limit end w o (omega (arith, g.small)) g

pub told : (limit end w : ℕ) (o : Option Point) → Held limit end w o → Worth limit end (then_some (not (eqb w absent)) w) o
told limit end w o g = elim (ℕ_discrete w absent) [ yes e ↦ rw (eq-eqb w absent e) (g.missing e) | no n ↦ rw (ne_eqb w absent n) (g.point n) ]

-- ---- stored curves

-- The arithmetic of slots.
pub apart : (w : ℕ) {i j : ℕ} → i < j → w * i + w ≤ w * j
apart w {i} {j} h = omega (arith, mul-suc w i, mul-le-mul_left {m = suc i} {n = j} w (omega arith))

-- Every slot is within the work area, and its words are few.
abbrev pub SlotWithin : ℕ → List ℕ → ℕ → Type 0
SlotWithin most work at = (slot most at + (most + 1) ≤ 65536) × (slot most at + (most + 1) ≤ length work)

pub slot_within : {most : ℕ} {work : List ℕ} → WorkArea most work → (at : ℕ) → at < 256 → SlotWithin most work at
slot_within {most} w at h = let ends = apart (most + 1) {i = at} {j = 256} h in (omega (arith, w.bounded), omega (arith, w.room))

-- Of a part, its length and its words.
pub part_length : (w a : ℕ) (l : List ℕ) → a + w ≤ length l → length (take w (drop a l)) ≡ w
part_length w a l h = length-take-le w (drop a l) (omega (arith, length-drop a l))

pub part_word_lem : (w a : ℕ) (l : List ℕ) (k : ℕ) → k < w → get_or (take w (drop a l)) k 0 ≡ get_or l (a + k) 0
part_word_lem w a l k h = get_or-take w (drop a l) k 0 h ∙ get_or-drop a l k 0

pub part_words : (P : ℕ → Type 0) → P 0 → (w a : ℕ) (l : List ℕ) → ((k : ℕ) → P (get_or l k 0)) → (k : ℕ) → P (get_or (take w (drop a l)) k 0)
part_words P z w a l all k =
    ⊎_elim (λ h. rw (part_word_lem w a l k h) (all (a + k))) (λ h. rw (get_or-eq_default (take w (drop a l)) 0 {n = k} (omega (arith, length-take w (drop a l)))) z) (lt_or_le k w)

pub part_small : (w a : ℕ) (l : List ℕ) → Small l → Small (take w (drop a l))
part_small = part_words (λ x. x < point_limit) (omega arith)

pub zero_curves : (most : ℕ) (work : List ℕ) → ((k : ℕ) → get_or work k 0 ≡ 0) → (i : ℕ) → ZeroBelow most i work
zero_curves most work z i j h = part_words (λ x. x ≡ 0) refl (most + 1) (slot most j) work z

-- From place k on in a curve: a word that ends it, or one for a point.
module _ (curve : List ℕ) (k : ℕ) where
  pub stored_end : get_or curve k 0 ≡ 0 → stored (drop k curve) ≡ []
  unfolding stored
  stored_end e = ⊎_elim (λ h. rw (drop-cons curve k 0 h, eq-eqb (get_or curve k 0) 0 e)) (λ h. rw (drop_of_length-le curve h)) (lt_or_le k (length curve))

  pub stored_more : (get_or curve k 0 ≡ 0 → ⊥) → stored (drop k curve) ≡ point_of (get_or curve k 0) ∷ stored (drop (k + 1) curve)
  unfolding stored
  stored_more n = ⊎_elim (λ h. rw (drop-cons curve k 0 h, add-one, ne_eqb (get_or curve k 0) 0 n)) (λ h. absurd (n (get_or-eq_default curve 0 {n = k} h))) (lt_or_le k (length curve))

-- No point is before the instant 0.
pub found_never : (ps : List Point) (end : ℕ) → end ≡ 0 → lookup end ps ≡ none
unfolding lookup
found_never [] end e = refl
found_never (p ∷ ps) end e = rw (le-ltb p.arrival end (omega arith)) (found_never ps end e)

-- The first word before an instant, of a line of words and of the rest.
pub probed_line : (n end : ℕ) (curve : List ℕ) → option_or (first_before end (take n curve)) (first_before end (drop n curve)) ≡ first_before end curve
probed_line n end curve = sym (find-append (λ w. ltb (w % base) end) (take n curve) (drop n curve)) ∙ ap (first_before end) (take-append-drop n curve)

pub probed_rest : (n m end : ℕ) (curve : List ℕ) → None ≡ first_before end (take n curve) → length curve ≤ n + m → first_before end (take m (drop n curve)) ≡ first_before end curve
probed_rest n m end curve e h =
    ap (first_before end) (take_all m (drop n curve) (omega (arith, length-drop n curve)))
    ∙ ap (λ (o : Maybe ℕ). option_or o (first_before end (drop n curve))) e
    ∙ probed_line n end curve

-- What the first word before an instant says of the first point there.
module _ (end : ℕ) where
  pub found_nothing : (ws : List ℕ) → first_before end ws ≡ None → lookup end (stored ws) ≡ none
  unfolding lookup stored point_of
  found_nothing [] e = refl
  found_nothing (x ∷ xs) e = cases (ltb (x % base) end)
      (λ t. absurd (none-some x (sym (rw t at e))))
      (λ t. cases (eqb x 0) (λ z. rw z refl) (λ z. rw (z, t) (found_nothing xs (rw t at e))))

  found_word : (w : ℕ) (ws : List ℕ) → first_before end ws ≡ Some w → Small ws → (w < point_limit) × (w % base < end) × (lookup end (stored ws) ≡ cond (eqb w 0) none (some (point_of w)))
  unfolding lookup stored point_of
  found_word w [] e s = absurd (none-some w e)
  found_word w (x ∷ xs) e s = cases (ltb (x % base) end)
      (λ t. let same : x ≡ w = same_Some x w (rw t at e) in
      rw (← same) (s 0, ltb-true _ _ t, cases (eqb x 0) (λ z. rw z refl) (λ z. rw (z, t) refl)))
      (λ t. let r = found_word w xs (rw t at e) (λ k. s (suc k)) in
      (r.0, r.1, cases (eqb x 0) (λ z. absurd (omega (arith, eqb-true _ _ z, ltb-false _ _ t, r.1))) (λ z. rw (z, t) r.2)))

pub found_worth : (end : ℕ) (curve : List ℕ) (w : ℕ) → Some w ≡ first_before end curve → Small curve → Worth point_limit end (then_some (not (eqb w 0)) w) (lookup end (stored curve))
found_worth end curve w e s =
    let r = found_word end w curve (sym e) s in
    cases (eqb w 0) (λ z. rw z (r.2 ∙ rw z refl)) (λ z. rw z (record { point = r.2 ∙ rw z refl; small = r.0; intime = r.1 }))

-- ---- an input

module _ (most : ℕ) (symbols work : List ℕ) (node bin load end : ℕ) where
  pub leaf_worth : (x : ℕ) → 2 ≤ get_or symbols node 0 → x ≡ leaf_arrival (leaf_of (get_or symbols node 0)) load → x < base →
      Worth point_limit end (then_some (ltb x end) x) (input_best most symbols work node bin load end)
  unfolding input_best before point_of leaf_point
  leaf_worth x h e l = cases (ltb x end)
      (λ t. rw t (record {
        point = rw (le-leb 2 (get_or symbols node 0) h, ← e, t) (ap {B = Option Point} some (point_path (omega arith) (omega arith)));
        small = omega arith;
        intime = omega (arith, ltb-true x end t);
      }))
      (λ t. rw t (rw (le-leb 2 (get_or symbols node 0) h, ← e, t) refl))

  pub gate_best : get_or symbols node 0 < 2 → lookup end (table_of most work node bin) ≡ input_best most symbols work node bin load end
  unfolding input_best
  gate_best h = simp (lt-leb 2 (get_or symbols node 0) h)

-- ---- an input as its match sees it

pub word_late : (end d w : ℕ) (o : Option Point) → end ≤ base → PointWord point_limit (end - d) w o → PointWord point_limit end (w + d) (map (late d) o)
unfolding late point_of
word_late end d w o h g =
    let t = g.intime in
    let l = g.small in
    record { point = rw g.point (ap {B = Option Point} some (point_path (omega arith) (omega arith))); small = omega arith; intime = omega arith }

module _ (most : ℕ) (symbols work pattern : List ℕ) (load end : ℕ) where
  abbrev one : Input → Option Point
  one = input_late most symbols work pattern load end

  abbrev rest : List Input → Option Point
  rest = inputs_best most symbols work pattern load end

  -- An input, from its pin's figures and its least point before what the pin leaves of the bound.
  module _ (input : Input) (pin : PinFigures) (d left : ℕ) where
    abbrev own : Option Point
    own = input_best most symbols work input.node pin.bin pin.load left

    module _ (ep : pin ≡ input_figures pattern input) (ed : d ≡ delay_of pin load) (el : left ≡ end - d) where
      seen : map (late d) own ≡ one input
      unfolding input_late
      seen = rw (el, ed, ep)

      pub input_missing : own ≡ none → one input ≡ none
      input_missing e = sym seen ∙ ap (map (late d)) e

      pub input_found : (w : ℕ) → end ≤ base → PointWord point_limit left w own → PointWord point_limit end (w + d) (one input)
      input_found w h g = subst (PointWord point_limit end (w + d)) seen (word_late end d w own h (subst (λ (b : ℕ). PointWord point_limit b w own) el g))

  -- ---- a match: its inputs one after another

  -- After k inputs, which are side by side the point p.
  module _ (inputs : List Input) (k : ℕ) (p : Point) (i : rest inputs ≡ both (some p) (rest (drop k inputs))) where
    next : k < length inputs → (o : Option Point) → one (get_or inputs k blank_input) ≡ o → rest inputs ≡ both (some p) (both o (rest (drop (k + 1) inputs)))
    unfolding inputs_best
    next h o e = i ∙ rw (drop-cons inputs k blank_input h, add-one, ← e)

    pub inputs_turn : k < length inputs → (w : ℕ) → one (get_or inputs k blank_input) ≡ some (point_of w) →
        rest inputs ≡ both (some (record { area = p.area + w / base; arrival = max p.arrival (w % base) })) (rest (drop (k + 1) inputs))
    unfolding both beside point_of
    inputs_turn h w e = next h (some (point_of w)) e ∙ sym (both_assoc (some p) (some (point_of w)) (rest (drop (k + 1) inputs)))

    pub inputs_stop : k < length inputs → one (get_or inputs k blank_input) ≡ none → rest inputs ≡ none
    unfolding both
    inputs_stop h e = rw (next h none e) refl

    pub inputs_end : length inputs ≤ k → p.arrival < end → rest inputs ≡ some p
    unfolding inputs_best both beside before
    inputs_end h t = i ∙ rw (drop_of_length-le inputs h, lt-ltb 0 end (omega arith)) (ap {B = Option Point} some (point_path (omega arith) (omega arith)))

  pub inputs_never : (inputs : List Input) → end ≡ 0 → rest inputs ≡ none
  unfolding inputs_best before
  inputs_never [] e = rw (le-ltb 0 end (omega arith)) refl
  inputs_never (i ∷ is) e = ap (both (one i)) (inputs_never is e) ∙ (both_carries (one i)).on_none

  module _ (hit : Hit) where
    abbrev all : Option Point
    all = hit_best most symbols work pattern hit load end

    pub match_never : rest (hit_inputs hit) ≡ none → all ≡ none
    unfolding hit_best
    match_never e = ap (map (raised (row_area pattern))) e

    pub match_worth : (p : Point) → rest (hit_inputs hit) ≡ some p → row_area pattern ≤ 65535 → p.area ≤ 6 * area_limit → p.arrival < end → end ≤ base →
        PointWord match_limit end ((row_area pattern + p.area) * base + p.arrival) all
    unfolding hit_best raised point_of
    match_worth p e ha hp ht he = record {
      point = rw e (ap {B = Option Point} some (point_path (omega arith) (omega arith)));
      small = omega arith;
      intime = omega arith;
    }

-- The inputs of a hit are few and safe to read.
pub few_inputs : {pattern : List ℕ} {hit : Hit} → HitSafe pattern hit → length (hit_inputs hit) ≤ 6
few_inputs {hit = hit} s = omega (arith, length-take (hit_count hit) hit.inputs.list, s.few)

pub input_safe : {pattern : List ℕ} {hit : Hit} → HitSafe pattern hit → (k : ℕ) → k < length (hit_inputs hit) → InputSafe pattern (get_or (hit_inputs hit) k blank_input)
input_safe {hit = hit} s k h =
    let l : k < hit_count hit = omega (arith, length-take (hit_count hit) hit.inputs.list) in
    rw (get_or-take (hit_count hit) hit.inputs.list k blank_input l) (s.inputs k l)

-- ---- the lesser of two

word_order : (v w : ℕ) → v ≤ w → Leq (point_of v) (point_of w)
unfolding point_of
word_order v w h = ⊎_elim (λ l. smaller l) (λ l. earlier (omega arith) (omega arith)) (lt_or_le (v / base) (w / base))

pub point_order : {p q : Point} → Leq p q → p.arrival < base → word_of p ≤ word_of q
unfolding word_of
point_order (smaller l) h = omega arith
point_order (earlier e l) h = omega arith

module _ (limit end v w : ℕ) (o o' : Option Point) (fits : limit ≤ absent) (a : Held limit end v o) (b : Held limit end w o') where
  -- The later one is the lesser word.
  lesser_new : w < v → Held limit end w (lesser o o')
  unfolding lesser
  lesser_new h = elim (ℕ_discrete v absent) [
    | yes e ↦ rw (a.missing e) b
    | no e ↦
        let p = a.point e in
        let q = b.point (λ z. omega (arith, p.small)) in
        held_point limit end w _ (omega (arith, q.small)) (record { point = rw (p.point, q.point) (ap {B = Option Point} some (pick_right (word_order w v (omega arith)))); small = q.small; intime = q.intime })
  ]

  lesser_old : v ≤ w → Held limit end v (lesser o o')
  unfolding lesser
  lesser_old h = elim (ℕ_discrete w absent) [
    | yes f ↦ rw (b.missing f, lesser_none o) a
    | no f ↦
        let q = b.point f in
        let p = a.point (λ z. omega (arith, q.small)) in
        held_point limit end v _ (omega (arith, p.small)) (record { point = rw (p.point, q.point) (ap {B = Option Point} some (pick_left (word_order v w h))); small = p.small; intime = p.intime })
  ]

  pub lesser_word : Held limit end (min v w) (lesser o o')
  lesser_word = ⊎_elim (λ h. let e : min v w ≡ w = omega arith in rw e (lesser_new h)) (λ h. let e : min v w ≡ v = omega arith in rw e (lesser_old h)) (lt_or_le w v)

-- ---- the hits of a node

pub hits_turn : (most : ℕ) (symbols work rows : List ℕ) (hits : List Hit) (load end j v w : ℕ) →
    Held match_limit end v (hits_best most symbols work rows hits load end j) → Held match_limit end w (match_before most symbols work rows hits load j end) →
    Held match_limit end (min v w) (hits_best most symbols work rows hits load end (j + 1))
unfolding hits_best
hits_turn most symbols work rows hits load end j v w a b = rw add-one (lesser_word match_limit end v w _ _ (omega arith) a b)
