-- What is stored at a node changes nothing that is read at later nodes; a curve grows point by point.
use mathlib.Core.Path.{◌≡◌, refl, sym, ap, ap₂, subst, ◌∙◌}
use mathlib.Core.List.Memᴰ
use mathlib.Core.List.{List, [], ◌∷◌, ◌++◌, map, map-append, append_assoc, append-nil, Memᴰ}
use mathlib.Core.Option.{Option, none, some}
use Rattle.std.specs.Prelude.{None, Some}
use mathlib.Core.Logic.{⊎_elim}
use borrow.Author.Tests.{eq-eqb, ne_eqb}
use Prim.Native.Nat.{ℕ, zero, suc, ◌+◌, ◌-◌, ◌*◌, ◌%◌, ◌≤◌, ◌<◌}
use native.Mathlib.Decide.{ℕ_discrete}
use native.Mathlib.Nat.{add-zero}
use native.Mathlib.Omega.{arith}
use lib.ListN.{length, get_or, take, drop, set, length-append, length-map, length-take}
use lib.Seq.{sets, get_or-take, sets-eq, get_or-set_other, get_or-set_same, take_all, take_at, take-append-add, take-set-le, drop_at, drop-set-lt, drop-set-add, length-take-le}
use Rattle.fields.proofs.Lists.{sets_append}
use Rattle.covers.specs.Cover.{Point}
use Rattle.covers.specs.Choice.{lesser}
use Rattle.covers.proofs.Basics.{option_cases, lt_or_le}
use Rattle.covers.specs.Inside.Curve.{base, by_deadline, chained, point_of, word_of}
use Rattle.overlay.specs.declared.Input.{Input}
use Rattle.overlay.specs.Inside.Promises.{blank_input}
use Rattle.matching.specs.declared.Hit.{Hit}
use Rattle.curves.specs.Inside.Words.{point_limit, match_limit, stored, slot, curve_at, Small, AgreeFrom}
use Rattle.cells.specs.Inside.Cell.{delay_of}
use Rattle.curves.specs.Inside.Best.{hit_at, pattern_of, hit_count, hit_inputs, input_figures, input_best, input_late, inputs_best, hit_best, legal_best, hits_best, Above}
use Rattle.curves.specs.Inside.Promises.{Held, match_before, AllRising, best_before, node_points, PointsFit, Kept, Least, CurveStored, Fit}
use Rattle.curves.proofs.Laws.{word_point, point_word_lem, apart, part_word_lem}

-- ---- the other curves

-- What is written before a part, or after it, leaves the part as it is.
drop_sets : (l : List ℕ) (i n : ℕ) (xs : List ℕ) → i + length xs ≤ n → drop n (sets l i xs) ≡ drop n l
drop_sets l i n [] h = refl
drop_sets l i n (x ∷ xs) h = drop_sets (set l i x) (suc i) n xs (omega arith) ∙ drop-set-lt n l i x (omega arith)

part_sets : (l : List ℕ) (a w i : ℕ) (xs : List ℕ) → a + w ≤ i → take w (drop a (sets l i xs)) ≡ take w (drop a l)
part_sets l a w i [] h = refl
part_sets l a w i (x ∷ xs) h =
    let e : i ≡ a + (i - a) = omega arith in
    part_sets (set l i x) a w (suc i) xs (omega arith) ∙ ap (λ (n : ℕ). take w (drop a (set l n x))) e ∙ rw drop-set-add (take-set-le w (drop a l) (i - a) x (omega arith))

-- What is written into one curve leaves the others as they are.
pub curve_other : (most : ℕ) (work : List ℕ) (i j : ℕ) (xs : List ℕ) → (j ≡ i → ⊥) → length xs ≤ most + 1 → curve_at most (sets work (slot most i) xs) j ≡ curve_at most work j
curve_other most work i j xs n h = ⊎_elim
    (λ l. ap (take (most + 1)) (drop_sets work (slot most i) (slot most j) xs (omega (arith, apart (most + 1) l))))
    (λ l. part_sets work (slot most j) (most + 1) (slot most i) xs (apart (most + 1) (omega arith)))
    (lt_or_le i j)

module _ (most : ℕ) (symbols work work' : List ℕ) (m : ℕ) (a : AgreeFrom most m work work') where
  input_same : (node bin load end : ℕ) → m ≤ 4 * node → input_best most symbols work node bin load end ≡ input_best most symbols work' node bin load end
  unfolding input_best
  input_same node bin load end h = rw (a (4 * node + bin) (omega arith))

  inputs_same : (pattern : List ℕ) (load end : ℕ) (is : List Input) → ((k : ℕ) → k < length is → m ≤ 4 * (get_or is k blank_input).node) →
      inputs_best most symbols work pattern load end is ≡ inputs_best most symbols work' pattern load end is
  unfolding inputs_best input_late
  inputs_same pattern load end [] h = refl
  inputs_same pattern load end (i ∷ is) h =
      let pin = input_figures pattern i in
      rw (input_same i.node pin.bin pin.load (end - delay_of pin load) (h 0 (omega arith)), inputs_same pattern load end is (λ k l. h (suc k) (omega arith)))

-- What is read of later nodes' curves alone is the same where those are.
module _ (most : ℕ) (symbols work work' : List ℕ) (at : ℕ) (a : AgreeFrom most (at + 1) work work') (rows : List ℕ) (hits : List Hit) (load : ℕ) (above : Above at hits) where
  match_same : (j : ℕ) → j < length hits → (end : ℕ) → match_before most symbols work rows hits load j end ≡ match_before most symbols work' rows hits load j end
  unfolding legal_best hit_best
  match_same j l end =
      let hit = hit_at hits j in
      rw (inputs_same most symbols work work' (at + 1) a (pattern_of rows hit) load end (hit_inputs hit)
      (λ k h. let c : k < hit_count hit = omega (arith, length-take (hit_count hit) hit.inputs.list) in rw (get_or-take (hit_count hit) hit.inputs.list k blank_input c) (omega (arith, above j l k c))))

  hits_upto : (end k : ℕ) → k ≤ length hits → hits_best most symbols work rows hits load end k ≡ hits_best most symbols work' rows hits load end k
  unfolding hits_best
  hits_upto end zero h = refl
  hits_upto end (suc k) h = ap₂ lesser (hits_upto end k (omega arith)) (match_same k (omega arith) end)

  pub hits_same : (end : ℕ) → best_before most symbols work rows hits load end ≡ best_before most symbols work' rows hits load end
  hits_same end = hits_upto end (length hits) (omega arith)

  pub kept_same : {end : ℕ} {kept : List ℕ} → Kept most symbols work rows hits load (length hits) end kept → Kept most symbols work' rows hits load (length hits) end kept
  kept_same {kept = kept} k = record {
    lasts = λ j l e h t. subst (Held match_limit e (get_or kept j 0)) (match_same j l e) (k.lasts j l e h t);
    bounds = λ j l e h p q. k.bounds j l e h p (match_same j l e ∙ q);
  }

  pub rising_same : AllRising most symbols work rows hits load → AllRising most symbols work' rows hits load
  rising_same r j l = record {
    intime = λ end p q. (r j l).intime end p (match_same j l end ∙ q);
    small = λ end p q. (r j l).small end p (match_same j l end ∙ q);
    rises = λ end end' h p q. let z = (r j l).rises end end' h p (match_same j l end ∙ q) in (z.0, sym (match_same j l end') ∙ z.1, z.2);
  }

-- ---- a curve, point by point

-- One word more, of a list whose words all have a property.
pub set_each : (P : ℕ → ℕ → Type 0) (l : List ℕ) (i w : ℕ) → i < length l → P i w → (k : ℕ) → ((k ≡ i → ⊥) → P k (get_or l k 0)) → P k (get_or (set l i w) k 0)
set_each P l i w h here k other = elim (ℕ_discrete k i) [ yes e ↦ rw (e, get_or-set_same l i w 0 h) here | no n ↦ rw (get_or-set_other l i k w 0 n) (other n) ]

pub small_set : (work : List ℕ) (i w : ℕ) → i < length work → Small work → w < point_limit → Small (set work i w)
small_set work i w l s h k = set_each (λ j x. x < point_limit) work i w l h k (λ n. s k)

module _ (most : ℕ) (symbols work rows : List ℕ) (hits : List Hit) (load at : ℕ) where
  abbrev best : ℕ → Option Point
  best = best_before most symbols work rows hits load

  abbrev all : List Point
  all = node_points most symbols work rows hits load

  -- k points are stored, and the rest are still to be found, before `end`, from which on the kept words last.
  pub record Growing (k end : ℕ) (work' kept : List ℕ) : Type 0 where
    pub points : List Point
    pub many : length points ≡ k
    pub few : k ≤ most
    pub so_far : all ≡ points ++ by_deadline (most + 1 - k) best end
    pub laid : work' ≡ sets work (slot most at) (map word_of points)
    pub small : Small work'
    pub bounded : end ≤ base
    pub lasting : Kept most symbols work rows hits load (length hits) end kept

  pub growing_start : (kept : List ℕ) → Small work → Kept most symbols work rows hits load (length hits) base kept → Growing 0 base work kept
  growing_start kept sm l = record { points = []; many = refl; few = omega arith; so_far = ap (λ (n : ℕ). by_deadline n best base) (omega arith); laid = refl; small = sm; bounded = omega arith; lasting = l }

module _ {most : ℕ} {symbols work rows : List ℕ} {hits : List Hit} {load at k end : ℕ} {work' kept : List ℕ} (g : Growing most symbols work rows hits load at k end work' kept) (above : Above at hits) where
  -- What is stored so far changes nothing that is read.
  agrees : AgreeFrom most (at + 1) work' work
  agrees j le =
      ap (λ (q : List ℕ). curve_at most q j) g.laid
      ∙ curve_other most work at j (map word_of g.points) (λ z. absurd (omega arith)) (omega (arith, length-map g.points word_of, g.many, g.few))

  pub growing_rising : AllRising most symbols work rows hits load → AllRising most symbols work' rows hits load
  growing_rising = rising_same most symbols work work' at (λ j le. sym (agrees j le)) rows hits load above

  pub growing_kept : Kept most symbols work' rows hits load (length hits) end kept
  growing_kept = kept_same most symbols work work' at (λ j le. sym (agrees j le)) rows hits load above g.lasting

  -- The next point, if there is one.
  step : (o : Option Point) → best_before most symbols work' rows hits load end ≡ o →
      node_points most symbols work rows hits load ≡ g.points ++ chained o (λ p. by_deadline (most - k) (best_before most symbols work rows hits load) p.arrival)
  unfolding by_deadline
  step o e =
      let left : most + 1 - k ≡ suc (most - k) = omega (arith, g.few) in
      rw (left, ← hits_same most symbols work' work at agrees rows hits load above end, e) at g.so_far

  finished : (ps : List Point) (r : ℕ) → node_points most symbols work rows hits load ≡ ps → r ≡ length ps → take most ps ≡ g.points → CurveStored most symbols work rows hits load at work' r
  finished ps r e l t = record { counted = rw e l; laid = rw (e, t) g.laid; small = g.small }

  pub growing_done : {kept' : List ℕ} → Least most symbols work' rows hits load end kept' None → CurveStored most symbols work rows hits load at work' k
  unfolding chained
  growing_done o = finished g.points k (step none o.least ∙ append-nil g.points) (sym g.many) (take_all most g.points (omega (arith, g.many, g.few)))

  module _ {kept' : List ℕ} {w : ℕ} (o : Least most symbols work' rows hits load end kept' (Some w)) where
    pub growing_over : k ≡ most → CurveStored most symbols work rows hits load at work' (most + 1)
    unfolding chained by_deadline
    growing_over e =
        let done : most - k ≡ 0 = omega arith in
        finished (g.points ++ (point_of w ∷ [])) (most + 1) (rw done at (step (some (point_of w)) o.least.point))
        (simp length-append (omega (arith, g.many))) (take_at g.points (point_of w ∷ []) most (g.many ∙ e))

    pub growing_next : (k ≡ most → ⊥) → PointsFit most symbols work rows hits load → slot most at + k < length work' →
        Growing most symbols work rows hits load at (k + 1) (w % base) (set work' (slot most at + k) w) kept'
    unfolding chained point_of
    growing_next m fit l =
        let left : most - k ≡ most + 1 - (k + 1) = omega (arith, g.few) in
        let now : best_before most symbols work rows hits load end ≡ some (point_of w) = sym (hits_same most symbols work' work at agrees rows hits load above end) ∙ o.least.point in
        let earlier : w % base ≤ end = omega (arith, o.least.intime) in
        record {
          points = g.points ++ (point_of w ∷ []);
          many = simp length-append (omega (arith, g.many));
          few = omega (arith, g.few);
          so_far = (rw left at (step (some (point_of w)) o.least.point)) ∙ sym (append_assoc g.points (point_of w ∷ []) _);
          laid = rw (map-append word_of g.points, sets_append, length-map, g.many, word_point w, ← g.laid);
          small = small_set work' (slot most at + k) w l g.small (omega (arith, (fit.fit end (point_of w) now).area));
          bounded = omega (arith, g.bounded);
          lasting = let k = kept_same most symbols work' work at agrees rows hits load above o.lasting in record { lasts = λ j h e le. k.lasts j h e (omega arith); bounds = λ j h e le. k.bounds j h e (omega arith) };
        }

-- ---- a curve that was stored

stored_words : (ps : List Point) (zs : List ℕ) → ((p : Point) → Memᴰ p ps → Fit p) → get_or zs 0 0 ≡ 0 → stored (map word_of ps ++ zs) ≡ ps
unfolding stored word_of
stored_words [] [] f z = refl
stored_words [] (x ∷ zs) f z = rw (eq-eqb x 0 z)
stored_words (p ∷ ps) zs f z =
    let fit = f p (Memᴰ.head refl) in
    rw (ne_eqb (word_of p) 0 (λ e. omega (arith, fit.some_area))) (ap₂ ◌∷◌ (point_word_lem p fit.arrival) (stored_words ps zs (λ q m. f q (Memᴰ.tail m)) z))

-- Points stored in a curve of zeros, with a word to spare.
pub curve_laid : (most : ℕ) (work : List ℕ) (i : ℕ) (ps : List Point) → ((k : ℕ) → get_or (curve_at most work i) k 0 ≡ 0) → length ps ≤ most → slot most i + (most + 1) ≤ length work →
    ((p : Point) → Memᴰ p ps → Fit p) → stored (curve_at most (sets work (slot most i) (map word_of ps)) i) ≡ ps
curve_laid most work i ps z h g f =
    let a = slot most i in
    let ws = map word_of ps in
    let n = length ws in
    let few : n ≤ most = omega (arith, length-map ps word_of) in
    let left = most + 1 - n in
    let split : most + 1 ≡ n + left = omega arith in
    let rest = take left (drop (a + n) work) in
    let cut : drop a (sets work a ws) ≡ ws ++ drop (a + n) work = ap (drop a) (sets-eq ws work a (omega arith) ∙ append_assoc (take a work) ws (drop (a + n) work)) ∙ drop_at (take a work) (ws ++ drop (a + n) work) a (length-take-le a work (omega arith)) in
    let words : curve_at most (sets work a ws) i ≡ ws ++ rest = ap₂ (λ (m : ℕ) (l : List ℕ). take m l) split cut ∙ take-append-add ws (drop (a + n) work) left in
    let next : get_or rest 0 0 ≡ 0 = rw (part_word_lem left (a + n) work 0 (omega arith), add-zero (a + n)) (sym (part_word_lem (most + 1) a work n (omega arith)) ∙ z n) in
    ap stored words ∙ stored_words ps rest f next

-- Every point found by deadline is the best before some instant.
pub deadline_all : (k : ℕ) (f : ℕ → Option Point) (end : ℕ) {P : Point → Type 0} → ((e : ℕ) (p : Point) → f e ≡ some p → P p) → (p : Point) → Memᴰ p (by_deadline k f end) → P p
unfolding by_deadline chained
deadline_all zero f end h p m = absurd (Memᴰ.not-nil m)
deadline_all (suc k) f end {P} h p m = option_cases (f end)
    (λ e. absurd (Memᴰ.not-nil (rw e at m)))
    (λ q e. ⊎_elim (λ s. rw s (h end q e)) (deadline_all k f q.arrival h p) (Memᴰ.cases_cons (rw e at m)))

pub deadline_few : (k : ℕ) (f : ℕ → Option Point) (end : ℕ) → length (by_deadline k f end) ≤ k
unfolding by_deadline chained
deadline_few zero f end = omega arith
deadline_few (suc k) f end = option_cases (f end) (λ e. rw e (omega arith)) (λ p e. rw e (omega (arith, deadline_few k f p.arrival)))
