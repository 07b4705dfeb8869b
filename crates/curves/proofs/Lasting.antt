-- A point that is still in time stays.
use mathlib.Core.Path.{◌≡◌, refl, sym, ap, ap₂, ◌∙◌}
use mathlib.Core.List.{List, [], ◌∷◌, ◌++◌}
use mathlib.Core.Bool.{Bool, true, false, cond}
use mathlib.Core.Option.{Option, none, some, map, none-ne-some, some-injective}
use borrow.Author.Tests.{ltb-false, lt-ltb, le-ltb}
use borrow.Table.Steps.{cases}
use Prim.Native.Nat.{ℕ, ◌-◌, ◌%◌, ◌≤◌, ◌<◌, min}
use native.Mathlib.Decide.{ℕ_discrete}
use native.Mathlib.Omega.{arith}
use lib.Dec.{leb, ltb}
use lib.ListN.{length, get_or, set, take, get_or-append}
use lib.Seq.{get_or-take}
use Rattle.covers.specs.Cover.{Point, late, raised, beside, leaf_point}
use Rattle.covers.specs.Choice.{before}
use Rattle.covers.specs.Inside.Curve.{base, both, lookup, point_of, word_of}
use Rattle.covers.proofs.Basics.{option_cases}
use Rattle.covers.proofs.Points.{both_carries}
use Rattle.overlay.specs.declared.Input.{Input}
use Rattle.matching.specs.declared.Hit.{Hit}
use Rattle.curves.specs.Inside.Words.{absent, match_limit, table_of}
use Rattle.cells.specs.Inside.Cell.{row_legal, delay_of}
use Rattle.curves.specs.Inside.Best.{hit_at, pattern_of, row_area, hit_inputs, input_figures, input_best, input_late, inputs_best, hit_best, legal_best}
use Rattle.curves.specs.Inside.Promises.{Held, match_before, Rising, Kept}
use Rattle.curves.proofs.Laws.{word_point, point_word_lem, word_arrival, held_point, held_none}
use Rattle.curves.proofs.Frames.{set_each}
use Rattle.leaves.specs.Inside.Leaf.{leaf_of}

-- From a least point to that before an earlier instant: it is the same if it is still in time, and none stays none.
data Stays (end : ℕ) : Option Point → Option Point → Type 0 where
  gone : {o : Option Point} → o ≡ none → Stays end none o
  point : {p : Point} {o : Option Point} → (p.arrival < end → o ≡ some p) → Stays end (some p) o

lookup_stays : {end end' : ℕ} → end' ≤ end → (ps : List Point) → Stays end' (lookup end ps) (lookup end' ps)
unfolding lookup
lookup_stays h [] = gone refl
lookup_stays {end} {end'} h (p ∷ ps) = cases (ltb p.arrival end)
    (λ e. rw e (point {p = p} {o = lookup end' (p ∷ ps)} (λ t. rw (lt-ltb p.arrival end' t))))
    (λ e. rw (e, le-ltb p.arrival end' (omega (arith, ltb-false))) (lookup_stays h ps))

module _ {end : ℕ} where
  cond_stays : (b : Bool) {o o' u u' : Option Point} → Stays end o o' → Stays end u u' → Stays end (cond b o u) (cond b o' u')
  cond_stays true s r = s
  cond_stays false s r = r

  map_stays : (f : Point → Point) {left : ℕ} {o o' : Option Point} → ((p : Point) → (f p).arrival < end → p.arrival < left) → Stays left o o' → Stays end (map f o) (map f o')
  map_stays f h (gone e) = gone (ap (map f) e)
  map_stays f h (point k) = point (λ t. ap (map f) (k (h _ t)))

  both_stays : {o o' u u' : Option Point} → Stays end o o' → Stays end u u' → Stays end (both o u) (both o' u')
  unfolding both beside
  both_stays {u' = u'} (gone e) r = gone (ap (λ (q : Option Point). both q u') e)
  both_stays {o' = o'} (point k) (gone e) = gone (ap (both o') e ∙ (both_carries o').on_none)
  both_stays (point k) (point l) = point (λ t. ap₂ both (k (omega arith)) (l (omega arith)))

module _ (most : ℕ) (symbols work : List ℕ) where
  input_stays : {end end' : ℕ} → end' ≤ end → (node bin load : ℕ) → Stays end' (input_best most symbols work node bin load end) (input_best most symbols work node bin load end')
  unfolding input_best before lookup
  input_stays h node bin load = cond_stays (leb 2 (get_or symbols node 0)) (lookup_stays h (leaf_point (leaf_of (get_or symbols node 0)) load ∷ [])) (lookup_stays h (table_of most work node bin))

  module _ (pattern : List ℕ) (load : ℕ) {end end' : ℕ} (h : end' ≤ end) where
    inputs_stay : (is : List Input) → Stays end' (inputs_best most symbols work pattern load end is) (inputs_best most symbols work pattern load end' is)
    unfolding inputs_best input_late before lookup late
    inputs_stay [] = lookup_stays h (record { area = 0; arrival = 0 } ∷ [])
    inputs_stay (i ∷ is) =
        let pin = input_figures pattern i in
        let d = delay_of pin load in
        let less : end' - d ≤ end - d = omega arith in
        both_stays (map_stays (late d) (λ p t. omega arith) (input_stays less i.node pin.bin pin.load)) (inputs_stay is)

    match_stays : (hit : Hit) → Stays end' (legal_best most symbols work pattern hit load end) (legal_best most symbols work pattern hit load end')
    unfolding legal_best hit_best raised
    match_stays hit = cond_stays (row_legal pattern load) (map_stays (raised (row_area pattern)) (λ p t. t) (inputs_stay (hit_inputs hit))) (gone refl)

-- So a word that is right before an instant is right before every earlier one that it is still before.
none_stays : {end : ℕ} {o : Option Point} → Stays end none o → o ≡ none
none_stays (gone e) = e

some_stays : {end : ℕ} {p : Point} {o : Option Point} → Stays end (some p) o → p.arrival < end → o ≡ some p
some_stays (point k) = k

held_stays : {limit end end' w : ℕ} {o o' : Option Point} → Held limit end w o → Stays end' o o' → w % base < end' → Held limit end' w o'
unfolding point_of
held_stays {end' = end'} {o' = o'} g s t = record {
  missing = λ z. none_stays (rw (g.missing z) at s);
  point = λ n. record { point = some_stays (rw ((g.point n).point) at s) t; small = (g.point n).small; intime = t };
}

module _ {most : ℕ} {symbols work rows : List ℕ} {hits : List Hit} {load j : ℕ} (r : Rising most symbols work rows hits load j) (end : ℕ) where
  abbrev now : Option Point
  now = match_before most symbols work rows hits load j end

  -- And it is no greater than any of an earlier instant.
  held_bounds : {w : ℕ} → Held match_limit end w now → (e : ℕ) → e ≤ end → (p : Point) → match_before most symbols work rows hits load j e ≡ some p → w ≤ word_of p
  held_bounds {w} g e h p q = let z = r.rises e end h p q in elim (ℕ_discrete w absent) [
    | yes a ↦ absurd (none-ne-some z.0 (sym (g.missing a) ∙ z.1))
    | no n ↦ omega (arith, word_point w, ap word_of (some-injective (point_of w) z.0 (sym ((g.point n).point) ∙ z.1)), z.2)
  ]

  -- A match whose points are not below a word does not change the least one.
  pub passed_over : (v x : ℕ) → end ≤ base → v ≤ absent → v ≤ x → ((p : Point) → now ≡ some p → x ≤ word_of p) → (w : ℕ) × Held match_limit end w now × (min v w ≡ v)
  passed_over v x below top less h = option_cases now (λ e. (absent, held_none match_limit end now e, omega arith)) (λ p e.
      let t = r.intime end p e in
      let low : p.arrival < base = omega arith in
      let word = held_point match_limit end (word_of p) now (omega (arith, r.small end p e)) (record { point = rw (point_word_lem p low) e; small = r.small end p e; intime = omega (arith, word_arrival p low) }) in
      (word_of p, word, omega (arith, h p e)))

pub held_top : {limit end w : ℕ} {o : Option Point} → limit ≤ absent → Held limit end w o → w ≤ absent
held_top {w = w} h g = elim (ℕ_discrete w absent) [ yes e ↦ omega arith | no n ↦ omega (arith, (g.point n).small) ]

-- The word of one match more, or one anew; and a word that is still in time.
pub kept_set : {most : ℕ} {symbols work rows : List ℕ} {hits : List Hit} {load n m end : ℕ} {kept : List ℕ} → Kept most symbols work rows hits load n end kept → (j w : ℕ) → Rising most symbols work rows hits load j → j < length kept →
    ((k : ℕ) → k < m → (k ≡ j → ⊥) → k < n) → Held match_limit end w (match_before most symbols work rows hits load j end) → Kept most symbols work rows hits load m end (set kept j w)
kept_set {most} {symbols} {work} {rows} {hits} {load} {end = end} {kept = kept} k j w r l b g = record {
  lasts = λ i h. set_each (λ i x. (e : ℕ) → e ≤ end → x % base < e → Held match_limit e x (match_before most symbols work rows hits load i e)) kept j w l
      (λ e le t. held_stays g (match_stays most symbols work (pattern_of rows (hit_at hits j)) load le (hit_at hits j)) t) i (λ n. k.lasts i (b i h n));
  bounds = λ i h. set_each (λ i x. (e : ℕ) → e ≤ end → (p : Point) → match_before most symbols work rows hits load i e ≡ some p → x ≤ word_of p) kept j w l (held_bounds r end g) i (λ n. k.bounds i (b i h n));
}

-- What is kept at the front of a list.
module _ {most : ℕ} {symbols work rows : List ℕ} {hits : List Hit} {load n end : ℕ} {kept : List ℕ} (k : Kept most symbols work rows hits load n end kept) where
  kept_like : (other : List ℕ) → ((j : ℕ) → j < n → get_or other j 0 ≡ get_or kept j 0) → Kept most symbols work rows hits load n end other
  kept_like other same = record {
    lasts = λ j l e h. rw (same j l) (k.lasts j l e h);
    bounds = λ j l e h p q. rw (same j l) (k.bounds j l e h p q);
  }

  pub kept_part : n ≤ length kept → Kept most symbols work rows hits load n end (take n kept)
  kept_part h = kept_like (take n kept) (λ j l. get_or-take n kept j 0 l)

  pub kept_front : (others : List ℕ) → n ≤ length kept → Kept most symbols work rows hits load n end (kept ++ others)
  kept_front others h = kept_like (kept ++ others) (λ j l. let m : j < length kept = omega arith in get_or-append kept others 0 j m)
