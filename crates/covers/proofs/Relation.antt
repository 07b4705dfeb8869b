-- The relation "is a legal cover" and the list of covers say the same.
use Prim.Native.Nat.{ℕ, ◌<◌}
use mathlib.Core.Path.{refl, sym, ap, ◌∙◌}
use mathlib.Core.List.Memᴰ
use mathlib.Core.List.{List, [], ◌∷◌, map, Memᴰ}
use native.Mathlib.Omega.{arith}
use Rattle.sheets_rules.specs.Model.{Shape, leaf, size, Cell, Library}
use Rattle.covers.specs.Match.{Input, matches}
use Rattle.covers.specs.Cover.{Cover, IsCover, bare, matching, AreCovers, done, more, nothing, together, delayed, topped, feeds, input_delay}
use Rattle.covers.specs.Enumeration.{combined, input_covers, match_covers, gate_covers, under, covers_step, covers, all_below}
use Rattle.covers.specs.Inside.Curve.{gates}
use Rattle.covers.proofs.Basics.{in_flat_map, of_flat_map}
use Rattle.covers.proofs.Matching.{matches_are, matches_all, match_inside, input_smaller}
use Rattle.covers.proofs.Unroll.{covers_unroll, gate_covers_lem, by_gate}

in_combined : {c d : Cover} {cs ds : List Cover} → Memᴰ c cs → Memᴰ d ds → Memᴰ (together c d) (combined cs ds)
unfolding combined
in_combined {c} {ds = ds} h k = in_flat_map (λ x. map (together x) ds) h (Memᴰ.map (together c) k)

module _ (l : Library) where
  mutual
    unfolding covers_step gate_covers match_covers input_covers under nothing

    -- The list holds every legal cover.
    pub covers_all : {load n : ℕ} {s : Shape} {c : Cover} → IsCover l load n s c → Memᴰ c (covers l load n s)
    covers_all (bare {load} {n} {x} e) = rw (covers_unroll l load n (leaf x)) (Memᴰ.head e)
    covers_all (matching {load} {n} {s} m h k e) = rw (gate_covers_lem l load n s (let f = match_inside h in omega (arith, f.fewer))) (in_flat_map (match_covers (all_below l) load n) (matches_all l load n s h) (Memᴰ.cast e (Memᴰ.map (topped n m) (inputs_all k))))

    inputs_all : {cell : Cell} {load : ℕ} {is : List Input} {c : Cover} → AreCovers l cell load is c → Memᴰ c (input_covers (all_below l) cell load is)
    inputs_all (done e) = Memᴰ.head e
    inputs_all (more {cell} {load} {i} h k e) = Memᴰ.cast e (in_combined (Memᴰ.map (delayed (input_delay cell load i)) (covers_all h)) (inputs_all k))

  -- What is claimed of a shape: the list holds nothing else.
  abbrev Are : Shape → Type 0
  Are s = (load n : ℕ) (c : Cover) → Memᴰ c (covers l load n s) → IsCover l load n s c

  inputs_are : (cell : Cell) (load : ℕ) (is : List Input) → ((i : Input) → Memᴰ i is → Are i.shape) → {c : Cover} → Memᴰ c (input_covers (all_below l) cell load is) → AreCovers l cell load is c
  unfolding input_covers combined under
  inputs_are cell load [] h {c} k = done (Memᴰ.eq_of_singleton k)
  inputs_are cell load (i ∷ is) h {c} k =
      let r = of_flat_map (λ x. map (together x) (input_covers (all_below l) cell load is)) (map (delayed (input_delay cell load i)) ((all_below l) (feeds cell i) i)) k in
      let first = Memᴰ.of_map (delayed (input_delay cell load i)) ((all_below l) (feeds cell i) i) r.1 in
      let rest = Memᴰ.of_map (together r.0) (input_covers (all_below l) cell load is) r.2 in
      more (h i (Memᴰ.head refl) _ _ _ first.1) (inputs_are cell load is (λ j m. h j (Memᴰ.tail m)) rest.1) (sym (ap (λ x. together x rest.0) first.2 ∙ rest.2))

  gate_are : (s : Shape) → 0 < gates s → ((t : Shape) → size t < size s → Are t) → Are s
  unfolding gate_covers match_covers
  gate_are s g below load n c h =
      let r = of_flat_map (match_covers (all_below l) load n) (matches l load n s) (rw (gate_covers_lem l load n s g) at h) in
      let m = matches_are l load n s r.1 in
      let t = Memᴰ.of_map (topped n r.0) (input_covers (all_below l) r.0.pattern.cell load r.0.inputs) r.2 in
      matching r.0 m (inputs_are r.0.pattern.cell load r.0.inputs (λ i k. below i.shape (input_smaller m k)) t.1) (sym t.2)

  pub covers_are : (load n : ℕ) (s : Shape) {c : Cover} → Memᴰ c (covers l load n s) → IsCover l load n s c
  unfolding covers_step
  covers_are load n s {c} h = by_gate Are (λ x load n c h. bare (Memᴰ.eq_of_singleton (rw (covers_unroll l load n (leaf x)) at h))) gate_are s load n c h
