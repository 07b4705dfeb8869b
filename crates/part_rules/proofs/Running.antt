-- The trees of a part mapped one after another: what each answer says, that it is the only one, and what all of them are together.
use Prim.Native.Nat.{ℕ, zero, suc, ◌+◌, ◌<◌}
use mathlib.Core.Path.{◌≡◌, refl, sym, ap, ap₂, subst, ◌∙◌}
use mathlib.Core.List.{List, [], ◌∷◌, ◌++◌, map, map-append, append-nil}
use mathlib.Core.Option
use mathlib.Core.Option.{Option, none, some, none-ne-some, some-injective}
use native.Mathlib.Omega.{arith}
use lib.ListN.{length, take, drop, get_or, get_elem?, length-append, length-map}
use lib.Seq.{append_snoc, length-take-le, split_at, take_at, get_or_at}
use Rattle.fields.specs.Answer.{Answer, refused, refused_in, success, in_item, ◌>>=◌}
use Rattle.sheets_rules.specs.Model.{Library, Tree}
use Rattle.covers.specs.Cover.{Cover}
use Rattle.covers.specs.Answer.{mapped}
use Rattle.covers.proofs.Basics.{at_below, at_value}
use Rattle.covers.proofs.Promises.{too_many_lem, none_wanted, right, map_promise}
use Rattle.covers.proofs.Demands.{highest_same}
use Rattle.part_rules.specs.Part.{Link, driver_of, linked_arrival, known, known_tree}
use Rattle.part_rules.specs.Outcome.{after_late, tree_mapped, covers_from}
use Rattle.part_rules.specs.Demands.{LowestTooLate, IsMapped, Fails, late, overfull, no_cover, AreMapped, no_more, one_more, FirstFails}
use Rattle.part_rules.proofs.Known.{none_late, lowest, late_of}

module _ (most : ℕ) (l : Library) where
  -- ---- one tree

  module _ (f : ℕ → Option ℕ) (t : Tree) where
    -- What an answer of a tree says.
    pub data TreePromise : Answer Cover → Type 0 where
      fails : {number place : ℕ} → Fails most l f t number place → TreePromise (refused number place)
      is_mapped : {c : Cover} → IsMapped most l f t c → TreePromise (success c)

    -- Every answer of a tree keeps its promise.
    pub tree_promise : TreePromise (tree_mapped most l f t)
    unfolding tree_mapped
    tree_promise = elim (late_of f t) as (λ o x. TreePromise (after_late o (mapped most l (known_tree f t)))) [
      | lowest h ↦ fails (late h)
      | none_late n ↦
          elim (map_promise most l (known_tree f t)) as (λ a x. TreePromise (after_late none a))
          [ too_many_lem h ↦ fails (overfull n h) | none_wanted a h ↦ fails (no_cover n a h) | right a h ↦ is_mapped (record { none_late = n; none_overfull = a; best = h }) ]
    ]

-- Only one leaf is the lowest.
lowest_same : {f : ℕ → Option ℕ} {t : Tree} {j k : ℕ} → LowestTooLate f t j → LowestTooLate f t k → j ≡ k
lowest_same {j} {k} g h = let a : j < k → ⊥ = λ lt. h.none_below j lt g.late in let b : k < j → ⊥ = λ lt. g.none_below k lt h.late in omega arith

module _ {most : ℕ} {l : Library} {f : ℕ → Option ℕ} {t : Tree} where
  -- All covers that a tree may be mapped to arrive at once: of least area, and of those earliest.
  pub mapped_same : {c d : Cover} → IsMapped most l f t c → IsMapped most l f t d → c.point.arrival ≡ d.point.arrival
  mapped_same {c} {d} g h =
      let x = g.best.best in
      let y = h.best.best in
      let smaller = x.smallest d y.legal y.intime in
      let larger = y.smallest c x.legal x.intime in
      omega (arith, x.earliest d y.legal (omega arith), y.earliest c x.legal (omega arith))

  -- A tree is not mapped and refused.
  pub mapped_or_fails : {c : Cover} {number place : ℕ} → IsMapped most l f t c → Fails most l f t number place → ⊥
  mapped_or_fails {place = n} m (late h) = m.none_late n h.late
  mapped_or_fails m (overfull e h) = m.none_overfull h.node h.among h.too_many
  mapped_or_fails {c} m (no_cover e a h) = h c (m.best.best.legal, m.best.best.intime)

  -- It is refused in one way.
  pub fails_same : {number number' place place' : ℕ} → Fails most l f t number place → Fails most l f t number' place' → (number ≡ number') × (place ≡ place')
  fails_same (late g) (late h) = (refl, lowest_same g h)
  fails_same {place} (late g) (overfull e h) = absurd (e place g.late)
  fails_same {place} (late g) (no_cover e a h) = absurd (e place g.late)
  fails_same {place'} (overfull e g) (late h) = absurd (e place' h.late)
  fails_same (overfull e g) (overfull e' h) = (refl, highest_same g h)
  fails_same (overfull e g) (no_cover e' a h) = absurd (a g.node g.among g.too_many)
  fails_same {place'} (no_cover e a g) (late h) = absurd (e place' h.late)
  fails_same (no_cover e a g) (overfull e' h) = absurd (a h.node h.among h.too_many)
  fails_same (no_cover e a g) (no_cover e' a' h) = (refl, refl)

  -- So a mapped tree is answered with a cover of that arrival, and one that fails with its refusal.
  mapped_answers : {c : Cover} → IsMapped most l f t c → (d : Cover) × (tree_mapped most l f t ≡ success d) × (c.point.arrival ≡ d.point.arrival)
  mapped_answers {c} m = elim (tree_promise most l f t) as (λ a x. (d : Cover) × (a ≡ success d) × (c.point.arrival ≡ d.point.arrival))
      [ fails h ↦ absurd (mapped_or_fails m h) | is_mapped {c = d} h ↦ (d, refl, mapped_same m h) ]

  fails_answers : {number place : ℕ} → Fails most l f t number place → tree_mapped most l f t ≡ refused number place
  fails_answers {number} {place} h = elim (tree_promise most l f t) as (λ a x. a ≡ refused number place)
      [ fails g ↦ let same = fails_same g h in cc (same.0, same.1) | is_mapped m ↦ absurd (mapped_or_fails m h) ]

-- ---- all trees

abbrev pub arrivals : List Cover → List ℕ
arrivals = map (λ (c : Cover). c.point.arrival)

same_length : (covers covers' : List Cover) → arrivals covers ≡ arrivals covers' → length covers ≡ length covers'
same_length covers covers' e = simp length-map at (ap length e)

-- What links bring is known from the arrivals alone.
pub known_same : (links : List Link) (covers covers' : List Cover) → arrivals covers ≡ arrivals covers' → known links covers ≡ known links covers'
unfolding linked_arrival
known_same links covers covers' e = ap₂ {C = ℕ → Option ℕ} (λ (xs : List ℕ) (k n : ℕ). Option.map (λ d. get_or xs d 0) (driver_of links k n)) e (same_length covers covers' e)

module _ {most : ℕ} {l : Library} {links : List Link} where
  -- Trees that are mapped, whatever follows them, are answered with covers of the same arrivals.
  pub mapped_run : {before covers : List Cover} {xs : List Tree} → AreMapped most l links before xs covers → (before' : List Cover) → arrivals before ≡ arrivals before' →
      (covers' : List Cover) × (arrivals covers ≡ arrivals covers') × ((ys : List Tree) → covers_from most l links before' (xs ++ ys) ≡ covers_from most l links covers' ys)
  unfolding covers_from
  mapped_run no_more before' e = (before', e, λ ys. refl)
  mapped_run (one_more {before = before} {t = t} {c = c} m rest) before' e =
      let one = mapped_answers (subst (λ (f : ℕ → Option ℕ). IsMapped most l f t c) (known_same links before before' e) m) in
      let r = mapped_run rest (before' ++ (one.0 ∷ [])) (simp map-append (ap₂ (λ (xs : List ℕ) (a : ℕ). xs ++ (a ∷ [])) e one.2)) in
      (r.0, r.1, λ ys. rw one.1 (r.2 ys))

  -- Where all are mapped the answer is whole.
  pub all_answered : {ts : List Tree} {covers : List Cover} → AreMapped most l links [] ts covers → (covers' : List Cover) × (covers_from most l links [] ts ≡ success covers')
  unfolding covers_from
  all_answered {ts} m = let r = mapped_run m [] refl in (r.0, ap (covers_from most l links []) (sym (append-nil ts)) ∙ r.2 [])

  -- There is one more cover for each tree.
  pub mapped_length : {before covers : List Cover} {ts : List Tree} → AreMapped most l links before ts covers → length covers ≡ length before + length ts
  mapped_length no_more = omega arith
  mapped_length (one_more {before = before} {c = c} m rest) = omega (arith, mapped_length rest, length-append before (c ∷ []))

  -- The first tree that fails is the one refused.
  pub first_refused : {ts : List Tree} {k number place : ℕ} → FirstFails most l links ts k number place → covers_from most l links [] ts ≡ refused_in k number place
  unfolding covers_from
  first_refused {ts} {k} {number} {place} h =
      let t = h.tree in
      let r = mapped_run h.before [] refl in
      let one = fails_answers (subst (λ (f : ℕ → Option ℕ). Fails most l f t number place) (known_same links h.covers r.0 r.1) h.fails) in
      let below = at_below ts k h.tree_is in
      let here : length r.0 ≡ k = omega (arith, mapped_length h.before, same_length h.covers r.0 r.1, length-take-le k ts (omega arith)) in
      let parts : ts ≡ take k ts ++ t ∷ drop (suc k) ts = split_at ts k t below ∙ ap (λ (x : Tree). take k ts ++ x ∷ drop (suc k) ts) (at_value ts k t h.tree_is) in
      ap (covers_from most l links []) parts ∙ r.2 (t ∷ drop (suc k) ts) ∙ ap (λ (a : Answer Cover). in_item (length r.0) a >>= (λ c. covers_from most l links (r.0 ++ (c ∷ [])) (drop (suc k) ts))) one ∙ ap (λ (i : ℕ). refused_in i number place) here

-- ---- what is answered

module _ (most : ℕ) (l : Library) (links : List Link) where
  -- After the covers before; the tree that fails is counted from there.
  data From (before : List Cover) (ts : List Tree) : Answer (List Cover) → Type 0 where
    all_from : {covers : List Cover} → AreMapped most l links before ts covers → From before ts (success covers)
    fails_from : {covers : List Cover} {t : Tree} {k number place : ℕ} (at : ℕ) → k ≡ length before + at → AreMapped most l links before (take at ts) covers → get_elem? ts at ≡ some t → Fails most l (known links covers) t number place →
        From before ts (refused_in k number place)

  later : {before : List Cover} {t : Tree} {ts : List Tree} {c : Cover} {r : Answer (List Cover)} → IsMapped most l (known links before) t c → From (before ++ (c ∷ [])) ts r → From before (t ∷ ts) r
  later m (all_from rest) = all_from (one_more m rest)
  later {before} {c = c} m (fails_from {k = k} at e rest is h) = fails_from {k = k} (suc at) (omega (arith, length-append before (c ∷ []))) (one_more m rest) is h

  from : (before : List Cover) (ts : List Tree) → From before ts (covers_from most l links before ts)
  unfolding covers_from
  from before [] = all_from no_more
  from before (t ∷ ts) = elim (tree_promise most l (known links before) t) as (λ a x. From before (t ∷ ts) (in_item (length before) a >>= (λ c. covers_from most l links (before ++ (c ∷ [])) ts)))
      [ fails h ↦ fails_from {k = length before} 0 (omega arith) no_more refl h | is_mapped m ↦ later m (from (before ++ (_ ∷ [])) ts) ]

  -- What an answer to all trees says: all are mapped, or the first that fails is named.
  pub data CoversPromise (ts : List Tree) : Answer (List Cover) → Type 0 where
    all_mapped : {covers : List Cover} → AreMapped most l links [] ts covers → CoversPromise ts (success covers)
    first_fails : {k number place : ℕ} → FirstFails most l links ts k number place → CoversPromise ts (refused_in k number place)

  -- The answer to all trees keeps that promise.
  pub covers_promise : (ts : List Tree) → CoversPromise ts (covers_from most l links [] ts)
  covers_promise ts = elim (from [] ts) as (λ r x. CoversPromise ts r) [
    | all_from m ↦ all_mapped m
    | fails_from {covers = covers} {t = t} {k = k} at e m is h ↦
        let same : at ≡ k = omega arith in first_fails (record { covers = covers; before = rw same at m; tree = t; tree_is = rw same at is; fails = h })
  ]

-- ---- each tree

module _ {most : ℕ} {l : Library} {links : List Link} where
  -- The covers before stay in front.
  in_front : {before covers : List Cover} {ts : List Tree} → AreMapped most l links before ts covers → (rest : List Cover) × (covers ≡ before ++ rest)
  in_front (no_more {before = before}) = ([], sym (append-nil before))
  in_front (one_more {before = before} {c = c} m rest) = let r = in_front rest in (c ∷ r.0, r.1 ∙ append_snoc before c r.0)

  -- The tree at a position is mapped with the arrivals of the covers before it.
  pub mapped_at : {before covers : List Cover} {ts : List Tree} {t : Tree} {c : Cover} → AreMapped most l links before ts covers → (j n : ℕ) → n ≡ length before + j → get_elem? ts j ≡ some t → get_elem? covers n ≡ some c →
      IsMapped most l (known links (take n covers)) t c
  mapped_at no_more j n e is has = absurd (none-ne-some _ is)
  mapped_at {covers = covers} {t = t} {c = c} (one_more {before = before} {t = t'} {c = c'} m rest) zero n e is has =
      let r = in_front rest in
      let split : covers ≡ before ++ c' ∷ r.0 = r.1 ∙ append_snoc before c' r.0 in
      let here : length before ≡ n = omega arith in
      let front : before ≡ take n covers = sym (take_at before (c' ∷ r.0) n here) ∙ ap (take n) (sym split) in
      let same : c' ≡ c = sym (get_or_at before c' r.0 c n here) ∙ ap (λ (xs : List Cover). get_or xs n c) (sym split) ∙ at_value covers n c has in
      rw (← front, ← same, ← some-injective t' t is) m
  mapped_at (one_more {before = before} {c = c} m rest) (suc j) n e is has = mapped_at rest j n (omega (arith, length-append before (c ∷ []))) is has
