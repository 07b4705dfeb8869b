-- The list of trade-offs holds the trade-offs and nothing else, earliest first.
use Prim.Native.Nat.{ℕ, ◌≤◌, ◌<◌}
use mathlib.Core.Path.{◌≡◌, refl, sym, ap, ◌∙◌}
use mathlib.Core.Logic.{◌⊎◌, inr, ⊎_elim, ⊎_map, ◌↔◌}
use mathlib.Core.Bool.{true, false, not, false≢true}
use mathlib.Core.List.Memᴰ
use mathlib.Core.List.{List, [], ◌∷◌, foldr, Memᴰ}
use native.Mathlib.Nat.{le_refl}
use native.Mathlib.Omega.{arith}
use lib.Dec.{leb, ltb}
use lib.ListN.{length}
use borrow.Table.Steps.{cases}
use borrow.Author.Tests.{le-leb, not-true, not-false}
use Rattle.sheets_rules.specs.Model.{Leaf, Shape, leaf, Library}
use Rattle.covers.specs.Lists.{keep_if, select}
use Rattle.covers.specs.Cover.{Point, Cover, IsCover, leaf_point}
use Rattle.covers.specs.Enumeration.{covers_step, covers}
use Rattle.covers.specs.Tradeoff.{IsTradeoff, Climbing, top, step, same, beats, beaten, insert, tradeoffs_of, points, tradeoffs}
use Rattle.covers.proofs.Basics.{tests, lt_or_le, each, any_false, false_any, of_select, in_select}
use Rattle.covers.proofs.Points.{same_true, same_refl}
use Rattle.covers.proofs.Least.{In}
use Rattle.covers.proofs.Unroll.{covers_unroll}
use Rattle.covers.proofs.Relation.{covers_all, covers_are}

-- No other point of these is at most as great in both.
abbrev Unbeaten : List Point → Point → Type 0
Unbeaten qs p = (q : Point) → Memᴰ q qs → q.area ≤ p.area → q.arrival ≤ p.arrival → q ≡ p

beats_false : (q p : Point) → beats q p ≡ false → q.area ≤ p.area → q.arrival ≤ p.arrival → q ≡ p
unfolding beats
beats_false q p e a t = same_true q p (not-false (same q p) (rw (le-leb q.area p.area a, le-leb q.arrival p.arrival t) at e))

false_beats : (q p : Point) → (q.area ≤ p.area → q.arrival ≤ p.arrival → q ≡ p) → beats q p ≡ false
unfolding beats
false_beats q p h =
    cases (leb q.area p.area) (λ e. cases (leb q.arrival p.arrival)
    (λ f. let g : same q p ≡ true = rw (h (omega (arith, tests)) (omega (arith, tests))) (same_refl p) in rw (e, f, g)) (λ f. rw (e, f))) (λ e. rw e)

not_beaten : (qs : List Point) (p : Point) → not (beaten qs p) ≡ true → Unbeaten qs p
unfolding beaten
not_beaten qs p e q m = beats_false q p (any_false (λ q. beats q p) qs (not-true (beaten qs p) e) q m)

beaten_not : (qs : List Point) (p : Point) → Unbeaten qs p → not (beaten qs p) ≡ true
unfolding beaten
beaten_not qs p h = ap not (false_any (λ q. beats q p) qs (λ q m. false_beats q p (h q m)))

-- What holds of all that `insert` may make of a list that is not empty.
insert_cases : (P : List Point → Type 0) (p q : Point) (qs : List Point) →
    (p ≡ q → P (q ∷ qs)) → (p.arrival < q.arrival → P (p ∷ q ∷ qs)) → (q.arrival ≤ p.arrival → (p ≡ q → ⊥) → P (q ∷ insert p qs)) → P (insert p (q ∷ qs))
unfolding insert
insert_cases P p q qs there front later =
    cases (same p q) (λ e. rw e (there (same_true p q e))) (λ e. cases (ltb p.arrival q.arrival) (λ f. rw (e, f) (front (omega (arith, tests))))
    (λ f. rw (e, f) (later (omega (arith, tests)) (λ h. false≢true (sym e ∙ (rw h (same_refl q)))))))

of_insert : (p : Point) (l : List Point) {x : Point} → Memᴰ x (insert p l) → (x ≡ p) ⊎ Memᴰ x l
unfolding insert
of_insert p [] m = Memᴰ.cases_cons m
of_insert p (q ∷ qs) {x} m =
    insert_cases (λ r. Memᴰ x r → (x ≡ p) ⊎ Memᴰ x (q ∷ qs)) p q qs (λ e. inr) (λ h. Memᴰ.cases_cons)
    (λ h n k. ⊎_elim (λ e. inr (Memᴰ.head e)) (λ j. ⊎_map (λ e. e) Memᴰ.tail (of_insert p qs j)) (Memᴰ.cases_cons k)) m

in_insert : (p : Point) (l : List Point) {x : Point} → Memᴰ x (p ∷ l) → Memᴰ x (insert p l)
unfolding insert
in_insert p [] m = m
in_insert p (q ∷ qs) {x} m =
    insert_cases (Memᴰ x) p q qs (λ e. ⊎_elim (λ f. Memᴰ.head (f ∙ e)) (λ k. k) (Memᴰ.cases_cons m)) (λ h. m)
    (λ h n. ⊎_elim (λ f. Memᴰ.tail (in_insert p qs (Memᴰ.head f)))
    (λ k. ⊎_elim Memᴰ.head (λ j. Memᴰ.tail (in_insert p qs (Memᴰ.tail j))) (Memᴰ.cases_cons k)) (Memᴰ.cases_cons m))

climbing_insert : (p : Point) (l : List Point) → ((q : Point) → Memᴰ q l → q.arrival ≡ p.arrival → q ≡ p) → Climbing l → Climbing (insert p l)
unfolding insert
climbing_insert p [] h c = step (λ q m. absurd (Memᴰ.not-nil m)) top
climbing_insert p (q ∷ qs) h (step a c) =
    insert_cases Climbing p q qs (λ e. step a c) (λ f. step (each {P = λ r. p.arrival < r.arrival} {xs = qs} f (λ r m. omega (arith, a r m))) (step a c))
    (λ f n. let differ : q.arrival ≡ p.arrival → ⊥ = λ e. n (sym (h q (Memᴰ.head refl) e)) in let before : q.arrival < p.arrival = omega arith in
    step (λ r m. ⊎_elim (λ e. rw e before) (a r) (of_insert p qs m)) (climbing_insert p qs (λ r m. h r (Memᴰ.tail m)) c))

of_sorted : (ps : List Point) {x : Point} → Memᴰ x (foldr insert [] ps) → Memᴰ x ps
of_sorted [] m = m
of_sorted (p ∷ ps) m = ⊎_elim (λ e. Memᴰ.head e) (λ k. Memᴰ.tail (of_sorted ps k)) (of_insert p (foldr insert [] ps) m)

in_sorted : (ps : List Point) {x : Point} → Memᴰ x ps → Memᴰ x (foldr insert [] ps)
in_sorted (p ∷ ps) (Memᴰ.head e) = in_insert p (foldr insert [] ps) (Memᴰ.head e)
in_sorted (p ∷ ps) (Memᴰ.tail m) = in_insert p (foldr insert [] ps) (Memᴰ.tail (in_sorted ps m))
in_sorted [] x3 = elim x3 [ ]

-- Points that do not beat one another and arrive together are one.
sorted_climbs : (qs ps : List Point) → ((p : Point) → Memᴰ p ps → Memᴰ p qs × Unbeaten qs p) → Climbing (foldr insert [] ps)
sorted_climbs qs [] h = top
sorted_climbs qs (p ∷ ps) h =
    let here = h p (Memᴰ.head refl) in
    climbing_insert p (foldr insert [] ps) (λ q m e. let there = h q (Memᴰ.tail (of_sorted ps m)) in
    ⊎_elim (λ a. sym (there.1 p here.0 (omega arith) (omega arith))) (λ a. here.1 q there.0 a (omega arith)) (lt_or_le p.area q.area))
    (sorted_climbs qs ps (λ q m. h q (Memᴰ.tail m)))

abbrev unbeaten_in : List Point → List Point
unbeaten_in ps = select (λ p. not (beaten ps p)) ps

pub tradeoffs_climb : (ps : List Point) → Climbing (tradeoffs_of ps)
unfolding tradeoffs_of
tradeoffs_climb ps = sorted_climbs ps (unbeaten_in ps) (λ p m. let k = of_select (λ p. not (beaten ps p)) ps m in (k.0, not_beaten ps p k.1))

-- What is listed is a trade-off, and every trade-off is listed.
pub tradeoffs_are : (cs : List Cover) (p : Point) → Memᴰ p (tradeoffs_of (points cs)) ↔ IsTradeoff (In cs) p
unfolding tradeoffs_of points
tradeoffs_are cs p = (
  λ m. let k = of_select (λ p. not (beaten (points cs) p)) (points cs) (of_sorted (unbeaten_in (points cs)) m) in let c = Memᴰ.of_map (λ c. c.point) cs k.0 in
      record { cover = c.0; among = c.1; point = c.2; unbeaten = λ d n. not_beaten (points cs) p k.1 d.point (Memᴰ.map (λ c. c.point) n) },
  λ t. in_sorted (unbeaten_in (points cs)) (in_select (λ p. not (beaten (points cs) p)) (points cs) (rw t.point at (Memᴰ.map (λ c. c.point) t.among))
      (beaten_not (points cs) p (λ q m. let c = Memᴰ.of_map (λ c. c.point) cs m in rw c.2 at (t.unbeaten c.0 c.1)))),
)

-- One point alone is a trade-off; so a leaf has one.
pub leaf_tradeoffs : (l : Library) (load n : ℕ) (x : Leaf) → tradeoffs l load n (leaf x) ≡ leaf_point x load ∷ []
unfolding tradeoffs tradeoffs_of covers_step points
leaf_tradeoffs l load n x =
    let p = leaf_point x load in
    ap (λ cs. tradeoffs_of (points cs)) (covers_unroll l load n (leaf x)) ∙ ap (λ b. foldr insert [] (keep_if b p [])) (beaten_not (p ∷ []) p (λ q m a t. Memᴰ.eq_of_singleton m))

-- The same over the relation: the list is of the trade-offs among all legal covers.
pub tradeoffs_legal : (l : Library) (load n : ℕ) (s : Shape) (p : Point) → Memᴰ p (tradeoffs l load n s) ↔ IsTradeoff (IsCover l load n s) p
unfolding tradeoffs
tradeoffs_legal l load n s p = (λ m. let t = (tradeoffs_are (covers l load n s) p).0 m in record { cover = t.cover; among = covers_are l load n s t.among; point = t.point; unbeaten = λ c k. t.unbeaten c (covers_all l k) }, λ t. (tradeoffs_are (covers l load n s) p).1 record { cover = t.cover; among = covers_all l t.among; point = t.point; unbeaten = λ c k. t.unbeaten c (covers_are l load n s k) })

-- Points in order that are all among others in order are no more than those.
pub climbing_fewer : {ps qs : List Point} → Climbing ps → Climbing qs → ((p : Point) → Memᴰ p ps → Memᴰ p qs) → length ps ≤ length qs
climbing_fewer top d h = omega arith
climbing_fewer (step {p = p} a c) top h = absurd (Memᴰ.not-nil (h p (Memᴰ.head refl)))
climbing_fewer (step {p = p} {ps = ps} a c) (step {p = q} {ps = qs} b d) h =
    let first : q.arrival ≤ p.arrival = each {P = λ r. q.arrival ≤ r.arrival} {xs = qs} (le_refl q.arrival) (λ r m. omega (arith, b r m)) p (h p (Memᴰ.head refl)) in
    omega (arith, climbing_fewer c d (λ r m. ⊎_elim (λ e. absurd (omega (arith, a r m, ap (λ x. x.arrival) e))) (λ k. k) (Memᴰ.cases_cons (h r (Memᴰ.tail m)))))
