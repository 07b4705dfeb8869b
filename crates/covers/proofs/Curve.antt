-- A curve: the trade-offs of a node under a load, latest and smallest first. Found one by one by deadline, looked up by deadline, and counted.
use Prim.Native.Nat.{ℕ, zero, suc, ◌≤◌, ◌<◌}
use mathlib.Core.Path.{◌≡◌, refl, sym, ap, ◌∙◌}
use mathlib.Core.Logic.{◌↔◌, ⊎_elim}
use mathlib.Core.Bool.{cond}
use mathlib.Core.List.Memᴰ
use mathlib.Core.List.{List, [], ◌∷◌, ◌++◌, reverse, reverse-cons, Memᴰ}
use mathlib.Core.Option.{Option, none, some}
use native.Mathlib.Nat.{le_refl}
use native.Mathlib.Omega.{arith}
use lib.Dec.{ltb}
use lib.ListN.{take}
use borrow.Table.Steps.{cases}
use borrow.Author.Tests.{lt-ltb, le-ltb}
use Rattle.covers.specs.Cover.{Point, Cover}
use Rattle.covers.specs.Tradeoff.{IsTradeoff, Climbing, top, step, tradeoffs_of, points}
use Rattle.covers.specs.Choice.{least}
use Rattle.covers.specs.Inside.Curve.{by_deadline, chained, curve, lookup}
use Rattle.covers.proofs.Basics.{tests, each}
use Rattle.covers.proofs.Points.{leq_area, leq_by, leq_antisym}
use Rattle.covers.proofs.Least.{In, IsLeast, least_cases}
use Rattle.covers.proofs.Tradeoffs.{tradeoffs_climb, tradeoffs_are}

-- Strictly latest first.
pub data Falling : List Point → Type 0 where
  flat : Falling []
  down : {p : Point} {ps : List Point} → ((q : Point) → Memᴰ q ps → q.arrival < p.arrival) → Falling ps → Falling (p ∷ ps)

falling_snoc : {ps : List Point} (p : Point) → Falling ps → ((q : Point) → Memᴰ q ps → p.arrival < q.arrival) → Falling (ps ++ (p ∷ []))
falling_snoc p flat h = down (λ q m. absurd (Memᴰ.not-nil m)) flat
falling_snoc p (down {p = r} {ps = ps} a f) h = down (λ q m. ⊎_elim (a q) (λ k. let e : q ≡ p = Memᴰ.eq_of_singleton k in rw e (h r (Memᴰ.head refl))) (Memᴰ.append_cases ps m)) (falling_snoc p f (λ q m. h q (Memᴰ.tail m)))

in_reverse : {p : Point} (ps : List Point) → Memᴰ p ps ↔ Memᴰ p (reverse ps)
in_reverse [] = (λ m. m, λ m. m)
in_reverse (q ∷ ps) = rw reverse-cons (λ m. ⊎_elim (λ e. Memᴰ.append_right (reverse ps) (Memᴰ.head e)) (λ k. Memᴰ.append_left (q ∷ []) ((in_reverse ps).0 k)) (Memᴰ.cases_cons m), λ m. ⊎_elim (λ k. Memᴰ.tail ((in_reverse ps).1 k)) (λ k. Memᴰ.head (Memᴰ.eq_of_singleton k)) (Memᴰ.append_cases (reverse ps) m))

reverse_falls : {ps : List Point} → Climbing ps → Falling (reverse ps)
reverse_falls top = flat
reverse_falls (step {p = p} {ps = ps} a c) = rw (reverse-cons p ps) (falling_snoc p (reverse_falls c) (λ q m. a q ((in_reverse ps).1 m)))

-- What a curve is: exactly the trade-offs, strictly latest first.
pub record IsCurve (cs : List Cover) (ps : List Point) : Type 0 where
  pub falls : Falling ps
  pub holds : (p : Point) → Memᴰ p ps ↔ IsTradeoff (In cs) p

pub curve_is : (cs : List Cover) → IsCurve cs (curve cs)
unfolding curve
curve_is cs = record { falls = reverse_falls (tradeoffs_climb (points cs)); holds = λ p. let r = in_reverse (tradeoffs_of (points cs)) in let t = tradeoffs_are cs p in (λ m. t.0 (r.1 m), λ k. r.0 (t.1 k)) }

-- What a look-up finds in such a list: nothing before the instant, or the latest before it.
lookup_cases : (P : Option Point → Type 0) (end : ℕ) {ps : List Point} → Falling ps → (((q : Point) → Memᴰ q ps → end ≤ q.arrival) → P none) →
    ((p : Point) → Memᴰ p ps → p.arrival < end → ((q : Point) → Memᴰ q ps → q.arrival < end → q.arrival ≤ p.arrival) → P (some p)) → P (lookup end ps)
unfolding lookup
lookup_cases P end flat miss hit = miss (λ q m. absurd (Memᴰ.not-nil m))
lookup_cases P end (down {p = p} {ps = ps} a f) miss hit =
    cases (ltb p.arrival end)
    (λ e. rw e (hit p (Memᴰ.head refl) (omega (arith, tests)) (each {P = λ q. q.arrival < end → q.arrival ≤ p.arrival} (λ t. le_refl p.arrival) (λ q m t. omega (arith, a q m)))))
    (λ e. rw e (lookup_cases P end f (λ k. miss (each {P = λ q. end ≤ q.arrival} (omega (arith, tests)) k))
    (λ r m t k. hit r (Memᴰ.tail m) t (each {P = λ q. q.arrival < end → q.arrival ≤ r.arrival} (λ u. absurd (omega (arith, tests))) k))))

-- The least point before any instant is a trade-off.
pub least_is_tradeoff : {end : ℕ} {cs : List Cover} {p : Point} → IsLeast end (In cs) p → IsTradeoff (In cs) p
least_is_tradeoff f = record { cover = f.cover; among = f.among; point = f.point; unbeaten = λ c m a t. leq_antisym (leq_by a (λ b. t)) (f.first c m (omega (arith, f.intime))) }

-- The look-up theorem: the first point of a curve that arrives before an instant is the least before it.
pub lookup_is_least : (end : ℕ) {cs : List Cover} {ps : List Point} → IsCurve cs ps → lookup end ps ≡ least end cs
lookup_is_least end {cs} {ps} h =
    lookup_cases (λ o. o ≡ least end cs) end h.falls
    (λ a. least_cases (λ o. none ≡ o) end cs (λ b. refl) (λ q f. absurd (omega (arith, a q ((h.holds q).1 (least_is_tradeoff f)), f.intime))))
    (λ p m t k. let r = (h.holds p).0 m in least_cases (λ o. some p ≡ o) end cs (λ b. absurd (omega (arith, b r.cover r.among, ap (λ x. x.arrival) r.point)))
    (λ q f. let a : q.area ≤ p.area = rw r.point at (leq_area (f.first r.cover r.among (rw r.point t))) in
    let u : q.arrival ≤ p.arrival = k q ((h.holds q).1 (least_is_tradeoff f)) f.intime in
    ap {B = Option Point} some (sym (r.unbeaten f.cover f.among (rw f.point a) (rw f.point u)) ∙ f.point)))

found_by_deadline : (k : ℕ) (best : ℕ → Option Point) (end : ℕ) {ps : List Point} → ((e : ℕ) → e ≤ end → best e ≡ lookup e ps) → Falling ps → ((p : Point) → Memᴰ p ps → p.arrival < end) → by_deadline k best end ≡ take k ps
unfolding by_deadline chained lookup
found_by_deadline zero best end h f t = refl
found_by_deadline (suc k) best end h flat t = rw (h end (le_refl end))
found_by_deadline (suc k) best end h (down {p = p} {ps = ps} a f) t =
    let e : best end ≡ some p = h end (le_refl end) ∙ ap (λ b. cond b (some p) (lookup end ps)) (lt-ltb _ _ (t p (Memᴰ.head refl))) in
    rw e (ap {B = List Point} (λ r. p ∷ r) (found_by_deadline k best p.arrival (λ i l. h i (let z = t p (Memᴰ.head refl) in omega arith) ∙ ap (λ b. cond b (some p) (lookup i ps)) (le-ltb _ _ l)) f a))

-- The curve theorem: from an instant after every arrival, deadlines find the curve, point by point.
pub curve_found : (k end : ℕ) (cs : List Cover) → ((c : Cover) → In cs c → c.point.arrival < end) → by_deadline k (λ e. least e cs) end ≡ take k (curve cs)
curve_found k end cs h = found_by_deadline k (λ e. least e cs) end (λ e l. sym (lookup_is_least e (curve_is cs))) (curve_is cs).falls (λ p m. let r = ((curve_is cs).holds p).0 m in rw r.point at (h r.cover r.among))
