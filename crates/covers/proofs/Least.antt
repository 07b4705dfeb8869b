-- The least point of a list of covers before an instant: how it goes through lists, that it is what it says, and that nothing else is.
use Prim.Native.Nat.{ℕ, ◌≤◌, ◌<◌}
use mathlib.Core.Path.{◌≡◌, refl, sym, ap, ap₂, subst, ◌∙◌}
use mathlib.Core.Logic.{⊎_elim}
use mathlib.Core.List.Memᴰ
use mathlib.Core.List.{List, [], ◌∷◌, ◌++◌, map, flat_map, Memᴰ}
use mathlib.Core.Option.{Option, none, some, none-ne-some, some-ne-none, some-injective}
use native.Mathlib.Omega.{arith}
use lib.Dec.{ltb}
use borrow.Table.Steps.{cases}
use Rattle.covers.specs.Cover.{Point, Cover, together}
use Rattle.covers.specs.Enumeration.{combined}
use Rattle.covers.specs.Choice.{lesser, before, least}
use Rattle.covers.proofs.Basics.{tests, each}
use Rattle.covers.specs.Inside.Curve.{both}
use Rattle.covers.proofs.Points.{Leq, leq_refl, leq_trans, leq_antisym, leq_total, pick_left, pick_right, lesser_assoc, Carries, both_lesser, both_carries, before_beside}

pub least_append : (end : ℕ) (cs ds : List Cover) → least end (cs ++ ds) ≡ lesser (least end cs) (least end ds)
unfolding least lesser
least_append end [] ds = refl
least_append end (c ∷ cs) ds = ap (lesser (before end c.point)) (least_append end cs ds) ∙ sym (lesser_assoc (before end c.point) (least end cs) (least end ds))

-- What is done to every cover is done to the least, under the bound that it makes of the bound.
pub least_map : (end end' : ℕ) (f : Cover → Cover) (h : Option Point → Option Point) → Carries h → ((c : Cover) → before end (f c).point ≡ h (before end' c.point)) → (cs : List Cover) → least end (map f cs) ≡ h (least end' cs)
unfolding least
least_map end end' f h k e [] = sym k.on_none
least_map end end' f h k e (c ∷ cs) = ap₂ lesser (e c) (least_map end end' f h k e cs) ∙ sym (k.on_lesser (before end' c.point) (least end' cs))

pub least_combined : (end : ℕ) (cs ds : List Cover) → least end (combined cs ds) ≡ both (least end cs) (least end ds)
unfolding least combined both flat_map together
least_combined end [] ds = refl
least_combined end (c ∷ cs) ds = least_append end (map (together c) ds) (combined cs ds) ∙ ap₂ lesser (least_map end end (together c) (both (before end c.point)) (both_carries (before end c.point)) (λ d. before_beside end c.point d.point) ds) (least_combined end cs ds) ∙ sym (both_lesser (before end c.point) (least end cs) (least end ds))

-- The least point before an instant among some covers: of one of them, and no greater than any other that arrives before it.
pub record IsLeast (end : ℕ) (Among : Cover → Type 0) (p : Point) : Type 0 where
  pub cover : Cover
  pub among : Among cover
  pub point : cover.point ≡ p
  pub intime : p.arrival < end
  pub first : (c : Cover) → Among c → c.point.arrival < end → Leq p c.point

pub data LeastOf (end : ℕ) (Among : Cover → Type 0) : Option Point → Type 0 where
  absent : ((c : Cover) → Among c → end ≤ c.point.arrival) → LeastOf end Among none
  found : {p : Point} → IsLeast end Among p → LeastOf end Among (some p)

abbrev pub In : List Cover → Cover → Type 0
In cs c = Memᴰ c cs

module _ (end : ℕ) (c : Cover) (cs : List Cover) where
  -- The first cover may be of the least point, or the least of the others may stay it.
  first_least : c.point.arrival < end → ((d : Cover) → In cs d → d.point.arrival < end → Leq c.point d.point) → IsLeast end (In (c ∷ cs)) c.point
  first_least h f = record { cover = c; among = Memᴰ.head refl; point = refl; intime = h; first = each {P = λ d. d.point.arrival < end → Leq c.point d.point} (λ t. leq_refl c.point) f }

  still_least : {p : Point} → (c.point.arrival < end → Leq p c.point) → IsLeast end (In cs) p → IsLeast end (In (c ∷ cs)) p
  still_least {p} h f = record { cover = f.cover; among = Memᴰ.tail f.among; point = f.point; intime = f.intime; first = each {P = λ d. d.point.arrival < end → Leq p d.point} h f.first }

  late_first : {o : Option Point} → end ≤ c.point.arrival → LeastOf end (In cs) o → LeastOf end (In (c ∷ cs)) o
  late_first h (absent a) = absent (each {P = λ d. end ≤ d.point.arrival} h a)
  late_first h (found f) = found (still_least (λ t. absurd (omega arith)) f)

  timely_first : {o : Option Point} → c.point.arrival < end → LeastOf end (In cs) o → LeastOf end (In (c ∷ cs)) (lesser (some c.point) o)
  unfolding lesser
  timely_first h (absent a) = found (first_least h (λ d m t. absurd (omega (arith, a d m))))
  timely_first h (found {p} f) =
      ⊎_elim (λ (k : Leq c.point p). rw (pick_left k) (found (first_least h (λ d m t. leq_trans k (f.first d m t)))))
      (λ (k : Leq p c.point). rw (pick_right k) (found (still_least (λ t. k) f))) (leq_total c.point p)

-- The least is what it says.
pub least_is : (end : ℕ) (cs : List Cover) → LeastOf end (In cs) (least end cs)
unfolding least before lesser
least_is end [] = absent (λ c m. absurd (Memᴰ.not-nil m))
least_is end (c ∷ cs) =
    cases (ltb c.point.arrival end) (λ e. rw e (timely_first end c cs (omega (arith, tests)) (least_is end cs))) (λ e. rw e (late_first end c cs (omega (arith, tests)) (least_is end cs)))

pub least_cases : (P : Option Point → Type 0) (end : ℕ) (cs : List Cover) → (((c : Cover) → In cs c → end ≤ c.point.arrival) → P none) →
    ((p : Point) → IsLeast end (In cs) p → P (some p)) → P (least end cs)
least_cases P end cs f g = elim (least_is end cs) as (λ o v. P o) [ absent a ↦ f a | found {p} h ↦ g p h ]

pub least_some : {end : ℕ} {Among : Cover → Type 0} {o : Option Point} {p : Point} → LeastOf end Among o → o ≡ some p → IsLeast end Among p
least_some (absent a) e = absurd (none-ne-some _ e)
least_some {end} {Among} {p = p} (found {p = q} f) e = subst (IsLeast end Among) (some-injective q p e) f

pub least_none : {end : ℕ} {Among : Cover → Type 0} {o : Option Point} → LeastOf end Among o → o ≡ none → (c : Cover) → Among c → end ≤ c.point.arrival
least_none (absent a) e = a
least_none (found f) e = absurd (some-ne-none _ e)

-- Before a later instant it is no greater.
pub least_rises : {end end' : ℕ} → end ≤ end' → (cs : List Cover) {p : Point} → least end cs ≡ some p → (q : Point) × (least end' cs ≡ some q) × Leq q p
least_rises {end} {end'} h cs {p} e =
    let f = least_some (least_is end cs) e in
    let t : f.cover.point.arrival < end' = rw f.point (omega (arith, f.intime)) in
    least_cases (λ o. (q : Point) × (o ≡ some q) × Leq q p) end' cs (λ a. absurd (omega (arith, a f.cover f.among))) (λ q g. (q, refl, rw f.point at (g.first f.cover f.among t)))

-- Nothing else is.
pub is_least : {end : ℕ} (cs : List Cover) {p : Point} → IsLeast end (In cs) p → least end cs ≡ some p
is_least {end} cs {p} f =
    let t : f.cover.point.arrival < end = rw f.point f.intime in
    least_cases (λ o. o ≡ some p) end cs (λ a. absurd (omega (arith, a f.cover f.among)))
    (λ q g. ap {B = Option Point} some (leq_antisym (rw f.point at (g.first f.cover f.among t)) (rw g.point at (f.first g.cover g.among (rw g.point g.intime)))))
