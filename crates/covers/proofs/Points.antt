-- Laws of points: their order, the lesser of two, and how what is done to a point goes with picking the lesser.
use Prim.Native.Nat.{ℕ, ◌-◌, ◌≤◌, ◌<◌}
use mathlib.Core.Path.{◌≡◌, refl, sym, ap, fun_ext, ◌∙◌}
use mathlib.Core.Logic.{◌⊎◌, inl, inr, ⊎_elim}
use mathlib.Core.Bool.{true, false}
use mathlib.Core.Option.{Option, none, some, map}
use native.Mathlib.Omega.{arith}
use lib.Dec.{leb, ltb, eqb}
use borrow.Table.Steps.{cases}
use borrow.Author.Tests.{eqb-true, eqb-false, lt-ltb, le-ltb, eq-eqb}
use Rattle.covers.specs.Cover.{Point, beside, late, raised}
use Rattle.covers.specs.Tradeoff.{same}
use Rattle.covers.specs.Choice.{cheaper, pick, lesser, before}
use Rattle.covers.specs.Inside.Curve.{both}
use Rattle.covers.proofs.Basics.{tests, both_true, lt_or_le}

pub point_path : {p q : Point} → p.area ≡ q.area → p.arrival ≡ q.arrival → p ≡ q
point_path a t i = record { area = a i; arrival = t i }

-- By area, then by arrival.
pub data Leq (p q : Point) : Type 0 where
  smaller : p.area < q.area → Leq p q
  earlier : p.area ≡ q.area → p.arrival ≤ q.arrival → Leq p q

pub leq_refl : (p : Point) → Leq p p
leq_refl p = earlier refl (omega arith)

pub leq_area : {p q : Point} → Leq p q → p.area ≤ q.area
leq_area (smaller h) = omega arith
leq_area (earlier h t) = omega arith

-- The order in numbers: not larger, and not later where the other is not larger either.
pub leq_time : {p q : Point} → Leq p q → q.area ≤ p.area → p.arrival ≤ q.arrival
leq_time (smaller h) a = absurd (omega arith)
leq_time (earlier h t) a = t

pub leq_by : {p q : Point} → p.area ≤ q.area → (q.area ≤ p.area → p.arrival ≤ q.arrival) → Leq p q
leq_by {p} {q} a t = ⊎_elim smaller (λ h. earlier (omega arith) (t h)) (lt_or_le p.area q.area)

pub leq_trans : {p q r : Point} → Leq p q → Leq q r → Leq p r
leq_trans h k = leq_by (omega (arith, leq_area h, leq_area k)) (λ e. omega (arith, leq_time h (omega (arith, leq_area k)), leq_time k (omega (arith, leq_area h))))

pub leq_antisym : {p q : Point} → Leq p q → Leq q p → p ≡ q
leq_antisym h k = point_path (omega (arith, leq_area h, leq_area k)) (omega (arith, leq_time h (leq_area k), leq_time k (leq_area h)))

-- What the test says, with either answer.
cheaper_cases : (p q : Point) → ((cheaper p q ≡ true) × Leq p q) ⊎ ((cheaper p q ≡ false) × Leq q p)
unfolding cheaper
cheaper_cases p q =
    cases (ltb p.area q.area) (λ e. inl (rw e, smaller (omega (arith, tests))))
    (λ e. cases (eqb p.area q.area) (λ f. cases (leb p.arrival q.arrival)
    (λ g. inl (rw (e, f, g), earlier (omega (arith, tests)) (omega (arith, tests)))) (λ g. inr (rw (e, f, g), earlier (omega (arith, tests)) (omega (arith, tests)))))
    (λ f. inr (rw (e, f), smaller (omega (arith, tests, eqb-false p.area q.area f)))))

pub pick_left : {p q : Point} → Leq p q → pick p q ≡ p
unfolding pick
pick_left {p} {q} h = ⊎_elim (λ e. rw e.0) (λ e. rw e.0 (leq_antisym e.1 h)) (cheaper_cases p q)

pub pick_right : {p q : Point} → Leq q p → pick p q ≡ q
unfolding pick
pick_right {p} {q} h = ⊎_elim (λ e. rw e.0 (leq_antisym e.1 h)) (λ e. rw e.0) (cheaper_cases p q)

pub leq_total : (p q : Point) → Leq p q ⊎ Leq q p
leq_total p q = ⊎_elim (λ e. inl e.1) (λ e. inr e.1) (cheaper_cases p q)

-- The one law: what keeps the order goes with picking the lesser.
pick_mono : (f : Point → Point) → ((p q : Point) → Leq p q → Leq (f p) (f q)) → (p q : Point) → f (pick p q) ≡ pick (f p) (f q)
pick_mono f mono p q = ⊎_elim (λ h. ap f (pick_left h) ∙ sym (pick_left (mono p q h))) (λ h. ap f (pick_right h) ∙ sym (pick_right (mono q p h))) (leq_total p q)

pick_assoc : (p q r : Point) → pick (pick p q) r ≡ pick p (pick q r)
pick_assoc p q r =
    ⊎_elim (λ h. ⊎_elim (λ k. cc (pick_left h, pick_left k, pick_left (leq_trans h k))) (λ k. cc (pick_left h, pick_right k)) (leq_total q r))
    (λ h. ⊎_elim (λ k. cc (pick_right h, pick_left k)) (λ k. cc (pick_right h, pick_right k, pick_right (leq_trans k h))) (leq_total q r)) (leq_total p q)

pub lesser_assoc : (a b c : Option Point) → lesser (lesser a b) c ≡ lesser a (lesser b c)
unfolding lesser
lesser_assoc none b c = refl
lesser_assoc (some p) none c = refl
lesser_assoc (some p) (some q) none = refl
lesser_assoc (some p) (some q) (some r) = ap {B = Option Point} some (pick_assoc p q r)

pub lesser_none : (a : Option Point) → lesser a none ≡ a
unfolding lesser
lesser_none none = refl
lesser_none (some p) = refl

-- For a loop that takes one input after another, from nothing on.
pub both_assoc : (a b c : Option Point) → both (both a b) c ≡ both a (both b c)
unfolding both beside
both_assoc none b c = refl
both_assoc (some p) none c = refl
both_assoc (some p) (some q) none = refl
both_assoc (some p) (some q) (some r) = ap {B = Option Point} some (point_path (omega arith) (omega arith))

pub both_nothing : (a : Option Point) → both (some (record { area = 0; arrival = 0 })) a ≡ a
unfolding both beside
both_nothing none = refl
both_nothing (some p) = ap {B = Option Point} some (point_path (omega arith) (omega arith))

-- What commutes with the lesser of two, and makes nothing of nothing.
pub record Carries (h : Option Point → Option Point) : Type 0 where
  pub on_none : h none ≡ none
  pub on_lesser : (a b : Option Point) → h (lesser a b) ≡ lesser (h a) (h b)

map_carries : (f : Point → Point) → ((p q : Point) → Leq p q → Leq (f p) (f q)) → Carries (map f)
unfolding lesser
map_carries f mono = record {
  on_none = refl;
  on_lesser = λ a b. elim a as (λ x. map f (lesser x b) ≡ lesser (map f x) (map f b)) [ none ↦ refl | some p ↦ elim b as (λ y. map f (lesser (some p) y) ≡ lesser (map f (some p)) (map f y)) [ none ↦ refl | some q ↦ ap {B = Option Point} some (pick_mono f mono p q) ] ];
}

pub late_carries : (d : ℕ) → Carries (map (late d))
unfolding late
late_carries d = map_carries (late d) (λ p q h. leq_by (leq_area h) (λ a. omega (arith, leq_time h a)))

pub raised_carries : (a : ℕ) → Carries (map (raised a))
unfolding raised
raised_carries a = map_carries (raised a) (λ p q h. leq_by (omega (arith, leq_area h)) (λ b. leq_time h (omega arith)))

pub both_carries : (c : Option Point) → Carries (both c)
unfolding both beside lesser
both_carries none = record { on_none = refl; on_lesser = λ a b. refl }
both_carries (some r) =
    let same : both (some r) ≡ map (beside r) = fun_ext (λ a. elim a [ none ↦ refl | some p ↦ refl ]) in
    rw same (map_carries (beside r) (λ p q h. leq_by (omega (arith, leq_area h)) (λ a. omega (arith, leq_time h (omega arith)))))

both_comm : (a b : Option Point) → both a b ≡ both b a
unfolding both beside
both_comm none none = refl
both_comm none (some q) = refl
both_comm (some p) none = refl
both_comm (some p) (some q) = ap {B = Option Point} some (point_path (omega arith) (omega arith))

pub both_lesser : (a b c : Option Point) → both (lesser a b) c ≡ lesser (both a c) (both b c)
both_lesser a b c = rw (both_comm (lesser a b) c, both_comm a c, both_comm b c) ((both_carries c).on_lesser a b)

pub before_yes : (end : ℕ) (p : Point) → p.arrival < end → before end p ≡ some p
unfolding before
before_yes end p h = rw (lt-ltb _ _ h)

pub before_no : (end : ℕ) (p : Point) → end ≤ p.arrival → before end p ≡ none
unfolding before
before_no end p h = rw (le-ltb _ _ h)

-- A delay turns the bound into what is left of it. Nothing arrives before 0, so a delay past the bound needs no case.
pub before_late : (end d : ℕ) (p : Point) → before end (late d p) ≡ map (late d) (before (end - d) p)
unfolding late
before_late end d p = ⊎_elim (λ (h : p.arrival < end - d). rw (before_yes _ p h, before_yes end (late d p) (omega arith))) (λ (h : end - d ≤ p.arrival). rw (before_no _ p h) (before_no end (late d p) (omega arith))) (lt_or_le p.arrival (end - d))

pub before_raised : (end a : ℕ) (p : Point) → before end (raised a p) ≡ map (raised a) (before end p)
unfolding raised
before_raised end a p = ⊎_elim (λ h. rw (before_yes _ p h, before_yes end (raised a p) h)) (λ h. rw (before_no _ p h, before_no end (raised a p) h)) (lt_or_le p.arrival end)

pub before_beside : (end : ℕ) (p q : Point) → before end (beside p q) ≡ both (before end p) (before end q)
unfolding beside both
before_beside end p q =
    ⊎_elim (λ h. ⊎_elim (λ k. rw (before_yes _ p h, before_yes _ q k) (before_yes end (beside p q) (omega arith)))
    (λ k. rw (before_yes _ p h, before_no _ q k) (before_no end (beside p q) (omega arith))) (lt_or_le q.arrival end))
    (λ h. rw (before_no _ p h) (before_no end (beside p q) (omega arith))) (lt_or_le p.arrival end)

pub same_true : (p q : Point) → same p q ≡ true → p ≡ q
unfolding same
same_true p q h = let e = both_true (eqb p.area q.area) (eqb p.arrival q.arrival) h in point_path (eqb-true _ _ e.0) (eqb-true _ _ e.1)

pub same_refl : (p : Point) → same p p ≡ true
unfolding same
same_refl p = rw (eq-eqb p.area p.area refl) (eq-eqb p.arrival p.arrival refl)
