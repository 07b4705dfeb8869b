-- The answers of map and of list keep their promises.
use Prim.Native.Nat.{ℕ, suc}
use mathlib.Core.Path.{◌≡◌, refl, sym, subst, ◌∙◌}
use mathlib.Core.Bool.{false, false≢true}
use mathlib.Core.List.Memᴰ
use mathlib.Core.List.{List, [], ◌∷◌}
use mathlib.Core.Option.{Option, none, some}
use native.Mathlib.Omega.{arith}
use Rattle.fields.specs.Answer.{Answer, refused, success}
use Rattle.sheets_rules.specs.Model.{Library, Tree}
use Rattle.covers.specs.Cover.{Point, Cover}
use Rattle.covers.specs.Enumeration.{covers}
use Rattle.covers.specs.Tradeoff.{Climbing, points, tradeoffs, Node, nodes, TooMany, overfull}
use Rattle.covers.specs.Choice.{choice}
use Rattle.covers.specs.Answer.{overfull_number, no_cover_number, answered, mapped, nonempty, listed}
use Rattle.covers.specs.Promise.{RootCover, HighestTooMany, NoneTooMany, InTime, BestCover, RootTradeoffs}
use Rattle.covers.proofs.Basics.{option_cases}
use Rattle.covers.proofs.Least.{least_cases}
use Rattle.covers.proofs.Relation.{covers_all}
use Rattle.covers.proofs.Listing.{area_listed}
use Rattle.covers.proofs.Determined.{placed_determines}
use Rattle.covers.proofs.Handed.{choice_handed, choice_none}
use Rattle.covers.proofs.Tradeoffs.{tradeoffs_climb, tradeoffs_legal, tradeoffs_are}
use Rattle.covers.proofs.Curve.{least_is_tradeoff}
use Rattle.covers.proofs.Overfull.{LastOf, nowhere, at, overfull_when, overfull_named}

-- What an answer promises where covers of a wanted kind are asked for: it names the highest node with too many trade-offs; or there is no such node,
-- and either it says no cover and there is none of that kind, or what it hands over is right.
pub data Promise {A : Type 0} (Wanted : Cover → Type 0) (Right : A → Type 0) (most : ℕ) (l : Library) (t : Tree) : Answer A → Type 0 where
  too_many_lem : {k : ℕ} → HighestTooMany most l t k → Promise Wanted Right most l t (refused overfull_number k)
  none_wanted : NoneTooMany most l t → ((c : Cover) → Wanted c → ⊥) → Promise Wanted Right most l t (refused no_cover_number 0)
  right : {a : A} → NoneTooMany most l t → Right a → Promise Wanted Right most l t (success a)

-- Of map those in time are wanted, of list all legal ones.
abbrev pub MapPromise : ℕ → Library → Tree → Answer Cover → Type 0
MapPromise most l t = Promise (InTime l t) (BestCover l t) most l t

abbrev pub ListPromise : ℕ → Library → Tree → Answer (List Point) → Type 0
ListPromise most l t = Promise (RootCover l t) (RootTradeoffs l t) most l t

module _ (most : ℕ) (l : Library) (t : Tree) where
  fails : {x : Node} → overfull most l t x ≡ false → TooMany most l t x → ⊥
  fails {x} e m = false≢true (sym e ∙ (overfull_when most l t x).1 m)

  -- What is asked of a cover or list that may be missing.
  abbrev Kept : {A : Type 0} → (Cover → Type 0) → (A → Type 0) → Option A → Type 0
  Kept Wanted Right none = (c : Cover) → Wanted c → ⊥
  Kept Wanted Right (some a) = Right a

  promised : {A : Type 0} {Wanted : Cover → Type 0} {Right : A → Type 0} {o : Option ℕ} →
      LastOf (overfull most l t) (nodes 0 t.shape) o → (c : Option A) → Kept Wanted Right c → Promise Wanted Right most l t (answered o c)
  unfolding answered
  promised (at h) c k = too_many_lem record { node = h.node; among = h.among; number = h.number; too_many = (overfull_when most l t h.node).0 h.passes; none_above = λ x m k. fails (h.above x m k) }
  promised (nowhere a) none k = none_wanted (λ x m. fails (a x m)) k
  promised (nowhere a) (some c) k = right (λ x m. fails (a x m)) k

  pub map_promise : MapPromise most l t (mapped most l t)
  unfolding mapped
  map_promise =
      let given = choice l t.load 0 t.shape t.required in
      promised (overfull_named most l t) given (option_cases given (λ e. rw e (λ c k. omega (arith, choice_none l t.load 0 t.shape t.required e c k.0, k.1)))
      (λ c e. let h = choice_handed l t.load 0 t.shape t.required e in rw e record { best = h; area_is = area_listed l h.legal; only = λ d k. placed_determines k h.legal }))

  -- With no trade-off there is no cover: the least point of any is one.
  none_listed : tradeoffs l t.load 0 t.shape ≡ [] → (c : Cover) → RootCover l t c → ⊥
  unfolding tradeoffs
  none_listed e c k =
      let all = covers l t.load 0 t.shape in
      least_cases (λ o. ⊥) (suc c.point.arrival) all (λ a. omega (arith, a c (covers_all l k))) (λ p f. Memᴰ.not-nil (rw e at ((tradeoffs_are all p).1 (least_is_tradeoff f))))

  pub list_promise : ListPromise most l t (listed most l t)
  unfolding listed nonempty tradeoffs
  list_promise = promised (overfull_named most l t) (nonempty (tradeoffs l t.load 0 t.shape)) (go (tradeoffs l t.load 0 t.shape) refl)
    where
      go : (ps : List Point) → tradeoffs l t.load 0 t.shape ≡ ps → Kept (RootCover l t) (RootTradeoffs l t) (nonempty ps)
      go [] e = none_listed e
      go (p ∷ ps) e = record {
        one = (p, Memᴰ.head refl);
        all = λ q. rw e at (tradeoffs_legal l t.load 0 t.shape q);
        earliest_first = subst Climbing e (tradeoffs_climb (points (covers l t.load 0 t.shape)));
      }
