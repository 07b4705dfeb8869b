-- Where a walk is refused, and that the front of a list decides it.
use Prim.Native.Nat.{ℕ, suc, ◌+◌, ◌≤◌, ◌<◌}
use mathlib.Core.Path.{◌≡◌, refl, sym, ap, subst, ◌∙◌}
use mathlib.Core.List.{List, [], ◌∷◌, ◌++◌, append-nil}
use native.Mathlib.Nat.{add-zero, zero-add}
use native.Mathlib.Omega.{arith}
use lib.ListN.{length, take, drop, take-append-drop}
use lib.Seq.{length-take-le}
use Rattle.fields.specs.Answer.{Answer, refused, refused_in, success}
use Rattle.sheets_rules.specs.Model.{Library, Tree}
use Rattle.covers.specs.Cover.{Point, Placed, Cover}
use Rattle.covers.specs.Promise.{RootCover}
use Rattle.judge_rules.specs.Walk.{Walk, match_number, started, step, list_ended, onward, walk}
use Rattle.judge_rules.specs.Demands.{Listing}
use Rattle.covers.proofs.Basics.{option_cases}
use Rattle.judge_rules.proofs.Walking.{answer_none, walk_legal}

-- A walk's refusal is 23, at a position of the list or at its end.
pub record WalkRefused (k : ℕ) (xs : List Placed) (item number place : ℕ) : Type 0 where
  pub item_is : item ≡ 0
  pub number_is : number ≡ match_number
  pub place_from : k ≤ place
  pub place_in : place ≤ k + length xs

refused_here : {k : ℕ} {xs : List Placed} {item number place : ℕ} → ◌≡◌ {A = Answer Point} (refused match_number k) (refused_in item number place) → WalkRefused k xs item number place
refused_here {k} {place = place} e = let same : place ≡ k = sym (cc) in record { item_is = sym (cc); number_is = sym (cc); place_from = omega arith; place_in = omega arith }

pub walk_refused : (l : Library) (k : ℕ) (xs : List Placed) (w : Walk) {item number place : ℕ} → walk l k xs w ≡ refused_in item number place → WalkRefused k xs item number place
unfolding walk list_ended onward
walk_refused l k [] w {item} {number} {place} e = (elim w.left as (λ os. list_ended k os w.point ≡ refused_in item number place → WalkRefused k [] item number place)
    [ [] ↦ λ e. absurd (answer_none (sym e)) | o ∷ os ↦ λ e. refused_here e ]) e
walk_refused l k (x ∷ xs) w e = option_cases (step l w x) (λ f. refused_here (rw f at e)) (λ v f.
    let r = walk_refused l (suc k) xs v (rw f at e) in
    record { item_is = r.item_is; number_is = r.number_is; place_from = omega (arith, r.place_from); place_in = omega (arith, r.place_in) })

-- How a walk goes over the front of a list: a match there is wrong, whatever follows, or what follows is walked from where the front has come.
data Front (l : Library) (k : ℕ) (xs : List Placed) (w : Walk) : Type 0 where
  stops : (i : ℕ) → i < length xs → ((ys : List Placed) → walk l k (xs ++ ys) w ≡ refused match_number (k + i)) → Front l k xs w
  reaches : (v : Walk) → ((ys : List Placed) → walk l k (xs ++ ys) w ≡ walk l (k + length xs) ys v) → Front l k xs w

front : (l : Library) (k : ℕ) (xs : List Placed) (w : Walk) → Front l k xs w
unfolding walk onward
front l k [] w = reaches w (λ ys. ap (λ (n : ℕ). walk l n ys w) (sym (add-zero k)))
front l k (x ∷ xs) w =
    let shift : (n : ℕ) → suc k + n ≡ k + suc n = λ n. omega arith in
    option_cases (step l w x) (λ e. stops 0 (omega arith) (λ ys. rw e (ap (refused match_number) (sym (add-zero k))))) (λ v e. elim (front l (suc k) xs v) [
      | stops i h f ↦ stops (suc i) (omega arith) (λ ys. rw e (f ys ∙ ap (refused match_number) (shift i)))
      | reaches u f ↦ reaches u (λ ys. rw e (f ys ∙ ap (λ (n : ℕ). walk l n ys u) (shift (length xs))))
    ])

-- Where a walk can end it cannot go on, and where it can go on it cannot end.
end_late : (l : Library) (n : ℕ) (ys : List Placed) (v : Walk) {p : Point} → walk l n [] v ≡ success p → 0 < length ys → walk l n ys v ≡ refused match_number n
unfolding walk list_ended onward
end_late l n [] v e h = absurd (omega arith)
end_late l n (y ∷ ys) v {p} e h = (elim v.left as (λ os. list_ended n os v.point ≡ success p → onward n (walk l (suc n) ys) (step l (record { left = os; point = v.point }) y) ≡ refused match_number n)
    [ [] ↦ λ e. refl | o ∷ os ↦ λ e. absurd (answer_none e) ]) e

end_early : (l : Library) (n : ℕ) (ys : List Placed) (v : Walk) {p : Point} → walk l n ys v ≡ success p → 0 < length ys → walk l n [] v ≡ refused match_number n
unfolding walk list_ended
end_early l n ys v {p} e h = (elim v.left as (λ os. walk l n ys (record { left = os; point = v.point }) ≡ success p → list_ended n os v.point ≡ refused match_number n)
    [ [] ↦ λ e. absurd (answer_none (sym (end_late l n ys (record { left = []; point = v.point }) refl h) ∙ e)) | o ∷ os ↦ λ e. refl ]) e

module _ (l : Library) (t : Tree) where
  abbrev pub walked : List Placed → Answer Point
  walked xs = walk l 0 xs (started t)

  -- A legal cover's list is walked to its end.
  pub listing_walked : {xs : List Placed} (d : Cover) → Listing l t xs d → walked xs ≡ success d.point
  listing_walked {xs} d m = (walk_legal l t xs d.point).1 (subst (RootCover l t) (λ i. record { point = d.point; placed = m.1 i }) m.0)

  pub walked_late : (xs ys : List Placed) {p : Point} → walked xs ≡ success p → 0 < length ys → walked (xs ++ ys) ≡ refused match_number (length xs)
  walked_late xs ys {p} e h =
      let ended : walked (xs ++ []) ≡ success p = ap walked (append-nil xs) ∙ e in
      elim (front l 0 xs (started t)) [
        | stops i g f ↦ absurd (answer_none (sym (f []) ∙ ended))
        | reaches v f ↦ f ys ∙ end_late l (0 + length xs) ys v (sym (f []) ∙ ended) h ∙ ap (refused match_number) (zero-add (length xs))
      ]

  pub walked_early : (xs ys : List Placed) {p : Point} → walked (xs ++ ys) ≡ success p → 0 < length ys → walked xs ≡ refused match_number (length xs)
  walked_early xs ys e h = elim (front l 0 xs (started t)) [
    | stops i g f ↦ absurd (answer_none (sym (f ys) ∙ e))
    | reaches v f ↦ ap walked (sym (append-nil xs)) ∙ f [] ∙ end_early l (0 + length xs) ys v (sym (f ys) ∙ e) h ∙ ap (refused match_number) (zero-add (length xs))
  ]

  walked_front : (xs ys zs : List Placed) {k : ℕ} → walked (xs ++ ys) ≡ refused match_number k → k < length xs → walked (xs ++ zs) ≡ refused match_number k
  walked_front xs ys zs e h = elim (front l 0 xs (started t))
      [ stops i g f ↦ f zs ∙ sym (f ys) ∙ e | reaches v f ↦ absurd (omega (arith, (walk_refused l (0 + length xs) ys v (sym (f ys) ∙ e)).place_from)) ]

  -- Two lists that begin alike, up to position k.
  pub walked_alike : (xs zs : List Placed) (k : ℕ) → walked xs ≡ refused match_number k → k < length xs → take (suc k) xs ≡ take (suc k) zs → walked zs ≡ refused match_number k
  walked_alike xs zs k e h alike =
      ap walked (sym (take-append-drop (suc k) zs) ∙ ap (λ (f : List Placed). f ++ drop (suc k) zs) (sym alike))
      ∙ walked_front (take (suc k) xs) (drop (suc k) xs) (drop (suc k) zs) (ap walked (take-append-drop (suc k) xs) ∙ e) (omega (arith, length-take-le (suc k) xs (omega arith)))
