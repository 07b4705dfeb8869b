-- Laws about the marks of pins: what they say, and how a leaf and a gate change what is seen.
use mathlib.Core.Path.{◌≡◌, refl}
use mathlib.Core.List.{List, [], ◌∷◌}
use mathlib.Core.Bool.{Bool, true, false, ◌&&◌, ◌||◌, or-false, or-true}
use Prim.Native.Nat.{ℕ, zero, suc, ◌+◌, ◌≤◌, ◌<◌}
use native.Mathlib.Decide.{ℕ_discrete}
use native.Mathlib.Numerals.{add-one}
use native.Mathlib.Omega.{arith}
use lib.ListN.{length, take, get_or, set}
use lib.Seq.{get_or-set_same, get_or-set_other, take-suc-set}
use lib.Dec.{eqb, leb}
use borrow.Author.Tests.{eq-eqb, ne_eqb, leb-true}
use borrow.Table.Steps.{cases}
use Rattle.std.specs.List.{list_all}
use Rattle.std.proofs.lemmas.List.Folds.{list_all_more}
use Rattle.shapes_rules.specs.declared.Rules.{Rules}
use Rattle.shapes_rules.specs.Shape.{pin_symbol}
use Rattle.shapes_rules.specs.Drawing.{elem, has_all, leaf_verdict}
use Rattle.shapes.specs.Inside.Promises.{Met, all_marked, mark_verdict}
use Rattle.shapes_rules.proofs.Pins.{elem_append}

-- ---- what the marks say

-- A leaf's number by its mark is a leaf's number after the symbols seen.
pub mark_leaf : (rules : Rules) (pins : List Bool) (seen : List ℕ) (x : ℕ) → Met rules pins seen → mark_verdict rules (get_or pins x false) x ≡ leaf_verdict rules seen x
unfolding leaf_verdict
mark_leaf rules pins seen x met =
    cases (leb x rules.most)
    (λ a. cases rules.pattern (λ b. rw (a, b, met b x (leb-true x rules.most a))) (λ b. rw (a, b)))
    (λ a. rw a)

-- All of the first pins of a list that has so many are marked.
pub marks_all : (pins : List Bool) (n : ℕ) → n ≤ length pins → list_all (λ b. b) (take n pins) ≡ all_marked n pins
unfolding all_marked
marks_all pins zero l = refl
marks_all pins (suc n) l =
    let more : list_all (λ b. b) (take (suc n) pins) ≡ (list_all (λ b. b) (take n pins) && get_or pins n false) = rw (← add-one) (list_all_more (λ b. b) pins n false (omega arith)) in
    rw (more, marks_all pins n (omega arith))

-- All of the first pins are marked exactly when all were seen.
marked_all : (pins : List Bool) (nodes : List ℕ) (n : ℕ) → ((x : ℕ) → x < n → get_or pins x false ≡ elem (pin_symbol x) nodes) → all_marked n pins ≡ has_all n nodes
unfolding all_marked has_all
marked_all pins nodes zero met = refl
marked_all pins nodes (suc n) met = rw (met n (omega arith), marked_all pins nodes n (λ x h. met x (omega arith)))

pub whole_marked : (rules : Rules) (pins : List Bool) (nodes : List ℕ) → Met rules pins nodes →
    (rules.pattern && all_marked (suc rules.most) pins) ≡ (rules.pattern && has_all (suc rules.most) nodes)
whole_marked rules pins nodes met = cases rules.pattern (λ p. rw p (marked_all pins nodes (suc rules.most) (λ x h. met p x (omega arith)))) (λ p. rw p)

-- ---- marks as nodes are read

-- One symbol more among those seen.
seen_next : (l : List ℕ) (n v x : ℕ) → n < length l → elem (pin_symbol x) (take (n + 1) (set l n v)) ≡ (elem (pin_symbol x) (take n l) || eqb (pin_symbol x) v)
unfolding elem
seen_next l n v x len = rw (add-one n, take-suc-set l n v len, elem_append (pin_symbol x) (take n l) (v ∷ []), or-false)

-- A gate has no pin.
pub met_gate : (rules : Rules) (pins : List Bool) (l : List ℕ) (n v : ℕ) → v ≤ 1 → n < length l → Met rules pins (take n l) → Met rules pins (take (n + 1) (set l n v))
met_gate rules pins l n v h len met p x b = rw (seen_next l n v x len, ne_eqb (pin_symbol x) v (λ e. omega arith), or-false) (met p x b)

-- A leaf's pin is marked.
pub met_leaf : (rules : Rules) (pins : List Bool) (l : List ℕ) (n y : ℕ) → y < length pins → n < length l → Met rules pins (take n l) → Met rules (set pins y true) (take (n + 1) (set l n (2 + y)))
met_leaf rules pins l n y ly len met p x b =
    rw (seen_next l n (2 + y) x len) (elim (ℕ_discrete x y) [
      | yes e ↦ rw (e, eq-eqb (pin_symbol y) (2 + y) refl, or-true, get_or-set_same pins y true false ly)
      | no e ↦ rw (get_or-set_other pins y x true false e, ne_eqb (pin_symbol x) (2 + y) (λ q. e (omega arith)), or-false) (met p x b)
    ])
