-- A walk as it is kept: coming to a node, and taking the first of what is to be covered.
use Prim.Native.Nat.{ℕ, zero, suc, ◌+◌, ◌-◌, ◌/◌, ◌%◌, ◌^◌, ◌≤◌, ◌<◌, max}
use mathlib.Core.Path.{◌≡◌, refl, sym, ap, subst, ◌∙◌}
use mathlib.Core.Bool.{Bool, true, false, cond}
use mathlib.Core.List.{List, [], ◌∷◌}
use native.Mathlib.Omega.{arith}
use lib.ListN.{length, get_or, set, length-set, length-replicate}
use lib.Seq.{get_or-set_same, get_or-set_other}
use Rattle.std.proofs.Math.Nat.{max_comm}
use lib.Dec.{eqb}
use lib.Pow.{pow_pos}
use borrow.Author.Tests.{lt-ltb, le-ltb}
use Rattle.sheets_rules.specs.Model.{Leaf, Shape, leaf, inv, nand, nands}
use Rattle.covers.specs.Crossing.{crossing_limit, is_crossing}
use Rattle.covers.specs.Cover.{Point, beside, late, raised, leaf_arrival, leaf_point}
use Rattle.fields.specs.Answer.{refused, success}
use Rattle.covers.specs.Tradeoff.{same}
use Rattle.covers.proofs.Points.{same_true, same_refl}
use Rattle.judge_rules.specs.Walk.{Uncovered, Walk, visited}
use Rattle.judge_rules.specs.Judgement.{figures_number, figures}
use Rattle.judge.specs.declared.WalkRecord.{WalkRecord}
use Rattle.judge.specs.declared.Waiting.{Waiting}
use Rattle.judge.specs.Inside.Promises.{waiting_of, none_waits, uncovered, nothing_yet, arrived, pushed, Popped, Stacked, WalkStored}
use Rattle.leaves.specs.Inside.Leaf.{leaf_of, Heads}
use Rattle.leaves.proofs.Symbols.{leaf_told}

pub kept_nothing : WalkStored (record { left = []; point = record { area = 0; arrival = 0 } }) nothing_yet
kept_nothing = record { area_is = refl; arrival_is = refl; count_is = refl; stacked = tt; waiting_long = length-replicate {A = Waiting} 64 none_waits }

-- What is written beyond them leaves the entries as they are.
stacked_set : (is : List Waiting) (k : ℕ) (i : Waiting) (os : List Uncovered) → length os ≤ k → Stacked is os → Stacked (set is k i) os
stacked_set is k i [] h s = tt
stacked_set is k i (o ∷ os) h s = (get_or-set_other is k (length os) i none_waits (λ e. omega arith) ∙ s.0, stacked_set is k i os (omega arith) s.1)

module _ {w : Walk} {r : WalkRecord} (k : WalkStored w r) where
  kept_pushed : r.count < 64 → (i : Waiting) (s : Shape) → WalkStored (record { left = uncovered i s ∷ w.left; point = w.point }) (pushed r i)
  kept_pushed h i s = record {
    area_is = k.area_is;
    arrival_is = k.arrival_is;
    count_is = omega (arith, k.count_is);
    stacked = (
      ap (λ (j : ℕ). get_or (set r.waiting r.count i) j none_waits) (sym k.count_is) ∙ get_or-set_same r.waiting r.count i none_waits (omega (arith, k.waiting_long)),
      stacked_set r.waiting r.count i w.left (omega (arith, k.count_is)) k.stacked,
    );
    waiting_long = length-set r.waiting r.count i ∙ k.waiting_long;
  }

  -- A node with a symbol: a leaf arrives, an inverter or NAND is to be covered.
  pub visit_arrived : (symbol : ℕ) (i : Waiting) (t : ℕ) (s : Shape) → Heads symbol s → 2 ≤ symbol → t ≡ leaf_arrival (leaf_of symbol) i.load → WalkStored (visited i.load i.delay i.node s w) (arrived r (t + i.delay))
  unfolding visited beside late leaf_point
  visit_arrived symbol i t (leaf x) e h f =
      let read : t ≡ leaf_arrival x i.load = f ∙ ap (λ (y : Leaf). leaf_arrival y i.load) (leaf_told symbol x e) in
      record {
        area_is = omega (arith, k.area_is);
        arrival_is = max_comm r.arrival (t + i.delay) ∙ (λ d. max (read d + i.delay) (k.arrival_is d));
        count_is = k.count_is;
        stacked = k.stacked;
        waiting_long = k.waiting_long;
      }
  visit_arrived symbol i t (inv s) e h f = absurd (omega arith)
  visit_arrived symbol i t (nand s u) e h f = absurd (omega arith)

  pub visit_pushed : (symbol : ℕ) (i : Waiting) (s : Shape) → Heads symbol s → symbol < 2 → r.count < 64 → WalkStored (visited i.load i.delay i.node s w) (pushed r i)
  unfolding visited
  visit_pushed symbol i (leaf x) e h f = absurd (omega arith)
  visit_pushed symbol i (inv s) e h f = kept_pushed f i (inv s)
  visit_pushed symbol i (nand s u) e h f = kept_pushed f i (nand s u)

-- What was taken from what is kept was the first, and the walk without it is kept.
pub record FirstTaken (w : Walk) (i : Waiting) (r : WalkRecord) : Type 0 where
  pub shape : Shape
  pub others : List Uncovered
  pub first : w.left ≡ uncovered i shape ∷ others
  pub kept : WalkStored (record { left = others; point = w.point }) r

pub first_taken : {w : Walk} {r q : WalkRecord} {i : Waiting} → WalkStored w r → Popped r i q → FirstTaken w i q
first_taken {w} {r} {q} {i} k p = go w.left refl
  where
    go : (us : List Uncovered) → w.left ≡ us → FirstTaken w i q
    go [] e = absurd (omega (arith, k.count_is, p.some_waits, ap length e))
    go (o ∷ os) e =
        let stacked : Stacked r.waiting (o ∷ os) = subst (Stacked r.waiting) e k.stacked in
        let top : r.count - 1 ≡ length os = omega (arith, k.count_is, ap length e) in
        let is : i ≡ waiting_of o = p.last_is ∙ ap (λ (j : ℕ). get_or r.waiting j none_waits) top ∙ stacked.0 in
        record {
          shape = o.shape;
          others = os;
          first = e ∙ ap (λ (j : Waiting). uncovered j o.shape ∷ os) (sym is);
          kept = subst (WalkStored (record { left = os; point = w.point })) (sym p.popped_is)
              (record { area_is = k.area_is; arrival_is = k.arrival_is; count_is = top; stacked = stacked.1; waiting_long = k.waiting_long });
        }

-- Nothing is kept of a walk that has nothing left to cover, and only then.
pub none_left : {w : Walk} {r : WalkRecord} → WalkStored w r → r.count ≡ 0 → w.left ≡ []
none_left {w} k e = go w.left refl
  where
    go : (us : List Uncovered) → w.left ≡ us → w.left ≡ []
    go [] f = f
    go (o ∷ os) f = absurd (omega (arith, k.count_is, ap length f))

-- The area of a match more.
pub kept_raised : {w : Walk} {r : WalkRecord} (area : ℕ) → WalkStored w r → WalkStored (record { left = w.left; point = raised area w.point }) (record { area = r.area + area; arrival = r.arrival; count = r.count; waiting = r.waiting })
unfolding raised
kept_raised area k = record { area_is = omega (arith, k.area_is); arrival_is = k.arrival_is; count_is = k.count_is; stacked = k.stacked; waiting_long = k.waiting_long }

-- ---- a crossing's bits

pub crossing_large : (d : Shape) (x : ℕ) → crossing_limit ≤ x → false ≡ is_crossing d x
unfolding is_crossing
crossing_large d x h = rw (le-ltb x crossing_limit h)

-- How many numbers the five bits without the first n make.
numbers_left : (n : ℕ) → n ≤ 5 → crossing_limit / 2 ^ n ≡ 2 ^ (5 - n)
numbers_left zero h = refl
numbers_left (suc zero) h = refl
numbers_left (suc (suc zero)) h = refl
numbers_left (suc (suc (suc zero))) h = refl
numbers_left (suc (suc (suc (suc zero)))) h = refl
numbers_left (suc (suc (suc (suc (suc zero))))) h = refl
numbers_left (suc (suc (suc (suc (suc (suc n)))))) h = absurd (omega arith)

pub some_left : (n : ℕ) → n ≤ 5 → 0 < crossing_limit / 2 ^ n
some_left n h = rw (numbers_left n h) (pow_pos (5 - n))

pub crossing_tested : (d : Shape) (n x : ℕ) → n ≤ 5 → n ≡ nands d → x < crossing_limit → eqb (x % (crossing_limit / 2 ^ n)) 0 ≡ is_crossing d x
unfolding is_crossing
crossing_tested d n x few e h = rw (lt-ltb x crossing_limit h, numbers_left n few, e)

-- ---- stated figures

pub figures_true : {found stated : Point} → found ≡ stated → success found ≡ figures stated (success found)
unfolding figures
figures_true {found} {stated} e = sym (ap (λ (b : Bool). cond b (success found) (refused figures_number 0)) (ap (same found) (sym e) ∙ same_refl found))

pub figures_false : {found stated : Point} → (found ≡ stated → ⊥) → refused figures_number 0 ≡ figures stated (success found)
unfolding figures
figures_false {found} {stated} h = go (same found stated) refl
  where
    go : (b : Bool) → same found stated ≡ b → refused figures_number 0 ≡ cond b (success found) (refused figures_number 0)
    go true f = absurd (h (same_true found stated f))
    go false f = refl
