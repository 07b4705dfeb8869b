-- A shape that stands in a row, from its first symbol; and its values in 64 settings, from those of its branches.
use Prim.Native.Nat.{ℕ, ◌+◌, ◌-◌, ◌*◌, ◌≤◌, ◌<◌, ◌^◌, min}
use mathlib.Core.Path.{◌≡◌, refl, sym, ap, ap₂, subst, ◌∙◌}
use mathlib.Core.List.Memᴰ
use mathlib.Core.List.{List, [], ◌++◌}
use native.Mathlib.Numerals.{add-one}
use native.Mathlib.Omega.{arith}
use lib.ListN.{get_or}
use lib.Bits.{bit_and, and_lt}
use Rattle.fields.proofs.Lists.{Stored, stored_head, stored_tail, stored_left, stored_right}
use Rattle.shapes_rules.specs.Shape.{leaf_symbol, symbols}
use Rattle.shapes_rules.proofs.Drawing.{length_symbols}
use Rattle.sheets_rules.specs.Model.{Leaf, pin_of, Shape, leaf, inv, nand, size, leaves}
use Rattle.functions.specs.declared.Evaluated.{Evaluated}
use Rattle.functions_rules.specs.Function.{pin_in, value}
use Rattle.functions.specs.Inside.Promises.{word_settings, Tabulates, Standing, EvaluatedIs}
use Rattle.functions_rules.proofs.Words.{bit_not, bit_and_lem}

-- ---- words

turned : {f : ℕ → ℕ} (w : ℕ) → Tabulates f w → Tabulates (λ k. 1 - f k) (2 ^ word_settings - 1 - w)
turned w t = record { small = omega arith; bits = λ k h. bit_not word_settings w k t.small h ∙ ap (λ (b : ℕ). 1 - b) (t.bits k h) }

joint : {f g : ℕ → ℕ} (v w : ℕ) → Tabulates f v → Tabulates g w → Tabulates (λ k. min (f k) (g k)) (bit_and v w)
joint v w s t = record { small = and_lt word_settings v w s.small t.small; bits = λ k h. bit_and_lem word_settings v w k ∙ ap₂ min (s.bits k h) (t.bits k h) }

-- ---- symbols

module _ {row : List ℕ} {at : ℕ} where
  leaf_symbol_lem : {x : Leaf} → Standing row at (leaf x) → get_or row at 0 ≡ 2 + pin_of x
  unfolding symbols leaves
  leaf_symbol_lem {x} s =
      let drive = (s.pinned x (Memᴰ.head refl)).1 in
      stored_head row at (leaf_symbol x) [] s.symbols_are ∙ ap (λ (k : ℕ). 2 + (k * 1048576 + x.number)) drive ∙ omega arith

  pin_small : {x : Leaf} → Standing row at (leaf x) → pin_of x < 6
  unfolding leaves
  pin_small {x} s = (s.pinned x (Memᴰ.head refl)).0

  inv_symbol_lem : {a : Shape} → Standing row at (inv a) → get_or row at 0 ≡ 0
  unfolding symbols
  inv_symbol_lem {a} s = stored_head row at 0 (symbols a) s.symbols_are

  nand_symbol_lem : {a b : Shape} → Standing row at (nand a b) → get_or row at 0 ≡ 1
  unfolding symbols
  nand_symbol_lem {a} {b} s = stored_head row at 1 (symbols a ++ symbols b) s.symbols_are

  inv_branch : {a : Shape} → Standing row at (inv a) → Standing row (at + 1) a
  unfolding symbols size leaves
  inv_branch {a} s = record {
    long = s.long;
    inside = omega (arith, s.inside);
    symbols_are = rw add-one (stored_tail row at 0 (symbols a) s.symbols_are);
    pinned = s.pinned;
  }

  -- What follows a NAND's symbol.
  branches : {a b : Shape} → Standing row at (nand a b) → Stored row (at + 1) (symbols a ++ symbols b)
  unfolding symbols
  branches {a} {b} s = rw add-one (stored_tail row at 1 (symbols a ++ symbols b) s.symbols_are)

  nand_first : {a b : Shape} → Standing row at (nand a b) → Standing row (at + 1) a
  unfolding size leaves
  nand_first {a} {b} s = record {
    long = s.long;
    inside = omega (arith, s.inside);
    symbols_are = stored_left row (at + 1) (symbols a) (symbols b) (branches s);
    pinned = λ x m. s.pinned x (Memᴰ.append_left (leaves b) m);
  }

  nand_second : {a b : Shape} → Standing row at (nand a b) → Standing row (at + 1 + size a) b
  unfolding size leaves
  nand_second {a} {b} s = record {
    long = s.long;
    inside = omega (arith, s.inside);
    symbols_are = subst (λ (k : ℕ). Stored row (at + 1 + k) (symbols b)) (length_symbols a) (stored_right row (at + 1) (symbols a) (symbols b) (branches s));
    pinned = λ x m. s.pinned x (Memᴰ.append_right (leaves a) m);
  }

  -- A shape has a first symbol inside the row.
  pub first_inside : (d : Shape) → Standing row at d → at < 46
  unfolding size
  first_inside (leaf x) s = omega (arith, s.inside)
  first_inside (inv a) s = omega (arith, s.inside)
  first_inside (nand a b) s = omega (arith, s.inside)

  -- ---- by the first symbol

  pub pin_inside : (d : Shape) → Standing row at d → 2 ≤ get_or row at 0 → get_or row at 0 - 2 < 6
  pin_inside (leaf x) s h = omega (arith, leaf_symbol_lem s, pin_small s)
  pin_inside (inv a) s h = absurd (omega (arith, inv_symbol_lem s))
  pin_inside (nand a b) s h = absurd (omega (arith, nand_symbol_lem s))

  pub leaf_evaluated : (w : ℕ) → 2 ≤ get_or row at 0 → Tabulates (λ k. pin_in k (get_or row at 0 - 2)) w → (d : Shape) → Standing row at d → EvaluatedIs at d (record { word = w; next = at + 1 })
  unfolding value size
  leaf_evaluated w h t (leaf x) s =
      let e : get_or row at 0 - 2 ≡ pin_of x = omega (arith, leaf_symbol_lem s) in
      record { values = subst (λ (p : ℕ). Tabulates (λ k. pin_in k p) w) e t; next_is = refl }
  leaf_evaluated w h t (inv a) s = absurd (omega (arith, inv_symbol_lem s))
  leaf_evaluated w h t (nand a b) s = absurd (omega (arith, nand_symbol_lem s))

  pub branch_stands : (d : Shape) → Standing row at d → get_or row at 0 < 2 → (a : Shape) × Standing row (at + 1) a
  branch_stands (leaf x) s h = absurd (omega (arith, leaf_symbol_lem s))
  branch_stands (inv a) s h = (a, inv_branch s)
  branch_stands (nand a b) s h = (a, nand_first s)

  -- What an evaluation of the first branch found.
  module _ (r : Evaluated) (first : (a : Shape) → Standing row (at + 1) a → EvaluatedIs (at + 1) a r) where
    pub inv_evaluated : get_or row at 0 ≡ 0 → (d : Shape) → Standing row at d → EvaluatedIs at d (record { word = 2 ^ word_settings - 1 - r.word; next = r.next })
    unfolding value size
    inv_evaluated h (leaf x) s = absurd (omega (arith, leaf_symbol_lem s))
    inv_evaluated h (inv a) s = let e = first a (inv_branch s) in record { values = turned r.word e.values; next_is = omega (arith, e.next_is) }
    inv_evaluated h (nand a b) s = absurd (omega (arith, nand_symbol_lem s))

    pub second_stands : (d : Shape) → Standing row at d → get_or row at 0 < 2 → (get_or row at 0 ≡ 0 → ⊥) → (at < r.next) × ((b : Shape) × Standing row r.next b)
    second_stands (leaf x) s h g = absurd (omega (arith, leaf_symbol_lem s))
    second_stands (inv a) s h g = absurd (g (inv_symbol_lem s))
    second_stands (nand a b) s h g = let e = (first a (nand_first s)).next_is in (omega (arith, e), (b, subst (λ (k : ℕ). Standing row k b) (sym e) (nand_second s)))

    pub nand_evaluated : (q : Evaluated) → ((b : Shape) → Standing row r.next b → EvaluatedIs r.next b q) → get_or row at 0 < 2 → (get_or row at 0 ≡ 0 → ⊥) →
        (d : Shape) → Standing row at d → EvaluatedIs at d (record { word = 2 ^ word_settings - 1 - bit_and r.word q.word; next = q.next })
    unfolding value size
    nand_evaluated q second h g (leaf x) s = absurd (omega (arith, leaf_symbol_lem s))
    nand_evaluated q second h g (inv a) s = absurd (g (inv_symbol_lem s))
    nand_evaluated q second h g (nand a b) s =
        let e = first a (nand_first s) in
        let f = second b (subst (λ (k : ℕ). Standing row k b) (sym e.next_is) (nand_second s)) in
        record { values = turned (bit_and r.word q.word) (joint r.word q.word e.values f.values); next_is = omega (arith, e.next_is, f.next_is) }
