-- What `BillIs` says fixes a bill.
use Prim.Native.Nat.{ℕ, suc, ◌<◌}
use mathlib.Core.Path.{◌≡◌, refl, sym, ap, ap₂, ◌∙◌}
use mathlib.Core.Logic.{◌↔◌}
use mathlib.Core.List.Memᴰ
use mathlib.Core.List.{List, [], ◌∷◌, map, Memᴰ}
use native.Mathlib.Omega.{arith}
use lib.IntN.{ℤ, pos, ◌-ℤ◌, +ℤ-neg_ℤ_cancel}
use lib.ListN.{length, get_or, length-map}
use Rattle.sheets_rules.specs.Model.{Library, Tree}
use Rattle.covers.specs.Cover.{Cover}
use Rattle.bill_rules.specs.Bill.{Entry, Bill, entry_of}
use Rattle.bill_rules.specs.Demands.{BillIs, cells_of}

-- Numbers of which each is above those before it.
Rises : List ℕ → Type 0
Rises ns = (j k : ℕ) → j < k → k < length ns → get_or ns j 0 < get_or ns k 0

Above : ℕ → List ℕ → Type 0
Above n ns = (k : ℕ) → k < length ns → n < get_or ns k 0

above : {n m : ℕ} {ns : List ℕ} → Above n ns → Memᴰ m ns → n < m
unfolding Above
above h (Memᴰ.head e) = rw e (h 0 (omega arith))
above h (Memᴰ.tail i) = above (λ k l. h (suc k) (omega arith)) i

-- Two such lists of the same numbers are one.
module _ (m n : ℕ) (ms ns : List ℕ) where
  same_heads : Above m ms → Above n ns → Memᴰ m (n ∷ ns) → Memᴰ n (m ∷ ms) → m ≡ n
  same_heads a b (Memᴰ.head e) j = e
  same_heads a b (Memᴰ.tail i) (Memᴰ.head e) = sym e
  same_heads a b (Memᴰ.tail i) (Memᴰ.tail j) = absurd (omega (arith, above a j, above b i))

  in_tail : {k : ℕ} → m ≡ n → m < k → Memᴰ k (n ∷ ns) → Memᴰ k ns
  in_tail e h (Memᴰ.head f) = absurd (omega arith)
  in_tail e h (Memᴰ.tail i) = i

same_numbers : (ms ns : List ℕ) → Rises ms → Rises ns → ((k : ℕ) → Memᴰ k ms ↔ Memᴰ k ns) → ms ≡ ns
unfolding Rises Above
same_numbers [] [] r s e = refl
same_numbers (m ∷ ms) [] r s e = absurd (Memᴰ.not-nil ((e m).0 (Memᴰ.head refl)))
same_numbers [] (n ∷ ns) r s e = absurd (Memᴰ.not-nil ((e n).1 (Memᴰ.head refl)))
same_numbers (m ∷ ms) (n ∷ ns) r s e =
    let a : Above m ms = λ k l. r 0 (suc k) (omega arith) (omega arith) in
    let b : Above n ns = λ k l. s 0 (suc k) (omega arith) (omega arith) in
    let h : m ≡ n = same_heads m n ms ns a b ((e m).0 (Memᴰ.head refl)) ((e n).1 (Memᴰ.head refl)) in
    ap₂ ◌∷◌ h (same_numbers ms ns (λ j k h l. r (suc j) (suc k) (omega arith) (omega arith)) (λ j k h l. s (suc j) (suc k) (omega arith) (omega arith)) (λ k. (λ i. in_tail m n ms ns h (above a i) ((e k).0 (Memᴰ.tail i)), λ i. in_tail n m ns ms (sym h) (above b i) ((e k).1 (Memᴰ.tail i)))))

-- Lines that are known from their cells are known from the list of these.
by_cells : (line : ℕ → Entry) (es : List Entry) → ((e : Entry) → Memᴰ e es → e ≡ line e.cell) → es ≡ map line (map (λ e. e.cell) es)
by_cells line [] h = refl
by_cells line (e ∷ es) h = ap₂ ◌∷◌ (h e (Memᴰ.head refl)) (by_cells line es (λ x m. h x (Memᴰ.tail m)))

module _ {l : Library} {t : Tree} {c : Cover} where
  entry_is : {b : Bill} → BillIs l t c b → (e : Entry) → Memᴰ e b.entries → e ≡ entry_of l c.placed e.cell
  unfolding entry_of
  entry_is h e m = rw (← h.counted e m, ← h.amounted e m)

  margin_fixed : {b : Bill} → BillIs l t c b → b.margin ≡ pos t.required -ℤ pos c.point.arrival
  margin_fixed {b} h = sym (+ℤ-neg_ℤ_cancel b.margin (pos c.point.arrival)) ∙ ap (λ (z : ℤ). z -ℤ pos c.point.arrival) h.margin_is

  rises : {b : Bill} → BillIs l t c b → Rises (cells_of b)
  unfolding Rises
  rises {b} h j k up below = h.ascending j k up (omega (arith, length-map b.entries (λ e. e.cell)))

  pub bill_fixed : {b b' : Bill} → BillIs l t c b → BillIs l t c b' → b ≡ b'
  bill_fixed {b} {b'} h h' =
      let cells : cells_of b ≡ cells_of b' = same_numbers (cells_of b) (cells_of b') (rises h) (rises h') (λ n. (λ m. (h'.used n).1 ((h.used n).0 m), λ m. (h.used n).1 ((h'.used n).0 m))) in
      let line = entry_of l c.placed in
      let lines : b.entries ≡ b'.entries = by_cells line b.entries (entry_is h) ∙ ap (map line) cells ∙ sym (by_cells line b'.entries (entry_is h')) in
      let made : Bill → Bill = λ x. record { entries = x.entries; total = x.total; margin = x.margin } in
      let same : made b ≡ made b' = cc (margin_fixed h, margin_fixed h') in
      same
