-- Reading a table of rows back.
use Prim.Native.Nat.{ℕ, zero, suc, ◌+◌, ◌*◌, ◌≤◌, ◌<◌}
use mathlib.Core.Path.{◌≡◌, refl, sym, ap, ◌∙◌}
use mathlib.Core.List.{List, [], ◌∷◌, Memᴰ}
use native.Mathlib.Nat.{add-zero, zero-add, add-suc, suc-add, mul-suc, mul-add}
use native.Mathlib.Omega.{arith}
use lib.ListN.{length, get_or}
use lib.Seq.{sets, length-sets}
use Rattle.sheets_rules.specs.Inside.Layout.{table_from}
use Rattle.fields.proofs.Lists.{before_sets, in_sets}

module _ (stride : ℕ) where
  pub length_table : (l : List ℕ) (i : ℕ) (rs : List (List ℕ)) → length (table_from stride l i rs) ≡ length l
  unfolding table_from
  length_table l i [] = refl
  length_table l i (r ∷ rs) = length_table (sets l (stride * i) r) (suc i) rs ∙ length-sets l (stride * i) r

  table_before : (l : List ℕ) (i : ℕ) (rs : List (List ℕ)) (k : ℕ) → k < stride * i → get_or (table_from stride l i rs) k 0 ≡ get_or l k 0
  unfolding table_from
  table_before l i [] k h = refl
  table_before l i (r ∷ rs) k h =
      table_before (sets l (stride * i) r) (suc i) rs k (omega (arith, mul-suc stride i)) ∙ before_sets l (stride * i) r k 0 h

  row_from : (l : List ℕ) (i : ℕ) (rs : List (List ℕ)) (j c : ℕ) → ((r : List ℕ) → Memᴰ r rs → length r ≤ stride) →
      stride * (i + length rs) ≤ length l → j < length rs → c < length (get_or rs j []) →
      get_or (table_from stride l i rs) (stride * (i + j) + c) 0 ≡ get_or (get_or rs j []) c 0
  unfolding table_from
  row_from l i [] j c w h g k = absurd (omega arith)
  row_from l i (r ∷ rs) zero c w h g k =
      let few : length r ≤ stride = w r (Memᴰ.head refl) in
      ap (λ (k : ℕ). get_or (table_from stride (sets l (stride * i) r) (suc i) rs) (stride * k + c) 0) (add-zero i)
      ∙ table_before (sets l (stride * i) r) (suc i) rs (stride * i + c) (omega (arith, mul-suc stride i))
      ∙ in_sets l (stride * i) r c 0 (omega (arith, mul-add stride i (suc (length rs)), mul-suc stride (length rs))) k
  row_from l i (r ∷ rs) (suc j) c w h g k =
      ap (λ (k : ℕ). get_or (table_from stride (sets l (stride * i) r) (suc i) rs) (stride * k + c) 0) (add-suc i j ∙ sym (suc-add i j))
      ∙ row_from (sets l (stride * i) r) (suc i) rs j c (λ q m. w q (Memᴰ.tail m))
      (omega (arith, length-sets l (stride * i) r, ap (λ (k : ℕ). stride * k) (suc-add i (length rs) ∙ sym (add-suc i (length rs))))) (omega arith) k

  -- Each row is read back.
  pub row_at : (l : List ℕ) (rs : List (List ℕ)) (j c : ℕ) → ((r : List ℕ) → Memᴰ r rs → length r ≤ stride) →
      stride * length rs ≤ length l → j < length rs → c < length (get_or rs j []) →
      get_or (table_from stride l 0 rs) (stride * j + c) 0 ≡ get_or (get_or rs j []) c 0
  row_at l rs j c w h g k =
      ap (λ (i : ℕ). get_or (table_from stride l 0 rs) (stride * i + c) 0) (sym (zero-add j))
      ∙ row_from l 0 rs j c w (omega (arith, ap (λ (i : ℕ). stride * i) (zero-add (length rs)))) g k
