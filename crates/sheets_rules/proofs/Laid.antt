-- Laws about how values are laid out: arrays that a loop fills, and the table of rows.
use mathlib.Core.Path.{◌≡◌, refl, sym, ap, ap₂, ◌∙◌}
use mathlib.Core.List.{List, [], ◌∷◌, ◌++◌, map, map-append}
use Prim.Native.Nat.{ℕ, zero, suc, ◌+◌, ◌*◌, ◌≤◌, ◌<◌}
use native.Mathlib.Nat.{zero-add, add-zero, add-suc, suc-add}
use native.Mathlib.Omega.{arith}
use lib.ListN.{length, get_or, drop, set, replicate, length-map, length-replicate}
use lib.Seq.{sets, sets-eq, get_or-drop}
use Rattle.fields.specs.Reading.{Scan}
use Rattle.fields.specs.Reading.{Reader, times}
use Rattle.fields.proofs.Laws.{length_times, times_value}
use Rattle.fields.proofs.Lists.{sets_append, front_sets}
use Rattle.sheets_rules.specs.Inside.Layout.{padded, table_from}

-- One element more.
pub padded_more : {A : Type 0} (n : ℕ) (blank v : A) (xs : List A) (k : ℕ) → k ≡ length xs → set (padded n blank xs) k v ≡ padded n blank (xs ++ (v ∷ []))
padded_more n blank v xs k e = ap (λ (i : ℕ). set (padded n blank xs) i v) (e ∙ sym (zero-add (length xs))) ∙ sym (sets_append _ 0 xs (v ∷ []))

-- What a padded array holds.
pub in_padded : {A : Type 0} (n : ℕ) (blank d : A) (xs : List A) (k : ℕ) → length xs ≤ n → k < length xs → get_or (padded n blank xs) k d ≡ get_or xs k d
in_padded n blank d xs k h g = front_sets (replicate n blank) xs k d (omega (arith, length-replicate n blank)) g

-- Blanks at every place.
pub blank_at : {A : Type 0} (n k : ℕ) (blank : A) → get_or (replicate n blank) k blank ≡ blank
blank_at zero k blank = refl
blank_at (suc n) zero blank = refl
blank_at (suc n) (suc k) blank = blank_at n k blank

-- And what it holds at every place.
pub padded_whole : {A : Type 0} (n : ℕ) (blank : A) (xs : List A) (k : ℕ) → length xs ≤ n → get_or (padded n blank xs) k blank ≡ get_or xs k blank
padded_whole {A} n blank xs k h =
    ap (λ (l : List A). get_or l k blank) (sets-eq xs (replicate n blank) 0 (omega (arith, length-replicate n blank)))
    ∙ go xs (drop (0 + length xs) (replicate n blank)) k (λ j. get_or-drop (0 + length xs) (replicate n blank) j blank ∙ blank_at n (0 + length xs + j) blank)
  where
    go : (ys zs : List A) (i : ℕ) → ((j : ℕ) → get_or zs j blank ≡ blank) → get_or (ys ++ zs) i blank ≡ get_or ys i blank
    go [] zs i z = z i
    go (y ∷ ys) zs zero z = refl
    go (y ∷ ys) zs (suc i) z = go ys zs i z

pub padded_at : (n : ℕ) (xs : List ℕ) (k : ℕ) → length xs ≤ n → get_or (padded n 0 xs) k 0 ≡ get_or xs k 0
padded_at n = padded_whole n 0

-- What a loop has read so far, laid out by f, and one turn more.
module _ {A B : Type 0} (n : ℕ) (blank : B) (f : A → B) (r : List A → Reader A) (c : Scan) where
  pub filled_more : (k : ℕ) (l : List B) (v : B) → l ≡ padded n blank (map f (times k r c).0) → v ≡ f (r (times k r c).0 (times k r c).1).0 →
      set l k v ≡ padded n blank (map f (times (k + 1) r c).0)
  filled_more k l v el ev =
      ap₂ (λ (l' : List B) (v' : B). set l' k v') el ev
      ∙ padded_more n blank _ (map f (times k r c).0) k (sym (length-map (times k r c).0 f ∙ length_times k r c))
      ∙ ap (padded n blank) (sym (ap (map f) (times_value k r c) ∙ map-append f (times k r c).0 _))

pub table_append : (stride : ℕ) (l : List ℕ) (i : ℕ) (rs qs : List (List ℕ)) → table_from stride l i (rs ++ qs) ≡ table_from stride (table_from stride l i rs) (i + length rs) qs
unfolding table_from
table_append stride l i [] qs = ap (λ (k : ℕ). table_from stride l k qs) (sym (add-zero i))
table_append stride l i (x ∷ rs) qs =
    table_append stride (sets l (stride * i) x) (suc i) rs qs ∙ ap (λ (k : ℕ). table_from stride (table_from stride (sets l (stride * i) x) (suc i) rs) k qs) (suc-add i (length rs) ∙ sym (add-suc i (length rs)))
