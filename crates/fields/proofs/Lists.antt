-- Laws about lists: runs written from a place on, elements at their places, lists of zeros.
use mathlib.Core.Path.{◌≡◌, refl, sym, ap, ◌∙◌}
use mathlib.Core.List.{List, [], ◌∷◌, ◌++◌, map, append_assoc, Memᴰ}
use Prim.Native.Nat.{ℕ, zero, suc, ◌+◌, ◌≤◌, ◌<◌}
use native.Mathlib.Nat.{add-zero, zero-add, add-suc, suc-add, add_assoc}
use native.Mathlib.Omega.{arith}
use lib.ListN.{length, get_or, take, drop, set, length-append, length-drop, length-set, take-append-drop, get_or-append}
use lib.Seq.{sets, get_or-set_same, get_or-set_other, sets-eq, set_comm, take_at, length-take-le, drop-append-le, drop-drop, get_or-append-add}
use borrow.Rule.Slice.PartMut.{put_mid}
pub use Rattle.bits.proofs.Words.{zeros_at}

module _ {A : Type 0} where
  -- One run after another is one run.
  pub sets_append : (l : List A) (i : ℕ) (xs ys : List A) → sets l i (xs ++ ys) ≡ sets (sets l i xs) (i + length xs) ys
  sets_append l i [] ys = ap (λ (k : ℕ). sets l k ys) (sym (add-zero i))
  sets_append l i (x ∷ xs) ys = rw (add-suc i (length xs), ← (suc-add i (length xs))) (sets_append (set l i x) (suc i) xs ys)

  -- What stands before a run may be written after it.
  pub set_sets : (l : List A) (i j : ℕ) (v : A) (xs : List A) → j < i → set (sets l i xs) j v ≡ sets (set l j v) i xs
  set_sets l i j v [] h = refl
  set_sets l i j v (x ∷ xs) h = rw (← (set_comm l i j x v (λ e. omega arith))) (set_sets (set l i x) (suc i) j v xs (omega arith))

  -- The first elements after a run are those before it and the run.
  pub take_sets : (l : List A) (i : ℕ) (xs : List A) → i + length xs ≤ length l → take (i + length xs) (sets l i xs) ≡ take i l ++ xs
  take_sets l i xs h =
      rw (sets-eq xs l i h)
      (take_at (take i l ++ xs) _ (i + length xs) (length-append (take i l) xs ∙ ap (λ (k : ℕ). k + length xs) (length-take-le i l (omega arith))))

  -- A run that was written into a part that was lent stands in the whole.
  pub mid_sets : (l : List A) (a k : ℕ) (xs : List A) → a + k ≤ length l → length xs ≤ k → put_mid a k l (sets (take k (drop a l)) 0 xs) ≡ sets l a xs
  mid_sets l a k xs h g =
      let d = drop a l in
      let part : length (take k d) ≡ k = length-take-le k d (omega (arith, length-drop a l)) in
      let rest : drop (length xs) (take k d) ++ drop k d ≡ drop (a + length xs) l =
      sym (drop-append-le (length xs) (take k d) (drop k d) (omega arith)) ∙ ap (drop (length xs)) (take-append-drop k d) ∙ drop-drop (length xs) a l in
      rw (sets-eq xs (take k d) 0 (omega arith), sets-eq xs l a (omega arith), zero-add, ← rest)
      (simp append_assoc)

  pub at_mem : (l : List A) (k : ℕ) (d : A) → k < length l → Memᴰ (get_or l k d) l
  at_mem [] k d h = absurd (omega arith)
  at_mem (x ∷ l) zero d h = Memᴰ.head refl
  at_mem (x ∷ l) (suc k) d h = Memᴰ.tail (at_mem l k d (omega arith))

  -- A run does not change what stands before it, and its own elements stand in it.
  pub before_sets : (l : List A) (i : ℕ) (xs : List A) (k : ℕ) (d : A) → k < i → get_or (sets l i xs) k d ≡ get_or l k d
  before_sets l i [] k d h = refl
  before_sets l i (x ∷ xs) k d h = before_sets (set l i x) (suc i) xs k d (omega arith) ∙ get_or-set_other l i k x d (λ e. absurd (omega arith))

  pub in_sets : (l : List A) (i : ℕ) (xs : List A) (c : ℕ) (d : A) → i + length xs ≤ length l → c < length xs → get_or (sets l i xs) (i + c) d ≡ get_or xs c d
  in_sets l i [] c d h g = absurd (omega arith)
  in_sets l i (x ∷ xs) zero d h g = rw (add-zero, before_sets (set l i x) (suc i) xs i d (omega arith), get_or-set_same l i x d (omega arith))
  in_sets l i (x ∷ xs) (suc c) d h g = rw (add-suc i c, ← (suc-add i c)) (in_sets (set l i x) (suc i) xs c d (omega (arith, length-set l i x)) (omega arith))

  pub front_sets : (l xs : List A) (c : ℕ) (d : A) → length xs ≤ length l → c < length xs → get_or (sets l 0 xs) c d ≡ get_or xs c d
  front_sets l xs c d h g = ap (λ (k : ℕ). get_or (sets l 0 xs) k d) (sym (zero-add c)) ∙ in_sets l 0 xs c d (omega arith) g

  pub at_map : {B : Type 0} (f : A → B) (l : List A) (k : ℕ) (d : A) (e : B) → k < length l → get_or (map f l) k e ≡ f (get_or l k d)
  at_map f [] k d e h = absurd (omega arith)
  at_map f (x ∷ l) zero d e h = refl
  at_map f (x ∷ l) (suc k) d e h = at_map f l k d e (omega arith)

-- A list stands in another from place i on.
abbrev pub Stored : List ℕ → ℕ → List ℕ → Type 0
Stored l i xs = (k : ℕ) → k < length xs → get_or l (i + k) 0 ≡ get_or xs k 0

pub stored_head : (l : List ℕ) (i x : ℕ) (xs : List ℕ) → Stored l i (x ∷ xs) → get_or l i 0 ≡ x
stored_head l i x xs h = ap (λ (k : ℕ). get_or l k 0) (sym (add-zero i)) ∙ h 0 (omega arith)

pub stored_tail : (l : List ℕ) (i x : ℕ) (xs : List ℕ) → Stored l i (x ∷ xs) → Stored l (suc i) xs
stored_tail l i x xs h k g = ap (λ (j : ℕ). get_or l j 0) (suc-add i k ∙ sym (add-suc i k)) ∙ h (suc k) (omega arith)

pub stored_left : (l : List ℕ) (i : ℕ) (xs ys : List ℕ) → Stored l i (xs ++ ys) → Stored l i xs
stored_left l i xs ys h k g = h k (omega (arith, length-append xs ys)) ∙ get_or-append xs ys 0 k g

pub stored_right : (l : List ℕ) (i : ℕ) (xs ys : List ℕ) → Stored l i (xs ++ ys) → Stored l (i + length xs) ys
stored_right l i xs ys h k g = rw add_assoc (h (length xs + k) (omega (arith, length-append xs ys)) ∙ get_or-append-add xs ys k 0)
