-- A tree with the arrivals that links bring: which of them is too late, and that a sound tree stays sound where none is.
use Prim.Native.Nat.{ℕ, suc, ◌+◌, ◌≤◌, ◌<◌}
use mathlib.Core.Path.{◌≡◌, refl, sym, ap, ap₂, subst, ◌∙◌}
use mathlib.Core.Logic.{⊎_elim}
use mathlib.Core.Bool.{true, false≢true}
use mathlib.Core.List.Memᴰ
use mathlib.Core.List.{Memᴰ}
use mathlib.Core.Option.{Option, none, some}
use native.Mathlib.Omega.{arith}
use borrow.Author.Tests.{ltb-true, lt-ltb}
use Rattle.sheets_rules.specs.Model.{Leaf, Shape, leaf, inv, nand, size, leaves, Tree}
use Rattle.sheets_rules.specs.Inside.Sound.{SoundLeaf, SoundTree}
use Rattle.covers.proofs.Basics.{option_cases, nowhere, somewhere, first_of}
use Rattle.covers.proofs.Ascending.{Ascending, end, then, lowered, ascending_append, first_lowest}
use Rattle.part_rules.specs.Part.{leaf_nodes, put_in, known_tree}
use Rattle.part_rules.specs.Outcome.{latest_linked, is_late, late_leaf}
use Rattle.part_rules.specs.Demands.{TooLate, LowestTooLate, NoneTooLate}

-- ---- the lowest leaf that is too late

-- The leaves of a shape ascend within the numbers of its nodes.
leaves_ascend : (n : ℕ) (s : Shape) → Ascending (λ (k : ℕ). k) n (n + size s) (leaf_nodes n s)
unfolding leaf_nodes size
leaves_ascend n (leaf x) = then {low = n} {x = n} (omega arith) (end {low = suc n} {high = n + 1} (omega arith))
leaves_ascend n (inv a) = subst (λ (high : ℕ). Ascending (λ (k : ℕ). k) n high (leaf_nodes (suc n) a)) (omega arith) (lowered (omega arith) (leaves_ascend (suc n) a))
leaves_ascend n (nand a b) =
    subst (λ (high : ℕ). Ascending (λ (k : ℕ). k) n high (leaf_nodes n (nand a b))) (omega arith)
    (lowered (omega arith) (ascending_append (leaves_ascend (suc n) a) (leaves_ascend (suc n + size a) b)))

-- What is late was brought, and is over the limit; and the other way round.
late_brought : (o : Option ℕ) → is_late o ≡ true → (a : ℕ) × (o ≡ some a) × (latest_linked < a)
unfolding is_late
late_brought none e = absurd (false≢true e)
late_brought (some a) e = (a, refl, ltb-true latest_linked a e)

-- What the leaf that is named is.
pub data LateOf (f : ℕ → Option ℕ) (t : Tree) : Option ℕ → Type 0 where
  none_late : NoneTooLate f t → LateOf f t none
  lowest : {n : ℕ} → LowestTooLate f t n → LateOf f t (some n)

module _ (f : ℕ → Option ℕ) (t : Tree) where
  is_late_lem : {n : ℕ} → TooLate f t n → is_late (f n) ≡ true
  unfolding is_late
  is_late_lem h = rw h.brought (lt-ltb latest_linked h.arrival h.late)

  -- The leaf that is named is the lowest that is too late, and none is named where none is.
  pub late_of : LateOf f t (late_leaf f t)
  unfolding late_leaf
  late_of = (elim (first_of (λ n. is_late (f n)) (leaf_nodes 0 t.shape)) as (λ o x. late_leaf f t ≡ o → LateOf f t o) [
    | nowhere a ↦ λ e. none_late (λ n h. false≢true (sym (a n h.among) ∙ is_late_lem h))
    | somewhere {x = n} m h ↦ λ e.
        let (a, brought, over) = late_brought (f n) h in
        let none_below : (k : ℕ) → k < n → TooLate f t k → ⊥ = λ k below g. omega (arith, first_lowest (λ n. is_late (f n)) (leaves_ascend 0 t.shape) e g.among (is_late_lem g)) in
        lowest (record { late = record { among = m; arrival = a; brought = brought; late = over }; none_below = none_below })
  ]) refl

-- ---- a sound tree stays sound

-- Arrivals that are put in leave the nodes as they are.
pub put_size : (f : ℕ → Option ℕ) (n : ℕ) (s : Shape) → size (put_in f n s) ≡ size s
unfolding put_in size
put_size f n (leaf x) = refl
put_size f n (inv a) = ap suc (put_size f (suc n) a)
put_size f n (nand a b) = ap₂ (λ (i k : ℕ). suc (i + k)) (put_size f (suc n) a) (put_size f (suc n + size a) b)

-- Every leaf keeps its drive, and its arrival is its own or is brought; so it is sound where its own is and no late one is brought.
put_sound : (f : ℕ → Option ℕ) (n : ℕ) (s : Shape) → ((x : Leaf) → Memᴰ x (leaves s) → SoundLeaf x) → ((m a : ℕ) → Memᴰ m (leaf_nodes n s) → f m ≡ some a → a ≤ latest_linked) →
    (y : Leaf) → Memᴰ y (leaves (put_in f n s)) → SoundLeaf y
unfolding put_in leaves leaf_nodes
put_sound f n (leaf x) own brought y m =
    rw (Memᴰ.eq_of_singleton m) (option_cases (f n) (λ e. rw e (own x (Memᴰ.head refl)).0) (λ a e. rw e (brought n a (Memᴰ.head refl) e)), (own x (Memᴰ.head refl)).1)
put_sound f n (inv a) own brought y m = put_sound f (suc n) a own brought y m
put_sound f n (nand a b) own brought y m =
    ⊎_elim (put_sound f (suc n) a (λ x k. own x (Memᴰ.append_left (leaves b) k)) (λ i v k. brought i v (Memᴰ.append_left (leaf_nodes (suc n + size a) b) k)) y)
    (put_sound f (suc n + size a) b (λ x k. own x (Memᴰ.append_right (leaves a) k)) (λ i v k. brought i v (Memᴰ.append_right (leaf_nodes (suc n) a) k)) y)
    (Memᴰ.append_cases (leaves (put_in f (suc n) a)) m)

-- A sound tree to which no link brings too late an arrival is sound with the arrivals put in.
pub known_sound : {f : ℕ → Option ℕ} {t : Tree} → SoundTree t → NoneTooLate f t → SoundTree (known_tree f t)
unfolding known_tree
known_sound {f} {t} h early = record {
  load = h.load;
  required = h.required;
  size = rw (put_size f 0 t.shape) h.size;
  leaves = put_sound f 0 t.shape h.leaves (λ m a k e. let late : latest_linked < a → ⊥ = λ l. early m record { among = k; arrival = a; brought = e; late = l } in omega arith);
}
