-- The nodes of a tree: inputs of a match are nodes below it, and nodes and leaves of a subtree are the tree's.
use Prim.Native.Nat.{ℕ, suc, ◌+◌, ◌≤◌, ◌<◌}
use mathlib.Core.Path.{◌≡◌, refl}
use mathlib.Core.Logic.{⊎_elim}
use mathlib.Core.List.Memᴰ
use mathlib.Core.List.{List, ◌++◌, Memᴰ}
use mathlib.Core.Option.{some, none-ne-some}
use native.Mathlib.Omega.{arith}
use Rattle.sheets_rules.specs.Model.{Leaf, pin_of, Shape, leaf, inv, nand, size, leaves, Library}
use Rattle.covers.specs.Crossing.{redrawn}
use Rattle.covers.specs.Match.{Input, laid, matched, Match, IsMatch}
use Rattle.covers.specs.Tradeoff.{Node, nodes}
use Rattle.covers.proofs.Basics.{lt_or_le}
use Rattle.covers.proofs.Matching.{Whenever, never, holds, whenever, implied, joined_whenever}

abbrev pub node_of : Input → Node
node_of i = record { number = i.node; shape = i.shape }

-- All inputs are among these nodes.
abbrev AllIn : List Node → List Input → Type 0
AllIn xs is = (i : Input) → Memᴰ i is → Memᴰ (node_of i) xs

pub root_in : (n : ℕ) (s : Shape) → Memᴰ (record { number = n; shape = s }) (nodes n s)
unfolding nodes
root_in n (leaf x) = Memᴰ.head refl
root_in n (inv t) = Memᴰ.head refl
root_in n (nand t u) = Memᴰ.head refl

append_map : {A B : Type 0} {a : A} {b : B} (s : List A) {t : List A} {s' t' : List B} →
    (Memᴰ a s → Memᴰ b s') → (Memᴰ a t → Memᴰ b t') → Memᴰ a (s ++ t) → Memᴰ b (s' ++ t')
append_map s {s' = s'} {t' = t'} f g m = ⊎_elim (λ j. Memᴰ.append_left t' (f j)) (λ j. Memᴰ.append_right s' (g j)) (Memᴰ.append_cases s m)

laid_in : (p : Shape) (n : ℕ) (s : Shape) → Whenever (AllIn (nodes n s)) (laid p n s)
unfolding laid nodes
laid_in (leaf x) n s = holds (λ i m. let e : i ≡ record { pin = pin_of x; node = n; shape = s } = Memᴰ.eq_of_singleton m in rw e (root_in n s))
laid_in (inv p) n (leaf x) = never
laid_in (inv p) n (inv t) = implied (λ is h i m. Memᴰ.tail (h i m)) (laid_in p (suc n) t)
laid_in (inv p) n (nand t u) = never
laid_in (nand p q) n (leaf x) = never
laid_in (nand p q) n (inv t) = never
laid_in (nand p q) n (nand t u) = joined_whenever (λ is js h k i m. Memᴰ.tail (append_map is (h i) (k i) m)) (laid_in p (suc n) t) (laid_in q (suc n + size t) u)

-- Each input of a match at a node is a node of its subtree.
pub fits_in : (p : Shape) (n : ℕ) (s : Shape) (is : List Input) → matched p n s ≡ some is → (i : Input) → Memᴰ i is → Memᴰ (node_of i) (nodes n s)
unfolding matched
fits_in (leaf x) n s is e = absurd (none-ne-some _ e)
fits_in (inv p) n s is e = whenever (laid_in (inv p) n s) e
fits_in (nand p q) n s is e = whenever (laid_in (nand p q) n s) e

pub input_in : {l : Library} {load n : ℕ} {s : Shape} {m : Match} → IsMatch l load n s m → (i : Input) → Memᴰ i m.inputs → Memᴰ (node_of i) (nodes n s)
input_in {n} {s} {m} h = fits_in (redrawn m.crossing m.pattern.drawing) n s m.inputs h.fits

-- A node of a node's subtree is a node of the tree.
pub nodes_within : {x : Node} (n : ℕ) (s : Shape) → Memᴰ x (nodes n s) → {y : Node} → Memᴰ y (nodes x.number x.shape) → Memᴰ y (nodes n s)
unfolding nodes
nodes_within n (leaf z) m k = rw (Memᴰ.eq_of_singleton m) at k
nodes_within n (inv s) m k = ⊎_elim (λ e. rw e at k) (λ j. Memᴰ.tail (nodes_within (suc n) s j k)) (Memᴰ.cases_cons m)
nodes_within n (nand s t) m k = ⊎_elim (λ e. rw e at k) (λ i. Memᴰ.tail (append_map (nodes (suc n) s) (λ j. nodes_within (suc n) s j k) (λ j. nodes_within (suc n + size s) t j k) i)) (Memᴰ.cases_cons m)

-- The leaves of a node's subtree are leaves of the tree.
pub leaves_within : {x : Node} (n : ℕ) (s : Shape) → Memᴰ x (nodes n s) → {a : Leaf} → Memᴰ a (leaves x.shape) → Memᴰ a (leaves s)
unfolding nodes leaves
leaves_within n (leaf z) m k = rw (Memᴰ.eq_of_singleton m) at k
leaves_within n (inv s) m k = ⊎_elim (λ e. rw e at k) (λ j. leaves_within (suc n) s j k) (Memᴰ.cases_cons m)
leaves_within n (nand s t) m k = ⊎_elim (λ e. rw e at k) (λ i. append_map (nodes (suc n) s) (λ j. leaves_within (suc n) s j k) (λ j. leaves_within (suc n + size s) t j k) i) (Memᴰ.cases_cons m)

-- A node's subtree ends within the tree.
pub node_ends : {x : Node} (n : ℕ) (s : Shape) → Memᴰ x (nodes n s) → x.number + size x.shape ≤ n + size s
unfolding nodes size
node_ends n (leaf z) m = rw (Memᴰ.eq_of_singleton m) (omega arith)
node_ends n (inv s) m = ⊎_elim (λ e. rw e (omega arith)) (λ j. omega (arith, node_ends (suc n) s j)) (Memᴰ.cases_cons m)
node_ends n (nand s t) m =
    ⊎_elim (λ e. rw e (omega arith))
    (λ i. ⊎_elim (λ j. omega (arith, node_ends (suc n) s j)) (λ j. omega (arith, node_ends (suc n + size s) t j)) (Memᴰ.append_cases (nodes (suc n) s) i)) (Memᴰ.cases_cons m)

-- Every number of a subtree is that of a node of it.
pub node_at : (n : ℕ) (s : Shape) (k : ℕ) → n ≤ k → k < n + size s → (x : Shape) × Memᴰ (record { number = k; shape = x }) (nodes n s)
unfolding nodes size
node_at n (leaf z) k h g = let e : k ≡ n = omega arith in (leaf z, rw e (Memᴰ.head refl))
node_at n (inv s) k h g = ⊎_elim (λ l. let r = node_at (suc n) s k l (omega arith) in (r.0, Memᴰ.tail r.1)) (λ l. let e : k ≡ n = omega arith in (inv s, rw e (Memᴰ.head refl))) (lt_or_le n k)
node_at n (nand s t) k h g =
    ⊎_elim (λ l. ⊎_elim (λ m. let r = node_at (suc n) s k l m in (r.0, Memᴰ.tail (Memᴰ.append_left (nodes (suc n + size s) t) r.1)))
    (λ m. let r = node_at (suc n + size s) t k m (omega arith) in (r.0, Memᴰ.tail (Memᴰ.append_right (nodes (suc n) s) r.1))) (lt_or_le k (suc n + size s)))
    (λ l. let e : k ≡ n = omega arith in (nand s t, rw e (Memᴰ.head refl))) (lt_or_le n k)
