-- The overfull node is named exactly when it is the highest with more trade-offs than allowed under a load considered there, and none is named exactly when there is none.
use Prim.Native.Nat.{ℕ, suc, ◌+◌, ◌<◌}
use mathlib.Core.Path.{◌≡◌, refl, sym, ap, ◌∙◌}
use mathlib.Core.Logic.{◌↔◌}
use mathlib.Core.Bool.{Bool, true, false, cond, false≢true}
use mathlib.Core.List.Memᴰ
use mathlib.Core.List.{List, ◌∷◌, Memᴰ}
use mathlib.Core.Option.{Option, none, some}
use native.Mathlib.Nat.{le_refl}
use native.Mathlib.Omega.{arith}
use lib.Dec.{ltb}
use lib.ListN.{length}
use borrow.Author.Tests.{lt-ltb}
use Rattle.sheets_rules.specs.Model.{Shape, leaf, inv, nand, size, Library, Tree}
use Rattle.covers.specs.Enumeration.{covers}
use Rattle.covers.specs.Tradeoff.{points, tradeoffs, TooMany, Node, nodes, considered, overfull, or_else, last_such, overfull_node}
use Rattle.covers.proofs.Basics.{tests, each, any_true, true_any}
use Rattle.covers.proofs.Ascending.{Ascending, end, then, ascending_append, ascending_range}
use Rattle.covers.proofs.Tradeoffs.{tradeoffs_climb, tradeoffs_legal, climbing_fewer}

-- Nodes are numbered in the order read.
pub nodes_ascend : (n : ℕ) (s : Shape) → Ascending (λ x. x.number) n (n + size s) (nodes n s)
unfolding nodes size
nodes_ascend n (leaf x) = then (le_refl n) (end {low = suc n} {high = n + 1} (omega arith))
nodes_ascend n (inv s) = then (le_refl n) (let e : suc n + size s ≡ n + suc (size s) = omega arith in rw e at (nodes_ascend (suc n) s))
nodes_ascend n (nand s t) = then (le_refl n) (let e : suc n + size s + size t ≡ n + suc (size s + size t) = omega arith in rw e at (ascending_append (nodes_ascend (suc n) s) (nodes_ascend (suc n + size s) t)))

-- The highest-numbered node that passes a test.
pub record Highest (test : Node → Bool) (xs : List Node) (k : ℕ) : Type 0 where
  pub node : Node
  pub among : Memᴰ node xs
  pub number : node.number ≡ k
  pub passes : test node ≡ true
  pub above : (y : Node) → Memᴰ y xs → k < y.number → test y ≡ false

pub data LastOf (test : Node → Bool) (xs : List Node) : Option ℕ → Type 0 where
  nowhere : ((y : Node) → Memᴰ y xs → test y ≡ false) → LastOf test xs none
  at : {k : ℕ} → Highest test xs k → LastOf test xs (some k)

last_of : (test : Node → Bool) {low high : ℕ} {xs : List Node} → Ascending (λ x. x.number) low high xs → LastOf test xs (last_such test xs)
unfolding last_such or_else
last_of test (end h) = nowhere (λ y m. absurd (Memᴰ.not-nil m))
last_of test (then {x = x} {xs = xs} h r) = go (test x) refl (last_of test r)
  where
    go : (b : Bool) → test x ≡ b → {o : Option ℕ} → LastOf test xs o → LastOf test (x ∷ xs) (or_else o (cond b (some x.number) none))
    go true e (nowhere a) = at record { node = x; among = Memᴰ.head refl; number = refl; passes = e; above = each {P = λ y. x.number < y.number → test y ≡ false} (λ k. absurd (omega arith)) (λ y m k. a y m) }
    go false e (nowhere a) = nowhere (each {P = λ y. test y ≡ false} e a)
    go b e (at {k = k} f) = at record { node = f.node; among = Memᴰ.tail f.among; number = f.number; passes = f.passes; above = each {P = λ y. k < y.number → test y ≡ false} (λ g. absurd (omega (arith, (ascending_range r f.among).0, f.number))) f.above }

-- What the test says of the list of trade-offs.
pub overfull_listed : (most : ℕ) (l : Library) (t : Tree) (x : Node) → (overfull most l t x ≡ true) ↔ ((load : ℕ) × Memᴰ load (considered l t x.number x.shape) × (most < length (tradeoffs l load x.number x.shape)))
unfolding overfull
overfull_listed most l t x =
    let test : ℕ → Bool = λ load. ltb most (length (tradeoffs l load x.number x.shape)) in
    let loads = considered l t x.number x.shape in
    (λ e. let r = any_true test loads e in (r.0, r.1, omega (arith, tests, r.2)), λ m. true_any test loads m.1 (lt-ltb _ _ m.2))

-- What it says of all legal covers.
pub overfull_when : (most : ℕ) (l : Library) (t : Tree) (x : Node) → (overfull most l t x ≡ true) ↔ TooMany most l t x
unfolding tradeoffs
overfull_when most l t x = (
  λ e. let r = (overfull_listed most l t x).0 e in
      record { load = r.0; among = r.1; points = tradeoffs l r.0 x.number x.shape; apart = tradeoffs_climb (points (covers l r.0 x.number x.shape)); each = λ p. (tradeoffs_legal l r.0 x.number x.shape p).0; exceeds = r.2 },
  λ m. let fewer = climbing_fewer m.apart (tradeoffs_climb (points (covers l m.load x.number x.shape))) (λ p k. (tradeoffs_legal l m.load x.number x.shape p).1 (m.each p k)) in
      (overfull_listed most l t x).1 (m.load, m.among, omega (arith, m.exceeds, fewer)),
)

-- What is named, and when nothing is.
pub overfull_named : (most : ℕ) (l : Library) (t : Tree) → LastOf (overfull most l t) (nodes 0 t.shape) (overfull_node most l t)
unfolding overfull_node
overfull_named most l t = last_of (overfull most l t) (nodes_ascend 0 t.shape)

-- Nothing else is the highest.
pub highest_unique : {test : Node → Bool} {xs : List Node} {o : Option ℕ} {k : ℕ} → LastOf test xs o → Highest test xs k → o ≡ some k
highest_unique (nowhere a) h = absurd (false≢true (sym (a h.node h.among) ∙ h.passes))
highest_unique {test} {xs} {k = k} (at {k = j} g) h = let a : j < k → ⊥ = clash g h in let b : k < j → ⊥ = clash h g in ap {B = Option ℕ} some (omega arith)
  where
    clash : {i i' : ℕ} → Highest test xs i → Highest test xs i' → i < i' → ⊥
    clash u v lt = false≢true (sym (u.above v.node v.among (rw v.number lt)) ∙ v.passes)
