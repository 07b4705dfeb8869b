-- How great the symbols of a decoded tree are, and what a leaf's symbol says.
use Prim.Native.Nat.{ℕ, suc, ◌-◌, ◌/◌, ◌%◌, ◌≤◌, ◌<◌}
use mathlib.Core.Path.{◌≡◌, refl}
use mathlib.Core.Logic.{◌⊎◌, inl, inr, ⊎_elim}
use mathlib.Core.List.Memᴰ
use mathlib.Core.List.{List, [], ◌∷◌, Memᴰ}
use native.Mathlib.Decide.{ℕ_discrete}
use native.Mathlib.Omega.{arith}
use lib.ListN.{length, get_or, set, replicate}
use lib.Seq.{sets, get_or-set_same, get_or-set_other, set_out}
use Rattle.fields.proofs.Lists.{zeros_at}
use Rattle.shapes_rules.specs.Shape.{drive_unit, leaf_symbol, symbols as symbolsOf}
use Rattle.sheets_rules.specs.Inside.Sound.{SoundLeaf}
use Rattle.sheets_rules.specs.Model.{Leaf, Shape, leaf, inv, nand, leaves}
use Rattle.sheets_rules.specs.Inside.Layout.{padded}
use Rattle.covers.proofs.Basics.{lt_or_le}
use Rattle.leaves.specs.Inside.Leaf.{Heads, leaf_of, symbol_limit}

-- No word of a list is above a bound, written into or not.
sets_most : (b : ℕ) (l : List ℕ) (i : ℕ) (xs : List ℕ) → ((k : ℕ) → get_or l k 0 ≤ b) → ((x : ℕ) → Memᴰ x xs → x ≤ b) → (k : ℕ) → get_or (sets l i xs) k 0 ≤ b
sets_most b l i [] h g = h
sets_most b l i (x ∷ xs) h g = sets_most b (set l i x) (suc i) xs (λ k. go k (ℕ_discrete k i) (lt_or_le i (length l))) (λ y m. g y (Memᴰ.tail m))
  where
    go : (k : ℕ) → Dec (k ≡ i) → (i < length l) ⊎ (length l ≤ i) → get_or (set l i x) k 0 ≤ b
    go k (no n) z = rw (get_or-set_other l i k x 0 n) (h k)
    go k (yes e) (inl z) = rw (e, get_or-set_same l i x 0 z) (g x (Memᴰ.head refl))
    go k (yes e) (inr z) = rw (set_out l i x z) (h k)

-- The leaves of a sound tree.
abbrev pub SoundLeaves : Shape → Type 0
SoundLeaves s = (x : Leaf) → Memᴰ x (leaves s) → SoundLeaf x

symbol_most : (s : Shape) → SoundLeaves s → (y : ℕ) → Memᴰ y (symbolsOf s) → y ≤ symbol_limit
unfolding leaves symbolsOf
symbol_most (leaf x) h y m = let e : y ≡ leaf_symbol x = Memᴰ.eq_of_singleton m in omega (arith, h x (Memᴰ.head refl))
symbol_most (inv s) h y m = ⊎_elim (λ e. omega arith) (λ j. symbol_most s h y j) (Memᴰ.cases_cons m)
symbol_most (nand s t) h y m =
    ⊎_elim (λ e. omega arith)
    (λ j. ⊎_elim (λ k. symbol_most s (λ x q. h x (Memᴰ.append_left (leaves t) q)) y k) (λ k. symbol_most t (λ x q. h x (Memᴰ.append_right (leaves s) q)) y k) (Memᴰ.append_cases (symbolsOf s) j))
    (Memᴰ.cases_cons m)

-- So no symbol of a decoded tree is above the limit.
pub symbols_small : (symbols : List ℕ) (s : Shape) → symbols ≡ padded 64 0 (symbolsOf s) → SoundLeaves s → (k : ℕ) → get_or symbols k 0 ≤ symbol_limit
symbols_small symbols s e h k = rw e (sets_most symbol_limit (replicate 64 0) 0 (symbolsOf s) (λ i. rw (zeros_at 64 i) (omega arith)) (symbol_most s h) k)

-- A leaf is told from its symbol.
pub leaf_told : (symbol : ℕ) (x : Leaf) → Heads symbol (leaf x) → leaf_of symbol ≡ x
unfolding leaf_of
leaf_told symbol x h = let number : (symbol - 2) % drive_unit ≡ x.number = omega arith in let drive : (symbol - 2) / drive_unit ≡ x.drive = omega arith in λ i. record { number = number i; drive = drive i }
