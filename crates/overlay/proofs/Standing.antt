-- A tree's arrays hold each of its subtrees.
use Prim.Native.Nat.{ℕ, suc, ◌+◌}
use mathlib.Core.Path.{◌≡◌, refl, sym, ap, subst, ◌∙◌}
use mathlib.Core.Logic.{⊎_elim}
use mathlib.Core.List.Memᴰ
use mathlib.Core.List.{List, [], ◌++◌, Memᴰ}
use native.Mathlib.Omega.{arith}
use lib.ListN.{length, get_or, replicate, length-replicate}
use lib.Seq.{length-sets}
use Rattle.shapes_rules.specs.Shape.{symbols, sizes}
use Rattle.shapes_rules.proofs.Drawing.{length_symbols, length_sizes}
use Rattle.sheets_rules.specs.Model.{leaves, Shape, leaf, inv, nand, size, Library, Tree}
use Rattle.sheets_rules.specs.Inside.Layout.{padded}
use Rattle.covers.specs.Tradeoff.{Node, nodes}
use Rattle.covers.proofs.Nodes.{node_ends, leaves_within}
use Rattle.leaves.specs.Inside.Leaf.{Heads}
use Rattle.overlay.specs.Inside.Standing.{Stands, Subject}
use Rattle.overlay.specs.Inside.Promises.{Decoded}
use Rattle.leaves.proofs.Symbols.{SoundLeaves}
use Rattle.fields.proofs.Lists.{in_sets, Stored, stored_head, stored_tail, stored_left, stored_right}

module _ (ss zs : List ℕ) where
  pub stands_at : (i : ℕ) (s : Shape) → Stored ss i (symbols s) → Stored zs i (sizes s) → Stands ss zs i s
  unfolding symbols sizes size
  stands_at i (leaf x) h g = (stored_head ss i _ [] h, stored_head zs i _ [] g)
  stands_at i (inv s) h g =
      (stored_head ss i _ (symbols s) h, stored_head zs i _ (sizes s) g, stands_at (suc i) s (stored_tail ss i _ (symbols s) h) (stored_tail zs i _ (sizes s) g))
  stands_at i (nand s t) h g =
      let h' = stored_tail ss i _ (symbols s ++ symbols t) h in
      let g' = stored_tail zs i _ (sizes s ++ sizes t) g in (
        stored_head ss i _ (symbols s ++ symbols t) h,
        stored_head zs i _ (sizes s ++ sizes t) g,
        stands_at (suc i) s (stored_left ss (suc i) (symbols s) (symbols t) h') (stored_left zs (suc i) (sizes s) (sizes t) g'),
        stands_at (suc i + size s) t
            (subst (λ (k : ℕ). Stored ss (suc i + k) (symbols t)) (length_symbols s) (stored_right ss (suc i) (symbols s) (symbols t) h'))
            (subst (λ (k : ℕ). Stored zs (suc i + k) (sizes t)) (length_sizes s) (stored_right zs (suc i) (sizes s) (sizes t) g')),
      )

  -- Each node of a subtree that stands there stands there too.
  pub stands_nodes : (n : ℕ) (s : Shape) → Stands ss zs n s → (x : Node) → Memᴰ x (nodes n s) → Stands ss zs x.number x.shape
  unfolding nodes size
  stands_nodes n (leaf z) h x (Memᴰ.head e) = subst (λ (y : Node). Stands ss zs y.number y.shape) (sym e) h
  stands_nodes n (leaf z) h x (Memᴰ.tail m) = absurd (Memᴰ.not-nil m)
  stands_nodes n (inv s) h x (Memᴰ.head e) = subst (λ (y : Node). Stands ss zs y.number y.shape) (sym e) h
  stands_nodes n (inv s) h x (Memᴰ.tail m) = stands_nodes (suc n) s h.2 x m
  stands_nodes n (nand s t) h x (Memᴰ.head e) = subst (λ (y : Node). Stands ss zs y.number y.shape) (sym e) h
  stands_nodes n (nand s t) h x (Memᴰ.tail m) =
      ⊎_elim (λ k. stands_nodes (suc n) s h.2 x k) (λ k. stands_nodes (suc n + size s) t h.3 x k) (Memᴰ.append_cases (nodes (suc n) s) m)

-- A decoded tree's arrays.
module _ {l : Library} {t : Tree} {rows ss zs : List ℕ} (d : Decoded l t rows ss zs) where
  -- What a padded array holds.
  laid : {ws : List ℕ} (xs : List ℕ) → ws ≡ padded 64 0 xs → length xs ≡ size t.shape → (length ws ≡ 64) × Stored ws 0 xs
  laid {ws} xs e f = (
    ap length e ∙ length-sets (replicate 64 0) 0 xs ∙ length-replicate {A = ℕ} 64 0,
    λ k h. ap (λ (l : List ℕ). get_or l (0 + k) 0) e ∙ in_sets (replicate 64 0) 0 xs k 0 (omega (arith, d.tree.size, length-replicate {A = ℕ} 64 0)) h,
  )

  symbols_laid : (length ss ≡ 64) × Stored ss 0 (symbols t.shape)
  symbols_laid = laid (symbols t.shape) d.symbols_are (length_symbols t.shape)

  sizes_laid : (length zs ≡ 64) × Stored zs 0 (sizes t.shape)
  sizes_laid = laid (sizes t.shape) d.sizes_are (length_sizes t.shape)

  pub stands_everywhere : (x : Node) → Memᴰ x (nodes 0 t.shape) → Stands ss zs x.number x.shape
  stands_everywhere = stands_nodes ss zs 0 t.shape (stands_at ss zs 0 t.shape symbols_laid.1 sizes_laid.1)

  pub subject_everywhere : (x : Node) → Memᴰ x (nodes 0 t.shape) → Subject ss zs x.number x.shape
  subject_everywhere x m = record {
    symbols_long = symbols_laid.0;
    sizes_long = sizes_laid.0;
    stands = stands_everywhere x m;
    ends = omega (arith, node_ends 0 t.shape m, d.tree.size);
  }

  -- The symbol at each node is its shape's.
  pub heads_everywhere : (x : Node) → Memᴰ x (nodes 0 t.shape) → Heads (get_or ss x.number 0) x.shape
  unfolding leaves
  heads_everywhere x m = go x.shape (stands_everywhere x m) (λ y k. d.tree.leaves y (leaves_within 0 t.shape m k))
    where
      go : (s : Shape) → Stands ss zs x.number s → SoundLeaves s → Heads (get_or ss x.number 0) s
      go (leaf y) h k = (h.0, omega (arith, k y (Memᴰ.head refl)))
      go (inv s) h k = h.0
      go (nand s t) h k = h.0
