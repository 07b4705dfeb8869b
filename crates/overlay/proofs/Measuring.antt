-- The extents of a drawing's nodes, from the last node to the first.
use Prim.Native.Nat.{ℕ, suc, ◌+◌, ◌*◌, ◌%◌, ◌≤◌, ◌<◌}
use mathlib.Core.Path.{◌≡◌, refl, ap, subst, ◌∙◌}
use mathlib.Core.Logic.{◌≢◌}
use mathlib.Core.List.{List, Memᴰ}
use native.Mathlib.Decide.{ℕ_discrete}
use native.Mathlib.Omega.{arith}
use lib.ListN.{get_or, length, set}
use lib.Seq.{get_or-set_same, get_or-set_other}
use Rattle.shapes_rules.specs.Shape.{symbols, sizes}
use Rattle.sheets_rules.specs.Inside.Layout.{symbols_at}
use Rattle.sheets_rules.specs.Model.{Shape, leaf, inv, nand, size, nands}
use Rattle.covers.specs.Tradeoff.{Node, nodes}
use Rattle.covers.proofs.Ascending.{ascending_unique}
use Rattle.covers.proofs.Matching.{size_pos}
use Rattle.covers.proofs.Nodes.{root_in, node_at, nodes_within, node_ends}
use Rattle.covers.proofs.Overfull.{nodes_ascend}
use Rattle.overlay.specs.Inside.Standing.{Stands, DrawingStored, extent, Measured, Extending, Drawn}
use Rattle.overlay.proofs.Standing.{stands_at, stands_nodes}

nands_few : (s : Shape) → suc (2 * nands s) ≤ size s
unfolding nands size
nands_few (leaf x) = omega arith
nands_few (inv s) = omega (arith, nands_few s)
nands_few (nand s t) = omega (arith, nands_few s, nands_few t)

extent_small : (s : Shape) → size s ≤ 16 → extent s ≤ 255
unfolding extent
extent_small s h = omega (arith, nands_few s)

-- ---- one node

module _ (symbol : ℕ) (words : List ℕ) (k : ℕ) where
  pub extent_leaf : (s : Shape) → Extending symbol words k s → 2 ≤ symbol → 1 ≡ extent s
  unfolding extent size nands
  extent_leaf (leaf x) e h = refl
  extent_leaf (inv p) e h = absurd (omega (arith, e.0))
  extent_leaf (nand p q) e h = absurd (omega (arith, e.0))

  pub gate_room : (s : Shape) → Extending symbol words k s → symbol < 2 → (k + 1 < 16) × (length words ≡ 16)
  gate_room (leaf x) e h = absurd (omega arith)
  gate_room (inv p) e h = (e.1, e.2)
  gate_room (nand p q) e h = (omega (arith, e.1), e.2)

  pub extent_inv : (s : Shape) → Extending symbol words k s → symbol ≡ 0 → 1 + get_or words (k + 1) 0 ≡ extent s
  unfolding extent size nands
  extent_inv (leaf x) e h = absurd (omega arith)
  extent_inv (inv p) e h = omega (arith, e.3)
  extent_inv (nand p q) e h = absurd (omega (arith, e.0))

  -- Where a NAND's second branch stands.
  second_at : (p : Shape) → get_or words (k + 1) 0 ≡ size p + 32 * nands p → k + 1 + size p < 16 → k + 1 + get_or words (k + 1) 0 % 32 ≡ k + 1 + size p
  second_at p e h = omega (arith, e)

  pub nand_room : (s : Shape) → Extending symbol words k s → symbol < 2 → symbol ≢ 0 → k + 1 + get_or words (k + 1) 0 % 32 < 16
  unfolding extent
  nand_room (leaf x) e h z = absurd (omega arith)
  nand_room (inv p) e h z = absurd (z e.0)
  nand_room (nand p q) e h z = omega (arith, second_at p e.3 e.1, e.1)

  pub extent_nand : (s : Shape) → Extending symbol words k s → symbol < 2 → symbol ≢ 0 → 33 + get_or words (k + 1) 0 + get_or words (k + 1 + get_or words (k + 1) 0 % 32) 0 ≡ extent s
  unfolding extent size nands
  extent_nand (leaf x) e h z = absurd (omega arith)
  extent_nand (inv p) e h z = absurd (z e.0)
  extent_nand (nand p q) e h z = omega (arith, e.3, ap (λ i. get_or words i 0) (second_at p e.3 e.1) ∙ e.4)

-- ---- all nodes

-- The branches of a gate among the nodes from it on.
inv_branch : (k : ℕ) (p : Shape) → Memᴰ (record { number = k + 1; shape = p }) (nodes k (inv p))
unfolding nodes
inv_branch k p = let e : suc k ≡ k + 1 = omega arith in mathlib.Core.List.Memᴰ.tail (subst (λ i. Memᴰ (record { number = i; shape = p }) (nodes (suc k) p)) e (root_in (suc k) p))

first_branch : (k : ℕ) (p q : Shape) → Memᴰ (record { number = k + 1; shape = p }) (nodes k (nand p q))
unfolding nodes
first_branch k p q =
    let e : suc k ≡ k + 1 = omega arith in
    mathlib.Core.List.Memᴰ.tail (mathlib.Core.List.Memᴰ.append_left (nodes (suc k + size p) q) (subst (λ i. Memᴰ (record { number = i; shape = p }) (nodes (suc k) p)) e (root_in (suc k) p)))

second_branch : (k : ℕ) (p q : Shape) → Memᴰ (record { number = k + 1 + size p; shape = q }) (nodes k (nand p q))
unfolding nodes
second_branch k p q =
    let e : suc k + size p ≡ k + 1 + size p = omega arith in
    mathlib.Core.List.Memᴰ.tail (mathlib.Core.List.Memᴰ.append_right (nodes (suc k) p) (subst (λ i. Memᴰ (record { number = i; shape = q }) (nodes (suc k + size p) q)) e (root_in (suc k + size p) q)))

-- The extents of the nodes numbered k and above.
abbrev pub MeasuredFrom : Shape → List ℕ → ℕ → Type 0
MeasuredFrom d words k = (x : Node) → Memᴰ x (nodes 0 d) → k ≤ x.number → get_or words x.number 0 ≡ extent x.shape

-- No node has a number past the last.
pub measured_none : (d : Shape) (words : List ℕ) {k : ℕ} → size d ≤ k → MeasuredFrom d words k
measured_none d words h x m g = absurd (omega (arith, node_ends 0 d m, size_pos x.shape))

module _ {row : List ℕ} {d : Shape} (stored : DrawingStored row d) where
  -- The symbols in preorder hold each node.
  stands : (x : Node) → Memᴰ x (nodes 0 d) → Stands (symbols d) (sizes d) x.number x.shape
  stands = stands_nodes (symbols d) (sizes d) 0 d (stands_at (symbols d) (sizes d) 0 d (λ k h. ap (λ i. get_or (symbols d) i 0) (omega arith)) (λ k h. ap (λ i. get_or (sizes d) i 0) (omega arith)))

  within : (k : ℕ) (s : Shape) → Memᴰ (record { number = k; shape = s }) (nodes 0 d) → {y : Node} → Memᴰ y (nodes k s) → Memᴰ y (nodes 0 d)
  within k s m = nodes_within 0 d m

  symbol_read : (x : Node) → Memᴰ x (nodes 0 d) → {v : ℕ} → get_or (symbols d) x.number 0 ≡ v → get_or row (symbols_at + x.number) 0 ≡ v
  symbol_read x m e = stored.symbols_are x.number (omega (arith, node_ends 0 d m, size_pos x.shape)) ∙ e

  module _ (small : size d ≤ 16) (words : List ℕ) (long : length words ≡ 16) (k : ℕ) (after : MeasuredFrom d words (k + 1)) (below : k < size d) where
    -- The node numbered k.
    pub here : (s : Shape) × Memᴰ (record { number = k; shape = s }) (nodes 0 d)
    here = node_at 0 d k (omega arith) (omega arith)

    pub extending : Extending (get_or row (symbols_at + k) 0) words k here.0
    extending = go here.0 here.1
      where
        go : (s : Shape) → Memᴰ (record { number = k; shape = s }) (nodes 0 d) → Extending (get_or row (symbols_at + k) 0) words k s
        go (leaf x) m = symbol_read (record { number = k; shape = leaf x }) m (stands _ m).0
        go (inv p) m =
            let x : Node = record { number = k + 1; shape = p } in
            let i : Memᴰ x (nodes 0 d) = within k (inv p) m (inv_branch k p) in
            (symbol_read (record { number = k; shape = inv p }) m (stands _ m).0, unfold size in omega (arith, node_ends 0 d m, size_pos p), long, after x i (omega arith))
        go (nand p q) m =
            let x : Node = record { number = k + 1; shape = p } in
            let y : Node = record { number = k + 1 + size p; shape = q } in
            let i : Memᴰ x (nodes 0 d) = within k (nand p q) m (first_branch k p q) in
            let j : Memᴰ y (nodes 0 d) = within k (nand p q) m (second_branch k p q) in
            (symbol_read (record { number = k; shape = nand p q }) m (stands _ m).0, unfold size in omega (arith, node_ends 0 d m, size_pos q), long, after x i (omega arith), after y j (omega arith))

    pub here_small : extent here.0 ≤ 255
    here_small = extent_small here.0 (omega (arith, node_ends 0 d here.1))

    pub measured_more : {v : ℕ} → v ≡ extent here.0 → MeasuredFrom d (set words k v) k
    measured_more {v} e x m h = go (ℕ_discrete x.number k)
      where
        go : Dec (x.number ≡ k) → get_or (set words k v) x.number 0 ≡ extent x.shape
        go (yes i) =
            let same : x ≡ record { number = k; shape = here.0 } = ascending_unique (nodes_ascend 0 d) m here.1 i in
            rw same (get_or-set_same words k v 0 (omega (arith, long)) ∙ e)
        go (no i) = get_or-set_other words k x.number v 0 i ∙ after x m (omega arith)

  -- A row and the extents of all nodes hold the drawing, from any node on.
  drawn_at : {words : List ℕ} → Measured d words → (k : ℕ) (s : Shape) → Memᴰ (record { number = k; shape = s }) (nodes 0 d) → Drawn row words k s
  unfolding nodes
  drawn_at m k (leaf x) i = symbol_read _ i (stands _ i).0
  drawn_at m k (inv p) i = (symbol_read _ i (stands _ i).0, drawn_at m (suc k) p (let first : Memᴰ (record { number = suc k; shape = p }) (nodes 0 d) = nodes_within 0 d i (mathlib.Core.List.Memᴰ.tail (root_in (suc k) p)) in first))
  drawn_at m k (nand p q) i =
      let first : Memᴰ (record { number = suc k; shape = p }) (nodes 0 d) = nodes_within 0 d i (mathlib.Core.List.Memᴰ.tail (mathlib.Core.List.Memᴰ.append_left (nodes (suc k + size p) q) (root_in (suc k) p))) in
      let second : Memᴰ (record { number = suc k + size p; shape = q }) (nodes 0 d) = nodes_within 0 d i (mathlib.Core.List.Memᴰ.tail (mathlib.Core.List.Memᴰ.append_right (nodes (suc k) p) (root_in (suc k + size p) q))) in
      (symbol_read _ i (stands _ i).0, m.each _ first, drawn_at m (suc k) p first, drawn_at m (suc k + size p) q second)

  pub drawn : {words : List ℕ} → Measured d words → Drawn row words 0 d
  drawn m = drawn_at m 0 d (root_in 0 d)
