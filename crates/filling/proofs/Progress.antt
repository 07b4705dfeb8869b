-- Every node in turn: what is filled so far, and what the counts of a node say of it.
use mathlib.Core.Path.{◌≡◌, refl, sym, ap, subst, ◌∙◌}
use mathlib.Core.Logic.{⊎_elim}
use mathlib.Core.Bool.{Bool, true, false, false≢true}
use mathlib.Core.List.Memᴰ
use mathlib.Core.List.{List, [], ◌∷◌, Memᴰ}
use mathlib.Core.Option.{Option, none, some}
use Prim.Native.Nat.{ℕ, zero, suc, min, ◌+◌, ◌*◌, ◌≤◌, ◌<◌}
use native.Mathlib.Omega.{arith}
use native.Mathlib.Numerals.{add-one}
use lib.Dec.{ltb}
use lib.ListN.{length, get_or, length-take, length-reverse}
use borrow.Author.Tests.{lt-ltb, le-ltb}
use Rattle.sheets_rules.specs.declared.Bins.{Bins}
use Rattle.sheets_rules.specs.declared.TreeRecord.{TreeRecord}
use Rattle.sheets_rules.specs.Model.{Shape, leaf, inv, nand, size, Library, Tree}
use Rattle.sheets_rules.specs.Inside.Layout.{library_laid, tree_laid}
use Rattle.covers.specs.Enumeration.{covers}
use Rattle.covers.specs.Tradeoff.{Node, nodes, tradeoffs, tradeoffs_of, points, considered, overfull, overfull_node}
use Rattle.covers.specs.Inside.Curve.{Filled, curve, gates}
use Rattle.covers.proofs.Basics.{lt_or_le, at_all, true_any, false_any}
use Rattle.covers.proofs.Matching.{size_pos}
use Rattle.covers.proofs.Tradeoffs.{leaf_tradeoffs}
use Rattle.covers.proofs.Nodes.{node_at, root_in}
use Rattle.covers.proofs.Ascending.{ascending_range, ascending_unique}
use Rattle.covers.proofs.Overfull.{nodes_ascend, overfull_named, LastOf, nowhere, at, highest_unique}
use Rattle.covers.proofs.Filling.{filled_start, filled_next}
use Rattle.fields.proofs.Lists.{at_mem}
use Rattle.sheets_rules.proofs.Laid.{in_padded}
use Rattle.matching.specs.Inside.Found.{match_most}
use Rattle.curves.specs.Inside.Words.{stored, table_of, Small, ZeroBelow}
use Rattle.curves.specs.Inside.Stored.{CurvesStored}
use Rattle.curves.proofs.Laws.{zero_curves}
use Rattle.filling.specs.declared.Turn.{Turn}
use Rattle.filling.specs.declared.Counts.{Counts}
use Rattle.filling.specs.Inside.Promises.{load_at, curve_under, FillReady, NodeDone, Exceeds, FillStart}

-- ---- nodes and their trade-offs

-- A member stands somewhere.
index_of : {x : ℕ} (l : List ℕ) → Memᴰ x l → (b : ℕ) × (b < length l) × (get_or l b 0 ≡ x)
index_of [] m = absurd (Memᴰ.not-nil m)
index_of (y ∷ l) (Memᴰ.head e) = (0, omega arith, sym e)
index_of (y ∷ l) (Memᴰ.tail m) = let r = index_of l m in (suc r.0, omega (arith, r.1), r.2)

-- A leaf has one trade-off.
leaf_few : (l : Library) (load n : ℕ) (q : Shape) → gates q ≡ 0 → length (tradeoffs l load n q) ≤ 1
unfolding gates
leaf_few l load n (leaf x) h = omega (arith, ap length (leaf_tradeoffs l load n x))
leaf_few l load n (inv a) h = omega arith
leaf_few l load n (nand a b) h = omega arith

-- ---- what a node's counts say

-- The loads that a node's counts are of: all that are considered there.
pub record Loads (l : Library) (t : Tree) (s : Shape) (turn : Turn) : Type 0 where
  pub some : 0 < gates s → (b : ℕ) → b < turn.bins.count → Memᴰ (load_at turn b) (considered l t turn.node s)
  pub all : 0 < gates s → (x : ℕ) → Memᴰ x (considered l t turn.node s) → (b : ℕ) × (b < turn.bins.count) × (load_at turn b ≡ x)
  pub leaf : gates s ≡ 0 → (x : ℕ) → Memᴰ x (considered l t turn.node s) → length (tradeoffs l x turn.node s) ≤ turn.most

module _ {l : Library} {t : Tree} {s : Shape} {turn : Turn} {work work' : List ℕ} {r : Counts} (are : Loads l t s turn) (d : NodeDone l s turn work work' r) where
  abbrev node : Node
  node = record { number = turn.node; shape = s }

  counted_is : 0 < gates s → (b : ℕ) → b < turn.bins.count → get_or r.points b 0 ≡ min (turn.most + 1) (length (tradeoffs l (load_at turn b) turn.node s))
  unfolding tradeoffs curve
  counted_is g b h = d.counted g b h ∙ length-take (turn.most + 1) (curve_under l s turn b) ∙ ap (min (turn.most + 1)) (length-reverse (tradeoffs_of (points (covers l (load_at turn b) turn.node s))))

  abbrev test : ℕ → Bool
  test load = ltb turn.most (length (tradeoffs l load turn.node s))

  is_overfull : Exceeds turn true r → overfull turn.most l t node ≡ true
  unfolding overfull
  is_overfull (b, h, more) = ⊎_elim
      (λ g. true_any test (considered l t turn.node s) (are.some g b h) (lt-ltb turn.most (length (tradeoffs l (load_at turn b) turn.node s)) (omega (arith, counted_is g b h))))
      (λ z. absurd (omega (arith, d.none (omega arith) b))) (lt_or_le 0 (gates s))

  curve_few : Exceeds turn false r → 0 < gates s → (b : ℕ) → b < turn.bins.count → length (curve_under l s turn b) ≤ turn.most
  unfolding tradeoffs curve
  curve_few few g b h = rw (length-reverse (tradeoffs_of (points (covers l (load_at turn b) turn.node s)))) (omega (arith, counted_is g b h, few b h))

  not_overfull : Exceeds turn false r → overfull turn.most l t node ≡ false
  unfolding overfull
  not_overfull few = false_any test (considered l t turn.node s) (λ x m. le-ltb turn.most (length (tradeoffs l x turn.node s)) (⊎_elim
      (λ g. let q = are.all g x m in rw (← q.2) (omega (arith, counted_is g q.0 q.1, few q.0 q.1)))
      (λ z. are.leaf (omega arith) x m) (lt_or_le 0 (gates s))))

-- ---- what is filled so far

-- What the work area holds once the nodes from this one on are filled and none of them is overfull.
pub record Progress (most : ℕ) (l : Library) (t : Tree) (node : ℕ) (work : List ℕ) : Type 0 where
  pub filled : Filled l t.shape (table_of most work) node
  pub zero : ZeroBelow most (4 * node) work
  pub small : Small work
  pub fewer : (x : Node) → Memᴰ x (nodes 0 t.shape) → node ≤ x.number → overfull most l t x ≡ false

module _ {l : Library} {t : Tree} {s : Shape} {turn : Turn} {work work' : List ℕ} {r : Counts} (are : Loads l t s turn)
    (here : Memᴰ (record { number = turn.node; shape = s }) (nodes 0 t.shape)) (p : Progress turn.most l t (turn.node + 1) work) (d : NodeDone l s turn work work' r) where
  -- A node with too many points is the highest that is overfull.
  named : Exceeds turn true r → overfull_node turn.most l t ≡ some turn.node
  named more = highest_unique (overfull_named turn.most l t) (record { node = record { number = turn.node; shape = s }; among = here; number = refl; passes = is_overfull are d more; above = λ y m h. p.fewer y m (omega arith) })

  fewer_from : Exceeds turn false r → (x : Node) → Memᴰ x (nodes 0 t.shape) → turn.node ≤ x.number → overfull turn.most l t x ≡ false
  fewer_from few x m k = ⊎_elim
      (λ h. p.fewer x m (omega arith))
      (λ h. let e : x ≡ record { number = turn.node; shape = s } = ascending_unique (nodes_ascend 0 t.shape) m here (omega arith) in rw e (not_overfull are d few))
      (lt_or_le turn.node x.number)

  kept : (k b : ℕ) → turn.node < k → table_of turn.most work' k b ≡ table_of turn.most work k b
  kept k b h = ap stored (d.agree (4 * k + b) (omega arith))

none_named : {test : Node → Bool} {xs : List Node} {o : Option ℕ} → LastOf test xs o → ((x : Node) → Memᴰ x xs → test x ≡ false) → o ≡ none
none_named (nowhere a) h = refl
none_named (at f) h = absurd (false≢true (sym (h f.node f.among) ∙ f.passes))

-- ---- every node in turn

-- A node below the root under the loads of the bins, and the root under its load.
abbrev pub below : Bins → ℕ → ℕ → Turn
below bins most n = record { node = n; bins = bins; most = most }

abbrev pub at_root : TreeRecord → ℕ → Turn
at_root tree most = below (record { count = 1; loads = tree.load ∷ 0 ∷ 0 ∷ 0 ∷ [] }) most 0

module _ {l : Library} {t : Tree} {rows : List ℕ} {bins : Bins} {tree : TreeRecord} {most : ℕ} {work₀ : List ℕ} (g : FillStart l t rows bins tree most work₀) where
  count_is : tree.count ≡ size t.shape
  unfolding tree_laid
  count_is = ap (λ (r : TreeRecord). r.count) g.tree_is

  load_is : tree.load ≡ t.load
  unfolding tree_laid
  load_is = ap (λ (r : TreeRecord). r.load) g.tree_is

  bins_is : bins.count ≡ length l.bins
  unfolding library_laid
  bins_is = ap (λ (b : Bins). b.count) g.bins_are

  bins_at : (b : ℕ) → b < bins.count → get_or bins.loads b 0 ≡ get_or l.bins b 0
  unfolding library_laid
  bins_at b h = ap (λ (q : Bins). get_or q.loads b 0) g.bins_are ∙ in_padded 4 0 0 l.bins b g.decoded.library.few_bins (omega (arith, bins_is))

  pub begun : Progress most l t tree.count work₀
  begun = record {
    filled = rw count_is (filled_start l t.shape (table_of most work₀));
    zero = zero_curves most work₀ g.zero (4 * tree.count);
    small = λ k. omega (arith, g.zero k);
    fewer = λ x m h. absurd (omega (arith, count_is, (ascending_range (nodes_ascend 0 t.shape) m).1));
  }

  pub some_node : 0 < tree.count
  some_node = omega (arith, count_is, size_pos t.shape)

  pub few_bins : bins.count ≤ 4
  few_bins = omega (arith, bins_is, g.decoded.library.few_bins)

  -- The loads considered below the root, and at it.
  bins_loads : {n : ℕ} {s : Shape} → considered l t n s ≡ l.bins → (gates s ≡ 0 → ⊥) → Loads l t s (below bins most n)
  bins_loads e gate = record {
    some = λ h b k. subst (Memᴰ (get_or bins.loads b 0)) (sym e) (rw (bins_at b k) (at_mem l.bins b 0 (omega (arith, bins_is))));
    all = λ h x m. let q = index_of l.bins (subst (Memᴰ x) e m) in (q.0, omega (arith, q.1, bins_is), bins_at q.0 (omega (arith, q.1, bins_is)) ∙ q.2);
    leaf = λ h. absurd (gate h);
  }

  below_loads : (n : ℕ) (s : Shape) → Loads l t s (below bins most (suc n))
  unfolding considered gates
  below_loads n (leaf x) = record { some = λ h. absurd (omega arith); all = λ h. absurd (omega arith); leaf = λ h x m. absurd (Memᴰ.not-nil m) }
  below_loads n (inv a) = bins_loads refl (λ h. omega arith)
  below_loads n (nand a b) = bins_loads refl (λ h. omega arith)

  root_loads : (s : Shape) → Loads l t s (at_root tree most)
  unfolding considered gates
  root_loads s = record {
    some = λ h b k. let e : b ≡ 0 = omega arith in rw (e, load_is) (Memᴰ.head refl);
    all = λ h x m. (0, omega arith, load_is ∙ sym (Memᴰ.eq_of_singleton m));
    leaf = λ h x m. omega (arith, leaf_few l x 0 s h, g.some_most);
  }

  -- What is lent at each node.
  module _ {room : ℕ} (er : room ≡ match_most) {work : List ℕ} (ew : length work ≡ length work₀) where
    ready : (n : ℕ) (loads : Bins) → n < tree.count → loads.count ≤ 4 → ((b : ℕ) → b < loads.count → get_or loads.loads b 0 ≤ 255) → Progress most l t (n + 1) work →
        (s : Shape) × FillReady l t rows tree.symbols tree.sizes (below loads most n) room work s
    ready n loads h few light p =
        let x = node_at 0 t.shape n (omega arith) (omega (arith, count_is)) in (
          x.0,
          record {
            ready = record { decoded = g.decoded; here = x.1; room_is = er };
            few_bins = few;
            light = light;
            curves = record { bounded = g.bounded; room = omega (arith, ew, g.work_length); small = p.small };
            filled = rw add-one at p.filled;
            zero = p.zero;
          },
        )

    pub ready_below : (n : ℕ) → n < tree.count → Progress most l t (n + 1) work → (s : Shape) × FillReady l t rows tree.symbols tree.sizes (below bins most n) room work s
    ready_below n h = ready n bins h few_bins (λ b k. rw (bins_at b k) (at_all (λ x. x ≤ 255) l.bins b 0 (omega arith) g.decoded.library.loads))

    pub ready_root : Progress most l t 1 work → (s : Shape) × FillReady l t rows tree.symbols tree.sizes (at_root tree most) room work s
    ready_root = ready 0 (at_root tree most).bins some_node (omega arith) (λ b h. let e : b ≡ 0 = omega arith in rw e (omega (arith, load_is, g.decoded.tree.load)))

    -- What a node's counts say, at a node below the root and at the root.
    module _ {work' : List ℕ} {r : Counts} where
      pub turn_below : (n : ℕ) → 0 < n → n < tree.count → Progress most l t (n + 1) work →
          ((s : Shape) → FillReady l t rows tree.symbols tree.sizes (below bins most n) room work s → NodeDone l s (below bins most n) work work' r) →
          (Exceeds (below bins most n) true r → overfull_node most l t ≡ some n) × (Exceeds (below bins most n) false r → Progress most l t n work')
      turn_below (suc n) k h p done =
          let x = ready_below (suc n) h p in
          let here = x.1.ready.here in
          let d = done x.0 x.1 in
          let are = below_loads n x.0 in (
            named are here p d,
            λ none. record {
              filled = filled_next l t.shape (table_of most work) (table_of most work') (suc n) x.0 x.1.filled here (kept are here p d)
                  (λ q b m. let i : b < bins.count = omega (arith, bins_is) in d.stored q b i (curve_few are d none q b i) ∙ rw (bins_at b i));
              zero = d.zero;
              small = d.small;
              fewer = fewer_from are here p d none;
            },
          )
      turn_below zero k h p done = elim k [ ]

      pub turn_root : Progress most l t 1 work →
          ((s : Shape) → FillReady l t rows tree.symbols tree.sizes (at_root tree most) room work s → NodeDone l s (at_root tree most) work work' r) →
          (Exceeds (at_root tree most) true r → overfull_node most l t ≡ some 0) × (Exceeds (at_root tree most) false r → (overfull_node most l t ≡ none) × CurvesStored most l t work')
      turn_root p done =
          let x = ready_root p in
          let here = x.1.ready.here in
          let d = done x.0 x.1 in
          let are = root_loads x.0 in
          let e : x.0 ≡ t.shape = ap {A = Node} (λ y. y.shape) (ascending_unique (nodes_ascend 0 t.shape) here (root_in 0 t.shape) refl) in (
            named are here p d,
            λ few. (
              none_named (overfull_named most l t) (λ y m. fewer_from are here p d few y m (omega arith)),
              record {
                below = λ y m k q b i. kept are here p d y.number b k ∙ p.filled y m k q b i;
                root = λ q. let q' = rw (← e) at q in d.stored q' 0 (omega arith) (curve_few are d few q' 0 (omega arith)) ∙ rw (e, load_is);
                small = d.small;
              },
            ),
          )
