-- Curves filled node by node from the highest number down: a node's curves come from those of higher-numbered nodes by look-up and deadline.
use Prim.Native.Nat.{ℕ, suc, ◌-◌, ◌<◌}
use mathlib.Core.Path.{◌≡◌, refl, sym, ap, ap₂, ◌∙◌}
use mathlib.Core.Logic.{⊎_elim, ◌↔◌}
use mathlib.Core.Bool.{true}
use mathlib.Core.List.{List, [], ◌∷◌, Memᴰ}
use mathlib.Core.Option.{Option, some, map}
use native.Mathlib.Omega.{arith}
use lib.ListN.{length, get_or}
use Rattle.sheets_rules.specs.Model.{Shape, leaf, inv, nand, size, Pin, Cell, Library}
use Rattle.covers.specs.Match.{Input, Match, IsMatch, matches, pin_at, pin_load}
use Rattle.covers.specs.Cover.{Point, late, raised, leaf_point, leaf_cover, feeds, input_delay}
use Rattle.covers.specs.Enumeration.{match_covers, gate_covers, under, covers_step, covers, all_below}
use Rattle.covers.specs.Tradeoff.{nodes}
use Rattle.covers.specs.Choice.{lesser, before, least, reaches}
use Rattle.covers.proofs.Basics.{lt_or_le, at_all}
use Rattle.covers.specs.Inside.Curve.{both, curve, Filled, gates, lookup}
use Rattle.covers.proofs.Points.{lesser_none}
use Rattle.covers.proofs.Least.{In, IsLeast}
use Rattle.covers.proofs.Deadline.{best_inputs, best_match, best_of, least_input, deadline_match, deadline}
use Rattle.covers.proofs.Matching.{matches_are, match_inside, spread_in}
use Rattle.covers.proofs.Unroll.{covers_unroll, gate_covers_lem}
use Rattle.covers.proofs.Handed.{pattern_reaches}
use Rattle.covers.proofs.Curve.{curve_is, lookup_is_least}
use Rattle.covers.proofs.Nodes.{node_of, input_in, nodes_within}
use Rattle.covers.proofs.Ascending.{ascending_range, ascending_unique}
use Rattle.covers.proofs.Overfull.{nodes_ascend}
use Rattle.covers.proofs.Bounds.{match_cell}

-- The same best of every input makes the same best.
inputs_same : (best best' : Pin → Input → ℕ → Option Point) (cell : Cell) (load end : ℕ) (is : List Input) → ((i : Input) → Memᴰ i is → (e : ℕ) → best (feeds cell i) i e ≡ best' (feeds cell i) i e) → best_inputs best cell load end is ≡ best_inputs best' cell load end is
unfolding best_inputs
inputs_same best best' cell load end [] h = refl
inputs_same best best' cell load end (i ∷ is) h = ap₂ (λ a b. both (map (late (input_delay cell load i)) a) b) (h i (Memᴰ.head refl) (end - input_delay cell load i)) (inputs_same best best' cell load end is (λ j m. h j (Memᴰ.tail m)))

best_same : (best best' : Pin → Input → ℕ → Option Point) (load end : ℕ) (ms : List Match) → ((m : Match) → Memᴰ m ms → (i : Input) → Memᴰ i m.inputs → (e : ℕ) → best (feeds m.pattern.cell i) i e ≡ best' (feeds m.pattern.cell i) i e) → best_of best load end ms ≡ best_of best' load end ms
unfolding best_of best_match
best_same best best' load end [] h = refl
best_same best best' load end (m ∷ ms) h = ap₂ (λ a b. lesser (map (raised m.pattern.cell.area) a) b) (inputs_same best best' m.pattern.cell load end m.inputs (h m (Memᴰ.head refl))) (best_same best best' load end ms (λ k j. h k (Memᴰ.tail j)))

-- Every pin's bin number is below the bin count, and there is a bin.
pub record Binned (l : Library) : Type 0 where
  pub some_bin : 0 < length l.bins
  pub pins : (c : Cell) → Memᴰ c l.cells → (p : Pin) → Memᴰ p c.pins → p.bin < length l.bins

-- The best of an input under a load from its curve; a leaf needs none.
unfoldable pub from_curve : Shape → ℕ → List Point → ℕ → Option Point
from_curve (leaf x) load ps end = before end (leaf_point x load)
from_curve (inv s) load ps end = lookup end ps
from_curve (nand s t) load ps end = lookup end ps

-- The same from a table of curves by node and bin.
unfoldable pub from_table : Library → (ℕ → ℕ → List Point) → Pin → Input → ℕ → Option Point
from_table l table p i end = from_curve i.shape (pin_load l p) (table i.node p.bin) end

module _ (l : Library) where
  from_curve_lem : (s : Shape) (load n end : ℕ) (ps : List Point) → (0 < gates s → ps ≡ curve (covers l load n s)) → from_curve s load ps end ≡ least end (covers l load n s)
  unfolding from_curve gates covers_step least leaf_cover
  from_curve_lem (leaf x) load n end ps h = sym (ap (least end) (covers_unroll l load n (leaf x)) ∙ lesser_none (before end (leaf_point x load)))
  from_curve_lem (inv s) load n end ps h = ap (lookup end) (h (omega arith)) ∙ lookup_is_least end (curve_is (covers l load n (inv s)))
  from_curve_lem (nand s t) load n end ps h = ap (lookup end) (h (omega arith)) ∙ lookup_is_least end (curve_is (covers l load n (nand s t)))

  pub filled_start : (root : Shape) (table : ℕ → ℕ → List Point) → Filled l root table (size root)
  filled_start root table x m h = absurd (omega (arith, (ascending_range (nodes_ascend 0 root) m).1))

  -- A node's curves put in keep those above it.
  pub filled_next : (root : Shape) (table table' : ℕ → ℕ → List Point) (n : ℕ) (s : Shape) → Filled l root table (suc n) → Memᴰ (record { number = n; shape = s }) (nodes 0 root) → ((k b : ℕ) → n < k → table' k b ≡ table k b) → (0 < gates s → (b : ℕ) → b < length l.bins → table' n b ≡ curve (covers l (get_or l.bins b 0) n s)) → Filled l root table' n
  filled_next root table table' n s filled here kept new x m h =
      ⊎_elim (λ k g b i. kept x.number b k ∙ filled x m k g b i)
      (λ k. let e : x ≡ record { number = n; shape = s } = ascending_unique (nodes_ascend 0 root) m here (omega arith) in rw e new) (lt_or_le n x.number)

  module _ (binned : Binned l) (root : Shape) (table : ℕ → ℕ → List Point) (n : ℕ) (s : Shape) (filled : Filled l root table (suc n)) (here : Memᴰ (record { number = n; shape = s }) (nodes 0 root)) where
    input_best_lem : {load : ℕ} {m : Match} → IsMatch l load n s m → (i : Input) → Memᴰ i m.inputs → (end : ℕ) → from_table l table (feeds m.pattern.cell i) i end ≡ least_input (all_below l) (feeds m.pattern.cell i) i end
    unfolding from_table under pin_load feeds pin_at
    input_best_lem {m = m} f i k end =
        let p = feeds m.pattern.cell i in
        let b : p.bin < length l.bins = at_all (λ p. p.bin < length l.bins) m.pattern.cell.pins i.pin (record { bin = 0; intrinsic = 0; drive = 0 }) binned.some_bin (binned.pins m.pattern.cell (match_cell f)) in
        from_curve_lem i.shape (pin_load l p) i.node end (table i.node p.bin) (λ g. filled (node_of i) (nodes_within 0 root here (input_in f i k)) (spread_in (match_inside f).spread k).0 g p.bin b)

    -- The best of a node from the table is the least point of its covers.
    pub best_from_table : (load end : ℕ) → 0 < gates s → best_of (from_table l table) load end (matches l load n s) ≡ least end (covers l load n s)
    unfolding gate_covers
    best_from_table load end g = best_same (from_table l table) (least_input (all_below l)) load end (matches l load n s) (λ m k i j e. input_best_lem (matches_are l load n s k) i j e) ∙ sym (deadline (all_below l) load n end (matches l load n s)) ∙ ap (least end) (sym (gate_covers_lem l load n s g))

    -- The same of one match.
    pub match_from_table : (load end : ℕ) {m : Match} → Memᴰ m (matches l load n s) → best_match (from_table l table) load end m ≡ least end (match_covers (all_below l) load n m)
    unfolding best_match
    match_from_table load end {m} k = ap (map (raised m.pattern.cell.area)) (inputs_same (from_table l table) (least_input (all_below l)) m.pattern.cell load end m.inputs (input_best_lem (matches_are l load n s k))) ∙ sym (deadline_match (all_below l) load n end m)

    -- And what the loop over the patterns tests can be tested from the table.
    pub reaches_from_table : (load : ℕ) {end : ℕ} {p : Point} {m : Match} → IsLeast end (In (covers l load n s)) p → Memᴰ m (matches l load n s) → (reaches p (match_covers (all_below l) load n m) ≡ true) ↔ (best_match (from_table l table) load (suc p.arrival) m ≡ some p)
    unfolding best_match
    reaches_from_table load {p = p} {m = m} f k = rw (inputs_same (from_table l table) (least_input (all_below l)) m.pattern.cell load (suc p.arrival) m.inputs (input_best_lem (matches_are l load n s k))) (pattern_reaches l load n s f k)
