-- A hit says what its match says: the least point read from the tables is the least point of the match, and of all legal matches of the node.
use mathlib.Core.Path.{◌≡◌, refl, sym, ap, ap₂, ◌∙◌}
use mathlib.Core.List.{List, [], ◌∷◌, ◌++◌, map, Memᴰ}
use mathlib.Core.Bool.{Bool, cond}
use mathlib.Core.Option.{Option, none}
use Prim.Native.Nat.{ℕ, zero, suc, ◌-◌, ◌≤◌, ◌<◌}
use native.Mathlib.Omega.{arith}
use lib.ListN.{length, get_or, take}
use borrow.Table.Steps.{cases}
use lib.Seq.{take-suc, take_all}
use borrow.Author.Tests.{le-leb, lt-leb}
use Rattle.sheets_rules.specs.Model.{Shape, leaf, inv, nand, Pin, Cell, Library}
use Rattle.covers.proofs.Basics.{select_append}
use Rattle.covers.specs.Lists.{keep_if, select}
use Rattle.covers.specs.Match.{Input, Match, legal, pin_load}
use Rattle.covers.specs.Cover.{Point, feeds, input_delay}
use Rattle.covers.specs.Choice.{lesser}
use Rattle.covers.specs.Inside.Curve.{both}
use Rattle.covers.proofs.Points.{lesser_assoc, lesser_none}
use Rattle.covers.proofs.Deadline.{best_inputs, best_match, best_of}
use Rattle.covers.proofs.Filling.{from_curve, from_table}
use Rattle.leaves.specs.Inside.Leaf.{Heads}
use Rattle.cells.specs.Inside.Cell.{figures_of, CellStored}
use Rattle.cells.proofs.Laws.{legal_is, figures_are, delay_is}
use Rattle.overlay.specs.Inside.Promises.{input_of}
use Rattle.overlay.proofs.Patterns.{slice_kept}
use Rattle.matching.specs.declared.Hit.{Hit}
use Rattle.matching.specs.Inside.Found.{hit_of}
use Rattle.curves.specs.Inside.Words.{table_of}
use Rattle.curves.specs.Inside.Best.{hit_at, pattern_of, input_best, input_late, inputs_best, hit_best, legal_best, hits_best}
use Rattle.leaves.proofs.Symbols.{leaf_told}

-- What stands at an input's node is the head of its shape.
abbrev pub Headed : List ℕ → List Input → Type 0
Headed symbols is = (i : Input) → Memᴰ i is → Heads (get_or symbols i.node 0) i.shape

-- The inputs feed pins of the cell.
abbrev pub Pinned : Cell → List Input → Type 0
Pinned c is = (i : Input) → Memᴰ i is → i.pin < length c.pins

module _ (most : ℕ) (l : Library) (symbols work : List ℕ) where
  abbrev table : ℕ → ℕ → List Point
  table = table_of most work

  input_is : (i : Input) (p : Pin) (end : ℕ) → Heads (get_or symbols i.node 0) i.shape →
      input_best most symbols work i.node p.bin (pin_load l p) end ≡ from_table l table p i end
  unfolding from_table
  input_is i p end h = go i.shape h
    where
      go : (s : Shape) → Heads (get_or symbols i.node 0) s → input_best most symbols work i.node p.bin (pin_load l p) end ≡ from_curve s (pin_load l p) (table i.node p.bin) end
      go (leaf x) e = unfold input_best from_curve in rw (le-leb 2 (get_or symbols i.node 0) (omega arith), leaf_told (get_or symbols i.node 0) x e)
      go (inv s) e = unfold input_best from_curve in rw (lt-leb 2 (get_or symbols i.node 0) (omega arith))
      go (nand s t) e = unfold input_best from_curve in rw (lt-leb 2 (get_or symbols i.node 0) (omega arith))

  module _ (pattern : List ℕ) (c : Cell) (stored : CellStored l pattern c) (load end : ℕ) where
    inputs_are : (is : List Input) → Pinned c is → Headed symbols is → inputs_best most symbols work pattern load end (map input_of is) ≡ best_inputs (from_table l table) c load end is
    unfolding inputs_best best_inputs input_late figures_of
    inputs_are [] q h = refl
    inputs_are (i ∷ is) q h =
        rw (figures_are stored i (q i (Memᴰ.head refl)) refl, delay_is l c load i, input_is i (feeds c i) (end - input_delay c load i) (h i (Memᴰ.head refl)))
        (ap (both _) (inputs_are is (λ j m. q j (Memᴰ.tail m)) (λ j m. h j (Memᴰ.tail m))))

  pub hit_is_match : (pattern : List ℕ) (m : Match) (load end : ℕ) → CellStored l pattern m.pattern.cell → length m.inputs ≤ 6 → Pinned m.pattern.cell m.inputs → Headed symbols m.inputs →
      hit_best most symbols work pattern (hit_of m) load end ≡ best_match (from_table l table) load end m
  unfolding hit_best best_match hit_of
  hit_is_match pattern m load end stored few q h = rw (stored.area_is, slice_kept m.inputs refl few, inputs_are pattern m.pattern.cell stored load end m.inputs q h) refl

-- The matches one after another.
best_more : (best : Pin → Input → ℕ → Option Point) (load end : ℕ) (xs ys : List Match) → best_of best load end (xs ++ ys) ≡ lesser (best_of best load end xs) (best_of best load end ys)
unfolding best_of lesser
best_more best load end [] ys = refl
best_more best load end (m ∷ xs) ys = rw (best_more best load end xs ys) (sym (lesser_assoc (best_match best load end m) (best_of best load end xs) (best_of best load end ys)))

-- A hit holds a match, whose pattern's row holds its cell.
pub record Found (l : Library) (rows symbols : List ℕ) (hit : Hit) (m : Match) : Type 0 where
  pub holds : hit ≡ hit_of m
  pub few : length m.inputs ≤ 6
  pub stored : CellStored l (pattern_of rows hit) m.pattern.cell
  pub pinned : Pinned m.pattern.cell m.inputs
  pub headed : Headed symbols m.inputs

-- The least point of a hit is its match's, if it is legal.
pub legal_hit : {l : Library} {rows symbols : List ℕ} {hit : Hit} {m : Match} → Found l rows symbols hit m → (most : ℕ) (work : List ℕ) (load end : ℕ) →
    legal_best most symbols work (pattern_of rows hit) hit load end ≡ cond (legal m.pattern.cell load) (best_match (from_table l (table_of most work)) load end m) none
unfolding legal_best
legal_hit {l} {rows} {symbols} {hit} {m} f most work load end =
    ap₂ (λ (b : Bool) (o : Option Point). cond b o none) (legal_is f.stored load) (ap (λ (h : Hit). hit_best most symbols work (pattern_of rows hit) h load end) f.holds ∙ hit_is_match most l symbols work (pattern_of rows hit) m load end f.stored f.few f.pinned f.headed)

-- All hits of a node: the least point of the legal ones.
module _ (most : ℕ) (l : Library) (symbols work rows : List ℕ) (hits : List Hit) (load end : ℕ) (ms : List Match) (d : Match)
    (founds : (j : ℕ) → j < length ms → Found l rows symbols (hit_at hits j) (get_or ms j d)) where
  abbrev allowed : Match → Bool
  allowed m = legal m.pattern.cell load

  abbrev best : List Match → Option Point
  best = best_of (from_table l (table_of most work)) load end

  one_hit : (j : ℕ) → j < length ms → let m = get_or ms j d in legal_best most symbols work (pattern_of rows (hit_at hits j)) (hit_at hits j) load end ≡ best (select allowed (m ∷ []))
  unfolding best_of lesser select keep_if
  one_hit j h = legal_hit (founds j h) most work load end ∙ cases (allowed (get_or ms j d)) (λ f. rw f (sym (lesser_none _))) (λ f. rw f)

  hits_so_far : (n : ℕ) → n ≤ length ms → hits_best most symbols work rows hits load end n ≡ best (select allowed (take n ms))
  unfolding hits_best best_of select
  hits_so_far zero h = refl
  hits_so_far (suc n) h =
      rw (take-suc ms n d h, select_append allowed (take n ms) (get_or ms n d ∷ []), best_more (from_table l (table_of most work)) load end (select allowed (take n ms)))
      (ap₂ lesser (hits_so_far n (omega arith)) (one_hit n h))

  pub hits_are_best : hits_best most symbols work rows hits load end (length ms) ≡ best (select allowed ms)
  hits_are_best = hits_so_far (length ms) (omega arith) ∙ ap (λ (q : List Match). best (select allowed q)) (take_all (length ms) ms (omega arith))
