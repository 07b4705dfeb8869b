-- One match at the first of what is to be covered.
use Prim.Native.Nat.{ℕ, zero, suc, ◌+◌, ◌/◌, ◌≤◌, ◌<◌}
use mathlib.Core.Path.{◌≡◌, refl, sym, ap, subst, ◌∙◌}
use mathlib.Core.Bool.{Bool, true, false, ◌&&◌, and-false, cond}
use mathlib.Core.List.{List, ◌∷◌, Memᴰ}
use mathlib.Core.Option.{Option, none, some, map}
use native.Mathlib.Numerals.{add-one}
use native.Mathlib.Omega.{arith}
use lib.ListN.{length, get_or, drop}
use Rattle.sheets_rules.specs.Model.{Shape, size, nands, Library, Pattern, Tree}
use Rattle.covers.specs.Crossing.{crossing_limit, redrawn, is_crossing}
use Rattle.covers.specs.Match.{Input, Match, matched, legal}
use Rattle.covers.specs.Cover.{raised}
use Rattle.covers.specs.Inside.Curve.{base}
use Rattle.covers.specs.Tradeoff.{nodes}
use Rattle.covers.proofs.Matching.{Spread, crossing_small, fits_inside, size_pos}
use Rattle.covers.proofs.Matching as matching
use Rattle.covers.proofs.Nodes.{node_of, root_in, fits_in, nodes_within, node_ends}
use Rattle.std.specs.Prelude.{Result, Ok, Err, Some}
use Rattle.overlay.specs.declared.Inputs.{Inputs}
use Rattle.overlay.specs.Inside.Standing.{DrawingStored, extent, Measured}
use Rattle.sheets_rules.specs.Inside.Layout.{area_at}
use Rattle.cells.specs.Inside.Cell.{row_legal}
use Rattle.cells.proofs.Laws.{legal_is}
use Rattle.overlay.specs.Inside.Promises.{inputs_of, Walkable, WalkIs}
use Rattle.overlay.proofs.Patterns.{missed, hit}
use Rattle.judge_rules.specs.Walk.{Uncovered, Walk, inputs_visited, others, match_at, match_taken}
use Rattle.judge_rules.specs.Inside.Order.{Apart, next}
use Rattle.judge_rules.proofs.Order.{inputs_apart, apart_few, others_first}
use Rattle.judge.specs.declared.WalkRecord.{WalkRecord}
use Rattle.judge.specs.declared.Waiting.{Waiting}
use Rattle.judge.specs.Inside.Promises.{uncovered, WalkStored, Entering, Within, Taking, StepIs}
use Rattle.judge.proofs.Stored.{kept_raised}

-- The inputs after one of them, from where its subtree ends.
pub record SpreadAfter (low high : ℕ) (is : List Input) (k : ℕ) : Type 0 where
  pub from : ℕ
  pub gates : ℕ
  pub above : low < from
  pub spread : Spread from high gates (drop (suc k) is)

pub spread_after : {low high g : ℕ} {is : List Input} → Spread low high g is → (k : ℕ) → k < length is → SpreadAfter low high is k
spread_after (matching.last h) k g = absurd (omega arith)
spread_after (matching.next {g = g'} {i = i} a b s) zero g = record { from = i.node + size i.shape; gates = g'; above = omega (arith, size_pos i.shape); spread = s }
spread_after (matching.next {i = i} {is = is} a b s) (suc k) g =
    let r = spread_after s k (omega arith) in
    record { from = r.from; gates = r.gates; above = omega (arith, r.above); spread = r.spread }

-- An area more.
abbrev pub with_area : WalkRecord → ℕ → WalkRecord
with_area r area = record { area = r.area + area; arrival = r.arrival; count = r.count; waiting = r.waiting }

module _ {l : Library} {t : Tree} {row ss zs : List ℕ} {k : ℕ} {p : Pattern} {s : Shape} {w : Walk} {r : WalkRecord} {one : Waiting} (h : Taking l t row ss zs k p s w r one) where
  abbrev o : Uncovered
  o = uncovered one s

  apart : Apart h.walking.low (size t.shape) (o ∷ h.others)
  apart = subst (Apart h.walking.low (size t.shape)) h.first h.walking.apart

  pub within : Within t k o
  within = h.walking.within o (subst (Memᴰ o) (sym h.first) (Memᴰ.head refl))

  pub area_small : r.area + get_or row area_at 0 < base
  area_small = omega (arith, h.kept.area_is, h.walking.area, h.few, h.cell.area_is, h.sound.area)

  -- What measure answers.
  abbrev Measures : List ℕ → Type 0
  Measures words = (d : Shape) → DrawingStored row d → size d ≤ 16 → Measured d words

  pub measured : {words : List ℕ} → Measures words → Measured p.drawing words
  measured e = e p.drawing h.drawn h.drawing.size

  -- The first word says how many NANDs the drawing has.
  pub record NandsRead (words : List ℕ) : Type 0 where
    pub nands_are : get_or words 0 0 / 32 ≡ nands p.drawing
    pub few : get_or words 0 0 / 32 ≤ 5

  pub nands_read : {words : List ℕ} → Measures words → NandsRead words
  unfolding extent
  nands_read e =
      let whole = (measured e).each (record { number = 0; shape = p.drawing }) (root_in 0 p.drawing) in
      let small = h.drawing.size in
      record { nands_are = omega (arith, whole, small); few = omega (arith, whole, small, h.drawing.nands, h.sound.few_pins) }

  module _ (number x : ℕ) where
    abbrev d : Shape
    d = redrawn x p.drawing

    abbrev step : Option Walk
    step = match_taken l w o (match_at number x o (some p))

    -- What is_legal answers of a load that is that of what is to be covered.
    abbrev LegalIs : Bool → Type 0
    LegalIs b = (load : ℕ) × (load ≡ one.load) × (b ≡ row_legal row load)

    legal_read : {b : Bool} → LegalIs b → b ≡ legal p.cell one.load
    legal_read (load, same, e) = e ∙ ap (row_legal row) same ∙ legal_is h.cell one.load

    -- Not legal under the load.
    pub wrong_load : {b : Bool} → LegalIs b → b ≡ false → step ≡ none
    wrong_load e f = none_legal (sym (legal_read e) ∙ f)
      where
        none_legal : legal p.cell one.load ≡ false → step ≡ none
        none_legal g = unfold match_taken match_at in rw g

    module _ (words : List ℕ) (measures : Measures words) where
      -- What is_crossing answers by the first word, and the walk over the pattern at the node that is to be covered.
      abbrev CrossingIs : Bool → Type 0
      CrossingIs b = (word : ℕ) × (word ≡ get_or words 0 0) × ((e : Shape) → word / 32 ≡ nands e → b ≡ is_crossing e x)

      abbrev WalkedAs : Result Inputs ℕ → Type 0
      WalkedAs walked = (n : ℕ) × (n ≡ one.node) × ((e u : Shape) → Walkable row words ss zs n e u → WalkIs e u n x walked)

      crossing_read : {b : Bool} → CrossingIs b → b ≡ is_crossing p.drawing x
      crossing_read (word, same, e) = e p.drawing (ap (λ (n : ℕ). n / 32) same ∙ (nands_read measures).nands_are)

      pub walkable_at : (n : ℕ) → n ≡ one.node → Walkable row words ss zs n p.drawing s
      walkable_at n same = subst (λ (k : ℕ). Walkable row words ss zs k p.drawing s) (sym same) (h.walkable (measured measures))

      -- No crossing of the pattern, or no match.
      pub wrong_crossing : {b : Bool} → CrossingIs b → b ≡ false → step ≡ none
      wrong_crossing e f = none_crossed (sym (crossing_read e) ∙ f)
        where
          none_crossed : is_crossing p.drawing x ≡ false → step ≡ none
          none_crossed g = unfold match_taken match_at in rw (g, and-false (legal p.cell one.load))

      pub crossing_below : {b : Bool} → CrossingIs b → b ≡ true → x < crossing_limit
      crossing_below e f = crossing_small p.drawing x (sym (crossing_read e) ∙ f)

      walked_here : (walked : Result Inputs ℕ) → WalkedAs walked → WalkIs p.drawing s one.node x walked
      walked_here walked (n, same, e) = subst (λ (k : ℕ). WalkIs p.drawing s k x walked) same (e p.drawing s (walkable_at n same))

      pub wrong_shape : (used : ℕ) → WalkedAs (Err used) → step ≡ none
      wrong_shape used e = none_matched (missed one.node s x h.drawing (walked_here (Err used) e))
        where
          none_matched : matched d one.node s ≡ none → step ≡ none
          none_matched g = unfold match_taken match_at in go (legal p.cell one.load && is_crossing p.drawing x)
            where
              go : (b : Bool) → match_taken l w o (cond b (map (λ (is : List Input). record { number = number; crossing = x; pattern = p; inputs = is }) (matched d one.node s)) none) ≡ none
              go true = unfold match_taken in rw g
              go false = unfold match_taken in refl

      -- A legal match: the walk reaches its inputs.
      module _ (is : List Input) (fits : matched d one.node s ≡ some is) where
        abbrev pub match : Match
        match = record { number = number; crossing = x; pattern = p; inputs = is }

        abbrev pub below : Walk
        below = record { left = h.others; point = raised p.cell.area w.point }

        stepped : legal p.cell one.load ≡ true → is_crossing p.drawing x ≡ true → step ≡ some (inputs_visited l p.cell one.load one.delay is below)
        unfolding match_taken match_at
        stepped e f =
            let there : match_at number x o (some p) ≡ some match = rw (e, f, fits) in
            ap (match_taken l w o) there
            ∙ ap (λ (us : List Uncovered). some (inputs_visited l p.cell one.load one.delay is (record { left = us; point = raised p.cell.area w.point }))) (ap (others one.node) h.first ∙ others_first apart)

        -- The inputs are nodes of the tree.
        in_tree : (i : Input) → Memᴰ i is → Memᴰ (node_of i) (nodes 0 t.shape)
        in_tree i a = nodes_within 0 t.shape within.node_in (fits_in d one.node s is fits i a)

        room : (j : ℕ) → j < length is → length (inputs_visited l p.cell one.load one.delay (drop (j + 1) is) below).left < 64
        room j g =
            let rest = spread_after (fits_inside d one.node s fits).spread j g in
            let few = apart_few (inputs_apart l p.cell one.load one.delay (drop (suc j) is) below rest.spread (beyond apart)) in
            subst (λ (q : ℕ). length (inputs_visited l p.cell one.load one.delay (drop q is) below).left < 64) (sym (add-one j)) (omega (arith, few, rest.above, h.tree.size))
          where
            beyond : {low : ℕ} → Apart low (size t.shape) (o ∷ h.others) → Apart (one.node + size s) (size t.shape) h.others
            beyond (next a g r) = r

        entering : {inputs : Inputs} → inputs ≡ inputs_of is → length is ≤ length p.cell.pins → ((i : Input) → Memᴰ i is → i.pin < length p.cell.pins) → Entering l row ss inputs one (with_area r (get_or row area_at 0)) match below
        entering e few pinned = record {
          kept = subst (λ (a : ℕ). WalkStored below (with_area r a)) (sym h.cell.area_is) (kept_raised p.cell.area h.kept);
          stored = record { inputs_are = e; cell = h.cell; sound = h.sound; few = omega (arith, few, h.sound.few_pins); pinned = pinned };
          heads = λ i a. (h.heads (node_of i) (in_tree i a), omega (arith, node_ends 0 t.shape (in_tree i a), size_pos i.shape, h.tree.size));
          symbols_long = (h.walkable (measured measures)).subject.symbols_long;
          symbols_small = h.symbols_small;
          library = h.library;
          light = within.light;
          near = omega (arith, within.near, h.few);
          room = room;
        }

      pub record Found (inputs : Inputs) : Type 0 where
        pub m : Match
        pub below : Walk
        pub enters : Entering l row ss inputs one (with_area r (get_or row area_at 0)) m below
        pub makes : (q : WalkRecord) → WalkStored (inputs_visited l m.pattern.cell one.load one.delay m.inputs below) q → StepIs step (Some q)

      pub found : (inputs : Inputs) {a b : Bool} → LegalIs a → a ≡ true → CrossingIs b → b ≡ true → WalkedAs (Ok inputs) → Found inputs
      found inputs a e b c f =
          let there = hit one.node s x h.drawing (walked_here (Ok inputs) f) in
          let is = there.inputs in
          record {
            m = match is there.fits;
            below = below is there.fits;
            enters = entering is there.fits there.inputs_are there.few there.pinned;
            makes = λ u kept-after. (_, stepped is there.fits (sym (legal_read a) ∙ e) (sym (crossing_read b) ∙ c), kept-after);
          }
