-- The walk over all listed matches: after each step it is again a walk over the tree.
use Prim.Native.Nat.{ℕ, suc, ◌+◌, ◌*◌, ◌≤◌, ◌<◌}
use mathlib.Core.Path.{◌≡◌, refl, sym, ap, subst, ◌∙◌}
use mathlib.Core.List.Memᴰ
use mathlib.Core.List.{List, [], ◌∷◌, map, Memᴰ}
use mathlib.Core.Option.{Option, none, some, none-ne-some, some-injective}
use native.Mathlib.Numerals.{add-one}
use native.Mathlib.Omega.{arith}
use lib.ListN.{length, get_or, drop, length-map, drop_of_length-le}
use lib.Seq.{drop-cons}
use Rattle.fields.proofs.Lists.{at_map}
use Rattle.fields.specs.Answer.{refused, success}
use Rattle.sheets_rules.specs.Model.{Shape, leaf, inv, nand, size, Cell, Library, Tree}
use Rattle.sheets_rules.specs.Inside.Sound.{SoundLibrary, SoundTree}
use Rattle.covers.specs.Match.{Input, Match, IsMatch, pin_load}
use Rattle.covers.specs.Cover.{Point, Placed, raised, beside, late, leaf_point, feeds, input_delay}
use Rattle.covers.specs.Tradeoff.{nodes}
use Rattle.covers.proofs.Basics.{each}
use Rattle.covers.proofs.Points.{point_path}
use Rattle.result_sheets.specs.declared.MatchRecord.{MatchRecord}
use Rattle.result_sheets.specs.Public.{placed_of}
use Rattle.covers.proofs.Nodes.{node_of, root_in, input_in, nodes_within}
use Rattle.covers.proofs.Bounds.{match_cell}
use Rattle.sheets_rules.specs.declared.TreeRecord.{TreeRecord}
use Rattle.sheets_rules.specs.Inside.Layout.{tree_laid}
use Rattle.leaves.specs.Inside.Leaf.{symbol_limit}
use Rattle.cells.specs.Inside.Cell.{slowest, figures_of}
use Rattle.cells.proofs.Laws.{delay_is, pin_safe, delay_small}
use Rattle.overlay.specs.Inside.Standing.{Subject}
use Rattle.overlay.proofs.Standing.{heads_everywhere, subject_everywhere}
use Rattle.leaves.proofs.Symbols.{symbols_small}
use Rattle.judge_rules.specs.Walk.{Uncovered, Walk, visited, inputs_visited, started, step, match_number, list_ended, onward, walk}
use Rattle.judge_rules.specs.Inside.Order.{Apart}
use Rattle.judge_rules.proofs.Order.{after, StepIs, wrong, right, step_is, step_past}
use Rattle.judge_rules.proofs.Walking.{after_apart, started_apart}
use Rattle.judge.specs.declared.WalkRecord.{WalkRecord}
use Rattle.judge.specs.declared.Waiting.{Waiting}
use Rattle.judge.specs.Inside.Promises.{nothing_yet, WalkStored, Reached, Within, Walking, Stepping, Judging}
use Rattle.judge.proofs.Stored.{kept_nothing}

-- ---- what is to be covered stays within bounds

visit_area : (load far n : ℕ) (s : Shape) (w : Walk) → (visited load far n s w).point.area ≡ w.point.area
unfolding visited beside late leaf_point
visit_area load far n (leaf x) w = omega arith
visit_area load far n (inv s) w = refl
visit_area load far n (nand s u) w = refl

inputs_area : (l : Library) (c : Cell) (load far : ℕ) (is : List Input) (w : Walk) → (inputs_visited l c load far is w).point.area ≡ w.point.area
unfolding inputs_visited
inputs_area l c load far [] w = refl
inputs_area l c load far (i ∷ is) w = visit_area (pin_load l (feeds c i)) (input_delay c load i + far) i.node i.shape (inputs_visited l c load far is w) ∙ inputs_area l c load far is w

module _ (t : Tree) (k : ℕ) where
  abbrev AllWithin : Walk → Type 0
  AllWithin w = (o : Uncovered) → Memᴰ o w.left → Within t k o

  visit_within : (load far n : ℕ) (s : Shape) (w : Walk) → Memᴰ (record { number = n; shape = s }) (nodes 0 t.shape) → load ≤ 255 → far ≤ slowest * k → AllWithin w → AllWithin (visited load far n s w)
  unfolding visited
  visit_within load far n (leaf x) w a b d h = h
  visit_within load far n (inv s) w a b d h = each {P = Within t k} record { node_in = a; light = b; near = d } h
  visit_within load far n (nand s u) w a b d h = each {P = Within t k} record { node_in = a; light = b; near = d } h

  inputs_within : (l : Library) (c : Cell) (load far : ℕ) (is : List Input) (w : Walk) →
      ((i : Input) → Memᴰ i is → Memᴰ (node_of i) (nodes 0 t.shape) × (pin_load l (feeds c i) ≤ 255) × (input_delay c load i + far ≤ slowest * k)) → AllWithin w → AllWithin (inputs_visited l c load far is w)
  unfolding inputs_visited
  inputs_within l c load far [] w a h = h
  inputs_within l c load far (i ∷ is) w a h =
      let b = a i (Memᴰ.head refl) in
      visit_within (pin_load l (feeds c i)) (input_delay c load i + far) i.node i.shape (inputs_visited l c load far is w) b.0 b.1 b.2 (inputs_within l c load far is w (λ j m. a j (Memᴰ.tail m)) h)

pub started_walking : {t : Tree} → SoundTree t → Walking t 0 (started t)
unfolding started
started_walking {t} h = record {
  low = 0;
  apart = started_apart t;
  within = visit_within t 0 t.load 0 0 t.shape (record { left = []; point = record { area = 0; arrival = 0 } }) (root_in 0 t.shape) h.load (omega arith) (λ o m. absurd (Memᴰ.not-nil m));
  area = omega (arith, visit_area t.load 0 0 t.shape (record { left = []; point = record { area = 0; arrival = 0 } }));
}

module _ {l : Library} (sound : SoundLibrary l) where
  -- What the pin of an input presents and adds.
  fed_within : {c : Cell} {load : ℕ} → Memᴰ c l.cells → load ≤ 255 → (i : Input) → (pin_load l (feeds c i) ≤ 255) × (input_delay c load i ≤ slowest)
  unfolding figures_of
  fed_within {c} {load} m h i = let safe = pin_safe sound (sound.cells c m) i in (safe.load, omega (arith, delay_is l c load i, delay_small safe load h))

  after_walking : {t : Tree} {k low : ℕ} {o : Uncovered} {os : List Uncovered} (q : Point) {m : Match} → Apart low (size t.shape) (o ∷ os) → ((u : Uncovered) → Memᴰ u (o ∷ os) → Within t k u) → q.area ≤ 65535 * k →
      IsMatch l o.load o.node o.shape m → Walking t (k + 1) (after l o os q m)
  unfolding after raised
  after_walking {t} {k} {o = o} {os} q {m} r h a f =
      let here = h o (Memᴰ.head refl) in
      let cell = m.pattern.cell in
      let w : Walk = record { left = os; point = raised cell.area q } in
      record {
        low = suc o.node;
        apart = after_apart l q r f;
        within = inputs_within t (k + 1) l cell o.load o.delay m.inputs w
            (λ i j. (nodes_within 0 t.shape here.node_in (input_in f i j), (fed_within (match_cell f) here.light i).0, omega (arith, (fed_within (match_cell f) here.light i).1, here.near)))
            (λ u j. let v = h u (Memᴰ.tail j) in record { node_in = v.node_in; light = v.light; near = omega (arith, v.near) });
        area = omega (arith, inputs_area l cell o.load o.delay m.inputs w, a, (sound.cells cell (match_cell f)).area);
      }

  -- So after a step that stands rightly.
  pub step_walking : {t : Tree} {k : ℕ} (w w' : Walk) (x : Placed) → Walking t k w → step l w x ≡ some w' → Walking t (k + 1) w'
  step_walking {t} {k} w w' x h e = go w.left refl
    where
      made : {o : Uncovered} {os : List Uncovered} → w.left ≡ o ∷ os → {v : Option Walk} → StepIs l o os w.point x v → v ≡ some w' → Walking t (k + 1) w'
      made f wrong g = absurd (none-ne-some w' g)
      made {o} {os} f (right m j n) g =
          subst (Walking t (k + 1)) (some-injective (after l o os w.point m) w' g)
          (after_walking w.point (subst (Apart h.low (size t.shape)) f h.apart) (λ u i. h.within u (subst (Memᴰ u) (sym f) i)) h.area j.legal_match)

      go : (us : List Uncovered) → w.left ≡ us → Walking t (k + 1) w'
      go [] f = absurd (none-ne-some w' (sym (step_past l w.point x) ∙ ap (λ (us : List Uncovered). step l (record { left = us; point = w.point }) x) (sym f) ∙ e))
      go (o ∷ os) f = made f (step_is l (subst (Apart h.low (size t.shape)) f h.apart) w.point x) (ap (λ (us : List Uncovered). step l (record { left = us; point = w.point }) x) (sym f) ∙ e)

-- ---- the list

-- What is listed from position k on.
pub placed_drop : (ms : List MatchRecord) (k : ℕ) {m : MatchRecord} (d : MatchRecord) → k < length ms → m ≡ get_or ms k d → drop k (map placed_of ms) ≡ placed_of m ∷ drop (suc k) (map placed_of ms)
placed_drop ms k {m} d h e =
    drop-cons (map placed_of ms) k (placed_of d) (omega (arith, length-map ms placed_of))
    ∙ ap (λ (x : Placed). x ∷ drop (suc k) (map placed_of ms)) (at_map placed_of ms k d (placed_of d) h ∙ ap placed_of (sym e))

pub placed_end : (ms : List MatchRecord) (k : ℕ) → length ms ≤ k → drop k (map placed_of ms) ≡ []
placed_end ms k h = drop_of_length-le (map placed_of ms) (omega (arith, length-map ms placed_of))

module _ (l : Library) (t : Tree) (xs : List Placed) where
  -- The walk after k matches, as it is kept: what it will answer is what the whole walk answers.
  pub record Gone (k : ℕ) (r : WalkRecord) : Type 0 where
    pub w : Walk
    pub walking : Walking t k w
    pub kept : WalkStored w r
    pub rest : walk l k (drop k xs) w ≡ walk l 0 xs (started t)

  pub gone_start : {r : WalkRecord} → SoundTree t → WalkStored (started t) r → Gone 0 r
  gone_start h k = record { w = started t; walking = started_walking h; kept = k; rest = refl }

  module _ {k : ℕ} {r : WalkRecord} (g : Gone k r) where
    -- At the end of the list.
    pub gone_early : drop k xs ≡ [] → 0 < r.count → refused match_number k ≡ walk l 0 xs (started t)
    unfolding walk
    gone_early e h = go g.w.left refl ∙ sym (ap (λ (ys : List Placed). walk l k ys g.w) e) ∙ g.rest
      where
        go : (us : List Uncovered) → g.w.left ≡ us → refused match_number k ≡ list_ended k g.w.left g.w.point
        go [] f = absurd (omega (arith, g.kept.count_is, ap length f))
        go (o ∷ os) f = unfold list_ended in rw f

    pub gone_end : drop k xs ≡ [] → r.count ≡ 0 → success (record { area = r.area; arrival = r.arrival }) ≡ walk l 0 xs (started t)
    unfolding walk
    gone_end e h = ap success (point_path g.kept.area_is g.kept.arrival_is) ∙ go g.w.left refl ∙ sym (ap (λ (ys : List Placed). walk l k ys g.w) e) ∙ g.rest
      where
        go : (us : List Uncovered) → g.w.left ≡ us → success g.w.point ≡ list_ended k g.w.left g.w.point
        go [] f = unfold list_ended in rw f
        go (o ∷ os) f = absurd (omega (arith, g.kept.count_is, ap length f))

    -- At a match.
    module _ (x : Placed) (here : drop k xs ≡ x ∷ drop (suc k) xs) where
      turn : onward k (walk l (suc k) (drop (suc k) xs)) (step l g.w x) ≡ walk l 0 xs (started t)
      unfolding walk
      turn = sym (ap (λ (ys : List Placed). walk l k ys g.w) here) ∙ g.rest

      pub gone_wrong : step l g.w x ≡ none → refused match_number k ≡ walk l 0 xs (started t)
      gone_wrong e = unfold onward in sym (ap (onward k (walk l (suc k) (drop (suc k) xs))) e) ∙ turn

      pub gone_next : SoundLibrary l → {v : Walk} {q : WalkRecord} → step l g.w x ≡ some v → WalkStored v q → Gone (k + 1) q
      gone_next sound {v} {q} f kept = record {
        w = v;
        walking = step_walking sound g.w v x g.walking f;
        kept = kept;
        rest = unfold onward in ap (λ (j : ℕ). walk l j (drop j xs) v) (add-one k) ∙ sym (ap (onward k (walk l (suc k) (drop (suc k) xs))) f) ∙ turn;
      }

-- The walk at the root, as the code begins it.
module _ {l : Library} {t : Tree} {rows : List ℕ} {tree : TreeRecord} (h : Judging l t rows tree) where
  pub symbol_small : get_or tree.symbols 0 0 ≤ symbol_limit
  symbol_small = symbols_small tree.symbols t.shape h.decoded.symbols_are h.decoded.tree.leaves 0

  root_stored : Subject tree.symbols tree.sizes 0 t.shape
  root_stored = subject_everywhere h.decoded (record { number = 0; shape = t.shape }) (root_in 0 t.shape)

  pub symbols_long : length tree.symbols ≡ 64
  symbols_long = root_stored.symbols_long

  pub sizes_long : length tree.sizes ≡ 64
  sizes_long = root_stored.sizes_long

  load_is : tree.load ≡ t.load
  unfolding tree_laid
  load_is = ap (λ (r : TreeRecord). r.load) h.tree_is

  pub load_small : tree.load ≤ 255
  load_small = omega (arith, load_is, h.decoded.tree.load)

  -- The root, as it is first reached.
  abbrev pub root : Waiting
  root = record { node = 0; load = tree.load; delay = 0 }

  pub started_kept : (r : WalkRecord) → Reached nothing_yet (get_or tree.symbols 0 0) root r → WalkStored (started t) r
  unfolding started
  started_kept r f =
      let none : Walk = record { left = []; point = record { area = 0; arrival = 0 } } in
      subst (λ (load : ℕ). WalkStored (visited load 0 0 t.shape none) r) load_is
      (f none t.shape kept_nothing (heads_everywhere h.decoded (record { number = 0; shape = t.shape }) (root_in 0 t.shape)))

  pub stepping : {xs : List Placed} {k : ℕ} {r : WalkRecord} (g : Gone l t xs k r) → k ≤ 62 → Stepping l t rows tree.symbols tree.sizes k g.w r
  stepping g few = record { decoded = h.decoded; walking = g.walking; kept = g.kept; few = few }
