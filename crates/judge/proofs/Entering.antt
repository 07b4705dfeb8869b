-- A match's inputs, reached from the last to the first.
use Prim.Native.Nat.{ℕ, ◌+◌, ◌≤◌, ◌<◌}
use mathlib.Core.Path.{◌≡◌, refl, sym, ap, subst, ◌∙◌}
use mathlib.Core.List.{List, [], ◌∷◌, ◌++◌, map, Memᴰ}
use native.Mathlib.Numerals.{add-one}
use native.Mathlib.Omega.{arith}
use lib.ListN.{length, get_or, take, drop, length-map}
use lib.Seq.{drop-cons, drop-length, get_or-take}
use Rattle.std.proofs.lemmas.List.{length_push, get_or_push, take_at, take-take}
use Rattle.fields.proofs.Lists.{at_mem, at_map}
use Rattle.sheets_rules.specs.Model.{Cell, Library}
use Rattle.covers.specs.Match.{Input, Match, pin_load}
use Rattle.covers.specs.Cover.{feeds, input_delay}
use Rattle.overlay.specs.declared.Input.{Input as InputRecord}
use Rattle.overlay.specs.declared.Inputs.{Inputs}
use Rattle.overlay.specs.Inside.Promises.{input_of, blank_input}
use Rattle.overlay.proofs.Walking.{inputs_count}
use Rattle.leaves.specs.Inside.Leaf.{Heads}
use Rattle.cells.specs.declared.PinFigures.{PinFigures}
use Rattle.cells.specs.Inside.Cell.{row_figures, delay_of, PinSafe, figures_of}
use Rattle.cells.proofs.Laws.{figures_are, delay_is, pin_safe}
use Rattle.overlay.proofs.Patterns.{no_input, slice_kept}
use Rattle.judge_rules.specs.Walk.{Walk, visited, inputs_visited}
use Rattle.judge.specs.declared.WalkRecord.{WalkRecord}
use Rattle.judge.specs.declared.Waiting.{Waiting}
use Rattle.judge.specs.Inside.Promises.{WalkStored, Reached, Entering}

-- A turn of a loop that goes back over a list: what is left are the elements before x.
pub record TurnBack {A : Type 0} (all before rest : List A) (x : A) : Type 0 where
  pub long : length before ≡ length rest + 1
  pub inside : length rest < length all
  pub left : rest ≡ take (length rest) all
  pub here : (d : A) → x ≡ get_or all (length rest) d

pub turn_back : {A : Type 0} (all before rest : List A) (x : A) → length before ≤ length all → before ≡ take (length before) all → before ≡ rest ++ (x ∷ []) → TurnBack all before rest x
turn_back {A} all before rest x few left e =
    let n = length rest in
    let long : length before ≡ n + 1 = ap length e ∙ length_push rest x in
    let front : take (n + 1) all ≡ rest ++ (x ∷ []) = ap (λ (k : ℕ). take k all) (sym long) ∙ sym left ∙ e in
    record {
      long = long;
      inside = omega (arith, long);
      left = sym (take_at rest (x ∷ []) n refl) ∙ ap (take n) (sym front) ∙ take-take n (n + 1) all (omega arith);
      here = λ d. sym (get_or_push rest x d n refl) ∙ ap (λ (xs : List A). get_or xs n d) (sym front) ∙ get_or-take (n + 1) all n d (omega arith);
    }

module _ {l : Library} {row ss : List ℕ} {inputs : Inputs} {one : Waiting} {r : WalkRecord} {m : Match} {w : Walk} (h : Entering l row ss inputs one r m w) where
  abbrev cell : Cell
  cell = m.pattern.cell

  -- The walk that has reached the inputs from k on.
  abbrev pub from : ℕ → Walk
  from k = inputs_visited l cell one.load one.delay (drop k m.inputs) w

  pub slice_is : take inputs.count inputs.list ≡ map input_of m.inputs
  slice_is = slice_kept m.inputs h.stored.inputs_are h.stored.few

  pub slice_long : length (take inputs.count inputs.list) ≡ length m.inputs
  slice_long = ap length slice_is ∙ length-map m.inputs input_of

  pub few : inputs.count ≤ 6
  few = omega (arith, inputs_count m.inputs h.stored.inputs_are, h.stored.few)

  pub from_none : from (length (take inputs.count inputs.list)) ≡ w
  unfolding inputs_visited
  from_none = ap (λ (is : List Input). inputs_visited l cell one.load one.delay is w) (ap (λ (i : ℕ). drop i m.inputs) slice_long ∙ drop-length m.inputs)

  -- What a turn reads of an input x, which has number k.
  pub record InputRead (k : ℕ) (x : InputRecord) : Type 0 where
    pub pin_small : x.pin < 6
    pub node_small : x.node < 64
    pub safe : PinSafe (row_figures row x.pin)
    pub room : length (from (k + 1)).left < 64
    -- One input more.
    pub kept : {a b : WalkRecord} → WalkStored (from (k + 1)) a → (pin : PinFigures) (d : ℕ) → pin ≡ row_figures row x.pin → d ≡ delay_of pin one.load →
        Reached a (get_or ss x.node 0) (record { node = x.node; load = pin.load; delay = d + one.delay }) b → WalkStored (from k) b

  pub input_read : (k : ℕ) (x : InputRecord) → k < length m.inputs → x ≡ get_or (take inputs.count inputs.list) k blank_input → InputRead k x
  unfolding inputs_visited figures_of
  input_read k x here e =
      let is = m.inputs in
      let i = get_or is k no_input in
      let among : Memᴰ i is = at_mem is k no_input here in
      let kept : x ≡ input_of i = e ∙ ap (λ (xs : List InputRecord). get_or xs k blank_input) slice_is ∙ at_map input_of is k no_input blank_input here in
      let pin-is : x.pin ≡ i.pin = ap (λ (y : InputRecord). y.pin) kept in
      let node-is : x.node ≡ i.node = ap (λ (y : InputRecord). y.node) kept in
      let stored : row_figures row x.pin ≡ figures_of l (feeds cell i) = figures_are h.stored.cell i (h.stored.pinned i among) pin-is in
      record {
        pin_small = omega (arith, pin-is, h.stored.pinned i among, h.stored.sound.few_pins);
        node_small = omega (arith, node-is, (h.heads i among).1);
        safe = subst PinSafe (sym stored) (pin_safe h.library h.stored.sound i);
        room = h.room k here;
        kept = λ {a} {b} was pin d ep ed came.
            let step : from k ≡ visited (pin_load l (feeds cell i)) (input_delay cell one.load i + one.delay) i.node i.shape (from (k + 1)) =
            ap (λ (js : List Input). inputs_visited l cell one.load one.delay js w) (drop-cons is k no_input here ∙ ap (λ (j : ℕ). i ∷ drop j is) (sym (add-one k))) in
            let pin-read : pin ≡ figures_of l (feeds cell i) = ep ∙ stored in
            let delay-read : d ≡ input_delay cell one.load i = ed ∙ ap (λ (q : PinFigures). delay_of q one.load) pin-read ∙ delay_is l cell one.load i in
            let same : visited pin.load (d + one.delay) x.node i.shape (from (k + 1)) ≡ from k =
            (λ j. visited (pin-read j).load (delay-read j + one.delay) (node-is j) i.shape (from (k + 1))) ∙ sym step in
            subst (λ (v : Walk). WalkStored v b) same (came (from (k + 1)) i.shape was (subst (λ (n : ℕ). Heads (get_or ss n 0) i.shape) (sym node-is) (h.heads i among).0));
      }
