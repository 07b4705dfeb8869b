-- The root's curve as the words at the front of the work area, and its trade-offs.
use Prim.Native.Nat.{ℕ, zero, suc, ◌+◌, ◌≤◌, ◌<◌}
use mathlib.Core.Path.{◌≡◌, refl, sym, ap, ◌∙◌}
use mathlib.Core.Logic.{⊎_elim}
use mathlib.Core.Bool.{not, false≢true}
use mathlib.Core.List.Memᴰ
use mathlib.Core.List.{List, [], ◌∷◌, map, reverse, reverse-reverse}
use mathlib.Core.Option.{Option, none, some, none-ne-some}
use native.Mathlib.Nat.{mul-zero}
use native.Mathlib.Omega.{arith}
use lib.ListN.{length, get_or, take, drop, set, length-map, length-reverse}
use lib.Seq.{take-take, length-take-le, get_or-set_same}
use Rattle.std.specs.List.{position, position_or_len}
use Rattle.std.specs.Option.{unwrap_or}
use Rattle.std.specs.Prelude.{Option as Maybe, Ok, Err}
use Rattle.std.proofs.lemmas.List.Sums.{prefix_len-le-length}
use borrow.Table.Steps.{cases}
use borrow.Author.Tests.{ltb-false}
use lib.Dec.{eqb, ltb}
use Rattle.fields.specs.Answer.{success}
use Rattle.sheets_rules.specs.declared.LibraryRecord.{LibraryRecord}
use Rattle.sheets_rules.specs.declared.TreeRecord.{TreeRecord}
use Rattle.sheets_rules.specs.Model.{Library, Tree}
use Rattle.covers.specs.Cover.{Point, leaf_arrival, leaf_point}
use Rattle.covers.specs.Tradeoff.{tradeoffs, Node, nodes, considered, overfull}
use Rattle.covers.specs.Answer.{answered, nonempty, listed}
use Rattle.covers.proofs.Basics.{lt_or_le}
use Rattle.covers.specs.Inside.Curve.{base, curve, point_of}
use Rattle.covers.proofs.Nodes.{root_in}
use Rattle.covers.proofs.Overfull.{LastOf, nowhere, at, overfull_listed, overfull_named}
use Rattle.covers.proofs.Points.{point_path}
use Rattle.curves.specs.Inside.Words.{point_limit, stored}
use Rattle.result_sheets.specs.Inside.Promises.{points_of}
use Rattle.map_core.specs.Inside.Found.{no_cover}
use Rattle.map_core.specs.Inside.Promises.{Curved, ListedIs}
use Rattle.map_core.proofs.Root.{load_is, gate_root, leaf_root}
use Rattle.covers.proofs.Tradeoffs.{leaf_tradeoffs}
use Rattle.leaves.specs.Inside.Leaf.{leaf_of}

-- ---- counting

-- How many words come before a 0, or all.
abbrev pub words_before : List ℕ → ℕ
words_before ws = position_or_len (λ (w : ℕ). eqb w 0) ws

-- They are the curve's points.
points_before : (ws : List ℕ) → stored ws ≡ map point_of (take (words_before ws) ws)
unfolding stored
points_before [] = refl
points_before (w ∷ ws) =
    let more : 1 + words_before ws ≡ suc (words_before ws) = omega arith in
    cases (eqb w 0) (λ e. rw e refl) (λ e. rw e (ap (λ (ps : List Point). point_of w ∷ ps) (points_before ws) ∙ ap (λ (k : ℕ). map point_of (take k (w ∷ ws))) (sym more)))

pub counted : (ws : List ℕ) (o : Maybe ℕ) (n : ℕ) → o ≡ position (λ (w : ℕ). eqb w 0) ws → n ≡ unwrap_or o (length ws) → (n ≤ length ws) × (stored ws ≡ map point_of (take n ws))
counted ws o n e f = rw all (within, points_before ws)
  where
    within : words_before ws ≤ length ws
    within = prefix_len-le-length (λ (w : ℕ). not (eqb w 0)) ws

    all : n ≡ words_before ws
    all = cases (ltb (words_before ws) (length ws)) (λ g. f ∙ rw (e, g) refl) (λ g. f ∙ rw (e, g) (omega (arith, within, ltb-false (words_before ws) (length ws) g)))

-- ---- a leaf

-- A time as the word of a point of no area.
leaf_word : (a : ℕ) → a < base → point_of a ≡ record { area = 0; arrival = a }
unfolding point_of
leaf_word a h = point_path (omega arith) (omega arith)

first_set : (ws : List ℕ) (a : ℕ) → 0 < length ws → take 1 (set ws 0 a) ≡ a ∷ []
first_set [] a h = absurd (omega arith)
first_set (w ∷ ws) a h = refl

-- ---- the root

module _ {most : ℕ} {l : Library} {t : Tree} {library : LibraryRecord} {tree : TreeRecord} {work : List ℕ} (given : Curved most l t library tree work) where
  abbrev all : List Point
  all = tradeoffs l t.load 0 t.shape

  -- No node is overfull, so the answer is the list, if there is something in it.
  listed_is : (o : Option (List Point)) → nonempty all ≡ o → answered none o ≡ listed most l t
  unfolding listed
  listed_is o e = ap (answered none) (sym e) ∙ ap (λ (q : Option ℕ). answered q (nonempty all)) (sym given.not_overfull)

  few : length all ≤ most
  unfolding considered
  few = ⊎_elim (λ (m : most < length all). absurd (go given.not_overfull (overfull_named most l t) m)) (λ h. h) (lt_or_le most (length all))
    where
      go : {o : Option ℕ} → o ≡ none → LastOf (overfull most l t) (nodes 0 t.shape) o → most < length all → ⊥
      go e (nowhere a) m =
          let root : Node = record { number = 0; shape = t.shape } in
          false≢true (sym (a root (root_in 0 t.shape)) ∙ (overfull_listed most l t root).1 (t.load, Memᴰ.head refl, m))
      go e (at {k = k} h) m = none-ne-some k (sym e)

  pub leaf_listed : 2 ≤ get_or tree.symbols 0 0 → (a : ℕ) → a ≡ leaf_arrival (leaf_of (get_or tree.symbols 0 0)) tree.load → a < base → ListedIs most l t (set work 0 a) (Ok 1)
  unfolding answered nonempty points_of leaf_point
  leaf_listed h a e small =
      let there : 0 < length work = omega (arith, given.prepared.area.room) in
      let one : all ≡ record { area = 0; arrival = a } ∷ [] =
      ap (tradeoffs l t.load 0) (leaf_root given h) ∙ leaf_tradeoffs l t.load 0 (leaf_of (get_or tree.symbols 0 0))
      ∙ ap (λ (b : ℕ). record { area = 0; arrival = b } ∷ []) (ap (leaf_arrival (leaf_of (get_or tree.symbols 0 0))) (sym (load_is given)) ∙ sym e) in
      record {
        answer_is =
            ap (λ (ws : List ℕ). success (reverse (map point_of ws))) (first_set work a there)
            ∙ ap (λ (p : Point). success (p ∷ [])) (leaf_word a small)
            ∙ listed_is (some (record { area = 0; arrival = a } ∷ [])) (ap nonempty one);
        few = given.some_most;
        small = one_word;
      }
    where
      one_word : (k : ℕ) → k < 1 → get_or (set work 0 a) k 0 < point_limit
      one_word zero k = rw (get_or-set_same work 0 a 0 (omega (arith, given.prepared.area.room))) (omega arith)
      one_word (suc k) h = absurd (omega arith)

  module _ (gate : get_or tree.symbols 0 0 < 2) (count : ℕ) (within : count ≤ length (take (most + 1) work)) (counted : stored (take (most + 1) work) ≡ map point_of (take count (take (most + 1) work))) where
    first_words : length (take (most + 1) work) ≡ most + 1
    first_words = length-take-le (most + 1) work (omega (arith, given.prepared.area.room))

    front : take count (take (most + 1) work) ≡ take count work
    front = take-take count (most + 1) work (omega (arith, within, first_words))

    words_are : map point_of (take count work) ≡ reverse all
    unfolding curve tradeoffs
    words_are =
        ap (map point_of) (sym front) ∙ sym counted ∙ ap (λ (i : ℕ). stored (take (most + 1) (drop i work))) (sym (mul-zero (most + 1)))
        ∙ given.prepared.curves.root (gate_root given gate)

    many : count ≡ length all
    many = sym (length-take-le count work (omega (arith, within, first_words, given.prepared.area.room))) ∙ sym (length-map (take count work) point_of) ∙ ap length words_are ∙ length-reverse all

    pub gate_empty : count ≡ 0 → ListedIs most l t work (Err no_cover)
    unfolding answered nonempty
    gate_empty e = record { answer_is = listed_is none (go all (omega (arith, many))); few = tt; small = tt }
      where
        go : (ps : List Point) → length ps ≡ 0 → nonempty ps ≡ none
        go [] z = refl
        go (p ∷ ps) z = absurd (omega arith)

    pub gate_listed : (count ≡ 0 → ⊥) → ListedIs most l t work (Ok count)
    unfolding answered nonempty points_of
    gate_listed there = record {
      answer_is = ap success (ap reverse words_are ∙ reverse-reverse all) ∙ listed_is (some all) (go all (positive count many there));
      few = omega (arith, many, few);
      small = λ k h. given.prepared.area.small k;
    }
      where
        positive : (k : ℕ) → k ≡ length all → (k ≡ 0 → ⊥) → 0 < length all
        positive zero e h = absurd (h refl)
        positive (suc k) e h = omega arith

        go : (ps : List Point) → 0 < length ps → nonempty ps ≡ some ps
        go [] z = absurd (omega arith)
        go (p ∷ ps) z = refl
