-- One listed match: where it may stand, and which pattern it may name.
use Prim.Native.Nat.{ℕ, zero, suc, ◌+◌, ◌-◌, ◌*◌, ◌≤◌, ◌<◌}
use mathlib.Core.Path.{◌≡◌, refl, sym, ap, subst, ◌∙◌}
use mathlib.Core.Logic.{◌≢◌}
use mathlib.Core.List.{List, [], ◌∷◌, Memᴰ}
use mathlib.Core.Option.{Option, none, some}
use native.Mathlib.Omega.{arith}
use lib.ListN.{length, get_or, get_elem?, take, drop}
use Rattle.sheets_rules.specs.Model.{size, Library, Pattern, Tree, patterns}
use Rattle.sheets_rules.specs.Inside.Layout.{row_words}
use Rattle.covers.specs.Cover.{Placed}
use Rattle.result_sheets.specs.declared.MatchRecord.{MatchRecord}
use Rattle.result_sheets.specs.Public.{placed_of}
use Rattle.std.specs.Prelude.{Option as Maybe}
use Rattle.std.specs.List.{slice_range}
use Rattle.overlay.proofs.Standing.{heads_everywhere}
use Rattle.leaves.proofs.Symbols.{symbols_small}
use Rattle.overlay.proofs.Patterns.{no_pattern, pattern_at, rows_long, at_hand, row_stored, walkable}
use Rattle.judge_rules.specs.Walk.{Uncovered, Walk, lowest_at, match_at, match_taken, placed_at, step}
use Rattle.judge_rules.specs.Inside.Order.{Apart}
use Rattle.judge_rules.proofs.Order.{lowest_first, lowest_other, apart_few, step_past}
use Rattle.judge.specs.declared.WalkRecord.{WalkRecord}
use Rattle.judge.specs.declared.Waiting.{Waiting}
use Rattle.judge.specs.Inside.Promises.{uncovered, Popped, Taking, StepIs, Stepping}
use Rattle.judge.proofs.Stored.{FirstTaken, first_taken, none_left}

module _ {A : Type 0} where
  at_there : (xs : List A) (k : ℕ) (d : A) → k < length xs → get_elem? xs k ≡ some (get_or xs k d)
  at_there [] k d h = absurd (omega arith)
  at_there (x ∷ xs) zero d h = refl
  at_there (x ∷ xs) (suc k) d h = at_there xs k d (omega arith)

  at_past : (xs : List A) (k : ℕ) → length xs ≤ k → get_elem? xs k ≡ none
  at_past [] k h = refl
  at_past (x ∷ xs) zero h = absurd (omega arith)
  at_past (x ∷ xs) (suc k) h = at_past xs k (omega arith)

-- The row of a pattern, as it is looked up among all rows.
pub row_got : (rows row : List ℕ) (n pattern : ℕ) → n ≡ pattern → row ≡ slice_range rows (row_words * n) (row_words * n + row_words) → row ≡ take row_words (drop (row_words * pattern) rows)
row_got rows row n pattern e is =
    let long : row_words * n + row_words - row_words * n ≡ row_words = omega arith in
    is ∙ ap (λ (m : ℕ). take m (drop (row_words * n) rows)) long ∙ ap (λ (k : ℕ). take row_words (drop (row_words * k) rows)) e

module _ {l : Library} {t : Tree} {rows ss zs : List ℕ} {k : ℕ} {w : Walk} {r : WalkRecord} (h : Stepping l t rows ss zs k w r) where
  pub count_few : r.count ≤ 64
  count_few = omega (arith, h.kept.count_is, apart_few h.walking.apart, h.decoded.tree.size)

  module _ (listed : MatchRecord) where
    abbrev x : Placed
    x = placed_of listed

    -- Nothing is left to cover.
    pub wrong_past : r.count ≡ 0 → step l w x ≡ none
    wrong_past e = ap (λ (us : List Uncovered). step l (record { left = us; point = w.point }) x) (none_left h.kept e) ∙ step_past l w.point x

    module _ {q : WalkRecord} {one : Waiting} (taken : Popped r one q) where
      abbrev f : FirstTaken w one q
      f = first_taken h.kept taken

      abbrev o : Uncovered
      o = uncovered one f.shape

      apart : Apart h.walking.low (size t.shape) (o ∷ f.others)
      apart = subst (Apart h.walking.low (size t.shape)) f.first h.walking.apart

      -- It stands at another node.
      pub wrong_node : one.node ≢ listed.node → step l w x ≡ none
      wrong_node d = away (ap (lowest_at listed.node) f.first ∙ lowest_other apart (λ e. d (sym e)))
        where
          away : lowest_at listed.node w.left ≡ none → step l w x ≡ none
          away e = unfold step placed_at in rw e

      module _ (here : one.node ≡ listed.node) where
        step_here : step l w x ≡ match_taken l w o (match_at listed.pattern listed.crossing o (get_elem? (patterns l) listed.pattern))
        unfolding step placed_at
        step_here = ap (placed_at l w x) (ap (lowest_at listed.node) f.first ∙ ap (λ (n : ℕ). lowest_at n (o ∷ f.others)) (sym here) ∙ lowest_first apart)

        -- No pattern of the library has that number.
        pub wrong_pattern : length rows < row_words * listed.pattern + row_words → step l w x ≡ none
        wrong_pattern g = step_here ∙ away (at_past (patterns l) listed.pattern (omega (arith, rows_long h.decoded)))
          where
            away : get_elem? (patterns l) listed.pattern ≡ none → match_taken l w o (match_at listed.pattern listed.crossing o (get_elem? (patterns l) listed.pattern)) ≡ none
            away e = unfold match_taken match_at in rw e

        module _ (known : row_words * listed.pattern + row_words ≤ length rows) where
          in_library : listed.pattern < length (patterns l)
          in_library = omega (arith, rows_long h.decoded)

          pub taking : (row : List ℕ) → row ≡ take row_words (drop (row_words * listed.pattern) rows) → Taking l t row ss zs k (pattern_at l listed.pattern) f.shape w q one
          taking row e =
              let stored = row_stored h.decoded listed.pattern in_library row_words refl in
              let sound = at_hand h.decoded listed.pattern in_library in
              subst (λ (ws : List ℕ). Taking l t ws ss zs k (pattern_at l listed.pattern) f.shape w q one) (sym e) (record {
                others = f.others;
                first = f.first;
                walking = h.walking;
                kept = f.kept;
                few = h.few;
                drawn = stored.drawing;
                walkable = λ a. walkable h.decoded listed.pattern in_library row_words refl a (h.walking.within o (subst (Memᴰ o) (sym f.first) (Memᴰ.head refl))).node_in;
                cell = stored.cell;
                sound = sound.cell;
                drawing = sound.drawing;
                heads = heads_everywhere h.decoded;
                tree = h.decoded.tree;
                symbols_small = symbols_small ss t.shape h.decoded.symbols_are h.decoded.tree.leaves;
                library = h.decoded.library;
              })

          pub made : (v : Maybe WalkRecord) → StepIs (match_taken l w o (match_at listed.pattern listed.crossing o (some (pattern_at l listed.pattern)))) v → StepIs (step l w x) v
          made v = subst (λ (z : Option Walk). StepIs z v) (ap (λ (p : Option Pattern). match_taken l w o (match_at listed.pattern listed.crossing o p)) (sym (at_there (patterns l) listed.pattern no_pattern in_library)) ∙ sym step_here)
