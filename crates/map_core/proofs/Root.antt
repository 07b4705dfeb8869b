-- The root's cover.
use Prim.Native.Nat.{ℕ, suc, ◌+◌, ◌/◌, ◌%◌, ◌≤◌, ◌<◌}
use mathlib.Core.Path.{◌≡◌, refl, sym, ap, ap₂, subst, ◌∙◌}
use mathlib.Core.Bool.{Bool, cond}
use mathlib.Core.List.{List, []}
use mathlib.Core.Option.{Option, none, some, map, none-ne-some, some-injective}
use native.Mathlib.Numerals.{add-one}
use native.Mathlib.Omega.{arith}
use borrow.Author.Tests.{le-leb, lt-leb}
use lib.ListN.{length, get_or}
use Rattle.std.specs.Option.{ok_or}
use Rattle.std.specs.Prelude.{Option as Maybe, None, Result, Ok, Err}
use Rattle.fields.specs.Answer.{success}
use Rattle.sheets_rules.specs.declared.LibraryRecord.{LibraryRecord}
use Rattle.sheets_rules.specs.declared.Refusal.{Refusal}
use Rattle.sheets_rules.specs.declared.TreeRecord.{TreeRecord}
use Rattle.sheets_rules.specs.Model.{Leaf, Shape, leaf, inv, nand, Library, Tree}
use Rattle.sheets_rules.specs.Inside.Layout.{tree_laid}
use Rattle.covers.specs.Cover.{Point, Cover, leaf_arrival, leaf_point, leaf_cover}
use Rattle.covers.specs.Enumeration.{covers}
use Rattle.covers.specs.Choice.{least, choice_step, choice}
use Rattle.covers.specs.Answer.{answered, mapped}
use Rattle.covers.specs.Inside.Curve.{base, gates, lookup, point_of}
use Rattle.covers.proofs.Curve.{curve_is, lookup_is_least}
use Rattle.covers.proofs.Handed.{choice_point, choice_handed}
use Rattle.covers.proofs.Listing.{few_matches}
use Rattle.covers.proofs.Matching.{gates_lt_size}
use Rattle.covers.proofs.Nodes.{root_in}
use Rattle.covers.proofs.Unroll.{choice_unroll}
use Rattle.leaves.specs.Inside.Leaf.{Heads, leaf_of, symbol_limit}
use Rattle.matching.specs.declared.Hit.{Hit}
use Rattle.matching.specs.Inside.Found.{match_most}
use Rattle.overlay.specs.Inside.Standing.{Stands}
use Rattle.overlay.proofs.Standing.{heads_everywhere, stands_everywhere, subject_everywhere}
use Rattle.curves.specs.Inside.Words.{point_limit, stored, curve_at}
use Rattle.curves.specs.Inside.Promises.{PointWord}
use Rattle.choosing.specs.declared.Goal.{Goal}
use Rattle.choosing.specs.Inside.Promises.{at_root, Chooses, CoverChosen}
use Rattle.choosing.proofs.Gate.{chosen_there}
use Rattle.result_sheets.specs.declared.CoverRecord.{CoverRecord}
use Rattle.result_sheets.specs.Public.{cover_of, bare_cover, appended}
use Rattle.result_sheets.proofs.Laws.{appended_cover}
use Rattle.map_core.specs.Inside.Found.{of_mapped, no_cover}
use Rattle.map_core.specs.Inside.Promises.{rows_of, Curved, MapsLeaf, MappedIs}
use Rattle.leaves.proofs.Symbols.{symbols_small, leaf_told}

-- What is asked of the root.
abbrev pub root_goal : (load time : ℕ) → Goal
root_goal load time = record { node = 0; load = load; bin = 0; time = time }

-- What is refused where nothing was looked up.
pub nothing_looked : {q : Refusal} {o : Maybe ℕ} → ◌≡◌ {A = Result ℕ Refusal} (Err q) (ok_or o no_cover) → o ≡ None → q ≡ no_cover
nothing_looked {q} e f = let same : ◌≡◌ {A = Result ℕ Refusal} (Err q) (Err no_cover) = rw f at e in cc

-- ---- a leaf

-- The answer to a leaf, which is in time or not.
module _ (l : Library) (load : ℕ) (x : Leaf) (time : ℕ) where
  leaf_is : choice l load 0 (leaf x) time ≡ choice_step l (choice l) load 0 (leaf x) time
  leaf_is = ap (λ (f : ℕ → Option Cover). f time) (choice_unroll l load 0 (leaf x))

  pub leaf_late : time < leaf_arrival x load → of_mapped (Err no_cover) ≡ answered none (choice l load 0 (leaf x) time)
  unfolding answered choice_step
  leaf_late h = sym (ap (answered none) (leaf_is ∙ ap (λ (b : Bool). cond b (some (leaf_cover x load)) none) (lt-leb _ _ h)))

  pub leaf_timely : (a : ℕ) → a ≡ leaf_arrival x load → a ≤ time → of_mapped (Ok (bare_cover 0 a)) ≡ answered none (choice l load 0 (leaf x) time)
  unfolding answered choice_step leaf_cover leaf_point
  leaf_timely a e h =
      ap (λ (b : ℕ). success (record { point = record { area = 0; arrival = b }; placed = [] })) e
      ∙ sym (ap (answered none) (leaf_is ∙ ap (λ (b : Bool). cond b (some (leaf_cover x load)) none) (le-leb (leaf_arrival x load) time (subst (λ (b : ℕ). b ≤ time) e h))))

-- ---- the root

module _ {most : ℕ} {l : Library} {t : Tree} {library : LibraryRecord} {tree : TreeRecord} {work : List ℕ} (given : Curved most l t library tree work) where
  abbrev first : ℕ
  first = get_or tree.symbols 0 0

  pub load_is : tree.load ≡ t.load
  unfolding tree_laid
  load_is = ap (λ (r : TreeRecord). r.load) given.tree_is

  pub time_is : tree.required ≡ t.required
  unfolding tree_laid
  time_is = ap (λ (r : TreeRecord). r.required) given.tree_is

  abbrev Root : Shape → Type 0
  Root = Stands tree.symbols tree.sizes 0

  root_heads : Heads first t.shape
  root_heads = heads_everywhere given.prepared.decoded (record { number = 0; shape = t.shape }) (root_in 0 t.shape)

  root_stands : Root t.shape
  root_stands = stands_everywhere given.prepared.decoded (record { number = 0; shape = t.shape }) (root_in 0 t.shape)

  pub sizes_long : length tree.sizes ≡ 64
  sizes_long = (subject_everywhere given.prepared.decoded (record { number = 0; shape = t.shape }) (root_in 0 t.shape)).sizes_long

  pub gate_root : first < 2 → 0 < gates t.shape
  gate_root = go t.shape root_stands
    where
      go : (x : Shape) → Root x → first < 2 → 0 < gates x
      go (leaf y) h g = absurd (omega (arith, h.0))
      go (inv a) h g = unfold gates in omega arith
      go (nand a b) h g = unfold gates in omega arith

  pub leaf_root : 2 ≤ first → t.shape ≡ leaf (leaf_of first)
  leaf_root = go t.shape root_heads
    where
      go : (x : Shape) → Heads first x → 2 ≤ first → x ≡ leaf (leaf_of first)
      go (leaf y) h g = ap leaf (sym (leaf_told first y h))
      go (inv a) h g = absurd (omega arith)
      go (nand a b) h g = absurd (omega arith)

  pub leaf_small : first ≤ symbol_limit
  leaf_small = symbols_small tree.symbols t.shape given.prepared.decoded.symbols_are given.prepared.decoded.tree.leaves 0

  -- No node is overfull, so the answer is the choice.
  chosen_is : (o : Option Cover) → choice l tree.load 0 t.shape tree.required ≡ o → answered none o ≡ mapped most l t
  unfolding mapped
  chosen_is o e =
      ap (answered none) (sym e ∙ ap₂ (λ (a b : ℕ). choice l a 0 t.shape b) load_is time_is)
      ∙ ap (λ (q : Option ℕ). answered q (choice l t.load 0 t.shape t.required)) (sym given.not_overfull)

  pub leaf_mapped : 2 ≤ first → (r : Result CoverRecord Refusal) → MapsLeaf first tree.load tree.required r → MappedIs most l t r
  leaf_mapped h r e = record {
    answer_is = e.answer_is l ∙ ap (λ (s : Shape). answered none (choice l tree.load 0 s tree.required)) (sym (leaf_root h)) ∙ chosen_is _ refl;
    few = e.few;
  }

  abbrev looked : Option Point
  looked = lookup (tree.required + 1) (stored (curve_at most work 0))

  module _ (gate : first < 2) where
    looked_is : looked ≡ least (suc tree.required) (covers l tree.load 0 t.shape)
    looked_is =
        ap (lookup (tree.required + 1)) (given.prepared.curves.root (gate_root gate)) ∙ lookup_is_least (tree.required + 1) (curve_is (covers l t.load 0 t.shape))
        ∙ ap₂ (λ (k a : ℕ). least k (covers l a 0 t.shape)) (add-one tree.required) (sym load_is)

    pub gate_none : looked ≡ none → MappedIs most l t (Err no_cover)
    unfolding answered
    gate_none e = record {
      answer_is = chosen_is none (go (choice l tree.load 0 t.shape tree.required) (choice_point l tree.load 0 t.shape tree.required ∙ sym looked_is ∙ e));
      few = tt;
    }
      where
        go : (o : Option Cover) → map (λ (c : Cover). c.point) o ≡ none → o ≡ none
        go none e = refl
        go (some c) e = absurd (none-ne-some c.point (sym e))

    module _ (w : ℕ) (worth : PointWord point_limit (tree.required + 1) w looked) where
      least_here : least (suc tree.required) (covers l tree.load 0 t.shape) ≡ some (point_of w)
      least_here = sym looked_is ∙ worth.point

      chosen : (c : Cover) × (choice l tree.load 0 t.shape tree.required ≡ some c)
      chosen = chosen_there l tree.load 0 t.shape tree.required least_here

      few_placed : length chosen.0.placed ≤ 63
      few_placed = omega (arith, few_matches (choice_handed l tree.load 0 t.shape tree.required chosen.1).legal, gates_lt_size t.shape, given.prepared.decoded.tree.size)

      module _ (goal : Goal) (goal_is : goal ≡ root_goal tree.load tree.required) (begun : CoverRecord) (begun_is : begun ≡ bare_cover (w / base) (w % base)) (rows : List ℕ) (rows_are : rows ≡ rows_of library) (found : List Hit) (room : length found ≡ match_most) where
        -- What the choice is lent.
        pub gate_chooses : Chooses most l t rows tree.symbols tree.sizes (length found) work goal begun t.shape
        gate_chooses = rw (goal_is, begun_is, rows_are, room) (record {
          prepared = given.prepared;
          driven = record {
            node = root_in 0 t.shape;
            drives = at_root refl load_is refl;
            time_small = omega (arith, time_is, given.prepared.decoded.tree.required);
            some_cover = (point_of w, least_here);
          };
          fits = omega (arith, gates_lt_size t.shape, given.prepared.decoded.tree.size);
        })

        -- What it names.
        pub gate_found : (cover : CoverRecord) → CoverChosen most rows tree.symbols tree.sizes found work goal begun cover → MappedIs most l t (Ok cover)
        unfolding answered point_of
        gate_found cover chooses =
            let c = chosen.0 in
            let is : cover ≡ appended (bare_cover (w / base) (w % base)) c.placed = rw begun_is at (chooses l t t.shape gate_chooses c (rw goal_is chosen.1)) in
            let p : point_of w ≡ c.point = some-injective _ _ (sym least_here ∙ sym (choice_point l tree.load 0 t.shape tree.required) ∙ ap (map (λ (d : Cover). d.point)) chosen.1) in
            let whole : cover_of cover ≡ c = ap cover_of is ∙ appended_cover (bare_cover (w / base) (w % base)) c.placed refl (omega (arith, few_placed)) ∙ ap (λ (q : Point). record { point = q; placed = c.placed }) p in
            record { answer_is = ap success whole ∙ chosen_is (some c) chosen.1; few = omega (arith, ap (λ (r : CoverRecord). r.count) is, few_placed) }
