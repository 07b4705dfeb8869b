-- The match chosen at a gate: the first hit that reaches the least point in time is that of the first match that does.
use Prim.Native.Nat.{ℕ, zero, suc, ◌+◌, ◌%◌, ◌≤◌, ◌<◌}
use mathlib.Core.Path.{◌≡◌, refl, sym, ap, subst, ◌∙◌}
use mathlib.Core.Logic.{◌↔◌}
use mathlib.Core.Bool.{Bool, true, false, cond, ◌&&◌, false≢true}
use mathlib.Core.List.{List, [], ◌∷◌}
use mathlib.Core.Option.{none, some, none-ne-some, some-injective, map-eq-some_iff}
use native.Mathlib.Numerals.{add-one}
use native.Mathlib.Omega.{arith}
use lib.ListN.{length, get_or}
use borrow.Table.Steps.{cases}
use Rattle.sheets_rules.specs.Model.{Shape, size, Library, Tree}
use Rattle.covers.specs.Lists.{keep_if, select, first_such}
use Rattle.covers.specs.Match.{Match, legal, fitting, matches}
use Rattle.covers.specs.Cover.{Point, Cover, topped}
use Rattle.covers.specs.Enumeration.{match_covers, under, covers, all_below}
use Rattle.covers.specs.Tradeoff.{Node}
use Rattle.covers.specs.Choice.{least, reaches, chosen_inputs, with_inputs, first_reaching, gate_choice, choice}
use Rattle.covers.specs.Inside.Curve.{base, curve, gates, lookup, point_of}
use Rattle.covers.proofs.Basics.{option_cases, at_all, in_select}
use Rattle.covers.proofs.Least.{least_is, least_some}
use Rattle.covers.proofs.Unroll.{gate_choice_lem}
use Rattle.covers.proofs.Handed.{choice_point}
use Rattle.covers.proofs.Nodes.{root_in}
use Rattle.covers.proofs.Ascending.{ascending_unique}
use Rattle.covers.proofs.Overfull.{nodes_ascend}
use Rattle.covers.proofs.Curve.{curve_is, lookup_is_least}
use Rattle.covers.proofs.Filling.{reaches_from_table}
use Rattle.covers.proofs.FromSheets.{binned}
use Rattle.overlay.proofs.Walking.{stands_size}
use Rattle.std.specs.Prelude.{None, Some}
use Rattle.matching.specs.declared.Hit.{Hit}
use Rattle.matching.specs.Inside.Promises.{Ready}
use Rattle.curves.specs.Inside.Words.{point_limit, table_of}
use Rattle.curves.specs.Inside.Best.{hit_at, pattern_of}
use Rattle.curves.specs.Inside.Promises.{Worth}
use Rattle.filling.proofs.Hits.{legal_hit}
use Rattle.filling.proofs.Node.{no_match, here, node_within, gate_here, FoundIs, match_at, many, match_in, found_at}
use Rattle.choosing.specs.declared.Goal.{Goal}
use Rattle.choosing.specs.declared.Inputs.{Inputs}
use Rattle.choosing.specs.Inside.Promises.{Reaches, Reaching, FirstHit, HitHolds, InputsAre, Prepared, at_root, below, Driven}

-- ---- the first that passes

module _ {A : Type 0} where
  first_select : (sel test : A → Bool) (xs : List A) → first_such test (select sel xs) ≡ first_such (λ x. sel x && test x) xs
  unfolding first_such select keep_if
  first_select sel test [] = refl
  first_select sel test (x ∷ xs) = let e = first_select sel test xs in cases (sel x) (λ f. rw (f, e)) (λ f. rw (f, e))

  first_at : (test : A → Bool) (xs : List A) (r : ℕ) (d : A) → r < length xs → ((j : ℕ) → j < r → test (get_or xs j d) ≡ false) → test (get_or xs r d) ≡ true → first_such test xs ≡ some (get_or xs r d)
  unfolding first_such
  first_at test [] r d h f e = absurd (omega arith)
  first_at test (x ∷ xs) zero d h f e = rw e
  first_at test (x ∷ xs) (suc r) d h f e = ap (λ (b : Bool). cond b (some x) (first_such test xs)) (f 0 (omega arith)) ∙ first_at test xs r d (omega arith) (λ j g. f (suc j) (omega arith)) e

  first_none : (test : A → Bool) (xs : List A) (d : A) → ((j : ℕ) → j < length xs → test (get_or xs j d) ≡ false) → first_such test xs ≡ none
  unfolding first_such
  first_none test [] d f = refl
  first_none test (x ∷ xs) d f = ap (λ (b : Bool). cond b (some x) (first_such test xs)) (f 0 (omega arith)) ∙ first_none test xs d (λ j g. f (suc j) (omega arith))

-- ---- the choice at a gate

-- The match and the choice of its inputs that a chosen cover is made of.
pub record Parts (l : Library) (load n : ℕ) (s : Shape) (p : Point) (c : Cover) : Type 0 where
  pub match : Match
  pub inputs : Cover
  pub first : first_reaching l load n s p ≡ some match
  pub chosen : chosen_inputs (under l (choice l)) match.pattern.cell load p.arrival match.inputs ≡ some inputs
  pub whole : c ≡ topped n match inputs

module _ (l : Library) (load n : ℕ) (s : Shape) (time : ℕ) (g : 0 < gates s) {p : Point} (e : least (suc time) (covers l load n s) ≡ some p) where
  pub parts : {c : Cover} → choice l load n s time ≡ some c → Parts l load n s p c
  unfolding gate_choice with_inputs
  parts {c} h =
      let k = rw (gate_choice_lem l load n s time g, e) at h in
      option_cases (first_reaching l load n s p) (λ f. absurd (none-ne-some c (rw f at k))) (λ m f.
      let q = (map-eq-some_iff (topped n m) (chosen_inputs (under l (choice l)) m.pattern.cell load p.arrival m.inputs)).0 (rw f at k) in
      record { match = m; inputs = q.0; first = f; chosen = q.1; whole = sym q.2 })

-- A cover in time is chosen.
pub chosen_there : (l : Library) (load n : ℕ) (s : Shape) (time : ℕ) {p : Point} → least (suc time) (covers l load n s) ≡ some p → (c : Cover) × (choice l load n s time ≡ some c)
chosen_there l load n s time {p} e = let q = (map-eq-some_iff (λ (c : Cover). c.point) (choice l load n s time)).0 (choice_point l load n s time ∙ e) in (q.0, q.1)

-- ---- at a node

pub size_at : {l : Library} {t : Tree} {rows ss zs : List ℕ} {n room : ℕ} {s : Shape} → Ready l t rows ss zs n room s → get_or zs n 0 ≡ size s
size_at {ss = ss} {zs} {n} {s = s} g = stands_size ss zs n s (here g).stands

-- What is small there.
pub record Limits (goal : Goal) (ss : List ℕ) : Type 0 where
  pub node_small : goal.node < 64
  pub load_small : goal.load ≤ 255
  pub bin_small : goal.bin < 4
  pub symbols_long : length ss ≡ 64

module _ {most : ℕ} {l : Library} {t : Tree} {rows ss zs : List ℕ} {room : ℕ} {work : List ℕ} (dec : Prepared most l t rows ss zs room work) {goal : Goal} {s : Shape} (drv : Driven l t goal s) where
  pub ready : Ready l t rows ss zs goal.node room s
  ready = record { decoded = dec.decoded; here = drv.node; room_is = dec.room_is }

  pub limits : Limits goal ss
  limits = record {
    node_small = node_within ready;
    load_small = elim drv.drives [
      | at_root a b c ↦ omega (arith, dec.decoded.tree.load)
      | below a b c ↦ omega (arith, at_all (λ x. x ≤ 255) l.bins goal.bin 0 (omega arith) dec.decoded.library.loads)
    ];
    bin_small = elim drv.drives [ at_root a b c ↦ omega arith | below a b c ↦ omega (arith, dec.decoded.library.few_bins) ];
    symbols_long = (here ready).symbols_long;
  }

  abbrev covered : List Cover
  covered = covers l goal.load goal.node s

  curve_here : 0 < gates s → table_of most work goal.node goal.bin ≡ curve covered
  curve_here g = elim drv.drives [
    | at_root a b c ↦
        let same : s ≡ t.shape = ap (λ (x : Node). x.shape) (ascending_unique (nodes_ascend 0 t.shape) drv.node (root_in 0 t.shape) a) in
        let e = dec.curves.root (rw same at g) in
        cc
    | below a b c ↦ let e = dec.curves.below (record { number = goal.node; shape = s }) drv.node a g goal.bin b in cc
  ]

  -- The word found is the least point in time, which there is.
  look_is : 0 < gates s → lookup (goal.time + 1) (table_of most work goal.node goal.bin) ≡ least (suc goal.time) covered
  look_is h = rw (curve_here h, ← add-one goal.time) (lookup_is_least (goal.time + 1) (curve_is covered))

  pub word_there : 0 < gates s → Worth point_limit (goal.time + 1) None (lookup (goal.time + 1) (table_of most work goal.node goal.bin)) → ⊥
  word_there h e = none-ne-some _ (sym e ∙ look_is h ∙ drv.some_cover.1)

  pub word_found : (w : ℕ) → Worth point_limit (goal.time + 1) (Some w) (lookup (goal.time + 1) (table_of most work goal.node goal.bin)) → 0 < gates s →
      (w < point_limit) × (least (suc goal.time) covered ≡ some (point_of w))
  word_found w g h = (g.small, sym (look_is h) ∙ g.point)

module _ {most : ℕ} {l : Library} {t : Tree} {rows ss zs : List ℕ} {room : ℕ} {work : List ℕ} (dec : Prepared most l t rows ss zs room work) {goal : Goal} {s : Shape} (drv : Driven l t goal s)
    {hits : List Hit} (are : FoundIs l goal.node s hits) where
  -- The match of hit j.
  abbrev nth : ℕ → Match
  nth = match_at (ready dec drv) are

  module _ (w : ℕ) (g : 0 < gates s) (e : least (suc goal.time) (covers l goal.load goal.node s) ≡ some (point_of w)) where
    abbrev passes : Match → Bool
    passes m = legal m.pattern.cell goal.load && reaches (point_of w) (match_covers (all_below l) goal.load goal.node m)

    -- A hit reaches the word exactly when its match is legal and reaches the point.
    hit_passes : (j : ℕ) → j < length hits → Reaches most ss work rows goal.load w (hit_at hits j) ↔ (passes (nth j) ≡ true)
    unfolding matches point_of
    hit_passes j h = rw (add-one, legal_hit (found_at (ready dec drv) are j h) most work goal.load (suc (w % base))) (cases (legal (nth j).pattern.cell goal.load)
        (λ f.
        let r = reaches_from_table l (binned dec.decoded.library) t.shape (table_of most work) goal.node s (λ x m k. dec.curves.below x m (omega arith)) drv.node goal.load
        (least_some (least_is (suc goal.time) (covers l goal.load goal.node s)) e)
        (in_select (λ m. legal m.pattern.cell goal.load) (fitting l goal.node s) (match_in (ready dec drv) are j h) f) in
        rw f (r.1, r.0))
        (λ f. rw f ((λ q. absurd (none-ne-some _ q)), (λ q. absurd (false≢true q)))))

    fails : (j : ℕ) → j < length hits → (Reaches most ss work rows goal.load w (hit_at hits j) → ⊥) → passes (nth j) ≡ false
    fails j h f = cases (passes (nth j)) (λ q. absurd (f ((hit_passes j h).1 q))) (λ q. q)

    first_is : first_reaching l goal.load goal.node s (point_of w) ≡ first_such passes (fitting l goal.node s)
    first_is = unfold first_reaching matches in first_select (λ m. legal m.pattern.cell goal.load) (λ m. reaches (point_of w) (match_covers (all_below l) goal.load goal.node m)) (fitting l goal.node s)

    first_found : (r : ℕ) → Reaching most ss work rows hits goal.load w r → first_reaching l goal.load goal.node s (point_of w) ≡ some (nth r)
    first_found r f =
        first_is
        ∙ first_at passes (fitting l goal.node s) r no_match (omega (arith, f.within, many (ready dec drv) are)) (λ j k. fails j (omega (arith, f.within)) (f.before j k)) ((hit_passes r f.within).0 f.here)

    one_reaches : FirstHit most ss work rows hits goal.load w None → ⊥
    one_reaches f =
        let p = parts l goal.load goal.node s goal.time g e (chosen_there l goal.load goal.node s goal.time e).1 in
        none-ne-some _ (sym (first_is ∙ first_none passes (fitting l goal.node s) no_match (λ j k. let h : j < length hits = omega (arith, many (ready dec drv) are) in fails j h (f j h))) ∙ p.first)

-- The hit that was picked for a word, and its match.
pub record Picked (l : Library) (goal : Goal) (s : Shape) (rows : List ℕ) (hit : Hit) (w : ℕ) : Type 0 where
  pub match : Match
  pub stored : HitHolds l (pattern_of rows hit) hit match
  pub word : least (suc goal.time) (covers l goal.load goal.node s) ≡ some (point_of w)
  pub first : first_reaching l goal.load goal.node s (point_of w) ≡ some match

module _ {most : ℕ} {l : Library} {t : Tree} {rows ss zs : List ℕ} {room : ℕ} {work : List ℕ} (dec : Prepared most l t rows ss zs room work) {goal : Goal} {s : Shape} (drv : Driven l t goal s)
    (small : get_or ss goal.node 0 < 2) {hits : List Hit} (are : FoundIs l goal.node s hits) (w : ℕ)
    (worth : Worth point_limit (goal.time + 1) (Some w) (lookup (goal.time + 1) (table_of most work goal.node goal.bin))) where
  abbrev gate : 0 < gates s
  gate = gate_here (ready dec drv) small

  pub some_reaches : FirstHit most ss work rows hits goal.load w None → ⊥
  some_reaches = one_reaches dec drv are w gate (word_found dec drv w worth gate).1

  pub picked : (r : ℕ) → Reaching most ss work rows hits goal.load w r → Picked l goal s rows (hit_at hits r) w
  picked r first =
      let e = (word_found dec drv w worth gate).1 in
      let f = found_at (ready dec drv) are r first.within in
      record {
        match = match_at (ready dec drv) are r;
        stored = record { few = f.few; hit_is = f.holds; stored = f.stored; pinned = f.pinned };
        word = e;
        first = first_found dec drv are w gate e r first;
      }

pub picked_inputs : {l : Library} {goal : Goal} {s : Shape} {rows : List ℕ} {hit : Hit} {w : ℕ} → Picked l goal s rows hit w → (x : Inputs) →
    ((l : Library) (m : Match) → HitHolds l (pattern_of rows hit) hit m → InputsAre l m goal.load (w % base) x) →
    (p : Point) → least (suc goal.time) (covers l goal.load goal.node s) ≡ some p → (m : Match) → first_reaching l goal.load goal.node s p ≡ some m → InputsAre l m goal.load p.arrival x
unfolding point_of
picked_inputs {l} {goal} {s} {w = w} k x reads p e m f =
    let point : point_of w ≡ p = some-injective _ _ (sym k.word ∙ e) in
    let match : k.match ≡ m = some-injective _ _ (sym k.first ∙ ap (first_reaching l goal.load goal.node s) point ∙ f) in
    subst (λ (q : Match). InputsAre l q goal.load p.arrival x) match (subst (λ (q : Point). InputsAre l k.match goal.load q.arrival x) point (reads l k.match k.stored))
