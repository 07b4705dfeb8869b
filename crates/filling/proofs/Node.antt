-- One node of the decoded tree: what its symbol says, its hits, which are safe to read, and the least points and the curve read from the tables, which are those of its covers.
use mathlib.Core.Path.{◌≡◌, refl, sym, ap, subst, fun_ext, ◌∙◌}
use mathlib.Core.Bool.{true, false}
use mathlib.Core.List.{List, [], map, Memᴰ}
use mathlib.Core.Option.{Option, some, none-ne-some}
use Prim.Native.Nat.{ℕ, suc, ◌+◌, ◌*◌, ◌≤◌, ◌<◌}
use native.Mathlib.Omega.{arith}
use lib.ListN.{length, get_or, take, drop, length-map}
use lib.Seq.{sets, sets-eq, take-append_seam}
use Rattle.std.proofs.lemmas.List.{get_or-map}
use borrow.Table.Steps.{cases}
use Rattle.sheets_rules.specs.Model.{plain_leaf, Shape, leaf, inv, nand, Library, Tree, patterns}
use Rattle.sheets_rules.specs.Inside.Layout.{row_words}
use Rattle.sheets_rules.specs.Inside.Sound.{SoundLibrary}
use Rattle.covers.specs.Crossing.{redrawn}
use Rattle.covers.specs.Match.{Input, Match, legal, fitting, matches}
use Rattle.covers.specs.Cover.{Point, Cover, raised, topped, IsCover, bare, matching}
use Rattle.covers.specs.Enumeration.{match_covers, gate_covers, covers, all_below}
use Rattle.covers.specs.Choice.{least}
use Rattle.covers.specs.Inside.Curve.{Filled, base, by_deadline, curve, gates, word_of}
use Rattle.covers.proofs.Basics.{at_below, at_value, in_select, in_flat_map}
use Rattle.covers.proofs.Least.{In, IsLeast, least_is, least_some, least_rises}
use Rattle.covers.proofs.Matching.{size_pos, fitting_are, fits_inside, spread_in}
use Rattle.covers.proofs.Nodes.{node_of, fits_in, nodes_within, leaves_within}
use Rattle.covers.proofs.Bounds.{numbered_cell, area_bound, arrive_before}
use Rattle.covers.proofs.Relation.{covers_are}
use Rattle.covers.proofs.Curve.{curve_found}
use Rattle.covers.proofs.Unroll.{gate_covers_lem}
use Rattle.covers.proofs.Filling.{best_from_table, match_from_table}
use Rattle.covers.proofs.FromSheets.{limited, binned}
use Rattle.fields.proofs.Lists.{at_mem}
use Rattle.overlay.specs.Inside.Standing.{Stands, Subject}
use Rattle.cells.specs.Inside.Cell.{CellStored}
use Rattle.cells.proofs.Laws.{figures_are, pin_safe}
use Rattle.overlay.specs.Inside.Promises.{input_of, inputs_of}
use Rattle.overlay.proofs.Patterns.{no_input, input_kept, no_pattern, rows_long, row_stored}
use Rattle.overlay.proofs.Standing.{heads_everywhere, subject_everywhere}
use Rattle.matching.specs.declared.Hit.{Hit}
use Rattle.matching.specs.Inside.Found.{match_most, no_hit, hit_of}
use Rattle.matching.specs.Inside.Promises.{Ready}
use Rattle.matching.proofs.Patterns.{SoundMatch, fitting_sound, fitting_few}
use Rattle.curves.specs.Inside.Words.{table_of, WorkArea}
use Rattle.curves.specs.Inside.Best.{hit_at, pattern_of, hit_count, input_at, InputSafe, SourcesSafe, HitsKnown, Above, hits_best}
use Rattle.curves.specs.Inside.Promises.{match_before, Rising, best_before, node_points, PointsFit, Fit}
use Rattle.curves.proofs.Laws.{point_order}
use Rattle.leaves.proofs.Symbols.{symbols_small}
use Rattle.filling.proofs.Hits.{Headed, Found, legal_hit, hits_are_best}

-- ---- a node

abbrev pub no_match : Match
no_match = record { number = 0; crossing = 0; pattern = record { cell_number = 0; cell = record { held = false; area = 0; highest = 0; pins = []; drawings = [] }; drawing = plain_leaf 0 }; inputs = [] }

-- A gate's cover has some area.
cover_area : {l : Library} {load n : ℕ} {s : Shape} {c : Cover} → SoundLibrary l → IsCover l load n s c → 0 < gates s → 1 ≤ c.point.area
unfolding gates topped raised
cover_area sound (bare e) g = absurd (omega arith)
cover_area {l} sound (matching m f k e) g = omega (arith, (sound.cells m.pattern.cell (numbered_cell l m.number f.numbered)).some_area, ap (λ (z : Cover). z.point.area) e)

module _ {l : Library} {t : Tree} {rows ss zs : List ℕ} {n room : ℕ} {s : Shape} (g : Ready l t rows ss zs n room s) where
  pub here : Subject ss zs n s
  here = subject_everywhere g.decoded (record { number = n; shape = s }) g.here

  pub node_within : n < 64
  node_within = omega (arith, here.ends, size_pos s)

  -- What the least points are read from.
  pub sources : {most : ℕ} {work : List ℕ} → WorkArea most work → SourcesSafe most ss work
  sources w = record { symbols_length = here.symbols_long; symbols_small = symbols_small ss t.shape g.decoded.symbols_are g.decoded.tree.leaves; curves = w }

  -- What stands at the node.
  leaf_or_gate : (q : Shape) → Stands ss zs n q → (2 ≤ get_or ss n 0 → gates q ≡ 0) × (get_or ss n 0 < 2 → 0 < gates q)
  unfolding gates
  leaf_or_gate (leaf x) h = (λ k. refl, λ k. omega (arith, h.0))
  leaf_or_gate (inv a) h = (λ k. omega (arith, h.0), λ k. omega arith)
  leaf_or_gate (nand a b) h = (λ k. omega (arith, h.0), λ k. omega arith)

  pub leaf_here : 2 ≤ get_or ss n 0 → gates s ≡ 0
  leaf_here = (leaf_or_gate s here.stands).0

  pub gate_here : get_or ss n 0 < 2 → 0 < gates s
  gate_here = (leaf_or_gate s here.stands).1

  sound_match : {m : Match} → Memᴰ m (fitting l n s) → SoundMatch l n s m
  sound_match = fitting_sound l n s g.decoded.library

  pub headed : {m : Match} → Memᴰ m (fitting l n s) → Headed ss m.inputs
  headed {m} k i j = heads_everywhere g.decoded (node_of i) (nodes_within 0 t.shape g.here (fits_in (redrawn m.crossing m.pattern.drawing) n s m.inputs (fitting_are l n s k).fits i j))

  -- Where an input stands.
  place_of_lem : {m : Match} → Memᴰ m (fitting l n s) → (i : Input) → Memᴰ i m.inputs → (n < i.node) × (i.node < 64)
  place_of_lem {m} k i j =
      let p = spread_in (fits_inside (redrawn m.crossing m.pattern.drawing) n s (fitting_are l n s k).fits).spread j in
      (p.0, omega (arith, p.1, here.ends, size_pos i.shape))

-- ---- its matches

-- There are not too many for the table.
pub few_matches : {l : Library} {t : Tree} {rows ss zs : List ℕ} {n room : ℕ} {s : Shape} → Ready l t rows ss zs n room s → length (fitting l n s) ≤ match_most
few_matches {l = l} {n = n} {s = s} g = omega (arith, fitting_few l n s, g.decoded.library.few_patterns)

-- The hits of a node are those of its matches.
pub record FoundIs (l : Library) (n : ℕ) (s : Shape) (hits : List Hit) : Type 0 where
  pub hits_are : hits ≡ map hit_of (fitting l n s)

-- They are the first of the table, as many as are found.
pub found_are : {l : Library} {t : Tree} {rows ss zs : List ℕ} {n : ℕ} {s : Shape} (table : List Hit) → Ready l t rows ss zs n (length table) s → (count : ℕ) (table' : List Hit) →
    (count ≡ length (fitting l n s)) × (table' ≡ sets table 0 (map hit_of (fitting l n s))) → FoundIs l n s (take count table')
found_are {l = l} {n = n} {s = s} table g count table' e =
    let hits = map hit_of (fitting l n s) in
    let many : length hits ≡ count = omega (arith, length-map (fitting l n s) hit_of, e.0) in
    let room : 0 + length hits ≤ length table = omega (arith, many, e.0, g.room_is, few_matches g) in
    record { hits_are = rw (e.1, sets-eq hits table 0 room, ← many) (take-append_seam hits (drop (0 + length hits) table)) }

module _ {l : Library} {t : Tree} {rows ss zs : List ℕ} {n room : ℕ} {s : Shape} (g : Ready l t rows ss zs n room s) {hits : List Hit} (f : FoundIs l n s hits) where
  abbrev sound : SoundLibrary l
  sound = g.decoded.library

  abbrev pub match_at : ℕ → Match
  match_at j = get_or (fitting l n s) j no_match

  pub many : length hits ≡ length (fitting l n s)
  many = ap length f.hits_are ∙ length-map (fitting l n s) hit_of

  pub match_in : (j : ℕ) → j < length hits → Memᴰ (match_at j) (fitting l n s)
  match_in j h = at_mem (fitting l n s) j no_match (omega (arith, many))

  pub hit_holds : (j : ℕ) → j < length hits → hit_at hits j ≡ hit_of (match_at j)
  hit_holds j h = ap (λ (q : List Hit). get_or q j no_hit) f.hits_are ∙ get_or-map hit_of (fitting l n s) j no_match no_hit (omega (arith, many))

  -- The hit's pattern, and that pattern's row.
  number_is : (j : ℕ) → j < length hits → (hit_at hits j).pattern ≡ (match_at j).number
  unfolding hit_of
  number_is j h = ap (λ (q : Hit). q.pattern) (hit_holds j h)

  number_small : (j : ℕ) → j < length hits → (match_at j).number < length (patterns l)
  number_small j h = at_below (patterns l) (match_at j).number (sound_match g (match_in j h)).fitting_is.numbered

  pub pattern_stored : (j : ℕ) → j < length hits → CellStored l (pattern_of rows (hit_at hits j)) (match_at j).pattern.cell
  pattern_stored j h =
      rw (number_is j h, ← at_value (patterns l) (match_at j).number no_pattern (sound_match g (match_in j h)).fitting_is.numbered)
      (row_stored g.decoded (match_at j).number (number_small j h) row_words refl).cell

  pub found_at : (j : ℕ) → j < length hits → Found l rows ss (hit_at hits j) (match_at j)
  found_at j h = let sm = sound_match g (match_in j h) in record { holds = hit_holds j h; few = sm.few; stored = pattern_stored j h; pinned = sm.pinned; headed = headed g (match_in j h) }

  -- How many inputs there are, and input k.
  inputs_many : (j : ℕ) → j < length hits → hit_count (hit_at hits j) ≡ length (match_at j).inputs
  unfolding hit_of inputs_of
  inputs_many j h = ap hit_count (hit_holds j h)

  module _ (j : ℕ) (h : j < length hits) (k : ℕ) (hk : k < length (match_at j).inputs) where
    abbrev input : Input
    input = get_or (match_at j).inputs k no_input

    input_in : Memᴰ input (match_at j).inputs
    input_in = at_mem (match_at j).inputs k no_input hk

    input_is : input_at (hit_at hits j) k ≡ input_of input
    unfolding hit_of
    input_is = ap (λ (q : Hit). input_at q k) (hit_holds j h) ∙ input_kept (match_at j).inputs k refl (sound_match g (match_in j h)).few hk

    input_safe : InputSafe (pattern_of rows (hit_at hits j)) (input_at (hit_at hits j) k)
    input_safe = let sm = sound_match g (match_in j h) in rw input_is (record {
      pin = omega (arith, sm.pinned input input_in, sm.cell.few_pins);
      node = (place_of_lem g (match_in j h) input input_in).1;
      figures = rw (figures_are (pattern_stored j h) input (sm.pinned input input_in) refl) (pin_safe sound sm.cell input);
    })

  pub hits_known : HitsKnown rows hits
  hits_known j h = let sm = sound_match g (match_in j h) in record {
    known = omega (arith, number_is j h, number_small j h, rows_long g.decoded);
    safe = record { area = omega (arith, (pattern_stored j h).area_is, sm.cell.area); few = omega (arith, inputs_many j h, sm.few); inputs = λ k below. input_safe j h k (omega (arith, inputs_many j h)) };
  }

  pub hits_above : Above (4 * n + 3) hits
  hits_above j h k below =
      let inside : k < length (match_at j).inputs = omega (arith, inputs_many j h) in
      rw (input_is j h k inside) (omega (arith, (place_of_lem g (match_in j h) (input j h k inside) (input_in j h k inside)).0))

  -- With the curves of all later nodes in the work area.
  module _ (most : ℕ) (work : List ℕ) (filled : Filled l t.shape (table_of most work) (suc n)) (gate : 0 < gates s) (load : ℕ) (light : load ≤ 255) where
    best_is_least : (end : ℕ) → best_before most ss work rows hits load end ≡ least end (covers l load n s)
    unfolding matches
    best_is_least end =
        ap (hits_best most ss work rows hits load end) many
        ∙ hits_are_best most l ss work rows hits load end (fitting l n s) no_match (λ j h. found_at j (omega (arith, many)))
        ∙ best_from_table l (binned sound) t.shape (table_of most work) n s filled g.here load end gate

    timely : (c : Cover) → In (covers l load n s) c → c.point.arrival < base
    timely c k = omega (arith, arrive_before (limited sound) t.shape g.decoded.tree.size g.decoded.tree.leaves g.here light c k)

    cover_fits : (c : Cover) → In (covers l load n s) c → Fit c.point
    cover_fits c k =
        let legal-cover = covers_are l load n s k in
        let bound = area_bound (limited sound) legal-cover light (omega (arith, (here g).ends)) (λ x j. g.decoded.tree.leaves x (leaves_within 0 t.shape g.here j)) in
        record { some_area = cover_area sound legal-cover gate; area = omega arith; arrival = timely c k }

    -- The covers with one of the matches on top, and that its points rise.
    module _ (j : ℕ) (h : j < length hits) where
      abbrev match_only : List Cover
      match_only = match_covers (all_below l) load n (match_at j)

      module _ (allowed : legal (match_at j).pattern.cell load ≡ true) where
        match_legal : Memᴰ (match_at j) (matches l load n s)
        unfolding matches
        match_legal = in_select (λ m. legal m.pattern.cell load) (fitting l n s) (match_in j h) allowed

        before_is : (end : ℕ) → match_before most ss work rows hits load j end ≡ least end match_only
        before_is end = legal_hit (found_at j h) most work load end ∙ rw allowed (match_from_table l (binned sound) t.shape (table_of most work) n s filled g.here load end match_legal)

        among : (c : Cover) → In match_only c → In (covers l load n s) c
        unfolding gate_covers
        among c k = rw (gate_covers_lem l load n s gate) (in_flat_map (match_covers (all_below l) load n) match_legal k)

        least_fits : {end : ℕ} {p : Point} → IsLeast end (In match_only) p → Fit p
        least_fits f = subst Fit f.point (cover_fits f.cover (among f.cover f.among))

        legal_rises : Rising most ss work rows hits load j
        unfolding word_of
        legal_rises = record {
          intime = λ end p e. (least_some (least_is end match_only) (sym (before_is end) ∙ e)).intime;
          small = λ end p e. let f = least_fits (least_some (least_is end match_only) (sym (before_is end) ∙ e)) in omega (arith, f.area, f.arrival);
          rises = λ end end' less p e.
              let z = least_rises less match_only (sym (before_is end) ∙ e) in
              (z.0, before_is end' ∙ z.1, point_order z.2 (least_fits (least_some (least_is end' match_only) z.1)).arrival);
        }

      match_rises : Rising most ss work rows hits load j
      match_rises = cases (legal (match_at j).pattern.cell load) legal_rises (λ e.
          let never : (end : ℕ) (p : Point) → match_before most ss work rows hits load j end ≡ some p → ⊥ =
          λ end p q. none-ne-some p (rw (legal_hit (found_at j h) most work load end, e) at q) in
          record { intime = λ end p q. absurd (never end p q); small = λ end p q. absurd (never end p q); rises = λ end end' less p q. absurd (never end p q) })

    pub points_fit : PointsFit most ss work rows hits load
    points_fit = record {
      fit = λ end p e. let f = least_some (least_is end (covers l load n s)) (sym (best_is_least end) ∙ e) in subst Fit f.point (cover_fits f.cover f.among);
      rising = match_rises;
    }

    pub curve_is_found : node_points most ss work rows hits load ≡ take (most + 1) (curve (covers l load n s))
    curve_is_found = ap (λ (best : ℕ → Option Point). by_deadline (most + 1) best base) (fun_ext best_is_least) ∙ curve_found (most + 1) base (covers l load n s) timely
