-- The answer keeps its bounds, if the refusals of the library and of the tree do.
use Prim.Native.Nat.{ℕ, zero, suc, ◌+◌, ◌*◌, ◌≤◌}
use mathlib.Core.Path.{◌≡◌, refl, sym, ap, subst, ◌∙◌}
use mathlib.Core.List.{List}
use native.Mathlib.Omega.{arith}
use borrow.Table.Steps.{cases}
use Rattle.bits.specs.Bits.{ends_at}
use Rattle.fields.specs.Reading.{Scan}
use Rattle.fields.specs.Reading.{At, Refused}
use Rattle.fields.specs.Reading.{start, place, times, free, field}
use Rattle.fields.specs.Answer.{Answer, refused_in, success, ◌>>=◌, Bounded}
use Rattle.fields.proofs.Answer.{answer-cases, after_success, after_refused, said_item}
use Rattle.fields.proofs.Laws.{start_place, field_near, free_small, tailed_place}
use Rattle.sheets_rules.specs.Model.{Library, Tree}
use Rattle.sheets_rules.specs.LibrarySheet.{library}
use Rattle.sheets_rules.specs.TreeSheet.{tree}
use Rattle.sheets_rules.specs.Report.{library_number, tree_number, library_said, tree_said}
use Rattle.sheets_rules.proofs.Sound.{library_sound, tree_sound}
use Rattle.covers.specs.Cover.{Point, Cover, latest_arrival, largest_area}
use Rattle.covers.specs.Tradeoff.{same}
use Rattle.covers.specs.CoverSheet.{area_width, arrival_width, match_count_width, node_width, pattern_width, crossing_width, placed_read, cover_read}
use Rattle.covers.proofs.ReadBack.{cover_read_fits}
use Rattle.covers.proofs.FromSheets.{root_bounds}
use Rattle.judge_rules.specs.Walk.{started, walk}
use Rattle.judge_rules.specs.Judgement.{figures, cover_judged, judgement, PointBounded}
use Rattle.judge_rules.proofs.Fronts.{walk_refused}
use Rattle.judge_rules.proofs.Demands.{judged_cover, judge_demands}

matches_near : (cs : List ℕ) (n : ℕ) (c : Scan) → place (times n (placed_read cs) c).1 ≤ place c + (node_width + pattern_width + crossing_width) * n
unfolding times placed_read
matches_near cs zero c = omega arith
matches_near cs (suc n) c =
    let q = (times n (placed_read cs) c).1 in
    let a = (field cs node_width free q).1 in
    let b = (field cs pattern_width free a).1 in
    omega (arith, matches_near cs n c, field_near cs node_width free q, field_near cs pattern_width free a, field_near cs crossing_width free b)

-- A cover sheet has 22 + 24 + 6 bits and 18 for each of at most 63 matches.
cover_near : (cs : List ℕ) → place (cover_read cs start).1 ≤ 1186
unfolding cover_read
cover_near cs =
    let a = (field cs area_width free start).1 in
    let t = (field cs arrival_width free a).1 in
    let n = field cs match_count_width free t in
    omega (arith, tailed_place (ends_at cs) (times n.0 (placed_read cs) n.1).1, matches_near cs n.0 n.1, free_small cs match_count_width t, field_near cs match_count_width free t, field_near cs arrival_width free a, field_near cs area_width free start, start_place)

-- What an accepted cover's figures are.
abbrev Small : Point → Type 0
Small p = (p.area ≤ largest_area) × (p.arrival ≤ latest_arrival)

cover_bounded : (cs : List ℕ) (l : Library) (t : Tree) → ((p : Point) → cover_judged (cover_read cs start) l t ≡ success p → Small p) → PointBounded (cover_judged (cover_read cs start) l t)
cover_bounded cs l t = read (cover_read cs start).1 refl
  where
    c : Cover
    c = (cover_read cs start).0

    read : (q : Scan) → (cover_read cs start).1 ≡ q → ((p : Point) → cover_judged (c, q) l t ≡ success p → Small p) → PointBounded (cover_judged (c, q) l t)
    read (Refused f p) e h = unfold cover_judged PointBounded in (refl, omega arith, omega (arith, cover_near cs, ap place e))
    read (At q) e h = unfold cover_judged figures PointBounded in answer-cases (walk l 0 c.placed (started t))
        (λ i n k e. let r = walk_refused l 0 c.placed (started t) e in rw e (r.item_is, omega (arith, r.number_is), omega (arith, r.place_in, (cover_read_fits cs start).count)))
        (λ p e. cases (same p c.point) (λ f. rw (e, f) (h p (rw (e, f)))) (λ f. rw (e, f) (refl, omega arith, omega arith)))

-- A refusal of the library or of the tree that fits a word.
abbrev Fitting : {A : Type 0} → Answer A → Type 0
Fitting o = (item number place : ℕ) → o ≡ refused_in item number place → Bounded (refused_in item number place)

pub judgement_bounded : (ls ts cs : List ℕ) → Fitting (library_said ls) → ((l : Library) → library_said ls ≡ success l → Fitting (tree_said ts)) → PointBounded (judgement ls ts cs)
unfolding library_said tree_said judgement PointBounded Bounded
judgement_bounded ls ts cs library-fits tree-fits = answer-cases (library_said ls)
    (λ i n p e. let fits = library-fits i n p e in rw (after_refused from e) (said_item library_number (library ls start) e, fits.2, fits.3))
    (λ l e. answer-cases (tree_said ts)
    (λ i n p g. let fits = tree-fits l e i n p g in rw (after_success from e, after_refused (λ t. cover_judged (cover_read cs start) l t) g) (said_item tree_number (tree ts start) g, fits.2, fits.3))
    (λ t g.
    let same = judged_cover ls ts cs e g in
    subst PointBounded (sym same) (cover_bounded cs l t (λ p h.
    let r = ((judge_demands ls ts cs l t e g).exactly.accepted_exactly p).0 (same ∙ h) in
    subst Small r.3 (root_bounds (library_sound ls e) (tree_sound ts g) r.2)))))
  where
    from : Library → Answer Point
    from l = tree_said ts >>= (λ t. cover_judged (cover_read cs start) l t)
