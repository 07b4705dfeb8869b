-- The judge's answers meet the demands, from the bytes of the three sheets; and a word says its answer.
use Prim.Native.Nat.{ℕ, ◌+◌, ◌*◌, ◌/◌, ◌%◌, ◌^◌, ◌≤◌, ◌<◌}
use mathlib.Core.Path.{◌≡◌, refl, sym, ap, subst, ◌∙◌}
use mathlib.Core.Logic.{◌⊎◌}
use mathlib.Core.Bool.{false≢true}
use mathlib.Core.List.{List, ◌∷◌}
use native.Mathlib.Omega.{arith}
use native.Mathlib.Nat.{zero-add}
use lib.ListN.{length, take, drop, take-append-drop, length-drop}
use lib.Seq.{length-take-le}
use borrow.Table.Steps.{cases}
use borrow.Author.Tests.{lt-ltb, le-ltb}
use Rattle.fields.specs.declared.Fault.{Fault}
use Rattle.fields.specs.Reading.{Scan}
use Rattle.fields.specs.Reading.{At, Refused}
use Rattle.fields.specs.Reading.{Live, start}
use Rattle.fields.specs.Answer.{Answer, refused, refused_in, success, ◌>>=◌, places, numbers}
use Rattle.fields.proofs.Answer.{answer-cases, after_success}
use Rattle.sheets_rules.specs.Model.{Library, Tree}
use Rattle.sheets_rules.specs.Report.{library_said, tree_said}
use Rattle.sheets_rules.proofs.Sound.{library_sound, tree_sound}
use Rattle.covers.specs.Cover.{Point, Placed, Cover}
use Rattle.covers.specs.Tradeoff.{same}
use Rattle.covers.specs.CoverSheet.{arrival_width, cover_read, CoverReads}
use Rattle.covers.specs.Promise.{RootCover}
use Rattle.covers.proofs.Points.{point_path, same_true, same_refl}
use Rattle.covers.proofs.Determined.{placed_determines}
use Rattle.covers.proofs.ReadBack.{cover_reads}
use Rattle.covers.proofs.FromSheets.{cover_fits}
use Rattle.covers.proofs.Demands.{map_lent, map_demands}
use Rattle.judge_rules.specs.Walk.{match_number, started, walk}
use Rattle.judge_rules.specs.Places.{Torn, BadTail}
use Rattle.judge_rules.specs.Judgement.{sheet_number, figures_number, figures, cover_judged, judgement, accepted, point_word, of_point_word, PointBounded}
use Rattle.judge_rules.specs.Demands.{Listing, SaidExactly, SaidWhere, JudgedWhereSound}
use Rattle.judge_rules.proofs.Walking.{answer_none, walk_legal}
use Rattle.judge_rules.proofs.Fronts.{walk_refused, walked, listing_walked, walked_late, walked_early, walked_alike}
use Rattle.judge_rules.proofs.Places.{place_refused, refused_place}
use Rattle.judge_rules.proofs.Sheet as Sheet

-- ---- a word says its answer

pub point_word_reads : (a : Answer Point) → PointBounded a → of_point_word (point_word a) ≡ a
unfolding point_word of_point_word PointBounded
point_word_reads (refused_in item number place) h =
    let w = (item * numbers + number) * places + place in
    let about : w / places / numbers ≡ item = omega arith in
    let said : w / places % numbers ≡ number = omega arith in
    let at : w % places ≡ place = omega arith in
    rw (lt-ltb w accepted (omega arith)) (cc)
point_word_reads (success p) h =
    rw (le-ltb (accepted + p.area * 2 ^ arrival_width + p.arrival) accepted (omega arith)) (ap success (point_path (omega arith) (omega arith)))

-- ---- what is said of a sheet

-- What an answer to the sheet cs says.
data Judged (cs : List ℕ) (l : Library) (t : Tree) : Answer Point → Type 0 where
  unread : {k : ℕ} → ((c : Cover) → CoverReads c cs → ⊥) → Judged cs l t (refused sheet_number k)
  unlisted : {k : ℕ} (c : Cover) → CoverReads c cs → ((d : Cover) → Listing l t c.placed d → ⊥) → Judged cs l t (refused match_number k)
  other : (c d : Cover) → CoverReads c cs → Listing l t c.placed d → (d.point ≡ c.point → ⊥) → Judged cs l t (refused figures_number 0)
  true_figures : (c : Cover) → CoverReads c cs → RootCover l t c → Judged cs l t (success c.point)

judged : (cs : List ℕ) (l : Library) (t : Tree) → Judged cs l t (cover_judged (cover_read cs start) l t)
unfolding cover_judged figures
judged cs l t = read (cover_read cs start) refl
  where
    read : (r : Cover × Scan) → cover_read cs start ≡ r → Judged cs l t (cover_judged r l t)
    read (c, Refused f k) e = unfold cover_judged in unread (λ d h. subst Live (ap (λ (r : Cover × Scan). r.1) (sym h.reads ∙ e)) tt)
    read (c, At q) e = unfold cover_judged figures in
        let h = Sheet.reads_whole cs c q e in
        answer-cases (walk l 0 c.placed (started t))
        (λ i n k e. let r = walk_refused l 0 c.placed (started t) e in rw (e, r.item_is, r.number_is) (unlisted c h (λ d m. answer_none (sym e ∙ listing_walked l t d m))))
        (λ p e. let legal = (walk_legal l t c.placed p).0 e in cases (same p c.point)
        (λ f. let s = same_true p c.point f in rw (e, f, s) (true_figures c h (rw s at legal)))
        (λ f. rw (e, f) (other c (record { point = p; placed = c.placed }) h (legal, refl) (λ s. false≢true (sym f ∙ ap (λ (q : Point). same q c.point) s ∙ same_refl c.point)))))

-- ---- the demands

-- Answers with different numbers differ; a success's is 0.
number : {A : Type 0} → Answer A → ℕ
number (refused_in i n k) = n
number (success a) = 0

reads_same : {cs : List ℕ} {c d : Cover} → CoverReads c cs → CoverReads d cs → c ≡ d
reads_same h k = ap (λ (r : Cover × Scan). r.0) (sym h.reads ∙ k.reads)

worth : {cs : List ℕ} {l : Library} {t : Tree} {o : Answer Point} → Judged cs l t o → SaidExactly cs l t o
unfolding number
worth (unread {k = k} never) = record {
  accepted_exactly = λ p. (λ e. absurd (answer_none e), λ r. absurd (never r.0 r.1));
  figures_exactly = (λ e. absurd (omega (arith, ap number e)), λ r. absurd (never r.0 r.2));
  match_exactly = (λ e. absurd (omega (arith, ap number e.1)), λ r. absurd (never r.0 r.1));
  sheet_exactly = (λ e. never, λ r. (k, refl));
}
worth {cs} {l} {t} (unlisted {k = k} c h never) = record {
  accepted_exactly = λ p. (λ e. absurd (answer_none e), λ r. absurd (never r.0 (r.2, ap (λ (d : Cover). d.placed) (reads_same r.1 h))));
  figures_exactly = (λ e. absurd (omega (arith, ap number e)), λ r. absurd (never r.1 (r.3.0, r.3.1 ∙ ap (λ (d : Cover). d.placed) (reads_same r.2 h))));
  match_exactly = (λ e. (c, h, never), λ r. (k, refl));
  sheet_exactly = (λ e. absurd (omega (arith, ap number e.1)), λ r. absurd (r c h));
}
worth {cs} {l} {t} (other c d h m apart) = record {
  accepted_exactly = λ p. (λ e. absurd (answer_none e), λ r. let same = reads_same r.1 h in absurd (apart (ap (λ (q : Cover). q.point) (placed_determines m.0 (subst (RootCover l t) same r.2) m.1))));
  figures_exactly = (λ e. (c, d, h, m, apart), λ r. refl);
  match_exactly = (λ e. absurd (omega (arith, ap number e.1)), λ r. absurd (r.2 d (m.0, m.1 ∙ ap (λ (q : Cover). q.placed) (reads_same h r.1))));
  sheet_exactly = (λ e. absurd (omega (arith, ap number e.1)), λ r. absurd (r c h));
}
worth {cs} {l} {t} (true_figures c h legal) = record {
  accepted_exactly = λ p. (λ e. (c, h, legal, cc), λ r. ap success (ap (λ (q : Cover). q.point) (reads_same h r.1) ∙ r.3));
  figures_exactly = (λ e. absurd (answer_none (sym e)), λ r. let same = reads_same r.2 h in absurd (r.4 (ap (λ (q : Cover). q.point) (placed_determines r.3.0 legal (r.3.1 ∙ ap (λ (q : Cover). q.placed) same) ∙ sym same))));
  match_exactly = (λ e. absurd (answer_none (sym e.1)), λ r. absurd (r.2 c (legal, ap (λ (q : Cover). q.placed) (reads_same h r.1))));
  sheet_exactly = (λ e. absurd (answer_none (sym e.1)), λ r. absurd (r c h));
}

-- A sound library and a sound tree: what is said of the cover.
pub judged_cover : (ls ts cs : List ℕ) {l : Library} {t : Tree} → library_said ls ≡ success l → tree_said ts ≡ success t → judgement ls ts cs ≡ cover_judged (cover_read cs start) l t
unfolding judgement
judged_cover ls ts cs {l} e e' = after_success (λ l. tree_said ts >>= (λ t. cover_judged (cover_read cs start) l t)) e ∙ after_success (λ t. cover_judged (cover_read cs start) l t) e'

-- Where it is said.
module _ (ls ts cs : List ℕ) (l : Library) (t : Tree) (sheets : (ds : List ℕ) → judgement ls ts ds ≡ cover_judged (cover_read ds start) l t) where
  -- What is said of a cover that was read.
  read_judged : {c : Cover} {ds : List ℕ} → CoverReads c ds → judgement ls ts ds ≡ figures c.point (walked l t c.placed)
  unfolding cover_judged
  read_judged {ds = ds} h = sheets ds ∙ ap (λ (r : Cover × Scan). cover_judged r l t) h.reads

  stopped : {c : Cover} {k : ℕ} → CoverReads c cs → judgement ls ts cs ≡ refused match_number k → walked l t c.placed ≡ refused match_number k
  unfolding figures number
  stopped {c} {k} h e =
      let g : figures c.point (walked l t c.placed) ≡ refused match_number k = sym (read_judged h) ∙ e in
      answer-cases (walked l t c.placed) (λ i n j f. f ∙ (rw f at g)) (λ p f. cases (same p c.point) (λ s. f ∙ (rw (f, s) at g)) (λ s. absurd (omega (arith, ap number (rw (f, s) at g)))))

  unread_said : {f : Fault} {p : ℕ} → (cover_read cs start).1 ≡ Refused f p → judgement ls ts cs ≡ refused sheet_number p
  unfolding cover_judged
  unread_said g = sheets cs ∙ ap (λ (r : Scan). cover_judged ((cover_read cs start).0, r) l t) g

  stops_at : {c : Cover} {ds : List ℕ} {k : ℕ} → CoverReads c ds → walked l t c.placed ≡ refused match_number k → judgement ls ts ds ≡ refused match_number k
  unfolding figures
  stops_at {c} h e = read_judged h ∙ ap (figures c.point) e

  unread_at : {k : ℕ} → SaidExactly cs l t (judgement ls ts cs) → judgement ls ts cs ≡ refused sheet_number k → Torn cs k ⊎ BadTail cs k
  unread_at {k} said e = (elim (cover_read cs start).1 as (λ q. (cover_read cs start).1 ≡ q → Torn cs k ⊎ BadTail cs k) [
    | At q ↦ λ g. absurd (said.sheet_exactly.0 (k, e) (cover_read cs start).0 (Sheet.reads_whole cs (cover_read cs start).0 q (ap (λ (r : Scan). ((cover_read cs start).0, r)) g)))
    | Refused f p ↦ λ g. let there : refused sheet_number p ≡ refused sheet_number k = sym (unread_said g) ∙ e in let same : p ≡ k = cc in refused_place cs (g ∙ ap (Refused f) same)
  ]) refl

  -- Where a list is cut before its end. The bound of a list that ends late is met through this, and can be no other.
  cut : (k : ℕ) (xs : List Placed) → k < length xs → (0 < length (drop k xs)) × (k ≤ length xs)
  cut k xs h = (omega (arith, length-drop k xs), omega arith)

  said_where : SaidExactly cs l t (judgement ls ts cs) → SaidWhere ls ts cs l t (judgement ls ts cs)
  said_where said = record {
    sheet_place = λ k. (unread_at said, λ r. unread_said (place_refused cs r).1);
    match_place = λ c k h e. rw zero-add at (walk_refused l 0 c.placed (started t) (stopped h e)).place_in;
    ends_late = λ c d k h m less.
        let parts = cut k c.placed less in
        let late = walked_late l t (take k c.placed) (drop k c.placed) (listing_walked l t d m) parts.0 in
        stops_at h (ap (walked l t) (sym (take-append-drop k c.placed)) ∙ late ∙ ap (refused match_number) (length-take-le k c.placed parts.1));
    ends_early = λ c d x xs h m. stops_at h (walked_early l t c.placed (x ∷ xs) (listing_walked l t d m) (omega arith));
    match_wrong = λ c d k h e less legal alike. answer_none (sym (walked_alike l t c.placed d.placed k (stopped h e) less alike) ∙ listing_walked l t d (legal, refl));
    match_first = λ c d k ds h e less g alike. stops_at g (walked_alike l t c.placed d.placed k (stopped h e) less alike);
  }

pub judge_demands : (ls ts cs : List ℕ) → JudgedWhereSound ls ts cs (judgement ls ts cs)
judge_demands ls ts cs l t e e' =
    let said : SaidExactly cs l t (judgement ls ts cs) = subst (SaidExactly cs l t) (sym (judged_cover ls ts cs e e')) (worth (judged cs l t)) in
    record {
      exactly = said;
      where_said = said_where ls ts cs l t (λ ds. judged_cover ls ts ds e e') said;
      sheets_exactly = λ bytes p. (
        λ e. let r = (said.accepted_exactly p).0 e in (r.0, Sheet.one_sheet cs r.0 r.1 bytes, r.2, r.3),
        λ r. let reads = cover_reads (cover_fits (library_sound ls e) (tree_sound ts e') r.2) in (said.accepted_exactly p).1 (r.0, subst (CoverReads r.0) (sym r.1) reads, r.2, r.3),
      );
      from_map = λ output work h.
          let enough = map_lent ls ts output work h in
          let best = (map_demands ls ts output work enough.0 l t enough.1 e e').sheet_is cs h in
          (best.0, best.2, best.3, (said.accepted_exactly best.0.point).1 (best.0, best.2, best.3.best.legal, refl));
    }
