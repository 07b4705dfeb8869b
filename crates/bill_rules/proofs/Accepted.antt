-- What it takes for a cover to be accepted.
use mathlib.Core.Path.{◌≡◌, sym, ap, subst, ◌∙◌}
use mathlib.Core.List.{List}
use Prim.Native.Nat.{ℕ}
use Rattle.fields.specs.Reading.{Scan}
use Rattle.fields.specs.Reading.{Live, start}
use Rattle.fields.specs.Answer.{success, ◌>>=◌}
use Rattle.fields.proofs.Answer.{both_succeed, said_read}
use Rattle.sheets_rules.specs.Model.{Library, Tree}
use Rattle.sheets_rules.specs.LibrarySheet.{library}
use Rattle.sheets_rules.specs.TreeSheet.{tree}
use Rattle.sheets_rules.specs.Report.{library_number, tree_number, library_said, tree_said}
use Rattle.covers.specs.Cover.{Point, Cover}
use Rattle.covers.specs.CoverSheet.{cover_read, CoverReads}
use Rattle.covers.specs.Promise.{RootCover}
use Rattle.judge_rules.specs.Judgement.{cover_judged, judgement}
use Rattle.judge_rules.proofs.Demands.{judge_demands}

-- Both sheets are sound, and what the cover sheet says is a legal cover with these figures.
pub record Accepted (ls ts cs : List ℕ) (p : Point) : Type 0 where
  pub library_live : Live (library ls start).1
  pub tree_live : Live (tree ts start).1
  pub cover_live : Live (cover_read cs start).1
  pub legal : RootCover (library ls start).0 (tree ts start).0 (cover_read cs start).0
  pub point : (cover_read cs start).0.point ≡ p

-- A sheet that reads back as a cover is read to its end.
reads_live : {c : Cover} {s : List ℕ} → CoverReads c s → Live (cover_read s start).1
reads_live h = subst (λ (r : Cover × Scan). Live r.1) (sym h.reads) tt

pub accepted : (ls ts cs : List ℕ) (p : Point) → judgement ls ts cs ≡ success p → Accepted ls ts cs p
unfolding judgement library_said tree_said
accepted ls ts cs p e =
    let opened = both_succeed (library_said ls) (λ l. tree_said ts >>= (λ t. cover_judged (cover_read cs start) l t)) e in
    let read = both_succeed (tree_said ts) (λ t. cover_judged (cover_read cs start) opened.0 t) opened.2 in
    let (c, reads, legal, point) = ((judge_demands ls ts cs opened.0 read.0 opened.1 read.1).exactly.accepted_exactly p).0 e in
    let l = said_read library_number (library ls start) opened.1 in
    let t = said_read tree_number (tree ts start) read.1 in
    let same : c ≡ (cover_read cs start).0 = sym (ap (λ (r : Cover × Scan). r.0) reads.reads) in
    let of-library = subst (λ (q : Library). RootCover q read.0 c) (sym l.0) legal in
    let of_Tree = subst (λ (q : Tree). RootCover (library ls start).0 q c) (sym t.0) of-library in
    record { library_live = l.1; tree_live = t.1; cover_live = reads_live reads; legal = subst (λ (q : Cover). RootCover (library ls start).0 (tree ts start).0 q) same of_Tree; point = ap (λ (d : Cover). d.point) (sym same) ∙ point }
