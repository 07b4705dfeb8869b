-- From a cover sheet, sound or not, to what is said of it; and what that is worth.
use Prim.Native.Nat.{ℕ}
use mathlib.Core.Path.{◌≡◌, refl, sym, ap, ◌∙◌}
use mathlib.Core.List.{List}
use Rattle.fields.specs.declared.Flaw.{Flaw}
use Rattle.fields.specs.Inside.Promises.{Told, Flawed}
use Rattle.fields.specs.Reading.{Scan, Live}
use Rattle.fields.specs.Reading.{At, Refused}
use Rattle.fields.specs.Reading.{start}
use Rattle.fields.specs.Answer.{Answer, refused, success}
use Rattle.sheets_rules.specs.Model.{Library, Tree}
use Rattle.sheets_rules.specs.Report.{library_said, tree_said, number_of, refusal}
use Rattle.covers.specs.Cover.{Point, Cover}
use Rattle.covers.specs.CoverSheet.{cover_read}
use Rattle.result_sheets.specs.declared.CoverRecord.{CoverRecord}
use Rattle.result_sheets.specs.Public.{cover_of, cover_bits, CoverHolds}
use Rattle.judge_rules.specs.Walk.{started, walk}
use Rattle.judge_rules.specs.Judgement.{sheet_number, figures, cover_judged, judgement}
use Rattle.judge_rules.specs.Public.{of_cover_judged, Judges}
use Rattle.judge_rules.specs.declared.Figures.{Figures}
use Rattle.sheets_rules.specs.declared.Reason.{Reason}
use Rattle.sheets_rules.specs.declared.Refusal.{Refusal}
use Rattle.std.specs.Prelude.{Result, Err}
use Rattle.judge_rules.proofs.Demands.{judge_demands}
use Rattle.judge_rules.proofs.Bounded.{judgement_bounded}
use Rattle.judge.specs.Inside.Promises.{Fitting}

-- What a refusal that is about no item says.
pub refused_told : {o : Answer Point} (reason : Reason) (place : ℕ) (q : Refusal) → q ≡ record { item = 0; reason = reason; place = place } → refused (number_of reason) place ≡ o → of_cover_judged (Err q) ≡ o
unfolding of_cover_judged
refused_told reason place q e h = ap refusal e ∙ h

-- A refusal of the walk is the answer, whatever figures are stated.
pub figures_refused : (stated : Point) (q : Refusal) {o : Answer Point} → of_cover_judged (Err q) ≡ o → of_cover_judged (Err q) ≡ figures stated o
unfolding of_cover_judged figures
figures_refused stated q e = ap (figures stated) e

-- ---- a cover sheet

module _ (cs : List ℕ) (l : Library) (t : Tree) where
  pub cover_answered : {c : CoverRecord} → Told CoverHolds (cover_read cs start) c → (r : Result Figures Refusal) → of_cover_judged r ≡ figures (cover_of c).point (walk l 0 (cover_of c).placed (started t)) →
      of_cover_judged r ≡ cover_judged (cover_read cs start) l t
  unfolding cover_judged
  cover_answered {c} h r said = go (cover_read cs start) h.live h.holds.cover_is
    where
      go : (x : Cover × Scan) → Live x.1 → cover_of c ≡ x.0 → of_cover_judged r ≡ cover_judged x l t
      go (k, At q) live e = said ∙ ap (λ (k : Cover). cover_judged (k, At q) l t) e
      go (k, Refused f p) live e = absurd live

  pub cover_not_read : {e : Flaw} → Flawed (cover_read cs start) (cover_bits 63) e → refused sheet_number e.place ≡ cover_judged (cover_read cs start) l t
  unfolding cover_judged
  cover_not_read h = ap (λ (z : Scan). cover_judged ((cover_read cs start).0, z) l t) (sym h.says)

-- ---- the whole answer

-- It is worth what is demanded, and fits a word if the refusals of the library and of the tree do.
pub judges : (ls ts cs : List ℕ) {o : Answer Point} → o ≡ judgement ls ts cs → Fitting (library_said ls) → ((l : Library) → library_said ls ≡ success l → Fitting (tree_said ts)) → Judges ls ts cs o
judges ls ts cs e library-fits tree-fits = rw e (record { answer_is = refl; demands = judge_demands ls ts cs; bounded = judgement_bounded ls ts cs library-fits tree-fits })
