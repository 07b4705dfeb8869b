-- From the records that the readers hand over to what the core starts from, from what it finds to the reply, the output and the work area, and to the whole outcome.
use mathlib.Core.Path.{◌≡◌, refl, sym, ap, subst, ◌∙◌}
use mathlib.Core.List.{List}
use Prim.Native.Nat.{ℕ, ◌≤◌, ◌<◌}
use native.Mathlib.Omega.{arith}
use lib.ListN.{length, take}
use Rattle.std.specs.Prelude.{Result, Ok, Err}
use Rattle.fields.specs.Answer.{Answer, success, on_success, places, Bounded}
use Rattle.sheets_rules.specs.declared.LibraryRecord.{LibraryRecord}
use Rattle.sheets_rules.specs.declared.Refusal.{Refusal}
use Rattle.sheets_rules.specs.declared.TreeRecord.{TreeRecord}
use Rattle.sheets_rules.specs.Model.{Library, Tree}
use Rattle.sheets_rules.specs.Report.{refusal}
use Rattle.sheets_rules.specs.Inside.Readers.{Says, LibraryIs, TreeIs}
use Rattle.sheets_rules.specs.Inside.Sound.{SoundTree}
use Rattle.covers.specs.Tradeoff.{overfull_node, tradeoffs}
use Rattle.covers.specs.Choice.{choice}
use Rattle.covers.specs.CoverSheet.{cover_sheet, list_sheet}
use Rattle.covers.specs.Capacity.{work_words, allowed}
use Rattle.covers.specs.Answer.{nonempty, mapped, listed, map_answer, list_answer}
use Rattle.covers.specs.Lending.{lent, told, output_after, cleared, work_cleared}
use Rattle.covers.specs.Outcome.{operation}
use Rattle.covers.specs.Inside.Allowed.{Allowed}
use Rattle.covers.proofs.Lent.{allowed_is, allowed_fits, enough_lent}
use Rattle.covers.proofs.SheetLengths.{list_sheet_fits}
use Rattle.overlay.specs.Inside.Promises.{SheetsStored}
use Rattle.overlay.proofs.Sheets.{sheets_stored}
use Rattle.result_sheets.specs.declared.CoverRecord.{CoverRecord}
use Rattle.result_sheets.specs.Public.{cover_of, Written}
use Rattle.result_sheets.specs.Inside.Promises.{points_of}
use Rattle.result_sheets.proofs.Laws.{points_few, sheet_short}
use Rattle.map_core.proofs.Core.{started_by}
use Rattle.map_core.specs.Inside.Promises.{Started, MappedIs, ListedIs}
use Rattle.map_rules.specs.Public.{Operated}
use Rattle.map_rules.proofs.Laws.{cleared_zeros, node_small, refused_bounded, mapped_fits, worked, sparing_lent, sparing_library, sparing_tree, stopped, followed}
use Rattle.map.specs.Inside.Promises.{Lent, Replied, OperatesStored}

-- ---- what is lent

-- How many trade-offs it allows, as it was answered.
abbrev pub Lends : (least output work : ℕ) → Result ℕ Refusal → Type 0
Lends least output work = Says (λ (m n : ℕ). m ≡ n) (lent least output work)

pub lent_known : (least output work : ℕ) {most : ℕ} → Lends least output work (Ok most) → Lent least most output work
lent_known least output work {most} (m, e, same) =
    let h = enough_lent least output work e in
    let is : most ≡ allowed work = sym same ∙ h.2 in
    record { long = h.0; words = subst (λ (n : ℕ). work_words n ≤ work) (sym is) (allowed_fits work h.1); most_is = is; allowed = subst Allowed (sym is) (allowed_is work) }

-- What the core starts from.
pub started : {l : Library} {t : Tree} {library : LibraryRecord} {tree : TreeRecord} {most : ℕ} → SheetsStored l t library tree → Allowed most → (work work' : List ℕ) → work' ≡ cleared (work_words most) work → (words : ℕ) → words ≡ work_words most → Started most l t library tree (take words work')
started {most = most} g h work work' e words same = rw same (started_by g h (cleared_zeros (work_words most) work work' e))

-- What is left of the work area.
work_cleared_is : (most : ℕ) (work work' : List ℕ) → most ≡ allowed (length work) → work' ≡ cleared (work_words most) work → work' ≡ work_cleared work
unfolding work_cleared
work_cleared_is most work work' e w = w ∙ ap (λ (n : ℕ). cleared (work_words n) work) e

-- ---- what it finds, as a reply

module _ {A : Type 0} (f : A → List ℕ) {a : Answer A} (entry : List ℕ) where
  refusal_replied : (q : Refusal) → refusal q ≡ a → Bounded (refusal q) → Replied (on_success f a) entry entry (refusal q)
  unfolding on_success told output_after
  refusal_replied q e b = subst (λ (o : Answer A). Replied (on_success f o) entry entry (refusal q)) e (record { told_is = refl; output_is = refl; bounded = b })

  sheet_replied : {exit : List ℕ} {x : A} {n : ℕ} → success x ≡ a → Written (f x) entry exit n → n < places → Replied (on_success f a) entry exit (success n)
  unfolding on_success told output_after Bounded
  sheet_replied {exit} {x} {n} e w b = subst (λ (o : Answer A). Replied (on_success f o) entry exit (success n)) e (record { told_is = ap success w.bytes; output_is = w.output; bounded = b })

module _ (most : ℕ) (l : Library) (t : Tree) (entry : List ℕ) where
  pub map_refused : (q : Refusal) → SoundTree t → MappedIs most l t (Err q) → Replied (map_answer most l t) entry entry (refusal q)
  unfolding map_answer mapped
  map_refused q g h = refusal_replied cover_sheet entry q h.answer_is (mapped_fits most l t g (sym h.answer_is))

  pub map_found : {exit : List ℕ} {cover : CoverRecord} {n : ℕ} → MappedIs most l t (Ok cover) → Written (cover_sheet (cover_of cover)) entry exit n → Replied (map_answer most l t) entry exit (success n)
  unfolding map_answer
  map_found {exit} {cover} h w = sheet_replied cover_sheet entry h.answer_is w (omega (arith, w.bytes, sheet_short cover h.few))

  pub list_refused : (work : List ℕ) (q : Refusal) → SoundTree t → ListedIs most l t work (Err q) → Replied (list_answer most l t) entry entry (refusal q)
  unfolding list_answer listed
  list_refused work q g h = refusal_replied list_sheet entry q h.answer_is (refused_bounded (overfull_node most l t) (nonempty (tradeoffs l t.load 0 t.shape)) (λ j f. node_small most l g f) (sym h.answer_is))

  pub list_found : (work : List ℕ) {exit : List ℕ} {count n : ℕ} → Allowed most → ListedIs most l t work (Ok count) → Written (list_sheet (points_of count work)) entry exit n → Replied (list_answer most l t) entry exit (success n)
  unfolding list_answer
  list_found work {exit} {count} few h w = sheet_replied list_sheet entry h.answer_is w (omega (arith, w.bytes, list_sheet_fits (points_of count work) (omega (arith, h.few, few.listed, points_few count work))))

  -- With the work area afterwards.
  module _ (work work' : List ℕ) (e : most ≡ allowed (length work)) (w : work' ≡ cleared (work_words most) work) {exit : List ℕ} {a : Answer ℕ} where
    pub map_operated : Replied (map_answer most l t) entry exit a → Operated (map_answer most l t) entry exit work work' a
    unfolding map_answer mapped
    map_operated p = record { told_is = p.told_is; output_is = p.output_is; work_is = work_cleared_is most work work' e w ∙ sym (worked cover_sheet (overfull_node most l t) (choice l t.load 0 t.shape t.required) work); bounded = p.bounded }

    pub list_operated : Replied (list_answer most l t) entry exit a → Operated (list_answer most l t) entry exit work work' a
    unfolding list_answer listed
    list_operated p = record { told_is = p.told_is; output_is = p.output_is; work_is = work_cleared_is most work work' e w ∙ sym (worked list_sheet (overfull_node most l t) (nonempty (tradeoffs l t.load 0 t.shape)) work); bounded = p.bounded }

-- ---- the whole outcome

module _ (least : ℕ) (answer : ℕ → Library → Tree → Answer (List ℕ)) (ls ts output work : List ℕ) where
  abbrev Outcome : (output' work' : List ℕ) → Answer ℕ → Type 0
  Outcome output' work' = Operated (operation least answer ls ts (length output) (length work)) output output' work work'

  -- Too little is lent.
  pub lent_little : (q : Refusal) → Lends least (length output) (length work) (Err q) → Outcome output work (refusal q)
  unfolding operation
  lent_little q (e, fits) = stopped _ q output work (sparing_lent least (length output) (length work)) e fits

  module _ {most : ℕ} (lends : Lends least (length output) (length work) (Ok most)) where
    lent_is : lent least (length output) (length work) ≡ success most
    lent_is = lends.1 ∙ ap success lends.2

    -- The library is refused.
    pub library_refused : (q : Refusal) → LibraryIs ls (Err q) → Outcome output work (refusal q)
    unfolding operation
    library_refused q h = followed _ lent_is (stopped _ q output work (sparing_library ls) h.said.0 h.said.1)

    module _ {library : LibraryRecord} (reads : LibraryIs ls (Ok library)) where
      -- The tree is.
      pub tree_refused : (q : Refusal) → TreeIs ts (Err q) → Outcome output work (refusal q)
      unfolding operation
      tree_refused q h = followed _ lent_is (followed _ reads.said.1 (stopped _ q output work (sparing_tree ts) h.0 h.1))

      -- Neither is.
      pub operated : {tree : TreeRecord} {output' work' : List ℕ} {a : Answer ℕ} → TreeIs ts (Ok tree) → OperatesStored answer library tree most output output' work work' a → Outcome output' work' a
      unfolding operation
      operated h r = followed _ lent_is (followed _ reads.said.1 (followed _ h.1 (r reads.said.0 h.0 (sheets_stored reads.said.2 h.2))))
