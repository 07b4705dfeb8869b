-- The work area between trees, what the core is given, and what it answers for a tree with the arrivals that its links bring.
use Prim.Native.Nat.{ℕ, ◌≤◌, ◌<◌}
use mathlib.Core.Path.{◌≡◌, sym, ap, subst, ◌∙◌}
use mathlib.Core.List.{List, ◌++◌}
use mathlib.Core.Option.{Option, none, some}
use native.Mathlib.Omega.{arith}
use lib.ListN.{length, take, drop, take-append-drop}
use Rattle.std.specs.Prelude.{Result, Ok, Err}
use Rattle.fields.specs.Answer.{Bounded}
use Rattle.sheets_rules.specs.declared.LibraryRecord.{LibraryRecord}
use Rattle.sheets_rules.specs.declared.Reason.TheVariants.{Late}
use Rattle.sheets_rules.specs.declared.Refusal.{Refusal}
use Rattle.sheets_rules.specs.declared.TreeRecord.{TreeRecord}
use Rattle.sheets_rules.specs.Model.{Library, Tree}
use Rattle.sheets_rules.specs.Inside.Sound.{SoundTree}
use Rattle.covers.specs.Capacity.{work_words}
use Rattle.covers.specs.Answer.{mapped}
use Rattle.covers.specs.Lending.{cleared}
use Rattle.covers.specs.Inside.Allowed.{Allowed}
use Rattle.overlay.specs.Inside.Promises.{SheetsStored}
use Rattle.result_sheets.specs.declared.CoverRecord.{CoverRecord}
use Rattle.map_core.proofs.Core.{started_by}
use Rattle.map_core.specs.Inside.Promises.{Started, MappedIs}
use Rattle.map_rules.proofs.Laws as work
use Rattle.part_rules.specs.Part.{known_tree}
use Rattle.part_rules.specs.Outcome.{late_leaf, after_late, tree_mapped}
use Rattle.part_rules.specs.Demands.{NoneTooLate}
use Rattle.part_rules.proofs.Known.{LateOf, none_late, late_of, known_sound}
use Rattle.part.specs.Inside.Promises.{Zeros, LinkedMapped}

module _ (most : ℕ) where
  -- ---- the work area

  -- Where it begins with zeros, clearing it changes nothing; and it does once it is cleared.
  pub zeros_cleared : (work : List ℕ) → Zeros most work → work ≡ cleared (work_words most) work
  unfolding cleared
  zeros_cleared work h = sym (take-append-drop (work_words most) work) ∙ ap (λ (q : List ℕ). q ++ drop (work_words most) work) h.zeros

  pub cleared_zeros : (before after : List ℕ) → Allowed most → work_words most ≤ length after → after ≡ cleared (work_words most) before → Zeros most after
  cleared_zeros before after allowed long e = record { allowed = allowed; long = long; zeros = work.cleared_zeros (work_words most) before after e }

  -- So it is left as it was.
  pub zeros_kept : {before work after : List ℕ} → Zeros most before → work ≡ before → after ≡ cleared (work_words most) work → after ≡ before
  zeros_kept {before} h e f = f ∙ ap (cleared (work_words most)) e ∙ sym (zeros_cleared before h)

  -- What the core is given.
  pub started : {l : Library} {t : Tree} {library : LibraryRecord} {tree : TreeRecord} (work : List ℕ) → SheetsStored l t library tree → Zeros most work → (words : ℕ) → words ≡ work_words most → Started most l t library tree (take words work)
  started work g z words same = rw same (started_by g z.allowed z.zeros)

-- ---- a tree with the arrivals that its links bring

module _ (most : ℕ) (l : Library) (f : ℕ → Option ℕ) (t : Tree) where
  -- One of them is too late.
  pub linked_late : (n : ℕ) → n < 64 → late_leaf f t ≡ some n → LinkedMapped most l f t (Err (record { item = 0; reason = Late; place = n }))
  unfolding tree_mapped after_late Bounded
  linked_late n small e = record { answer_is = ap (λ (o : Option ℕ). after_late o (mapped most l (known_tree f t))) (sym e); few = tt; fits = omega arith }

  early : late_leaf f t ≡ none → NoneTooLate f t
  early e = go (subst (LateOf f t) e (late_of f t))
    where
      go : LateOf f t none → NoneTooLate f t
      go (none_late h) = h

  -- None is.
  pub early_sound : SoundTree t → late_leaf f t ≡ none → SoundTree (known_tree f t)
  early_sound sound e = known_sound sound (early e)

  pub linked_early : (r : Result CoverRecord Refusal) → SoundTree t → late_leaf f t ≡ none → MappedIs most l (known_tree f t) r → LinkedMapped most l f t r
  unfolding tree_mapped after_late
  linked_early (Ok cover) sound e m = record { answer_is = m.answer_is ∙ ap (λ (o : Option ℕ). after_late o (mapped most l (known_tree f t))) (sym e); few = m.few; fits = tt }
  linked_early (Err q) sound e m = record {
    answer_is = m.answer_is ∙ ap (λ (o : Option ℕ). after_late o (mapped most l (known_tree f t))) (sym e);
    few = tt;
    fits = work.mapped_fits most l (known_tree f t) (early_sound sound e) (sym m.answer_is);
  }
