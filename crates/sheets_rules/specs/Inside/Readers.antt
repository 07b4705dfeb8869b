-- What the readers of whole sheets promise.
use Rattle.std.specs.Prelude.{ℕ, ◌≤◌, ◌≡◌, List, Bool, Result, Ok, Err, IfErr, MatchResult}
use Rattle.bits.specs.declared.Cursor.{Cursor}
use Rattle.fields.specs.declared.Flaw.{Flaw}
use Rattle.fields.specs.Reading.{start}
use Rattle.fields.specs.Inside.Promises.{Took, Flawed}
use Rattle.fields.specs.Answer.{Answer, success, Bounded}
use Rattle.sheets_rules.specs.declared.LibraryRecord.{LibraryRecord}
use Rattle.sheets_rules.specs.declared.TreeRecord.{TreeRecord}
use Rattle.sheets_rules.specs.declared.Refusal.{Refusal}
use Rattle.sheets_rules.specs.TreeSheet.{tree_to}
use Rattle.sheets_rules.specs.Reach.{library_bits, tree_bits}
use Rattle.sheets_rules.specs.Report.{refusal, library_said, tree_said}
use Rattle.sheets_rules.specs.Inside.Sound.{LibraryStored, TreeStored}

-- What a result says of an answer: its refusal, which fits a word; or that it is a success, and what the result hands over holds it.
abbrev pub Says : {A B : Type 0} → (A → B → Type 0) → Answer A → Result B Refusal → Type 0
Says Holds o (Err r) = (o ≡ refusal r) × Bounded (refusal r)
Says {A} Holds o (Ok b) = (a : A) × (o ≡ success a) × Holds a b

module _ (s : List ℕ) where
  -- The library and the tree on a whole sheet, or the sheet's refusal.
  pub record LibraryIs (r : Result LibraryRecord Refusal) : Type 0 where
    pub said : Says LibraryStored (library_said s) r
    pub near : IfErr r (λ (q : Refusal). q.place ≤ library_bits)

  abbrev pub TreeIs : Result TreeRecord Refusal → Type 0
  TreeIs = Says TreeStored (tree_said s)

  -- A tree, before another of a part or not, with the cursor after its sheet; or the sheet's flaw.
  abbrev pub TreeToIs : (last : Bool) → Result (TreeRecord × Cursor) Flaw → Type 0
  TreeToIs last r = MatchResult r (λ x. Took TreeStored (tree_to last s start) tree_bits x.1 x.0) (Flawed (tree_to last s start) tree_bits)
