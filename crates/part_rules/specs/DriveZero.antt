-- Document 02's Paper 5 in parts: "A leaf with code 0 has drive 0 and answers as today."
use Rattle.std.specs.Prelude.{ℕ, suc, ◌≡◌, length}
use mathlib.Core.List.{List, [], ◌++◌, flat_map, Memᴰ}
use Rattle.fields.specs.Reading.{start}
use Rattle.fields.specs.Answer.{success}
use Rattle.sheets_rules.specs.TreeWritten.{CodedTree, tree_sheet, SoundCoded, plainly, Undriven, SameTree}
use Rattle.part_rules.specs.PartSheet.{Counts, counts}
use Rattle.part_rules.specs.PartRead.{link_number, sheet_read}
use Rattle.part_rules.specs.Outcome.{part_outcome}

-- Sound bytes of counts and links, all of them.
pub record IsHead (head : List ℕ) (count : ℕ) : Type 0 where
  pub counted : Counts
  pub whole : sheet_read (λ f. link_number) (counts head start) ≡ success (counted, length head)
  pub count_is : counted.trees ≡ count

-- Sheets one after another, pairwise of the same tree; how many they are.
pub data SameTrees : (count : ℕ) → (s s' : List ℕ) → Type 0 where
  none_left : SameTrees 0 [] []
  one_more : {count : ℕ} {ts ts' s s' : List ℕ} → SameTree ts ts' → SameTrees count s s' → SameTrees (suc count) (ts ++ s) (ts' ++ s')

-- Two part sheets with the same counts and links, and pairwise the same trees.
pub record SamePart (ps ps' : List ℕ) : Type 0 where
  pub head : List ℕ
  pub count : ℕ
  pub is_head : IsHead head count
  pub trees : List ℕ
  pub trees' : List ℕ
  pub same_trees : SameTrees count trees trees'
  pub first : ps ≡ head ++ trees
  pub second : ps' ≡ head ++ trees'

-- They are answered alike, with every library and whatever is lent.
abbrev pub SamePartAlike : Type 0
SamePartAlike = (ls ps ps' : List ℕ) → SamePart ps ps' → (output work : ℕ) → part_outcome ls ps output work ≡ part_outcome ls ps' output work

-- A tree to be written: its root load, its required time and its nodes with their codes; its sheet; and the same with plain leaves.
pub record Written : Type 0 where
  pub load : ℕ
  pub required : ℕ
  pub nodes : CodedTree

abbrev pub sheet_of : Written → List ℕ
sheet_of x = tree_sheet x.load x.required x.nodes

abbrev pub plain_sheet_of : Written → List ℕ
plain_sheet_of x = tree_sheet x.load x.required (plainly x.nodes)

-- A part whose trees' driven leaves all have drive 0 is answered as the same part with plain leaves.
abbrev pub PartDriveZero : Type 0
PartDriveZero = (ls head : List ℕ) (xs : List Written) → IsHead head (length xs) → ((x : Written) → Memᴰ x xs → SoundCoded x.load x.required x.nodes × Undriven x.nodes) →
    (output work : ℕ) → part_outcome ls (head ++ flat_map sheet_of xs) output work ≡ part_outcome ls (head ++ flat_map plain_sheet_of xs) output work
