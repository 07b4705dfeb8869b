-- A tree sheet that is written: the same shape can stand on several, since a leaf with drive 0 has two codes.
use Rattle.std.specs.Prelude.{ℕ, ◌≤◌, ◌≡◌, List, [], ◌∷◌, ◌++◌}
use Rattle.fields.specs.Answer.{success}
use Rattle.fields.specs.Written.{Field, packed}
use Rattle.sheets_rules.specs.Model.{plain_leaf, Shape, leaf, inv, nand, size, Tree}
use Rattle.sheets_rules.specs.Report.{tree_said}

-- A tree node by node, each with its code: a leaf and its arrival, an inverter, a NAND, a driven leaf with its arrival and its drive.
pub data CodedTree : Type 0 where
  code0 : (arrival : ℕ) → CodedTree
  code1 : CodedTree → CodedTree
  code2 : CodedTree → CodedTree → CodedTree
  code3 : (arrival drive : ℕ) → CodedTree

abbrev code_field : ℕ → Field
code_field code = record { value = code; width = 2 }

abbrev arrival_field : ℕ → Field
arrival_field arrival = record { value = arrival; width = 20 }

-- Its fields, its shape, and its whole sheet under a root load and a required time.
unfoldable pub coded_fields : CodedTree → List Field
coded_fields (code0 x) = code_field 0 ∷ arrival_field x ∷ []
coded_fields (code1 a) = code_field 1 ∷ coded_fields a
coded_fields (code2 a b) = code_field 2 ∷ (coded_fields a ++ coded_fields b)
coded_fields (code3 x d) = code_field 3 ∷ arrival_field x ∷ record { value = d; width = 8 } ∷ []

unfoldable pub shape_of : CodedTree → Shape
shape_of (code0 x) = plain_leaf x
shape_of (code1 a) = inv (shape_of a)
shape_of (code2 a b) = nand (shape_of a) (shape_of b)
shape_of (code3 x d) = leaf (record { number = x; drive = d })

unfoldable pub tree_fields : ℕ → ℕ → CodedTree → List Field
unfolding coded_fields
tree_fields load required x = record { value = load; width = 8 } ∷ record { value = required; width = 24 } ∷ coded_fields x

unfoldable pub tree_sheet : ℕ → ℕ → CodedTree → List ℕ
unfolding tree_fields packed
tree_sheet load required x = packed (tree_fields load required x)

-- What keeps the tree sheet's rules.
abbrev pub Ranged : CodedTree → Type 0
Ranged (code0 x) = x ≤ 1000000
Ranged (code1 a) = Ranged a
Ranged (code2 a b) = Ranged a × Ranged b
Ranged (code3 x d) = (x ≤ 1000000) × (d ≤ 255)

pub record SoundCoded (load required : ℕ) (x : CodedTree) : Type 0 where
  pub light : load ≤ 255
  pub timed : required ≤ 16777215
  pub nodes : size (shape_of x) ≤ 64
  pub ranged : Ranged x

-- The same tree with plain leaves: each driven leaf written as a plain one.
unfoldable pub plainly : CodedTree → CodedTree
plainly (code0 x) = code0 x
plainly (code1 a) = code1 (plainly a)
plainly (code2 a b) = code2 (plainly a) (plainly b)
plainly (code3 x d) = code0 x

-- The driven leaves all have drive 0.
abbrev pub Undriven : CodedTree → Type 0
Undriven (code0 x) = Unit {0}
Undriven (code1 a) = Undriven a
Undriven (code2 a b) = Undriven a × Undriven b
Undriven (code3 x d) = d ≡ 0

-- Two sheets that say the same tree.
pub record SameTree (ts ts' : List ℕ) : Type 0 where
  pub tree : Tree
  pub first : tree_said ts ≡ success tree
  pub second : tree_said ts' ≡ success tree

-- A tree whose driven leaves all have drive 0, and the same tree with plain leaves.
abbrev pub SameWithPlain : Type 0
SameWithPlain = (load required : ℕ) (x : CodedTree) → SoundCoded load required x → Undriven x → SameTree (tree_sheet load required x) (tree_sheet load required (plainly x))
