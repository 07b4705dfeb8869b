-- What the two judges answer: document 01's number and place of a refusal, or the counts.
use Rattle.std.specs.Prelude.{ℕ, ◌+◌, ◌*◌, ◌/◌, ◌%◌, ◌≤◌, List, length, Result, Ok, Err}
use Rattle.fields.specs.Answer.{Answer, refused_in, success, on_success, said, Bounded}
use Rattle.fields.specs.Reading.{start}
use Rattle.fields.specs.declared.Fault.{Fault}
use Rattle.fields.specs.declared.Fault.TheVariants.{Truncated, Tail, Range, Drawing, Size}
use Rattle.sheets_rules.specs.declared.Counts.{Counts}
use Rattle.sheets_rules.specs.declared.Reason.{Reason}
use Rattle.sheets_rules.specs.declared.Refusal.{Refusal}
use Rattle.sheets_rules.specs.Model.{Library, Tree, patterns, size}
use Rattle.sheets_rules.specs.LibrarySheet.{library}
use Rattle.sheets_rules.specs.TreeSheet.{tree}
use Rattle.sheets_rules.specs.Reach.{library_bits, tree_bits}

-- Document 01's numbers: torn 2, loose tail 3, off the scale 4, misdrawn 5, overgrown 6; in a tree 12, 13, 14 and 16.
unfoldable pub library_number : Fault → ℕ
library_number Truncated = 2
library_number Tail = 3
library_number Range = 4
library_number Drawing = 5
library_number Size = 6

unfoldable pub tree_number : Fault → ℕ
tree_number f = library_number f + 10

-- The number of each reason for which a call is refused: these, and documents 01's and 02's others.
abbrev pub number_of : Reason → ℕ
number_of Reason.Short = 1
number_of (Reason.Library f) = library_number f
number_of (Reason.Tree f) = tree_number f
number_of Reason.Overfull = 7
number_of Reason.NoCover = 8
number_of Reason.CoverSheet = 22
number_of Reason.Match = 23
number_of Reason.Figures = 24
number_of (Reason.FunctionSheet f) = library_number f + 29
number_of Reason.Function = 33
number_of Reason.Link = 41
number_of Reason.Driver = 42
number_of Reason.Late = 43

-- The refusal that a record holds.
abbrev pub refusal : {A : Type 0} → Refusal → Answer A
refusal r = refused_in r.item (number_of r.reason) r.place

-- How many cells and patterns a library has, and the two in one word.
pub record LibraryCounts : Type 0 where
  pub cells : ℕ
  pub patterns : ℕ

unfoldable pub library_word : LibraryCounts → ℕ
library_word n = n.cells * 256 + n.patterns

-- What a caller reads from such a word.
unfoldable pub of_library_word : ℕ → LibraryCounts
of_library_word w = record { cells = w / 256; patterns = w % 256 }

-- The counts of a library.
abbrev pub counts_of : Library → LibraryCounts
counts_of l = record { cells = length l.cells; patterns = length (patterns l) }

-- The library and the tree on their sheets, or the sheet's refusal: with these a whole library or tree sheet is opened.
unfoldable pub library_said : List ℕ → Answer Library
unfolding said
library_said s = said library_number (library s start)

unfoldable pub tree_said : List ℕ → Answer Tree
unfolding said
tree_said s = said tree_number (tree s start)

-- The judges' answers, from the bytes alone.
unfoldable pub library_report : List ℕ → Answer LibraryCounts
unfolding library_said on_success
library_report s = on_success counts_of (library_said s)

unfoldable pub tree_report : List ℕ → Answer ℕ
unfolding tree_said on_success
tree_report s = on_success (λ t. size t.shape) (tree_said s)

-- The limits that the answers keep: no place is beyond the farthest that a sheet can reach, and the counts are document 01's.
unfoldable pub LibraryLimits : Answer LibraryCounts → Type 0
LibraryLimits (refused_in item number place) = place ≤ library_bits
LibraryLimits (success n) = (n.cells ≤ 64) × (n.patterns ≤ 128)

-- Within them, and in one word.
abbrev pub LibraryBounded : Answer LibraryCounts → Type 0
LibraryBounded a = Bounded (on_success library_word a) × LibraryLimits a

-- The numbers of a tree's refusals. Patterns alone are misdrawn, so 15 is never said.
pub data TreeRefusal : ℕ → Type 0 where
  torn : TreeRefusal 12
  loose_tail : TreeRefusal 13
  off_the_scale : TreeRefusal 14
  overgrown : TreeRefusal 16

unfoldable pub TreeLimits : Answer ℕ → Type 0
TreeLimits (refused_in item number place) = TreeRefusal number × (place ≤ tree_bits)
TreeLimits (success nodes) = nodes ≤ 64

-- What each case of the judges' results says.
unfoldable pub of_library_judged : Result Counts Refusal → Answer LibraryCounts
of_library_judged (Ok n) = success (record { cells = n.cells; patterns = n.patterns })
of_library_judged (Err r) = refusal r

unfoldable pub of_tree_judged : Result ℕ Refusal → Answer ℕ
of_tree_judged (Ok nodes) = success nodes
of_tree_judged (Err r) = refusal r
