-- What the functions of this crate are lent and what they promise each other.
use Rattle.std.specs.Prelude.{◌≡◌, List, ℕ, ◌≤◌}
use Rattle.fields.specs.Answer.{Answer, Bounded}
use Rattle.sheets_rules.specs.declared.LibraryRecord.{LibraryRecord}
use Rattle.sheets_rules.specs.declared.TreeRecord.{TreeRecord}
use Rattle.sheets_rules.specs.Model.{Library, Tree}
use Rattle.covers.specs.Capacity.{work_words, allowed}
use Rattle.covers.specs.Lending.{told, output_after}
use Rattle.covers.specs.Inside.Allowed.{Allowed}
use Rattle.overlay.specs.Inside.Promises.{SheetsStored}
use Rattle.map_core.specs.Inside.Promises.{Started}
use Rattle.map_rules.specs.Public.{Operated}

-- Enough is lent to an operation that needs an output of `least` bytes, and it allows so many trade-offs.
pub record Lent (least most output work : ℕ) : Type 0 where
  pub long : least ≤ output
  pub words : work_words most ≤ work
  pub most_is : most ≡ allowed work
  pub allowed : Allowed most

-- What the caller is told is the answer's, and the output is what it leaves.
pub record Replied (o : Answer (List ℕ)) (output output' : List ℕ) (a : Answer ℕ) : Type 0 where
  pub told_is : a ≡ told o
  pub output_is : output' ≡ output_after o output
  pub bounded : Bounded a

-- The answer of map or of list for whichever library and tree the records hold, where the core starts.
abbrev pub RepliesStarted : (ℕ → Library → Tree → Answer (List ℕ)) → LibraryRecord → TreeRecord → (most : ℕ) → (work output output' : List ℕ) → Answer ℕ → Type 0
RepliesStarted answer library tree most work output output' a = (l : Library) (t : Tree) → Started most l t library tree work → Replied (answer most l t) output output' a

-- The outcome of map or of list for whichever library and tree the records hold.
abbrev pub OperatesStored : (ℕ → Library → Tree → Answer (List ℕ)) → LibraryRecord → TreeRecord → (most : ℕ) → (output output' work work' : List ℕ) → Answer ℕ → Type 0
OperatesStored answer library tree most output output' work work' a = (l : Library) (t : Tree) → SheetsStored l t library tree → Operated (answer most l t) output output' work work' a
