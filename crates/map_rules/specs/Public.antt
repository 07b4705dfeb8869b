-- What an operation replies, what it leaves in what it is lent, and the whole contracts of map and list.
use Rattle.std.specs.Prelude.{◌≡◌, List, ℕ, length, Result, Ok, Err}
use Rattle.fields.specs.Answer.{Answer, refused_in, success, Bounded}
use Rattle.sheets_rules.specs.declared.Refusal.{Refusal}
use Rattle.sheets_rules.specs.Report.{refusal}
use Rattle.covers.specs.Lending.{told, output_after, observed, work_after}
use Rattle.covers.specs.Outcome.{map_bytes, list_bytes, map_outcome, list_outcome}
use Rattle.covers.specs.Demands.{MapDemands, ListDemands, WhereSound}

-- What each case of the reply says: the refusal, or how many bytes the sheets take.
unfoldable pub of_reply : Result ℕ Refusal → Answer ℕ
of_reply (Err r) = refusal r
of_reply (Ok n) = success n

-- What the caller is told is the outcome's, within the bounds of a word, and output and work area are what the outcome leaves.
pub record Operated (o : Answer (List ℕ)) (output output' work work' : List ℕ) (a : Answer ℕ) : Type 0 where
  pub told_is : a ≡ told o
  pub output_is : output' ≡ output_after o output
  pub work_is : work' ≡ work_after o work
  pub bounded : Bounded a

-- An answer that is refused, if at all, with such an item and number; and one whose refusal is about no item.
abbrev pub Refuses : {A : Type 0} → (ℕ → ℕ → Type 0) → Answer A → Type 0
Refuses P (refused_in item number place) = P item number
Refuses P (success a) = Unit {0}

abbrev pub AboutNone : {A : Type 0} → Answer A → Type 0
AboutNone = Refuses (λ item number. item ≡ 0)

-- Map: its outcome, and what that is worth among all legal covers.
pub record Maps (ls ts output output' work work' : List ℕ) (a : Answer ℕ) : Type 0 where
  pub operated : Operated (map_outcome ls ts (length output) (length work)) output output' work work' a
  pub about_none : AboutNone a
  pub demands : WhereSound MapDemands map_bytes ls ts (length output) (length work) (observed a output')

-- List.
pub record Lists (ls ts output output' work work' : List ℕ) (a : Answer ℕ) : Type 0 where
  pub operated : Operated (list_outcome ls ts (length output) (length work)) output output' work work' a
  pub about_none : AboutNone a
  pub demands : WhereSound ListDemands list_bytes ls ts (length output) (length work) (observed a output')
