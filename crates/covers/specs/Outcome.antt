-- The whole outcome of map and of list, from the bytes of the two sheets and the lengths of what is lent: a number and a place, or the sheet's bytes.
use Rattle.std.specs.Prelude.{ℕ, List}
use Rattle.fields.specs.Answer.{Answer, ◌>>=◌}
use Rattle.sheets_rules.specs.Model.{Library, Tree}
use Rattle.sheets_rules.specs.Report.{library_said, tree_said}
use Rattle.covers.specs.Answer.{map_answer, list_answer}
use Rattle.covers.specs.Lending.{lent}

-- In document 01's order: 1, the library, the tree, and what is answered for both, where a node may have so many trade-offs: 7, 8.
unfoldable pub operation : {A : Type 0} → (least : ℕ) → (ℕ → Library → Tree → Answer A) → (ls ts : List ℕ) → (output work : ℕ) → Answer A
operation least f ls ts output work = do
  most ← lent least output work
  l ← library_said ls
  t ← tree_said ts
  f most l t

-- The least output, in bytes, that map and that list are lent.
abbrev pub map_bytes : ℕ
map_bytes = 149

abbrev pub list_bytes : ℕ
list_bytes = 179

unfoldable pub map_outcome : List ℕ → List ℕ → ℕ → ℕ → Answer (List ℕ)
unfolding operation map_answer
map_outcome = operation map_bytes map_answer

unfoldable pub list_outcome : List ℕ → List ℕ → ℕ → ℕ → Answer (List ℕ)
unfolding operation list_answer
list_outcome = operation list_bytes list_answer
