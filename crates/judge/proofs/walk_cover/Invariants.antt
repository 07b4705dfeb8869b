-- The walk over a cover's matches. After k of them the walk is kept, and what is left of the list answers for all of it (`Gone`).
use Rattle.sheets_rules.specs.Model.{Library, Tree}
use mathlib.Core.List.{map}
use Rattle.result_sheets.specs.Public.{placed_of}
use Rattle.judge.specs.Inside.Promises.{Judging}
use Rattle.judge.proofs.Walking.{Gone}
use Rattle.judge.proofs.walk_cover.Given as goal

abbrev pub invariant-loop-k : goal.invariant-loop-k
invariant-loop-k l = (y : Library) (t : Tree) → Judging y t l.rows l.tree → Gone y t (map placed_of l.matches) l.k l.walk
