use lib.ListN.{length}
use Rattle.result_sheets.proofs.Laws.{Filled}
use Rattle.result_sheets.proofs.read_matches.Given as goal

abbrev pub invariant-loop-one : goal.invariant-loop-one
invariant-loop-one l = Filled l.fn.sheet l.sheet l.one-index (length l.fn.matches) l.matches
