use lib.ListN.{take}
use Rattle.text.specs.Inside.Promises.{Appended}
use Rattle.treecover_text.proofs.Laws.{lines}
use Rattle.treecover_text.proofs.put_matches.Given as goal

abbrev pub invariant-loop-one : goal.invariant-loop-one
invariant-loop-one l = Appended (lines l.rows l.matches (take l.one-index l.matches)) l.initial.text l.text
