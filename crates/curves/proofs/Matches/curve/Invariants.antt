use mathlib.Core.Path.{◌≡◌}
use lib.ListN.{length}
use Rattle.curves.proofs.Frames.{Growing}
use Rattle.curves.proofs.Matches.curve.Given as goal

abbrev pub invariant-loop-k : goal.invariant-loop-k
invariant-loop-k l = (length l.work ≡ length l.initial.work) × (length l.kept ≡ length l.initial.kept) × Growing l.most l.symbols l.initial.work l.self.rows.now l.self.hits.now l.target.load l.target.at l.k l.end l.work l.kept
