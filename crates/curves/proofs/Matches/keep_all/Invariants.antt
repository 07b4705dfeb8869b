use Rattle.covers.specs.Inside.Curve.{base}
use Rattle.curves.specs.Inside.Promises.{Kept}
use Rattle.curves.proofs.Matches.keep_all.Given as goal

abbrev pub invariant-loop-j : goal.invariant-loop-j
invariant-loop-j l = Kept l.sources.curves.most l.sources.symbols.now l.sources.curves.work.now l.self.rows.now l.self.hits.now l.load l.j base l.word-items
