use lib.ListN.{length}
use Rattle.curves.specs.Inside.Words.{match_limit}
use Rattle.curves.specs.Inside.Best.{hits_best}
use Rattle.curves.specs.Inside.Promises.{Held, Kept}
use Rattle.curves.proofs.Matches.best.Given as goal

abbrev pub invariant-loop-j : goal.invariant-loop-j
invariant-loop-j l =
    Kept l.sources.curves.most l.sources.symbols.now l.sources.curves.work.now l.self.rows.now l.self.hits.now l.load (length l.self.hits.now) l.end l.word-items
    × Held match_limit l.end l.least (hits_best l.sources.curves.most l.sources.symbols.now l.sources.curves.work.now l.self.rows.now l.self.hits.now l.load l.end l.j)
