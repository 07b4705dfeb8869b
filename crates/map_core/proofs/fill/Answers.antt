use borrow.Author.Rules.{rules}
use Rattle.map_core.proofs.Core.{few_rows, fill_start, filled}
use Rattle.map_core.proofs.fill.Goals as goal

pub rows-requires : goal.rows-requires
rows-requires c = let (l, (t, start)) = c.requires.started in few_rows start.decoded start.total_is

pub returns : goal.returns
returns c l t start = filled start c.fill.new.work c.fill.auto.work c.fill.result (c.fill.ensures l t (rw c.rows.ensures (fill_start start))) c.map_err.result c.map_err.ensures.cases (λ n q h. search rules)
