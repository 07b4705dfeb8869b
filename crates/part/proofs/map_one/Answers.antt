use Rattle.map_rules.proofs.Laws.{cleared_front}
use Rattle.part.proofs.Laws.{zeros_cleared, started}
use Rattle.part.proofs.map_one.Goals as goal

pub map_tree-mapped-requires : goal.map_tree-mapped-requires
map_tree-mapped-requires c =
    let (l, (t, sheets)) = c.requires.sheets in
    (l, (t, started c.args.most c.args.work.now sheets c.requires.zeros c.words-words.result c.words-words.ensures))

pub returns : goal.returns
returns c =
    let a = c.args in
    let z = c.requires.zeros in record {
      work_after = cleared_front _ _ _ _ _ _ c.words-words.ensures (zeros_cleared a.most a.work.now z) c.map_tree-mapped.auto.work z.long c.clear.ensures;
      maps_one = λ l t sheets. c.map_tree-mapped.ensures l t (started a.most a.work.now sheets z c.words-words.result c.words-words.ensures);
    }
