use mathlib.Core.Path.{◌≡◌}
use native.Mathlib.Omega.{arith}
use Rattle.covers.specs.Capacity.{work_words}
use Rattle.covers.specs.Lending.{cleared}
use Rattle.map_rules.proofs.Laws.{cleared_front}
use Rattle.map.proofs.Laws.{started, map_operated}
use Rattle.map.proofs.map_stored.Goals as goal

pub map_zeros-mapped-requires-clause-started : goal.map_zeros-mapped-requires-clause-started
map_zeros-mapped-requires-clause-started c =
    let (l, (t, sheets)) = c.requires.sheets in
    (l, (t, started sheets c.requires.lent.allowed c.args.work.now c.clear.new.work c.clear.ensures c.words-words.result c.words-words.ensures))

pub returns : goal.returns
returns c l t sheets =
    let a = c.args in
    let lent = c.requires.lent in
    let begun = started sheets lent.allowed a.work.now c.clear.new.work c.clear.ensures c.words-words.result c.words-words.ensures in
    let left : c.clear-2.new.work ≡ cleared (work_words a.most) a.work.now = cleared_front _ _ _ _ _ _ c.words-words.ensures c.clear.ensures c.map_zeros-mapped.auto.work (omega (arith, lent.words, c.clear.auto.work)) c.clear-2.ensures in
    map_operated a.most l t a.output.now a.work.now c.clear-2.new.work lent.most_is left (c.map_zeros-mapped.ensures l t begun)
