use native.Mathlib.Omega.{arith}
use mathlib.Core.Path.{◌∙◌}
use Rattle.result_sheets.specs.Public.{no_match}
use Rattle.result_sheets.proofs.Laws.{match_turn, matches_done}
use Rattle.result_sheets.proofs.put_matches.Goals as goal

pub loop-one-preserved : goal.loop-one-preserved
loop-one-preserved c =
    let i = c.loop-one in
    let turn = match_turn c.args.matches.now i.one-index no_match (omega arith) i.at i.output c.put.new.s c.put-in-loop-one.new.s c.put-in-loop-one-2.new.s
    c.from.ensures c.from-in-loop-one.ensures c.from-in-loop-one-2.ensures c.put.ensures c.put-in-loop-one.ensures c.put-in-loop-one-2.ensures in
    record { place = omega arith; kept = turn.0 ∙ i.invariant.kept; rest = turn.1 ∙ i.invariant.rest }

pub returns : goal.returns
returns c =
    let i = c.loop-one in
    matches_done c.args.matches.now i.one-index i.at i.output (omega arith) ∙ i.invariant.rest
