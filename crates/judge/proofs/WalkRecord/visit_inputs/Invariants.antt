-- The inputs from the last to the first. What the loop has yet to reach is the front of the list, and the walk has reached the inputs after it.
use Rattle.std.proofs.Common.{◌≡◌, ◌≤◌, length, take}
use Rattle.std.specs.Iterator.Adapters.{rev_source}
use Rattle.std.specs.Slice.Iter.{iter_rest}
use Rattle.sheets_rules.specs.Model.{Library}
use Rattle.covers.specs.Match.{Match}
use Rattle.judge_rules.specs.Walk.{Walk}
use Rattle.judge.specs.Inside.Promises.{WalkStored, Entering}
use Rattle.judge.proofs.Entering.{from}
use Rattle.judge.proofs.WalkRecord.visit_inputs.Given as goal

abbrev pub invariant-loop-input : goal.invariant-loop-input
invariant-loop-input l =
    let rest = iter_rest (rev_source l.input-iterator) in
    let all = take l.fn.inputs.count l.fn.inputs.list in
    (length rest ≤ length all)
    × (rest ≡ take (length rest) all)
    × ((y : Library) (m : Match) (w : Walk) (h : Entering y l.row l.symbols l.fn.inputs l.one l.fn.self m w) → WalkStored (from h (length rest)) l.self)
