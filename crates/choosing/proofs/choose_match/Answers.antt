-- The match chosen at a gate. The laws are those of `Gate`.
use native.Mathlib.Omega.{arith}
use Prim.Native.Nat.{◌≤◌}
use mathlib.Core.Path.{sym}
use lib.ListN.{length}
use lib.Seq.{length-take-le}
use Rattle.matching.proofs.Patterns.{fitting_few}
use Rattle.filling.proofs.Node.{found_are, gate_here, hits_known, sources}
use Rattle.choosing.proofs.Gate.{Limits, limits, ready, word_there, some_reaches, picked, picked_inputs}
use Rattle.choosing.proofs.choose_match.Goals as goal
use Rattle.choosing.proofs.choose_match.Goals.{Start, After-find_matches-count}

near : (c : Start) → Limits c.args.goal c.args.tree.now.symbols
near c = let p = c.requires.1.1.1 in limits p.0 p.1

pub overflow_mul-at : goal.overflow_mul-at
overflow_mul-at c = omega (arith, (near (goal.at.overflow_mul-at c).Start).node_small)

pub overflow_add-at : goal.overflow_add-at
overflow_add-at c = let n = near (goal.at.overflow_add-at c).Start in omega arith

pub look_up-requires : goal.look_up-requires
look_up-requires c = let n = near (goal.at.look_up-requires c).Start in omega arith

pub unreachable-requires : goal.unreachable-requires
unreachable-requires c =
    let p = c.requires.1.1.1 in
    word_there p.0 p.1 (gate_here (ready p.0 p.1) p.2) (rw c.from.ensures at c.in_default.ensures)

-- No more hits than the table holds.
inside : (c : After-find_matches-count) → c.find_matches-count.result ≤ length c.find_matches-count.new.table
inside c =
    let p = c.requires in
    let g = ready p.1.1.1.0 p.1.1.1.1 in
    omega (arith, (c.find_matches-count.ensures p.0 p.1.0 p.1.1.0 g).0, fitting_few p.0 c.args.goal.node p.1.1.0, g.decoded.library.few_patterns, c.find_matches-count.auto.table, g.room_is)

pub slice_bounds-matches-end : goal.slice_bounds-matches-end
slice_bounds-matches-end c = inside (goal.at.slice_bounds-matches-end c).After-find_matches-count

pub slice_bounds-matches-end-2 : goal.slice_bounds-matches-end-2
slice_bounds-matches-end-2 c = sym (length-take-le c.find_matches-count.result c.find_matches-count.new.table (inside (goal.at.slice_bounds-matches-end-2 c).After-find_matches-count))

pub invariant_of-matches : goal.invariant_of-matches
invariant_of-matches c =
    let p = c.requires in
    let g = ready p.1.1.1.0 p.1.1.1.1 in
    record { known = hits_known g (found_are c.args.found.now g c.find_matches-count.result c.find_matches-count.new.table (c.find_matches-count.ensures p.0 p.1.0 p.1.1.0 g)) }

pub invariant_of-sources : goal.invariant_of-sources
invariant_of-sources c =
    let p = c.requires.1.1.1 in
    let safe = sources (ready p.0 p.1) p.0.area in
    record { symbols_length = safe.symbols_length; symbols_small = safe.symbols_small }

pub first_reaching-requires : goal.first_reaching-requires
first_reaching-requires c =
    let p = c.requires.1.1.1 in
    ((near (goal.at.first_reaching-requires c).Start).load_small, c.in-Some.ensures.small)

pub unreachable-requires-in_default-first_reaching : goal.unreachable-requires-in_default-first_reaching
unreachable-requires-in_default-first_reaching c =
    let p = c.requires in
    let g = ready p.1.1.1.0 p.1.1.1.1 in
    some_reaches p.1.1.1.0 p.1.1.1.1 p.1.1.1.2 (found_are c.args.found.now g c.find_matches-count.result c.find_matches-count.new.table (c.find_matches-count.ensures p.0 p.1.0 p.1.1.0 g)) c.in-Some.w
    (rw c.from.ensures at c.in-Some.ensures) c.in_default-first_reaching.ensures

pub read_inputs-requires : goal.read_inputs-requires
read_inputs-requires c = (near (goal.at.read_inputs-requires c).Start).load_small

pub returns : goal.returns
returns c = λ l t s dec drv.
    let g = ready dec drv in
    let are = found_are c.args.found.now g c.find_matches-count.result c.find_matches-count.new.table (c.find_matches-count.ensures l t s g) in
    picked_inputs (picked dec drv c.requires.1.1.1.2 are c.in-Some.w (rw c.from.ensures at c.in-Some.ensures) c.in-Some-first_reaching.j c.in-Some-first_reaching.ensures) c.read_inputs.result
    (rw (c.at.ensures.pattern_is, c.at.ensures.hit_is) at c.read_inputs.ensures)
