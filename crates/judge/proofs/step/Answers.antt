-- One listed match: what is tested of the walk and of the pattern's number is what `Stepping` says.
use native.Mathlib.Omega.{arith}
use Prim.Native.Nat.{ℕ, ◌+◌, ◌*◌, ◌≤◌}
use mathlib.Core.Path.{◌≡◌, subst}
use Rattle.std.proofs.Common.{length, take, drop}
use mathlib.Core.Logic.{⊎_elim}
use Rattle.sheets_rules.specs.Inside.Layout.{row_words}
use Rattle.overlay.proofs.Patterns.{pattern_at}
use Rattle.judge.proofs.Stepping.{row_got, count_few, wrong_past, wrong_node, wrong_pattern, taking, made}
use Rattle.judge.specs.Inside.Promises.{MatchTaken}
use Rattle.judge.proofs.step.Goals as goal
use Rattle.judge.proofs.step.Goals.{In_ok-row}

pub pop-requires : goal.pop-requires
pop-requires c = count_few c.requires.1.1.1.1

pub returns-in_err-one : goal.returns-in_err-one
returns-in_err-one c = λ l t k w h. rw c.from_residual.ensures (wrong_past h c.args.listed c.in_err-one.ensures)

pub returns-then-one-listed : goal.returns-then-one-listed
returns-then-one-listed c = λ l t k w h. wrong_node h c.args.listed c.in_ok-one.ensures c.if-one-listed.true

pub returns-in_err-row : goal.returns-in_err-row
returns-in_err-row c = λ l t k w h.
    rw c.from_residual-in_err-row.ensures
    (wrong_pattern h c.args.listed c.in_ok-one.ensures c.if-one-listed.false (⊎_elim (λ e. absurd (omega arith)) (λ e. omega (arith, e, c.from-first.ensures)) c.in_err-row.ensures.lookup.0))

-- The row that was found is that of the pattern.
row_is : (c : In_ok-row) → c.in_ok-row.row.now ≡ take row_words (drop (row_words * c.args.listed.pattern) c.args.rows.now)
row_is c = row_got c.args.rows.now c.in_ok-row.row.now c.from-first.result c.args.listed.pattern c.from-first.ensures c.in_ok-row.ensures.lookup.0.2

known : (c : In_ok-row) → row_words * c.args.listed.pattern + row_words ≤ length c.args.rows.now
known c = omega (arith, c.in_ok-row.ensures.lookup.0.1, c.from-first.ensures)

pub take_match-requires : goal.take_match-requires
take_match-requires c =
    let a = c.args in
    let p = c.requires in
    let here = (goal.at.take_match-requires c).In_ok-row in
    (p.0, (p.1.0, (p.1.1.0, (pattern_at p.0 a.listed.pattern, (_, (p.1.1.1.0, taking p.1.1.1.1 a.listed c.in_ok-one.ensures c.if-one-listed.false (known here) c.in_ok-row.row.now (row_is here)))))))

pub returns : goal.returns
returns c = λ l t k w h.
    let a = c.args in
    let here = (goal.at.returns c).In_ok-row in
    let from_walk = subst (λ (x : ℕ). MatchTaken c.pop.new.self c.in_ok-one.one c.in_ok-row.row.now x a.tree.now.symbols a.tree.now.sizes c.take_match.result) c.from.ensures c.take_match.ensures in
    made h a.listed c.in_ok-one.ensures c.if-one-listed.false (known here) c.take_match.result
    (from_walk l t k (pattern_at l a.listed.pattern) _ w a.listed.pattern (taking h a.listed c.in_ok-one.ensures c.if-one-listed.false (known here) c.in_ok-row.row.now (row_is here)))
