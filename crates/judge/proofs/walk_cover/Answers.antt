use native.Mathlib.Omega.{arith}
use Prim.Native.Nat.{◌≤◌}
use mathlib.Core.Path.{◌≡◌, refl, ap, ◌∙◌}
use mathlib.Core.List.{map}
use Rattle.std.proofs.Common.{length}
use Rattle.fields.specs.Answer.{refused}
use Rattle.sheets_rules.specs.declared.Reason.{Reason}
use Rattle.result_sheets.specs.Public.{placed_of, no_match}
use Rattle.judge_rules.specs.Walk.{match_number}
use Rattle.judge_rules.specs.Public.{of_cover_judged}
use Rattle.judge.proofs.Walking.{symbol_small, load_small, started_kept, placed_drop, placed_end, stepping, gone_start, gone_early, gone_end, gone_wrong, gone_next}
use Rattle.judge.proofs.Judged.{refused_told}
use Rattle.judge.proofs.walk_cover.Goals as goal

pub visit-requires : goal.visit-requires
visit-requires c = let h = c.requires.1.1.1 in (symbol_small h, omega arith, load_small h, omega arith)

pub loop-k-init : goal.loop-k-init
loop-k-init c = λ l t h. gone_start l t _ h.decoded.tree (started_kept h c.visit.new.self c.visit.ensures)

pub step-requires : goal.step-requires
step-requires c =
    let p = c.requires.1 in
    let g = c.loop-k.invariant p.0 p.1.0 p.1.1 in
    (p.0, (p.1.0, (c.loop-k.k, (g.w, stepping p.1.1 g (omega (arith, c.requires.0))))))

pub returns-in_default : goal.returns-in_default
returns-in_default c = λ l t h.
    let ms = c.args.matches.now in
    let g = c.loop-k.invariant l t h in
    let few : c.loop-k.k ≤ 62 = omega (arith, c.requires.0) in
    refused_told Reason.Match c.loop-k.k _ c.refused.ensures
    (gone_wrong l t (map placed_of ms) g _ (placed_drop ms c.loop-k.k no_match c.loop-k-test.true refl) (c.in_default.ensures l t c.loop-k.k g.w (stepping h g few)))

pub loop-k-preserved : goal.loop-k-preserved
loop-k-preserved c = λ l t h.
    let ms = c.args.matches.now in
    let g = c.loop-k.invariant l t h in
    let few : c.loop-k.k ≤ 62 = omega (arith, c.requires.0) in
    let made = c.in-Some.ensures l t c.loop-k.k g.w (stepping h g few) in
    gone_next l t (map placed_of ms) g _ (placed_drop ms c.loop-k.k no_match c.loop-k-test.true refl) h.decoded.library made.1 made.2

pub returns-then-walk-gt0 : goal.returns-then-walk-gt0
returns-then-walk-gt0 c = λ l t h.
    let ms = c.args.matches.now in
    let all : length ms ≡ c.loop-k.k = omega arith in
    refused_told Reason.Match (length ms) _ c.refused-then-walk-gt0.ensures
    (ap (refused match_number) all ∙ gone_early l t (map placed_of ms) (c.loop-k.invariant l t h) (placed_end ms c.loop-k.k (omega arith)) c.if-walk-gt0.true)

pub returns : goal.returns
unfolding of_cover_judged
returns c = λ l t h. let ms = c.args.matches.now in gone_end l t (map placed_of ms) (c.loop-k.invariant l t h) (placed_end ms c.loop-k.k (omega arith)) (omega arith)
