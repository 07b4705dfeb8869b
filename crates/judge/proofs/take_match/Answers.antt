-- A match taken at what was the lowest, of the pattern in a row under a crossing: what is read of the walk and of the row is what `Taking` says.
use native.Mathlib.Omega.{arith}
use Prim.Native.Nat.{ℕ}
use Rattle.sheets_rules.specs.Model.{Shape, Library, Pattern, Tree}
use Rattle.judge_rules.specs.Walk.{Walk}
use Rattle.judge.specs.Inside.Promises.{Taking}
use Rattle.judge.proofs.Taking.{area_small, nands_read, wrong_load, wrong_crossing, crossing_below, walkable_at, wrong_shape, Found, found}
use Rattle.judge.proofs.take_match.Goals as goal
use Rattle.judge.proofs.take_match.Goals.{In-Ok}

pub returns-then-not-is_legal : goal.returns-then-not-is_legal
returns-then-not-is_legal c = λ l t k p s w number h. wrong_load h number _ (_, c.from.ensures, c.is_legal.ensures) c.if-not-is_legal.true

pub is_crossing-requires : goal.is_crossing-requires
is_crossing-requires c = omega (arith, c.from-2.ensures, (nands_read c.requires.1.1.1.1.1.1 c.measure-extents.ensures).few)

pub returns-then-not-is_crossing : goal.returns-then-not-is_crossing
returns-then-not-is_crossing c = λ l t k p s w number h.
    wrong_crossing h number _ _ c.measure-extents.ensures (_, c.from-2.ensures, c.is_crossing.ensures) c.if-not-is_crossing.true

pub walk-requires : goal.walk-requires
walk-requires c =
    let p = c.requires.1.1.1 in
    let h = p.1.1.1 in
    let e = c.measure-extents.ensures in
    (crossing_below h 0 _ _ e (_, c.from-2.ensures, c.is_crossing.ensures) c.if-not-is_crossing.false, (p.0.drawing, (p.1.0, walkable_at h 0 c.args.crossing _ e _ c.from-3.ensures)))

pub returns-in_default : goal.returns-in_default
returns-in_default c = λ l t k p s w number h. wrong_shape h number _ _ c.measure-extents.ensures c.in_default.field-0 (_, c.from-3.ensures, c.in_default.ensures)

-- The match that was found.
found_here : {l : Library} {t : Tree} {k : ℕ} {p : Pattern} {s : Shape} {w : Walk} (number : ℕ) (c : In-Ok) (h : Taking l t c.args.row.now c.args.tree.now.symbols c.args.tree.now.sizes k p s w c.args.walk c.args.one) →
    Found h number c.args.crossing c.measure-extents.result.words c.measure-extents.ensures c.in-Ok.inputs
found_here number c h =
    found h number _ _ c.measure-extents.ensures c.in-Ok.inputs (_, c.from.ensures, c.is_legal.ensures) c.if-not-is_legal.false
    (_, c.from-2.ensures, c.is_crossing.ensures) c.if-not-is_crossing.false (_, c.from-3.ensures, c.in-Ok.ensures)

pub overflow_add-walk : goal.overflow_add-walk
overflow_add-walk c = record { fits = omega (arith, area_small c.requires.1.1.1.1.1.1) }

pub visit_inputs-requires : goal.visit_inputs-requires
visit_inputs-requires c =
    let p = c.requires in
    let f = found_here 0 (goal.at.visit_inputs-requires c).In-Ok p.1.1.1.1.1.1 in
    (p.0, (f.m, (f.below, f.enters)))

pub returns : goal.returns
returns c = λ l t k p s w number h.
    let f = found_here number (goal.at.returns c).In-Ok h in
    f.makes c.visit_inputs.new.self (c.visit_inputs.ensures l f.m f.below f.enters)
