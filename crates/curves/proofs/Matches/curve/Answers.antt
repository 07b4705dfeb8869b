use native.Mathlib.Omega.{arith}
use mathlib.Core.List.{List}
use Prim.Native.Nat.{ℕ, ◌+◌, ◌<◌}
use mathlib.Core.Path.{◌≡◌, ◌∙◌}
use lib.ListN.{length, length-set}
use Rattle.curves.specs.Inside.Words.{slot, WorkArea}
use Rattle.curves.proofs.Laws.{slot_within}
use Rattle.curves.proofs.Frames.{growing_rising, growing_kept, growing_next, growing_done, growing_over}
use Rattle.curves.proofs.Matches.curve.Goals as goal

-- the next word of the curve is within the work area
room : {most at k : ℕ} {work : List ℕ} (work' : List ℕ) → WorkArea most work → at < 256 → length work' ≡ length work → k < most → (slot most at + k < 65536) × (slot most at + k < length work')
room {at = at} work' area h e l = let w = slot_within area at h in (omega (arith, w.0), omega (arith, w.1))

pub best-requires-clause-all_rising : goal.best-requires-clause-all_rising
best-requires-clause-all_rising c = let e = c.new-sources.ensures in rw (e.symbols_kept, e.work_kept, e.most_kept) (growing_rising c.loop-k.invariant.2 c.requires.above c.requires.points_fit.rising)

pub best-requires-clause-kept : goal.best-requires-clause-kept
best-requires-clause-kept c = let e = c.new-sources.ensures in rw (e.symbols_kept, e.work_kept, e.most_kept) (growing_kept c.loop-k.invariant.2 c.requires.above)

pub best-requires-2-clause-all_rising : goal.best-requires-2-clause-all_rising
best-requires-2-clause-all_rising c = let e = c.new-sources-2.ensures in rw (e.symbols_kept, e.work_kept, e.most_kept) (growing_rising c.loop-k.invariant.2 c.requires.above c.requires.points_fit.rising)

pub best-requires-2-clause-kept : goal.best-requires-2-clause-kept
best-requires-2-clause-kept c = let e = c.new-sources-2.ensures in rw (e.symbols_kept, e.work_kept, e.most_kept) (growing_kept c.loop-k.invariant.2 c.requires.above)

pub returns-in_default : goal.returns-in_default
returns-in_default c = let e = c.new-sources.ensures in growing_done c.loop-k.invariant.2 c.requires.above (rw (e.symbols_kept, e.work_kept, e.most_kept) at c.in_default.ensures)

pub returns-in-None : goal.returns-in-None
returns-in-None c = let e : c.loop-k.k ≡ c.args.target.most = omega arith in rw e at (growing_done c.loop-k.invariant.2 c.requires.above (let e = c.new-sources-2.ensures in rw (e.symbols_kept, e.work_kept, e.most_kept) at c.in-None.ensures))

pub returns-in-Some-best : goal.returns-in-Some-best
returns-in-Some-best c = let e = c.new-sources-2.ensures in growing_over c.loop-k.invariant.2 c.requires.above (rw (e.symbols_kept, e.work_kept, e.most_kept) at c.in-Some-best.ensures) (omega arith)

pub loop-k-preserved : goal.loop-k-preserved
loop-k-preserved c =
    let i = c.loop-k in
    (simp length-set i.invariant.0, c.best.auto.kept ∙ i.invariant.1, growing_next i.invariant.2 c.requires.above (let e = c.new-sources.ensures in rw (e.symbols_kept, e.work_kept, e.most_kept) at c.in-Some.ensures) (λ e. omega arith) c.requires.points_fit (room c.loop-k.work c.requires.sources.curves c.requires.at_bound.0 c.loop-k.invariant.0 c.loop-k-test.true).1)
