use Prim.Native.Nat.{ℕ, ◌+◌, ◌*◌, ◌-◌, ◌/◌, ◌≤◌, ◌<◌}
use mathlib.Core.Path.{◌≡◌, refl}
use mathlib.Core.List.{List}
use native.Mathlib.Omega.{arith}
use lib.ListN.{length, take, drop}
use lib.Seq.{take-length}
use Rattle.sheets_rules.specs.Model.{Shape, Library, Tree, patterns}
use Rattle.sheets_rules.specs.Inside.Layout.{row_words}
use Rattle.covers.specs.Match.{fitting_from, fitting}
use Rattle.overlay.proofs.Patterns.{pattern_at, rows_long, few_patterns}
use Rattle.matching.specs.Inside.Promises.{Trying, Ready}
use Rattle.matching.proofs.Patterns.{trying, pattern_turn, of_few}
use Rattle.matching.proofs.find_matches.Goals as goal

-- How many patterns the loop tries.
rows_all : {l : Library} {t : Tree} {rows ss zs : List ℕ} {n room : ℕ} {s : Shape} → Ready l t rows ss zs n room s → length rows / row_words ≡ length (patterns l)
rows_all h = omega (arith, rows_long h.decoded)

at_pattern : {l : Library} {t : Tree} {rows ss zs : List ℕ} {n room : ℕ} {s : Shape} → Ready l t rows ss zs n room s → (p : ℕ) → p < length rows / row_words → p < length (patterns l)
at_pattern h p g = omega (arith, rows_all h)

pub loop-p-init : goal.loop-p-init
unfolding fitting_from
loop-p-init c = (omega arith, λ l t s h. (refl, refl))

pub overflow_cast-p : goal.overflow_cast-p
overflow_cast-p c = let t = c.requires.1.1.1 in omega (arith, at_pattern t c.loop-p.p c.loop-p-test.true, few_patterns t.decoded)

-- Its row.
tried : {l : Library} {t : Tree} {rows ss zs : List ℕ} {n room count : ℕ} {s : Shape} → Ready l t rows ss zs n room s → (p : ℕ) → p < length rows / row_words → count ≤ 32 * p →
    Trying (take (row_words * p + row_words - row_words * p) (drop (row_words * p) rows)) ss zs n p room count (pattern_at l p) s
tried h p g few = trying h p (at_pattern h p g) (row_words * p + row_words - row_words * p) (omega arith) few

pub find_crossings-count-requires : goal.find_crossings-count-requires
find_crossings-count-requires c =
    let w = c.requires in
    let i = c.loop-p in
    (pattern_at w.0 i.p, (w.1.1.0, rw i.auto.table (tried w.1.1.1 i.p c.loop-p-test.true i.invariant.0)))

pub loop-p-preserved : goal.loop-p-preserved
loop-p-preserved c =
    let w = c.requires in
    let i = c.loop-p in
    let a = c.args in
    let found = c.find_crossings-count in (
      omega (arith, i.invariant.0, (found.ensures (pattern_at w.0 i.p) w.1.1.0 (rw i.auto.table (tried w.1.1.1 i.p c.loop-p-test.true i.invariant.0))).0, of_few w.0 a.n w.1.1.0 i.p),
      λ l t s h.
          let was = i.invariant.1 l t s h in
          pattern_turn l a.n s i.p (at_pattern h i.p c.loop-p-test.true) a.table.now i.table found.new.table i.count found.result was.0 was.1
          (found.ensures (pattern_at l i.p) s (rw i.auto.table (tried h i.p c.loop-p-test.true i.invariant.0))),
    )

pub returns : goal.returns
unfolding fitting
returns c = λ l t s h.
    let i = c.loop-p in
    let done : i.p ≡ length (patterns l) = omega (arith, rows_all h) in
    rw (done, take-length (patterns l)) at (i.invariant.1 l t s h)
