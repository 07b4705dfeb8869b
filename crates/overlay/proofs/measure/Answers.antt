use Prim.Native.Nat.{ℕ, ◌+◌, ◌-◌, ◌≤◌, ◌<◌}
use mathlib.Core.Path.{◌≡◌, refl, sym, subst, ◌∙◌}
use mathlib.Core.List.{List}
use native.Mathlib.Omega.{arith}
use lib.ListN.{get_or, length, set, replicate, length-set}
use Rattle.sheets_rules.specs.Model.{Shape, size}
use Rattle.overlay.specs.Inside.Standing.{DrawingStored, Extending, extent}
use Rattle.overlay.proofs.Measuring.{MeasuredFrom, here, extending, here_small, measured_more, measured_none}
use Rattle.overlay.proofs.measure.Goals as goal

-- The node before those whose extents are there.
next : {row : List ℕ} (words : List ℕ) {k : ℕ} → 0 < k → length words ≡ 16 → (d : Shape) → DrawingStored row d → size d ≤ 16 → (k ≤ size d) × MeasuredFrom d words k →
    (s : Shape) × Extending (get_or row (30 + (k - 1)) 0) words (k - 1) s × (extent s ≤ 255) × ((v : ℕ) → v ≡ extent s → MeasuredFrom d (set words (k - 1) v) (k - 1))
next {row} words {k} some long d h g m =
    let below : k - 1 < size d = omega (arith, m.0) in
    let same : k - 1 + 1 ≡ k = omega arith in
    let after = subst (MeasuredFrom d words) (sym same) m.1 in
    ((here h g words long (k - 1) after below).0, extending h g words long (k - 1) after below, here_small h g words long (k - 1) after below, λ v. measured_more h g words long (k - 1) after below {v = v})

pub loop-k-init : goal.loop-k-init
loop-k-init c =
    let p = c.requires.1 in
    (omega (arith, p.0.size_is, p.1), refl, λ d h g. (omega (arith, h.size_is), measured_none d (replicate 16 0) (omega (arith, h.size_is))))

pub extent_from-requires : goal.extent_from-requires
extent_from-requires c =
    let p = c.requires in
    let i = c.loop-k in
    let f = next i.words c.loop-k-test.true i.invariant.1 p.0 p.1.0 p.1.1 (i.invariant.2 p.0 p.1.0 p.1.1) in
    (f.0, f.1)

pub overflow_cast-words : goal.overflow_cast-words
overflow_cast-words c =
    let p = c.requires in
    let i = c.loop-k in
    let f = next i.words c.loop-k-test.true i.invariant.1 p.0 p.1.0 p.1.1 (i.invariant.2 p.0 p.1.0 p.1.1) in
    omega (arith, c.extent_from.ensures f.0 f.1, f.2)

pub loop-k-preserved : goal.loop-k-preserved
loop-k-preserved c =
    let i = c.loop-k in (
      omega arith,
      length-set i.words (i.k - 1) c.extent_from.result ∙ i.invariant.1,
      λ d h g. let f = next i.words c.loop-k-test.true i.invariant.1 d h g (i.invariant.2 d h g) in (omega (arith, (i.invariant.2 d h g).0), f.3 c.extent_from.result (c.extent_from.ensures f.0 f.1)),
    )
