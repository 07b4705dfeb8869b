-- The loop over the matches, left with the first that reaches: none before it does, and none is found yet.
use Prim.Native.Nat.{ℕ, ◌<◌}
use mathlib.Core.Path.{◌≡◌}
use Rattle.std.specs.Prelude.{None}
use Rattle.curves.specs.Inside.Best.{hit_at}
use Rattle.choosing.specs.Inside.Promises.{Reaches}
use Rattle.choosing.proofs.first_reaching.Given as goal

abbrev pub invariant-loop-j : goal.invariant-loop-j
invariant-loop-j l = (l.first ≡ None) × ((i : ℕ) → i < l.j → let s = l.sources in Reaches s.curves.most s.symbols.now s.curves.work.now l.matches.rows.now l.load l.w (hit_at l.matches.hits.now i) → ⊥)
