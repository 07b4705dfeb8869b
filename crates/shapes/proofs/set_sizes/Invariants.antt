use mathlib.Core.Path.{◌≡◌}
use lib.ListN.{length, take, drop}
use lib.Seq.{sets}
use Rattle.shapes_rules.specs.Shape.{Shape, symbols, sizes}
use Rattle.shapes.proofs.set_sizes.Given as goal

abbrev pub invariant-loop-k : goal.invariant-loop-k
invariant-loop-k l = (length l.sizes ≡ length l.initial.sizes) × ((d : Shape) → take l.n l.symbols ≡ symbols d → l.sizes ≡ sets l.initial.sizes l.k (drop l.k (sizes d)))
