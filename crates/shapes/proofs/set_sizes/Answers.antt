use native.Mathlib.Omega.{arith}
use Prim.Native.Nat.{ℕ, ◌+◌, ◌-◌, ◌<◌, ◌≤◌}
use mathlib.Core.Path.{◌≡◌, refl}
use mathlib.Core.List.{List}
use lib.ListN.{length, get_or, take, drop, set, length-set}
use lib.Seq.{sets}
use Rattle.shapes_rules.specs.Shape.{Shape, symbols, sizes}
use Rattle.shapes.proofs.Sizes.{Sized, none_set, one_set}
use Rattle.shapes.proofs.set_sizes.Goals as goal
use Rattle.shapes.proofs.set_sizes.Goals.{then-symbol-lt-LEAF+then-symbol-eq-NAND, then-symbol-lt-LEAF+else-symbol-eq-NAND, else-symbol-lt-LEAF}

-- Node k - 1, whose size is to be set, where those after it are set in m'.
turn : (n : ℕ) (l m m' : List ℕ) (k : ℕ) → n ≤ length l → n ≤ length m → 0 < k → k ≤ n → (d : Shape) → take n l ≡ symbols d → m' ≡ sets m k (drop k (sizes d)) →
    let z = get_or (sizes d) (k - 1) 0 in Sized (get_or l (k - 1) 0) (k - 1 + 1) n m' z × (set m' (k - 1) z ≡ sets m (k - 1) (drop (k - 1) (sizes d)))
turn n l m m' k many room pos h d laid e =
    let after : k - 1 + 1 ≡ k = omega arith in
    one_set n l m many room d laid (k - 1) m' (omega arith) (rw after e)

pub loop-k-init : goal.loop-k-init
loop-k-init c = (refl, none_set c.args.n c.args.symbols.now c.args.sizes.now c.requires.0.many (omega arith))

pub bounds-sizes-k : goal.bounds-sizes-k
bounds-sizes-k c = omega (arith, (turn c.args.n c.args.symbols.now c.args.sizes.now c.loop-k.sizes c.loop-k.k c.requires.0.many (omega arith) (omega arith) (omega arith) c.requires.0.shape c.requires.0.laid (c.loop-k.invariant.1 c.requires.0.shape c.requires.0.laid)).0.gate c.if-symbol-lt-LEAF.true)

pub overflow_add-size : goal.overflow_add-size
overflow_add-size c = let z = (turn c.args.n c.args.symbols.now c.args.sizes.now c.loop-k.sizes c.loop-k.k c.requires.0.many (omega arith) (omega arith) (omega arith) c.requires.0.shape c.requires.0.laid (c.loop-k.invariant.1 c.requires.0.shape c.requires.0.laid)).0 in omega (arith, z.gate c.if-symbol-lt-LEAF.true, z.few)

pub overflow_add-size-then-symbol-eq-NAND-2 : goal.overflow_add-size-then-symbol-eq-NAND-2
overflow_add-size-then-symbol-eq-NAND-2 c = omega (arith, (turn c.args.n c.args.symbols.now c.args.sizes.now c.loop-k.sizes c.loop-k.k c.requires.0.many (omega arith) (omega arith) (omega arith) c.requires.0.shape c.requires.0.laid (c.loop-k.invariant.1 c.requires.0.shape c.requires.0.laid)).0.nand c.if-symbol-eq-NAND.true)

pub bounds-sizes-k-then-symbol-eq-NAND : goal.bounds-sizes-k-then-symbol-eq-NAND
bounds-sizes-k-then-symbol-eq-NAND c = omega (arith, (turn c.args.n c.args.symbols.now c.args.sizes.now c.loop-k.sizes c.loop-k.k c.requires.0.many (omega arith) (omega arith) (omega arith) c.requires.0.shape c.requires.0.laid (c.loop-k.invariant.1 c.requires.0.shape c.requires.0.laid)).0.nand c.if-symbol-eq-NAND.true)

pub overflow_add-size-then-symbol-eq-NAND-3 : goal.overflow_add-size-then-symbol-eq-NAND-3
overflow_add-size-then-symbol-eq-NAND-3 c = let z = (turn c.args.n c.args.symbols.now c.args.sizes.now c.loop-k.sizes c.loop-k.k c.requires.0.many (omega arith) (omega arith) (omega arith) c.requires.0.shape c.requires.0.laid (c.loop-k.invariant.1 c.requires.0.shape c.requires.0.laid)).0 in omega (arith, z.nand c.if-symbol-eq-NAND.true, z.few)

pub loop-k-preserved : goal.loop-k-preserved
loop-k-preserved c = (
  simp length-set (omega arith),
  λ d laid.
      let t = turn c.args.n c.args.symbols.now c.args.sizes.now c.loop-k.sizes c.loop-k.k c.requires.0.many (omega arith) (omega arith) (omega arith) d laid (c.loop-k.invariant.1 d laid) in
      let whole : c.if-symbol-lt-LEAF.size ≡ get_or (sizes d) (c.loop-k.k - 1) 0 =
      elim c.if-symbol-lt-LEAF.branch [
        | then-symbol-lt-LEAF+then-symbol-eq-NAND w ↦ omega (arith, t.0.nand w.if-symbol-eq-NAND.true)
        | then-symbol-lt-LEAF+else-symbol-eq-NAND w ↦ omega (arith, t.0.inv (omega arith))
        | else-symbol-lt-LEAF w ↦ omega (arith, t.0.leaf w.if-symbol-lt-LEAF.false)
      ] in
      rw whole t.1,
)

pub returns : goal.returns
returns c d laid = let done : c.loop-k.k ≡ 0 = omega arith in rw done at (c.loop-k.invariant.1 d laid)
