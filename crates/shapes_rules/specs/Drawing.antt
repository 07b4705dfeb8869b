-- A shape in a sheet: "a tree in preorder, codes of 2: 0 is a leaf, followed by its number; 1 is INV, followed by its branch;
-- 2 is NAND, followed by its two branches, each again a node. Code 3 is out of range" in a pattern; in a tree it "becomes a driven leaf:
-- its arrival [...], then a drive in 8."
use Rattle.std.specs.Prelude.{ℕ, zero, suc, ◌+◌, List, [], ◌∷◌, ◌++◌, Bool, true, false, cond, ◌&&◌, ◌||◌, length, leb, eqb}
use Rattle.fields.specs.declared.Fault.TheVariants.{Range, Drawing, Size}
use Rattle.shapes_rules.specs.declared.Rules.{Rules}
use Rattle.fields.specs.Reading.{Verdict}
use Rattle.fields.specs.Reading.{Sound, Faulty}
use Rattle.fields.specs.Reading.{Reader, done, ◌>>=◌, field, free}
use Rattle.shapes_rules.specs.Shape.{plain_leaf, Shape, leaf, inv, nand, symbols, inv_symbol, nand_symbol, pin_symbol}

-- Whether x stands in a list.
unfoldable pub elem : ℕ → List ℕ → Bool
elem x [] = false
elem x (y ∷ ys) = eqb x y || elem x ys

-- Each of the first n pins stands at a leaf of a shape with these symbols.
unfoldable pub has_all : ℕ → List ℕ → Bool
has_all zero nodes = true
has_all (suc n) nodes = has_all n nodes && elem (pin_symbol n) nodes

-- A node's code, after n nodes: one node too many (document 01's "overgrown"), then a code out of range,
-- then a pattern that opens with a leaf.
unfoldable pub code_verdict : Rules → ℕ → ℕ → Verdict
code_verdict rules n code =
    cond (leb rules.nodes n) (Faulty Size)
    (cond (rules.pattern && leb 3 code) (Faulty Range)
    (cond (rules.pattern && (eqb n 0 && eqb code 0)) (Faulty Drawing)
    Sound))

-- A leaf's number, after the nodes with these symbols: out of range, then a pattern's pin that stands at an earlier leaf.
unfoldable pub leaf_verdict : Rules → List ℕ → ℕ → Verdict
leaf_verdict rules seen x =
    cond (leb x rules.most)
    (cond (rules.pattern && elem (pin_symbol x) seen) (Faulty Drawing) Sound)
    (Faulty Range)

module _ (s : List ℕ) (rules : Rules) where
  -- A leaf's number.
  unfoldable pub leaf_node : List ℕ → Reader Shape
  leaf_node seen = do
    x ← field s rules.width (leaf_verdict rules seen)
    done (plain_leaf x)

  -- A driven leaf's number, and its drive.
  unfoldable pub driven_node : List ℕ → Reader Shape
  driven_node seen = do
    number ← field s rules.width (leaf_verdict rules seen)
    drive ← field s 8 free
    done (leaf (record { number = number; drive = drive }))

  -- A NAND's two branches. `node` reads one of them, and `seen` has the symbols of the nodes read before: of a tree's only how many they are counts.
  unfoldable pub pair : (List ℕ → Reader Shape) → List ℕ → Reader (Shape × Shape)
  pair node seen = do
    a ← node seen
    b ← node (seen ++ symbols a)
    done (a, b)

  -- What follows a node's code.
  unfoldable pub branch : (List ℕ → Reader Shape) → List ℕ → ℕ → Reader Shape
  branch node seen zero = leaf_node seen
  branch node seen (suc zero) = do
    a ← node (seen ++ (inv_symbol ∷ []))
    done (inv a)
  branch node seen (suc (suc zero)) = do
    ab ← pair node (seen ++ (nand_symbol ∷ []))
    done (nand ab.0 ab.1)
  branch node seen (suc (suc (suc k))) = driven_node seen

  -- A node and all below it. The depth never runs out before the nodes allowed do.
  unfoldable pub node : ℕ → List ℕ → Reader Shape
  node zero seen = done (plain_leaf 0)
  node (suc depth) seen = do
    code ← field s 2 (code_verdict rules (length seen))
    branch (node depth) seen code

  -- The whole shape.
  unfoldable pub shape : Reader Shape
  shape = node (suc rules.nodes) []

-- How many bits a leaf takes after its code at the most, without a drive and with one; and a node.
abbrev pub plain_bits : ℕ
plain_bits = 20

abbrev pub leaf_bits : ℕ
leaf_bits = plain_bits + 8

abbrev pub node_bits : ℕ
node_bits = 2 + leaf_bits
