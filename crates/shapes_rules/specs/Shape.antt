-- Shapes, and how a shape is laid out in preorder.
use Rattle.std.specs.Prelude.{ℕ, suc, ◌+◌, ◌*◌, List, [], ◌∷◌, ◌++◌}

-- What stands at a leaf: its number, which is a pattern's pin number or a subject tree's arrival, and its drive, which only a driven leaf of a tree has; at any other it is 0.
pub record Leaf : Type 0 where
  pub number : ℕ
  pub drive : ℕ

abbrev pub pin_of : Leaf → ℕ
pin_of x = x.number

abbrev pub arrival_of : Leaf → ℕ
arrival_of x = x.number

-- A leaf with no drive.
abbrev pub plain : ℕ → Leaf
plain n = record { number = n; drive = 0 }

-- A tree of inverters and two-input NANDs in drawn order.
pub data Shape : Type 0 where
  leaf : Leaf → Shape
  inv : Shape → Shape
  nand : Shape → Shape → Shape

-- A leaf with no drive, by its number.
abbrev pub plain_leaf : ℕ → Shape
plain_leaf n = leaf (plain n)

-- How many nodes a shape has.
unfoldable pub size : Shape → ℕ
size (leaf x) = 1
size (inv a) = suc (size a)
size (nand a b) = suc (size a + size b)

-- The leaves, in drawn order.
unfoldable pub leaves : Shape → List Leaf
leaves (leaf x) = x ∷ []
leaves (inv a) = leaves a
leaves (nand a b) = leaves a ++ leaves b

-- How many NANDs a shape has.
unfoldable pub nands : Shape → ℕ
nands (leaf x) = 0
nands (inv a) = nands a
nands (nand a b) = suc (nands a + nands b)

-- What stands for a node: an inverter, a NAND, or a leaf, whose two numbers are packed into one, the drive above 20 bits of the other.
abbrev pub inv_symbol : ℕ
inv_symbol = 0

abbrev pub nand_symbol : ℕ
nand_symbol = 1

abbrev pub drive_unit : ℕ
drive_unit = 1048576

abbrev pub leaf_symbol : Leaf → ℕ
leaf_symbol x = 2 + (x.drive * drive_unit + x.number)

-- A pattern's leaf has no drive.
abbrev pub pin_symbol : ℕ → ℕ
pin_symbol pin = 2 + pin

-- A shape in preorder: each node's symbol.
unfoldable pub symbols : Shape → List ℕ
symbols (leaf x) = leaf_symbol x ∷ []
symbols (inv a) = inv_symbol ∷ symbols a
symbols (nand a b) = nand_symbol ∷ (symbols a ++ symbols b)

-- And how many nodes stand under it, itself included.
unfoldable pub sizes : Shape → List ℕ
sizes (leaf x) = 1 ∷ []
sizes (inv a) = size (inv a) ∷ sizes a
sizes (nand a b) = size (nand a b) ∷ (sizes a ++ sizes b)
