-- A leaf as a symbol of the subject tree.
use Rattle.std.specs.Prelude.{ℕ, ◌-◌, ◌/◌, ◌%◌, ◌<◌, ◌≡◌}
use Rattle.shapes_rules.specs.Shape.{drive_unit, leaf_symbol, inv_symbol, nand_symbol}
use Rattle.sheets_rules.specs.Model.{Leaf, arrival_of, Shape, leaf, inv, nand}

-- The leaf that a symbol stands for, taken apart.
unfoldable pub leaf_of : ℕ → Leaf
leaf_of symbol = record { number = (symbol - 2) % drive_unit; drive = (symbol - 2) / drive_unit }

-- The greatest symbol: that of a leaf with the latest arrival and the greatest drive.
abbrev pub symbol_limit : ℕ
symbol_limit = leaf_symbol (record { number = 1000000; drive = 255 })

-- The symbol of a shape's first node; a tree's leaf can be told from it.
abbrev pub Heads : ℕ → Shape → Type 0
Heads symbol (leaf x) = (symbol ≡ leaf_symbol x) × (arrival_of x < drive_unit)
Heads symbol (inv s) = symbol ≡ inv_symbol
Heads symbol (nand s t) = symbol ≡ nand_symbol
