-- The tree sheet, as document 01 lists it, with document 02's driven leaves.
use Rattle.std.specs.Prelude.{ℕ, List, Bool, true, false}
use Rattle.bits.specs.Bits.{filled_at, ends_at}
use Rattle.shapes_rules.specs.declared.Rules.{Rules}
use Rattle.fields.specs.Reading.{Reader, ◌>>=◌, within, field, tailed}
use Rattle.shapes_rules.specs.Drawing.{shape}
use Rattle.sheets_rules.specs.Model.{Tree}

-- A tree: at most 64 nodes, its leaves' arrivals in 20 bits, at most 1,000,000; driven leaves, since it is no pattern.
abbrev pub tree_rules : Rules
tree_rules = record { width = 20; most = 1000000; nodes = 64; pattern = false }

-- After its last field the bytes end, or, before another tree of a part, the rest of the byte is zero bits.
abbrev pub tail_at : (last : Bool) → List ℕ → ℕ → Bool
tail_at true = ends_at
tail_at false = filled_at

-- "Root load, 8. Required time, 24. Then the tree."
unfoldable pub tree_to : (last : Bool) → List ℕ → Reader Tree
tree_to last s = do
  load ← field s 8 (within 0 255)
  required ← field s 24 (within 0 16777215)
  x ← shape s tree_rules
  λ c. (record { load = load; required = required; shape = x }, tailed (tail_at last s) c)

-- A sheet of its own.
abbrev pub tree : List ℕ → Reader Tree
tree = tree_to true
