-- The function sheet of a library: "for each cell, in order, one bit for every setting of its pins. [...] One cell's bits are one field."
use Rattle.std.specs.Prelude.{ℕ, List, map, length, get_or}
use Rattle.fields.specs.Reading.{Reader, ◌>>=◌, times, field, free, ended}
use Rattle.sheets_rules.specs.Model.{Cell, Library}
use Rattle.functions_rules.specs.Function.{settings}

-- How many pins each cell has, in order.
unfoldable pub pin_counts : Library → List ℕ
pin_counts l = map (λ (c : Cell). length c.pins) l.cells

module _ (s pins : List ℕ) where
  -- The next cell's field, after those of the cells before.
  unfoldable pub function : List ℕ → Reader ℕ
  function before = field s (settings (get_or pins (length before) 0)) free

  -- A field for each cell, the end.
  unfoldable pub function_sheet : Reader (List ℕ)
  unfolding function
  function_sheet = do
    functions ← times (length pins) function
    λ c. (functions, ended s c)
