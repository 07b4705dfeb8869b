-- Document 02, Paper 3: "a bill for an accepted cover".
use Prim.Native.Nat.{ℕ, zero, suc, ◌+◌, ◌*◌}
use mathlib.Core.List.{List, [], ◌∷◌, ◌++◌}
use Rattle.std.proofs.Math.Dec.{eqb}
use Rattle.std.specs.Prelude.{ltb, ℤ, pos, ◌-ℤ◌}
use Rattle.std.proofs.Math.ListN.{length}
use Rattle.sheets_rules.specs.Model.{Library, cell_of, area_of, Tree}
use Rattle.covers.specs.Lists.{keep_if, select}
use Rattle.covers.specs.Cover.{Placed, Cover}

-- One line: a cell's number, how many matches are of it, and "count × area".
pub record Entry : Type 0 where
  pub cell : ℕ
  pub count : ℕ
  pub amount : ℕ

-- A bill: its lines, their total, and the margin.
pub record Bill : Type 0 where
  pub entries : List Entry
  pub total : ℕ
  pub margin : ℤ

module _ (l : Library) (xs : List Placed) where
  -- How many of the listed matches are of a cell.
  unfoldable pub uses : (cell : ℕ) → ℕ
  unfolding select cell_of
  uses cell = length (select (λ x. eqb (cell_of l x.pattern) cell) xs)

  -- The line of a cell.
  unfoldable pub entry_of : (cell : ℕ) → Entry
  unfolding uses area_of
  entry_of cell = record { cell = cell; count = uses cell; amount = uses cell * area_of l cell }

  -- "A line for each cell used, ascending": those of the first n cells.
  unfoldable pub entries_below : (n : ℕ) → List Entry
  unfolding keep_if uses entry_of
  entries_below zero = []
  entries_below (suc n) = entries_below n ++ keep_if (ltb 0 (uses n)) (entry_of n) []

-- A figure of each line, added up: the amounts, and the counts.
unfoldable pub summed : (Entry → ℕ) → List Entry → ℕ
summed figure [] = 0
summed figure (e ∷ es) = figure e + summed figure es

abbrev pub amounts : List Entry → ℕ
amounts es = summed (λ e. e.amount) es

abbrev pub counts : List Entry → ℕ
counts es = summed (λ e. e.count) es

-- "Required time minus arrival, which is negative for a late cover."
unfoldable pub margin : (required arrival : ℕ) → ℤ
margin required arrival = pos required -ℤ pos arrival

-- The bill of a cover of a tree by a library's cells.
unfoldable pub bill : Library → Tree → Cover → Bill
unfolding entries_below summed margin
bill l t c =
    let entries = entries_below l c.placed (length l.cells) in
    record { entries = entries; total = amounts entries; margin = margin t.required c.point.arrival }
