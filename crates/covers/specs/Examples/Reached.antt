-- The greatest area and the latest arrival are reached, from the bytes of both sheets.
use Rattle.std.specs.Prelude.{ℕ, zero, suc, ◌≡◌, List, [], ◌∷◌, ◌++◌, replicate}
use Rattle.fields.specs.Answer.{success}
use Rattle.covers.specs.Capacity.{capacity, work_words}
use Rattle.covers.specs.Cover.{Placed, Cover, latest_arrival, largest_area}
use Rattle.covers.specs.CoverSheet.{cover_sheet}
use Rattle.covers.specs.Outcome.{map_bytes, map_outcome}
use Rattle.covers.specs.Examples.Specimens.{at}

-- One bin, of load 255, and one cell, an inverter: area and intrinsic delay 65,535, highest load and drive 255.
abbrev pub library_sheet : List ℕ
library_sheet = 0x3f ∷ 0xe0 ∷ 0x5f ∷ 0xff ∷ 0xff ∷ 0xe4 ∷ 0xff ∷ 0xff ∷ 0xff ∷ 0x28 ∷ 0x00 ∷ []

-- Root load 255, required time 16,777,215, and 63 inverters, each 01, over a driven leaf, 11: arrival 1,000,000,
-- drive 255.
abbrev pub tree_sheet : List ℕ
tree_sheet = replicate 4 0xff ++ replicate 15 0x55 ++ (0x57 ∷ 0xf4 ∷ 0x24 ∷ 0x0f ∷ 0xf0 ∷ [])

-- Matches of pattern 0 at nodes one after another, k of them from node n on.
abbrev in_row : ℕ → ℕ → List Placed
in_row n zero = []
in_row n (suc k) = at n 0 ∷ in_row (suc n) k

abbrev farthest : Cover
farthest = record { point = record { area = largest_area; arrival = latest_arrival }; placed = in_row 0 63 }

abbrev pub Reached : Type 0
Reached = map_outcome library_sheet tree_sheet map_bytes (work_words capacity) ≡ success (cover_sheet farthest)
