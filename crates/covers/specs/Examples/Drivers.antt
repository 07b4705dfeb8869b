-- Document 02's Paper 5 by examples: driven leaves under the loads that they drive.
use Rattle.std.specs.Prelude.{ℕ, ◌≡◌, List, [], ◌∷◌, map}
use Rattle.sheets_rules.specs.Model.{plain_leaf, Shape, leaf, inv, Pin, Cell, Library}
use Rattle.covers.specs.Capacity.{capacity}
use Rattle.covers.specs.Answer.{mapped}
use Rattle.covers.specs.Examples.Specimens.{Case, pin, cell, at, cover, no_cover, case}

-- A driven leaf by its arrival and its drive.
abbrev driven : ℕ → ℕ → Shape
driven arrival drive = leaf (record { number = arrival; drive = drive })

-- An inverter by its area and its pin.
abbrev inverter : ℕ → Pin → Cell
inverter a p = cell a 255 (p ∷ []) (inv (plain_leaf 0))

-- Bins 1 and 4. The small inverter's pin is a load of 4 and adds 1, the large one's a load of 1 and adds 2.
abbrev library : Library
library = record { bins = 1 ∷ 4 ∷ []; cells = inverter 1 (pin 1 1 0) ∷ inverter 3 (pin 0 2 0) ∷ [] }

abbrev pub drivers : List Case
drivers =
    case (driven 7 3) 1 10 (cover [] 0 10)  -- a root drives the root load
    ∷ case (driven 7 3) 5 22 (cover [] 0 22)
    ∷ case (driven 7 3) 5 21 no_cover
    ∷ case (driven 1_000_000 255) 255 1_065_025 (cover [] 0 1_065_025)
    ∷ case (inv (driven 0 1)) 9 5 (cover (at 0 0 ∷ []) 1 5)  -- any other the load of its pin: 4 here,
    ∷ case (inv (driven 0 1)) 9 4 (cover (at 0 1 ∷ []) 3 3)  -- and 1 here
    ∷ case (inv (driven 0 0)) 9 1 (cover (at 0 0 ∷ []) 1 1)  -- with no drive the small inverter is the faster,
    ∷ case (inv (driven 0 10)) 9 20 (cover (at 0 1 ∷ []) 3 12)  -- and with a weak driver the large one alone is in time
    ∷ case (inv (inv (driven 2 10))) 9 15 (cover (at 0 0 ∷ at 1 1 ∷ []) 4 15)
    ∷ []

abbrev pub Drivers : Type 0
Drivers = map (λ c. mapped capacity library c.tree) drivers ≡ map (λ c. c.result) drivers
