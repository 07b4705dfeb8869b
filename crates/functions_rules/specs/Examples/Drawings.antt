-- Drawings and the functions that they compute, and do not, as examples: the four cells of document 01's specimen sheet, and drawings in which the order of the pins counts.
use Rattle.std.specs.Prelude.{ℕ, ◌≡◌, Bool, true, false, List, [], ◌∷◌, map}
use Rattle.sheets_rules.specs.Model.{plain_leaf, Shape, inv, nand}
use Rattle.functions_rules.specs.Function.{computes}

-- How many pins a cell has, a drawing of it, a field, and whether the drawing computes what it states.
pub record Example : Type 0 where
  pub pins : ℕ
  pub drawing : Shape
  pub field : ℕ
  pub computes : Bool

abbrev pin : ℕ → Shape
pin = plain_leaf

-- An AND of two.
abbrev both : Shape → Shape → Shape
both a b = inv (nand a b)

abbrev pub examples : List Example
examples =
    -- Inverter 10, NAND 1110, AND 0001.
    record { pins = 1; drawing = inv (pin 0); field = 0b10; computes = true }
    ∷ record { pins = 2; drawing = nand (pin 0) (pin 1); field = 0b1110; computes = true }
    ∷ record { pins = 2; drawing = both (pin 0) (pin 1); field = 0b0001; computes = true }
    ∷ record { pins = 2; drawing = both (pin 0) (pin 1); field = 0b1110; computes = false }
    -- 0 only where pin 0 is 0 and pin 1 is 1, setting 2; with the pins exchanged, setting 1.
    ∷ record { pins = 2; drawing = nand (inv (pin 0)) (pin 1); field = 0b1101; computes = true }
    ∷ record { pins = 2; drawing = nand (inv (pin 0)) (pin 1); field = 0b1011; computes = false }
    ∷ record { pins = 2; drawing = nand (inv (pin 1)) (pin 0); field = 0b1011; computes = true }
    -- 1 only where pin 2 is 1 and the others are 0, setting 4.
    ∷ record { pins = 3; drawing = both (pin 2) (both (inv (pin 0)) (inv (pin 1))); field = 0b00001000; computes = true }
    -- Six pins: 1 only in the last setting.
    ∷ record { pins = 6; drawing = both (pin 0) (both (pin 1) (both (pin 2) (both (pin 3) (both (pin 4) (pin 5))))); field = 1; computes = true }
    ∷ record { pins = 6; drawing = both (pin 0) (both (pin 1) (both (pin 2) (both (pin 3) (both (pin 4) (pin 5))))); field = 0; computes = false }
    ∷ []

abbrev pub Examples : Type 0
Examples = map (λ (e : Example). computes e.pins e.field e.drawing) examples ≡ map (λ (e : Example). e.computes) examples
