-- What a drawing computes, and what a field of a function sheet states: "one bit for every setting of its pins, pin 0 changing fastest, from all zeros up".
use Rattle.std.specs.Prelude.{ℕ, zero, suc, ◌+◌, ◌-◌, ◌/◌, ◌%◌, ◌^◌, min, Bool, true, ◌&&◌, eqb}
use Rattle.sheets_rules.specs.Model.{pin_of, Shape, leaf, inv, nand}

-- How many settings a cell has by its pins; they are numbered from 0.
abbrev pub settings : ℕ → ℕ
settings pins = 2 ^ pins

-- A pin in a setting: the pin's binary digit of the setting's number, pin 0's the lowest, so that pin 0 changes fastest.
unfoldable pub pin_in : (setting pin : ℕ) → ℕ
pin_in setting pin = setting / 2 ^ pin % 2

-- A drawing in a setting: a leaf is its pin, an inverter turns it, a NAND is 0 exactly where both of its branches are 1.
unfoldable pub value : ℕ → Shape → ℕ
value setting (leaf x) = pin_in setting (pin_of x)
value setting (inv a) = 1 - value setting a
value setting (nand a b) = 1 - min (value setting a) (value setting b)

-- The bit at a position of a field of `width` bits, which is read as a number with its first bit the highest.
unfoldable pub bit_of : (width field position : ℕ) → ℕ
bit_of width field position = field / 2 ^ (width - (position + 1)) % 2

-- A test of each of the first n numbers.
unfoldable pub every : ℕ → (ℕ → Bool) → Bool
every zero t = true
every (suc n) t = every n t && t n

-- A drawing of a cell with `pins` pins computes the function that a field states: in each setting it has the value of that setting's bit.
unfoldable pub computes : (pins field : ℕ) → Shape → Bool
unfolding value bit_of every
computes pins field d = every (settings pins) (λ setting. eqb (value setting d) (bit_of (settings pins) field setting))
