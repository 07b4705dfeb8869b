-- Shapes read from bytes, as examples: leaves of a tree, plain and driven, and patterns of two pins, sound and not.
use Rattle.std.specs.Prelude.{ℕ, ◌≡◌, true, false, List, [], ◌∷◌, map}
use Rattle.std.proofs.Math.Option.{Option, none, some}
use Rattle.bits.specs.Bits.{cursor_at}
use Rattle.fields.specs.declared.Fault.{Fault}
use Rattle.fields.specs.declared.Fault.TheVariants.{Truncated, Range, Drawing}
use Rattle.fields.specs.Reading.{Scan}
use Rattle.fields.specs.Reading.{At, Refused}
use Rattle.fields.specs.Reading.{start}
use Rattle.shapes_rules.specs.declared.Rules.{Rules}
use Rattle.shapes_rules.specs.Shape.{plain_leaf, Shape, leaf, nand}
use Rattle.shapes_rules.specs.Drawing.{shape}

-- The rules of a tree, and of a pattern of two pins.
abbrev of_tree : Rules
of_tree = record { width = 20; most = 1_000_000; nodes = 64; pattern = false }

abbrev of_pattern : Rules
of_pattern = record { width = 3; most = 1; nodes = 16; pattern = true }

-- What is read by some rules from some bytes: the shape, if it is sound, and the scan after it.
pub record Example : Type 0 where
  pub rules : Rules
  pub bytes : List ℕ
  pub shape : Option Shape
  pub scan : Scan

abbrev sound : Rules → List ℕ → Shape → ℕ → Example
sound rules bytes x place = record { rules = rules; bytes = bytes; shape = some x; scan = At (cursor_at place) }

abbrev faulty : Rules → List ℕ → Fault → ℕ → Example
faulty rules bytes fault place = record { rules = rules; bytes = bytes; shape = none; scan = Refused fault place }

abbrev pub examples : List Example
examples =
    -- 00, arrival 5; 11, arrival 5, drive 7; and the same without the last bits of its drive.
    sound of_tree (0x00 ∷ 0x00 ∷ 0x14 ∷ []) (plain_leaf 5) 22
    ∷ sound of_tree (0xc0 ∷ 0x00 ∷ 0x14 ∷ 0x1c ∷ []) (leaf (record { number = 5; drive = 7 })) 30
    ∷ faulty of_tree (0xc0 ∷ 0x00 ∷ 0x14 ∷ []) Truncated 22
    -- A NAND of pins 0 and 1: 10, 00 000, 00 001; with pin 0 twice; with pin 2; with code 3 for its first branch; and a leaf alone.
    ∷ sound of_pattern (0x80 ∷ 0x10 ∷ []) (nand (plain_leaf 0) (plain_leaf 1)) 12
    ∷ faulty of_pattern (0x80 ∷ 0x00 ∷ []) Drawing 9
    ∷ faulty of_pattern (0x80 ∷ 0x20 ∷ []) Range 9
    ∷ faulty of_pattern (0xb0 ∷ 0x00 ∷ []) Range 2
    ∷ faulty of_pattern (0x00 ∷ []) Drawing 0
    ∷ []

abbrev told : Shape × Scan → Option Shape × Scan
told (x, At c) = (some x, At c)
told (x, Refused f p) = (none, Refused f p)

abbrev pub Examples : Type 0
Examples = map (λ (e : Example). told (shape e.bytes e.rules start)) examples ≡ map (λ (e : Example). (e.shape, e.scan)) examples
