-- A sheet that is written: fields one after another, as bytes.
use Rattle.std.specs.Prelude.{ℕ, ◌+◌, List, [], ◌∷◌, replicate}
use Rattle.bits.specs.Bits.{after, bytes_to, with_digit, with_bit, with_field}

-- A field to be written: a value and its width in bits.
pub record Field : Type 0 where
  pub value : ℕ
  pub width : ℕ

-- How many bits fields take up.
unfoldable pub widths : List Field → ℕ
widths [] = 0
widths (f ∷ fs) = f.width + widths fs

-- Bytes with fields written into them from place i on, with no gaps between them.
unfoldable pub written : List Field → ℕ → List ℕ → List ℕ
unfolding with_field with_bit with_digit after
written [] i s = s
written (f ∷ fs) i s = written fs (i + f.width) (with_field s i f.width f.value)

-- Fields as bytes, with zero bits to the byte.
unfoldable pub packed : List Field → List ℕ
unfolding widths written bytes_to
packed fs = written fs 0 (replicate (bytes_to (widths fs)) 0)
