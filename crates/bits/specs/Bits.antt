-- Bit fields in a list of bytes, most significant bit first. A place is a bit's number, counted from 0.
use Rattle.std.specs.Prelude.{ℕ, zero, suc, Option, Some, None, ◌+◌, ◌-◌, ◌*◌, ◌/◌, ◌%◌, ◌^◌, List, Bool, cond, ◌&&◌, length, get_or, set, leb, eqb}
use Rattle.bits.specs.declared.Cursor.{Cursor}

-- How many bits of its byte stand after place i.
unfoldable pub after : ℕ → ℕ
after i = 7 - i % 8

-- The bit at place i.
unfoldable pub bit_at : List ℕ → ℕ → ℕ
bit_at s i = get_or s (i / 8) 0 / 2 ^ after i % 2

-- The number in the w bits from place i on.
unfoldable pub value_at : List ℕ → ℕ → ℕ → ℕ
value_at s i zero = 0
value_at s i (suc w) = 2 * value_at s i w + bit_at s (i + w)

-- The place at which a cursor stands, and the cursor at a place: of those that stand there the one whose byte is not used up.
unfoldable pub place_of : Cursor → ℕ
place_of c = 8 * c.byte + c.used

unfoldable pub cursor_at : ℕ → Cursor
cursor_at i = record { byte = i / 8; used = i % 8 }

-- The field of w bits at place i: its value and the place after it, or none, if the bytes end before or inside it.
unfoldable pub field_at : List ℕ → ℕ → ℕ → Option (ℕ × Cursor)
field_at s i w = cond (leb (i + w) (8 * length s)) (Some (value_at s i w, cursor_at (i + w))) None

-- How many bytes the bits before place i take up, and how many bits of the last of them are left.
unfoldable pub bytes_to : ℕ → ℕ
bytes_to i = (i + 7) / 8

unfoldable pub rest_of : ℕ → ℕ
rest_of i = 8 * bytes_to i - i

-- The bytes that the bits before place i take up are there, and the rest of the last is zero bits.
unfoldable pub filled_at : List ℕ → ℕ → Bool
filled_at s i = leb (bytes_to i) (length s) && eqb (value_at s i (rest_of i)) 0

-- The bytes end at place i: the rest of its byte is zero bits, and no byte follows.
unfoldable pub ends_at : List ℕ → ℕ → Bool
ends_at s i = eqb (length s) (bytes_to i) && eqb (value_at s i (rest_of i)) 0

-- The number x with its bit of worth 2 ^ k made b.
unfoldable pub with_digit : ℕ → ℕ → ℕ → ℕ
with_digit x k b = x / (2 * 2 ^ k) * (2 * 2 ^ k) + (b * 2 ^ k + x % 2 ^ k)

-- The bytes with the bit at place i made b.
unfoldable pub with_bit : List ℕ → ℕ → ℕ → List ℕ
with_bit s i b = set s (i / 8) (with_digit (get_or s (i / 8) 0) (after i) b)

-- The bytes with the w bits from place i on made the number v, its last bit first.
unfoldable pub with_field : List ℕ → ℕ → ℕ → ℕ → List ℕ
with_field s i zero v = s
with_field s i (suc w) v = with_field (with_bit s (i + w) (v % 2)) i w (v / 2)
