-- Numbers and lines as text, in ASCII, and text put into a lent slice.
use Rattle.std.specs.Prelude.{ℕ, zero, suc, ◌+◌, ◌/◌, ◌%◌, cond, List, [], ◌∷◌, ◌++◌, ltb, ℤ, pos, negsuc}

-- The digit of a number below ten.
abbrev pub digit : ℕ → ℕ
digit n = 48 + n

-- A number's decimal digits, the most significant first and no zero in front. `steps` is how many digits may stand before the last.
unfoldable pub decimal_in : (steps : ℕ) → ℕ → List ℕ
decimal_in zero n = digit n ∷ []
decimal_in (suc steps) n = cond (ltb n 10) (digit n ∷ []) (decimal_in steps (n / 10) ++ (digit (n % 10) ∷ []))

-- A number's decimal digits: no more than the number itself stand before the last.
unfoldable pub decimal : ℕ → List ℕ
unfolding decimal_in
decimal n = decimal_in n n

abbrev pub minus : ℕ
minus = 45

-- An integer: a minus sign before the digits of a negative one, and no sign before others.
unfoldable pub signed : ℤ → List ℕ
unfolding decimal
signed (pos n) = decimal n
signed (negsuc n) = minus ∷ decimal (suc n)

abbrev pub newline : ℕ
newline = 10

abbrev pub space : ℕ
space = 32

-- Words with a space before each, and a newline after the last.
unfoldable pub spaced : List (List ℕ) → List ℕ
spaced [] = newline ∷ []
spaced (w ∷ ws) = space ∷ (w ++ spaced ws)

-- A line: its words parted by one space, and a newline after the last.
unfoldable pub line : List (List ℕ) → List ℕ
unfolding spaced
line [] = newline ∷ []
line (w ∷ ws) = w ++ spaced ws
