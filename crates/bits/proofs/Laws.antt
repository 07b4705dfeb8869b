-- Laws about bits and fields, for any place and any width.
use mathlib.Core.Path.{◌≡◌, refl, sym, ap, ◌∙◌}
use mathlib.Core.List.{List}
use mathlib.Core.Logic.{⊎_elim, ◌⊎◌, inl, inr, ◌≢◌}
use native.Mathlib.Decide.{dec_lt, ℕ_discrete}
use Prim.Native.Nat.{ℕ, zero, suc, ◌+◌, ◌-◌, ◌*◌, ◌/◌, ◌%◌, ◌^◌, ◌≤◌, ◌<◌}
use native.Mathlib.Nat.{pow-suc, pow-succ', add-mul, mul_assoc, add_assoc, mod-lt, div-lt_iff_lt-mul, mul_left_comm, lt_of_lt_of_le}
use native.Mathlib.Omega.{arith}
use native.Mathlib.Numerals.{add-one}
use lib.Pow.{pow_pos, pow_mono, pow-add, shr-shr, field, mod-mod-pow, mod-pow-add}
use lib.Arith.{digits_lt, digits_div, digits_mod}
use lib.Dec.{eqb, leb}
use borrow.Author.Tests.{eq-eqb, ne_eqb, le-leb, lt-leb}
use lib.ListN.{length, get_or, set, length-set}
use lib.Seq.{get_or-set_same, get_or-set_other, set_out}
use Rattle.bits.specs.declared.Cursor.{Cursor}
use Rattle.bits.specs.Bits.{place_of, cursor_at, after, bit_at, value_at, with_digit, with_bit, with_field}

-- The cursor at a place stands there.
pub place_at : (i : ℕ) → place_of (cursor_at i) ≡ i
unfolding place_of cursor_at
place_at i = omega arith

-- A cursor whose byte is not all used is the one at its place.
pub cursor_is : (b u i : ℕ) → u < 8 → 8 * b + u ≡ i → ◌≡◌ {A = Cursor} (record { byte = b; used = u }) (cursor_at i)
unfolding cursor_at
cursor_is b u i h e = let byte : b ≡ i / 8 = omega arith in let used : u ≡ i % 8 = omega arith in cc

-- The bytes before a byte go as far as its first bit.
pub at_end : (b u n : ℕ) → n ≡ b → eqb u 0 ≡ leb (8 * b + u) (8 * n)
at_end b u n e = elim (ℕ_discrete u 0) [ yes z ↦ eq-eqb u 0 z ∙ sym (le-leb (8 * b + u) (8 * n) (omega arith)) | no z ↦ ne_eqb u 0 z ∙ sym (lt-leb (8 * b + u) (8 * n) (omega arith)) ]

pub bit_lt : (s : List ℕ) (i : ℕ) → bit_at s i < 2
unfolding bit_at
bit_lt s i = omega arith

-- A field of w bits is below 2 ^ w.
pub value_lt : (s : List ℕ) (i w : ℕ) → value_at s i w < 2 ^ w
unfolding value_at
value_lt s i zero = omega arith
value_lt s i (suc w) = rw pow-suc (omega (arith, value_lt s i w, bit_lt s (i + w)))

pub value_small : (s : List ℕ) (i w m : ℕ) → w ≤ m → value_at s i w < 2 ^ m
value_small s i w m h = lt_of_lt_of_le (value_lt s i w) (pow_mono h)

pub after_lt : (i : ℕ) → after i < 8
unfolding after
after_lt i = omega arith

-- A place is known from its byte and the bits after it.
place_of_lem : (j i : ℕ) → j / 8 ≡ i / 8 → after j ≡ after i → j ≡ i
unfolding after
place_of_lem j i e a = omega arith

-- A byte stays a byte.
pub digit_lt : (x k b : ℕ) → x < 256 → k < 8 → b < 2 → with_digit x k b < 256
unfolding with_digit
digit_lt x k b hx hk hb =
    let seven : 7 - k + k ≡ 7 = omega arith in
    let whole : 2 ^ (7 - k) * (2 * 2 ^ k) ≡ 256 = rw (mul_left_comm (2 ^ (7 - k)) 2 (2 ^ k), ← (pow-add 2 (7 - k) k), seven) in
    let full : 0 < 2 * 2 ^ k = omega (arith, pow_pos k) in
    let top : x / (2 * 2 ^ k) < 2 ^ (7 - k) = (div-lt_iff_lt-mul full).1 (rw whole hx) in
    rw whole at (digits_lt top (digits_lt hb (mod-lt x (pow_pos k))))

pub digit_is : (x h k b : ℕ) → h ≡ 2 ^ k → x / (2 * h) * (2 * h) + (b * h + x % h) ≡ with_digit x k b
unfolding with_digit
digit_is x h k b e = rw e

-- ---- what a written bit is, and what it leaves

-- The bits above the written one, that bit, and those below it.
digit_parts : (x k b : ℕ) → with_digit x k b ≡ (x / (2 * 2 ^ k) * 2 + b) * 2 ^ k + x % 2 ^ k
unfolding with_digit
digit_parts x k b = simp (add-mul, mul_assoc, add_assoc)

-- The bit written is the bit read.
digit_same : (x k b : ℕ) → b < 2 → with_digit x k b / 2 ^ k % 2 ≡ b
digit_same x k b h = rw (digit_parts x k b, digits_div (x / (2 * 2 ^ k) * 2 + b) (mod-lt x (pow_pos k))) (digits_mod (x / (2 * 2 ^ k)) h)

-- Bits of a higher worth are kept.
digit_high : (x k b m : ℕ) → b < 2 → k < m → with_digit x k b / 2 ^ m ≡ x / 2 ^ m
unfolding with_digit
digit_high x k b m h l =
    let p : 2 * 2 ^ k ≡ 2 ^ suc k = sym (pow-succ' 2 k) in
    let low : b * 2 ^ k + x % 2 ^ k < 2 * 2 ^ k = digits_lt h (mod-lt x (pow_pos k)) in
    let e : suc k + (m - suc k) ≡ m = omega arith in
    let up : (y : ℕ) → y / 2 ^ m ≡ y / (2 * 2 ^ k) / 2 ^ (m - suc k) = λ y. rw p (rw (shr-shr y (suc k) (m - suc k), e)) in
    up (x / (2 * 2 ^ k) * (2 * 2 ^ k) + (b * 2 ^ k + x % 2 ^ k)) ∙ ap (λ (y : ℕ). y / 2 ^ (m - suc k)) (digits_div (x / (2 * 2 ^ k)) low) ∙ sym (up x)

-- Bits of a lower worth are kept.
digit_low : (x k b m : ℕ) → m < k → with_digit x k b / 2 ^ m % 2 ≡ x / 2 ^ m % 2
digit_low x k b m l =
    let e : k ≡ k - m - 1 + 1 + m = omega arith in
    let part : (y : ℕ) → y / 2 ^ m % 2 ≡ y % 2 ^ k / 2 ^ m % 2 =
    λ y. sym (ap (λ (j : ℕ). y % 2 ^ j / 2 ^ m % 2) e ∙ ap (λ (z : ℕ). z % 2) (field y (k - m - 1 + 1) m) ∙ mod-mod-pow (y / 2 ^ m) (k - m - 1) 1) in
    rw (part (with_digit x k b), part x, digit_parts x k b, digits_mod (x / (2 * 2 ^ k) * 2 + b) (mod-lt x (pow_pos k)))

pub bit_same : (s : List ℕ) (i b : ℕ) → b < 2 → i < 8 * length s → bit_at (with_bit s i b) i ≡ b
unfolding bit_at with_bit
bit_same s i b h l =
    rw (get_or-set_same s (i / 8) (with_digit (get_or s (i / 8) 0) (after i) b) 0 (omega arith)) (digit_same (get_or s (i / 8) 0) (after i) b h)

same_byte : (x k b m : ℕ) → b < 2 → m ≢ k → with_digit x k b / 2 ^ m % 2 ≡ x / 2 ^ m % 2
same_byte x k b m h n = elim (dec_lt m k) [ yes l ↦ digit_low x k b m l | no l ↦ ap (λ (y : ℕ). y % 2) (digit_high x k b m h (omega arith)) ]

-- An entry after a set is the one before it, or the one that was set.
pub set_ways : (P : ℕ → Type 0) (s : List ℕ) (n k x : ℕ) → P (get_or s k 0) → (k ≡ n → P x) → P (get_or (set s n x) k 0)
set_ways P s n k x old new = elim (ℕ_discrete k n) [
  | no d ↦ rw (get_or-set_other s n k x 0 d) old
  | yes e ↦ elim (dec_lt n (length s)) [ yes l ↦ rw (e, get_or-set_same s n x 0 l) (new e) | no l ↦ rw (set_out s n x (omega arith)) old ]
]

-- All other bits are kept.
pub bit_other : (s : List ℕ) (i b j : ℕ) → b < 2 → j ≢ i → bit_at (with_bit s i b) j ≡ bit_at s j
unfolding bit_at with_bit
bit_other s i b j h n =
    set_ways (λ y. y / 2 ^ after j % 2 ≡ get_or s (j / 8) 0 / 2 ^ after j % 2) s (i / 8) (j / 8) (with_digit (get_or s (i / 8) 0) (after i) b) refl
    (λ e. rw e (same_byte (get_or s (i / 8) 0) (after i) b (after j) h (λ a. n (place_of_lem j i e a))))

-- The last bit of a field is written first.
pub field_step : (s : List ℕ) (i k v : ℕ) → 0 < k → with_field s i k v ≡ with_field (with_bit s (i + (k - 1)) (v % 2)) i (k - 1) (v / 2)
unfolding with_field
field_step s i zero v h = absurd (omega arith)
field_step s i (suc k) v h = let e : suc k - 1 ≡ k = omega arith in rw e

pub length_bit : (s : List ℕ) (i b : ℕ) → length (with_bit s i b) ≡ length s
unfolding with_bit
length_bit s i b = simp length-set

pub length_field : (s : List ℕ) (i w v : ℕ) → length (with_field s i w v) ≡ length s
unfolding with_field
length_field s i zero v = refl
length_field s i (suc w) v = length_field (with_bit s (i + w) (v % 2)) i w (v / 2) ∙ length_bit s (i + w) (v % 2)

-- ---- what a written field is, and what it leaves

-- Bits outside the field are kept.
pub field_other : (s : List ℕ) (i w v j : ℕ) → (j < i) ⊎ (i + w ≤ j) → bit_at (with_field s i w v) j ≡ bit_at s j
unfolding with_field
field_other s i zero v j o = refl
field_other s i (suc w) v j o =
    field_other (with_bit s (i + w) (v % 2)) i w (v / 2) j (⊎_elim (λ l. inl l) (λ g. inr (omega arith)) o)
    ∙ bit_other s (i + w) (v % 2) j (omega arith) (⊎_elim (λ l. omega arith) (λ g. omega arith) o)

-- Equal bits make equal fields.
pub value_cong : (s t : List ℕ) (i w : ℕ) → ((j : ℕ) → i ≤ j → j < i + w → bit_at s j ≡ bit_at t j) → value_at s i w ≡ value_at t i w
unfolding value_at
value_cong s t i zero h = refl
value_cong s t i (suc w) h = rw (value_cong s t i w (λ j a b. h j a (omega arith)), h (i + w) (omega arith) (omega arith))

-- The field written is the field read.
pub value_field : (s : List ℕ) (i w v : ℕ) → i + w ≤ 8 * length s → value_at (with_field s i w v) i w ≡ v % 2 ^ w
unfolding value_at with_field
value_field s i zero v h = omega arith
value_field s i (suc w) v h =
    let t = with_bit s (i + w) (v % 2) in
    let last : bit_at (with_field t i w (v / 2)) (i + w) ≡ v % 2 =
    field_other t i w (v / 2) (i + w) (inr (omega arith)) ∙ bit_same s (i + w) (v % 2) (omega arith) (omega arith) in
    let rest : value_at (with_field t i w (v / 2)) i w ≡ v / 2 % 2 ^ w = value_field t i w (v / 2) (omega (arith, length_bit s (i + w) (v % 2))) in
    let whole : v % 2 ^ suc w ≡ v / 2 % 2 ^ w * 2 + v % 2 = ap (λ (k : ℕ). v % 2 ^ k) (sym (add-one w)) ∙ mod-pow-add v w 1 in
    omega (arith, last, rest, whole)

-- A field beside the one written is kept.
pub value_beside : (s : List ℕ) (i w v j u : ℕ) → (j + u ≤ i) ⊎ (i + w ≤ j) → value_at (with_field s i w v) j u ≡ value_at s j u
value_beside s i w v j u o =
    value_cong (with_field s i w v) s j u (λ k a b. field_other s i w v k (⊎_elim (λ l. inl (omega arith)) (λ g. inr (omega arith)) o))
