-- Bytes are known from their bits: as many bytes with the same bits are the same bytes.
use Prim.Native.Nat.{ℕ, zero, suc, ◌+◌, ◌-◌, ◌*◌, ◌/◌, ◌%◌, ◌^◌, ◌≤◌, ◌<◌}
use mathlib.Core.Path.{◌≡◌}
use mathlib.Core.List.{List}
use mathlib.Core.Bool.{true, false≢true}
use native.Mathlib.Decide.{ℕ_discrete}
use native.Mathlib.Nat.{pow-suc}
use native.Mathlib.Omega.{arith}
use lib.Dec.{eqb, leb}
use lib.Pow.{shr-shr}
use lib.ListN.{length, get_or}
use lib.Seq.{ext_get_or}
use borrow.Author.Tests.{eqb-true, leb-true}
use borrow.Table.Steps.{cases}
use Rattle.bits.specs.Bits.{after, bit_at, value_at, bytes_to, rest_of, filled_at, ends_at, with_digit, with_bit, with_field}
use Rattle.bits.proofs.Laws.{bit_lt, after_lt, digit_lt, set_ways}

-- Every entry is a byte.
abbrev pub Bytes : List ℕ → Type 0
Bytes s = (k : ℕ) → get_or s k 0 < 256

-- ---- from bits to bytes

-- A number below 2 ^ n is known from its n lowest bits.
digits_same : (n x y : ℕ) → x < 2 ^ n → y < 2 ^ n → ((k : ℕ) → k < n → x / 2 ^ k % 2 ≡ y / 2 ^ k % 2) → x ≡ y
digits_same zero x y hx hy h = omega arith
digits_same (suc n) x y hx hy h =
    let lx = rw pow-suc at hx in
    let ly = rw pow-suc at hy in
    let half : x / 2 ≡ y / 2 =
    digits_same n (x / 2) (y / 2) (omega arith) (omega arith) (λ k l. rw (shr-shr x 1 k, shr-shr y 1 k) (h (1 + k) (omega arith))) in
    omega (arith, h 0 (omega arith))

-- As many bytes with the same bits are the same bytes.
pub bits_whole : (s t : List ℕ) → Bytes s → Bytes t → length s ≡ length t → ((i : ℕ) → i < 8 * length s → bit_at s i ≡ bit_at t i) → s ≡ t
unfolding bit_at after
bits_whole s t hs ht e h =
    ext_get_or 0 s t e (λ n l. digits_same 8 (get_or s n 0) (get_or t n 0) (hs n) (ht n) (same n l))
  where
    same : (n : ℕ) → n < length s → (k : ℕ) → k < 8 → get_or s n 0 / 2 ^ k % 2 ≡ get_or t n 0 / 2 ^ k % 2
    same n l k g =
        let byte : (8 * n + (7 - k)) / 8 ≡ n = omega arith in
        let digit : 7 - (8 * n + (7 - k)) % 8 ≡ k = omega arith in
        rw (byte, digit) at (h (8 * n + (7 - k)) (omega arith))

-- Equal fields have equal bits.
pub value_bits : (s t : List ℕ) (i w : ℕ) → value_at s i w ≡ value_at t i w → (j : ℕ) → i ≤ j → j < i + w → bit_at s j ≡ bit_at t j
unfolding value_at
value_bits s t i zero e j a b = absurd (omega arith)
value_bits s t i (suc w) e j a b =
    let last : bit_at s (i + w) ≡ bit_at t (i + w) = omega (arith, bit_lt s (i + w), bit_lt t (i + w)) in
    elim (ℕ_discrete j (i + w)) [ yes here ↦ rw here last | no other ↦ value_bits s t i w (omega (arith, last)) j a (omega arith) ]

-- What it says that bytes end at a place.
pub ends_says : (s : List ℕ) (i : ℕ) → ends_at s i ≡ true → (length s ≡ bytes_to i) × (value_at s i (rest_of i) ≡ 0)
unfolding ends_at
ends_says s i e = cases (eqb (length s) (bytes_to i)) (λ p. (eqb-true _ _ p, eqb-true _ _ (rw p at e))) (λ p. absurd (false≢true (rw p at e)))

-- And that a byte's rest is there.
pub fills_says : (s : List ℕ) (i : ℕ) → filled_at s i ≡ true → bytes_to i ≤ length s
unfolding filled_at
fills_says s i e = cases (leb (bytes_to i) (length s)) (leb-true _ _) (λ p. absurd (false≢true (rw p at e)))

-- ---- bytes that are written stay bytes

bytes_bit : (s : List ℕ) (i b : ℕ) → b < 2 → Bytes s → Bytes (with_bit s i b)
unfolding with_bit
bytes_bit s i b l h k =
    set_ways (λ y. y < 256) s (i / 8) k (with_digit (get_or s (i / 8) 0) (after i) b) (h k) (λ e. digit_lt (get_or s (i / 8) 0) (after i) b (h (i / 8)) (after_lt i) l)

pub bytes_field : (s : List ℕ) (i w v : ℕ) → Bytes s → Bytes (with_field s i w v)
unfolding with_field
bytes_field s i zero v h = h
bytes_field s i (suc w) v h = bytes_field (with_bit s (i + w) (v % 2)) i w (v / 2) (bytes_bit s (i + w) (v % 2) (omega arith) h)
