-- Bits of fields: a field is known by its bits, and what the operations on words do to them.
use Prim.Native.Nat.{ℕ, zero, suc, ◌+◌, ◌-◌, ◌/◌, ◌%◌, ◌^◌, ◌≤◌, ◌<◌, min}
use mathlib.Core.Path.{◌≡◌, sym, ap, ◌∙◌}
use mathlib.Core.Logic.{⊎_elim}
use mathlib.Core.List.{List}
use native.Mathlib.Nat.{pow-suc, eq-or-lt_of_le, zero-add, add-zero}
use native.Mathlib.Omega.{arith}
use lib.Pow.{shr-shr}
use lib.Bits.{bit_and, and_shr, and_step}
use Rattle.bits.specs.Bits.{bit_at, value_at}
use Rattle.bits.proofs.Words.{value_cut}
use Rattle.functions_rules.specs.Function.{bit_of}

-- The last bit, and the bits before it.
bit_last : (n a : ℕ) → bit_of (suc n) a n ≡ a % 2
unfolding bit_of
bit_last n a = let e : suc n - (n + 1) ≡ 0 = omega arith in ap (λ (j : ℕ). a / 2 ^ j % 2) e ∙ omega arith

bit_half : (n a k : ℕ) → k < n → bit_of (suc n) a k ≡ bit_of n (a / 2) k
unfolding bit_of
bit_half n a k h = let e : suc n - (k + 1) ≡ 1 + (n - (k + 1)) = omega arith in ap (λ (j : ℕ). a / 2 ^ j % 2) e ∙ ap (λ (x : ℕ). x % 2) (sym (shr-shr a 1 (n - (k + 1))))

-- Fields with the same bits are the same.
pub bits_same : (n a b : ℕ) → a < 2 ^ n → b < 2 ^ n → ((k : ℕ) → k < n → bit_of n a k ≡ bit_of n b k) → a ≡ b
bits_same zero a b ha hb h = omega arith
bits_same (suc n) a b ha hb h =
    let p = pow-suc 2 n in
    let rest = bits_same n (a / 2) (b / 2) (omega arith) (omega arith) (λ k g. sym (bit_half n a k g) ∙ h k (omega arith) ∙ bit_half n b k g) in
    let low : a % 2 ≡ b % 2 = sym (bit_last n a) ∙ h n (omega arith) ∙ bit_last n b in
    omega (arith, rest, low)

-- The first bits of a field.
pub bit_first : (n m a k : ℕ) → m ≤ n → k < m → bit_of m (a / 2 ^ (n - m)) k ≡ bit_of n a k
unfolding bit_of
bit_first n m a k h g =
    let e : n - m + (m - (k + 1)) ≡ n - (k + 1) = omega arith in
    ap (λ (x : ℕ). x % 2) (shr-shr a (n - m) (m - (k + 1)) ∙ ap (λ (j : ℕ). a / 2 ^ j) e)

-- Each bit turned.
pub bit_not : (n a k : ℕ) → a < 2 ^ n → k < n → bit_of n (2 ^ n - 1 - a) k ≡ 1 - bit_of n a k
bit_not zero a k ha h = absurd (omega arith)
bit_not (suc n) a k ha h =
    let p = pow-suc 2 n in
    let x = 2 ^ suc n - 1 - a in
    let half : x / 2 ≡ 2 ^ n - 1 - a / 2 = omega arith in
    ⊎_elim
    (λ e. omega (arith, ap (bit_of (suc n) x) e ∙ bit_last n x, ap (bit_of (suc n) a) e ∙ bit_last n a))
    (λ g. bit_half n x k g ∙ ap (λ (y : ℕ). bit_of n y k) half ∙ bit_not n (a / 2) k (omega arith) g ∙ ap (λ (b : ℕ). 1 - b) (sym (bit_half n a k g)))
    (eq-or-lt_of_le (omega arith))

-- The bits that are set in both.
pub bit_and_lem : (n a b k : ℕ) → bit_of n (bit_and a b) k ≡ min (bit_of n a k) (bit_of n b k)
unfolding bit_of
bit_and_lem n a b k =
    let j = n - (k + 1) in
    ap (λ (x : ℕ). x % 2) (and_shr a b j ∙ and_step (a / 2 ^ j) (b / 2 ^ j)) ∙ omega arith

-- The bits of a field that was read are those of the bytes.
pub bit_read : (s : List ℕ) (i n k : ℕ) → k < n → bit_of n (value_at s i n) k ≡ bit_at s (i + k)
unfolding bit_of value_at
bit_read s i n k h = sym (value_cut s i k 1 n (omega arith)) ∙ zero-add (bit_at s (i + k + 0)) ∙ ap (bit_at s) (add-zero (i + k))
