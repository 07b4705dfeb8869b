-- Fields and the bytes that they stand in: one law for any width and any place in a byte.
use mathlib.Core.Path.{◌≡◌, refl, sym, ap, ap₂, ◌∙◌}
use mathlib.Core.List.{List}
use Prim.Native.Nat.{ℕ, zero, suc, ◌+◌, ◌-◌, ◌*◌, ◌/◌, ◌%◌, ◌^◌, ◌≤◌, ◌<◌, min}
use native.Mathlib.Nat.{pow-suc, add-zero, add-suc, add_assoc}
use native.Mathlib.Omega.{arith}
use lib.Pow.{shr-shr}
use lib.Arith.{digits_div, digits_mod}
use lib.ListN.{length, get_or, set, drop, replicate, length-drop, length-set, get_or-eq_default}
use lib.Seq.{get_or-drop, get_or-set_same, get_or-set_other}
use native.Mathlib.Decide.{ℕ_discrete, dec_lt}
use mathlib.Core.Bool.{false, and-true}
use lib.Dec.{eqb, leb}
use borrow.Author.Tests.{le-leb, lt-leb, eq-eqb, ne_eqb, leb-true, leb-false}
use borrow.Table.Steps.{cases}
use Rattle.bits.specs.declared.Cursor.{Cursor}
use Rattle.std.specs.Prelude.{Some, None}
use Rattle.bits.specs.Bits.{after, bit_at, value_at, cursor_at, field_at, bytes_to, rest_of, filled_at, ends_at}
use Rattle.bits.specs.Inside.Promises.{Opens}
use Rattle.bits.proofs.Laws.{value_lt, value_small, value_cong}

-- a + b bits are the first a and then the last b.
pub value_split : (s : List ℕ) (i a b : ℕ) → value_at s i (a + b) ≡ value_at s i a * 2 ^ b + value_at s (i + a) b
unfolding value_at
value_split s i a zero = rw add-zero (omega arith)
value_split s i a (suc b) = rw (add-suc a b, ← (add_assoc i a b), pow-suc) (omega (arith, value_split s i a b))

-- The w bits after the first u of n.
pub value_cut : (s : List ℕ) (i u w n : ℕ) → u + w ≤ n → value_at s (i + u) w ≡ value_at s i n / 2 ^ (n - (u + w)) % 2 ^ w
value_cut s i u w n h =
    let r = n - (u + w) in
    let whole : value_at s i n ≡ value_at s i (u + w) * 2 ^ r + value_at s (i + (u + w)) r = ap (value_at s i) (omega arith) ∙ value_split s i (u + w) r in
    let first : value_at s i n / 2 ^ r ≡ value_at s i (u + w) = ap (λ (x : ℕ). x / 2 ^ r) whole ∙ digits_div (value_at s i (u + w)) (value_lt s (i + (u + w)) r) in
    sym (ap (λ (x : ℕ). x % 2 ^ w) (first ∙ value_split s i u w) ∙ digits_mod (value_at s i u) (value_lt s (i + u) w))

-- The first w bits of a byte, and all of them.
byte_first : (s : List ℕ) (b w : ℕ) → get_or s b 0 < 256 → w ≤ 8 → value_at s (8 * b) w ≡ get_or s b 0 / 2 ^ (8 - w)
unfolding value_at bit_at after
byte_first s b zero h l = omega arith
byte_first s b (suc w) h l =
    let byte : (8 * b + w) / 8 ≡ b = omega arith in
    let left : 7 - (8 * b + w) % 8 ≡ 8 - suc w = omega arith in
    let more : get_or s b 0 / 2 ^ (8 - w) ≡ get_or s b 0 / 2 ^ (8 - suc w) / 2 =
    ap (λ (k : ℕ). get_or s b 0 / 2 ^ k) (omega arith) ∙ sym (shr-shr (get_or s b 0) (8 - suc w) 1) in
    rw (byte, left) (omega (arith, more, byte_first s b w h (omega arith)))

pub value_byte : (s : List ℕ) (b : ℕ) → get_or s b 0 < 256 → value_at s (8 * b) 8 ≡ get_or s b 0
value_byte s b h = byte_first s b 8 h (omega arith) ∙ omega arith

-- One byte more.
pub value_bytes : (s : List ℕ) (b k : ℕ) → get_or s (b + k) 0 < 256 → value_at s (8 * b) (8 * k + 8) ≡ 256 * value_at s (8 * b) (8 * k) + get_or s (b + k) 0
value_bytes s b k h =
    let there : value_at s (8 * b + 8 * k) 8 ≡ get_or s (b + k) 0 = ap (λ (i : ℕ). value_at s i 8) (omega arith) ∙ value_byte s (b + k) h in
    omega (arith, value_split s (8 * b) (8 * k) 8, there)

-- Four bytes are a word.
pub value_word : (s : List ℕ) (b x₀ x₁ x₂ x₃ : ℕ) → x₀ < 256 → x₁ < 256 → x₂ < 256 → x₃ < 256 →
    x₀ ≡ get_or s b 0 → x₁ ≡ get_or s (b + 1) 0 → x₂ ≡ get_or s (b + 2) 0 → x₃ ≡ get_or s (b + 3) 0 →
    65536 * (256 * x₀ + x₁) + (256 * x₂ + x₃) ≡ value_at s (8 * b) 32
value_word s b x₀ x₁ x₂ x₃ h₀ h₁ h₂ h₃ e₀ e₁ e₂ e₃ =
    omega (arith, value_byte s b (omega arith), value_bytes s b 1 (omega arith), value_bytes s b 2 (omega arith), value_bytes s b 3 (omega arith))

-- A field in a word.
pub word_cut : (s : List ℕ) (b u w x : ℕ) → x ≡ value_at s (8 * b) 32 → u + w ≤ 32 → x / 2 ^ (32 - (u + w)) % 2 ^ w ≡ value_at s (8 * b + u) w
word_cut s b u w x e h = ap (λ (y : ℕ). y / 2 ^ (32 - (u + w)) % 2 ^ w) e ∙ sym (value_cut s (8 * b) u w 32 h)

-- The part of a field that stands in one byte.
pub value_part : (s : List ℕ) (b u w x : ℕ) → x ≡ get_or s b 0 → x < 256 → u + w ≤ 8 → x / 2 ^ (8 - (u + w)) % 2 ^ w ≡ value_at s (8 * b + u) w
value_part s b u w x e l h = ap (λ (y : ℕ). y / 2 ^ (8 - (u + w)) % 2 ^ w) (e ∙ sym (value_byte s b (omega arith))) ∙ sym (value_cut s (8 * b) u w 8 h)

-- A field that goes on in the next byte.
pub value_straddle : (s : List ℕ) (b u w v r : ℕ) → u < 8 → 8 < u + w → v ≡ value_at s (8 * b + u) (8 - u) → r ≡ value_at s (8 * (b + 1) + 0) (w - (8 - u)) →
    v * 2 ^ (w - (8 - u)) + r ≡ value_at s (8 * b + u) w
value_straddle s b u w v r hu hw ev er =
    let parts : 8 - u + (w - (8 - u)) ≡ w = omega arith in
    let there : 8 * b + u + (8 - u) ≡ 8 * (b + 1) + 0 = omega arith in
    let whole = value_split s (8 * b + u) (8 - u) (w - (8 - u)) in
    rw (ev, er, ← there) (sym (rw parts at whole))

-- Its first part is worth less than the whole, and the whole fits in 64 bits.
pub straddle_fits : (s : List ℕ) (b u w v : ℕ) → u < 8 → 8 < u + w → w ≤ 64 → v ≡ value_at s (8 * b + u) (8 - u) → v * 2 ^ (w - (8 - u)) < 18446744073709551616
straddle_fits s b u w v hu hw l e =
    omega (arith, value_straddle s b u w v (value_at s (8 * (b + 1) + 0) (w - (8 - u))) hu hw e refl, value_small s (8 * b + u) w 64 l)

-- ---- what reading finds

-- A cursor at a place.
pub stands : {c : Cursor} {i : ℕ} → c ≡ cursor_at i → (c.used < 8) × (8 * c.byte + c.used ≡ i)
unfolding cursor_at
stands e = rw e (omega arith)

-- The cursor that stands where another does, in a byte that is not used up.
pub stands_there : {c : Cursor} {i : ℕ} → c ≡ cursor_at (i + 0) → (c.used < 8) × (8 * c.byte + c.used ≡ i)
stands_there {c} {i} e = let h = stands e in (h.0, h.1 ∙ add-zero i)

pub found : (s : List ℕ) (i w v : ℕ) (n : Cursor) → i + w ≤ 8 * length s → v ≡ value_at s i w → n ≡ cursor_at (i + w) → Some (v, n) ≡ field_at s i w
unfolding field_at
found s i w v n l ev en = rw (le-leb (i + w) (8 * length s) l) (ap₂ (λ x c. Some (x, c)) ev en)

pub none : (s : List ℕ) (i w : ℕ) → 8 * length s < i + w → None ≡ field_at s i w
unfolding field_at
none s i w l = rw (lt-leb (i + w) (8 * length s) l) refl

-- A byte's rest, from its first bit on and inside it.
module _ (i b u : ℕ) (at : 8 * b + u ≡ i) (l : u < 8) where
  pub bytes_whole : u ≡ 0 → b ≡ bytes_to i
  unfolding bytes_to
  bytes_whole z = omega arith

  pub bytes_part : (u ≡ 0 → ⊥) → b + 1 ≡ bytes_to i
  unfolding bytes_to
  bytes_part z = omega arith

module _ (s : List ℕ) (i b u : ℕ) (at : 8 * b + u ≡ i) (l : u < 8) where
  pub fills_whole : u ≡ 0 → leb b (length s) ≡ filled_at s i
  unfolding filled_at rest_of value_at
  fills_whole z =
      let rest : 8 * b - i ≡ 0 = omega arith in
      sym (rw (sym (bytes_whole i b u at l z), rest) (and-true (leb b (length s))))

  pub fills_none : (u ≡ 0 → ⊥) → length s < b + 1 → false ≡ filled_at s i
  unfolding filled_at
  fills_none z n = sym (rw (sym (bytes_part i b u at l z)) (rw (lt-leb (b + 1) (length s) n) refl))

  pub fills_rest : (u ≡ 0 → ⊥) → b + 1 ≤ length s → (v : ℕ) → v ≡ value_at s (8 * b + u) (8 - u) → eqb v 0 ≡ filled_at s i
  unfolding filled_at rest_of
  fills_rest z n v e =
      let rest : 8 * (b + 1) - i ≡ 8 - u = omega arith in
      let value : value_at s i (8 - u) ≡ v = ap (λ (k : ℕ). value_at s k (8 - u)) (sym at) ∙ sym e in
      sym (rw (sym (bytes_part i b u at l z), rest, value, le-leb (b + 1) (length s) n) refl)

-- The end of the bytes.
pub ends_other : (s : List ℕ) (i n : ℕ) → n ≡ bytes_to i → (length s ≡ n → ⊥) → false ≡ ends_at s i
unfolding ends_at
ends_other s i n e d = sym (rw (ne_eqb (length s) (bytes_to i) (λ q. d (q ∙ sym e))) refl)

pub ends_filled : (s : List ℕ) (i n : ℕ) → n ≡ bytes_to i → length s ≡ n → filled_at s i ≡ ends_at s i
unfolding filled_at ends_at
ends_filled s i n e d = rw (le-leb (bytes_to i) (length s) (omega (arith, d, e)), eq-eqb (length s) (bytes_to i) (d ∙ e)) refl

-- ---- bytes that open so

-- Fields in the first bytes are those of the opening.
pub value_opened : {e s : List ℕ} {bytes : ℕ} (i w : ℕ) → Opens e s bytes → i + w ≤ 8 * length e → value_at e i w ≡ value_at s i w
unfolding bit_at
value_opened {e} {s} i w h l = value_cong e s i w (λ j a b. ap (λ (x : ℕ). x / 2 ^ after j % 2) (h.first (j / 8) (omega arith)))

-- The first k bytes of an opening of the bytes from number `at` on are there, and zero bytes after them.
pub record Copied (s : List ℕ) (at k : ℕ) (e : List ℕ) : Type 0 where
  pub long : length e ≡ 256
  pub there : (j : ℕ) → j < k → get_or e j 0 ≡ get_or s (at + j) 0
  pub zeros : (j : ℕ) → k ≤ j → get_or e j 0 ≡ 0

-- Every place of a list of zeros, and past its end.
pub zeros_at : (n j : ℕ) → get_or (replicate {A = ℕ} n 0) j 0 ≡ 0
zeros_at zero j = refl
zeros_at (suc n) zero = refl
zeros_at (suc n) (suc j) = zeros_at n j

pub copied_none : (s : List ℕ) (at : ℕ) → Copied s at 0 (replicate 256 0)
copied_none s at = record { long = refl; there = λ j l. absurd (omega arith); zeros = λ j l. zeros_at 256 j }

pub copied_more : (s : List ℕ) (at k : ℕ) (e : List ℕ) → Copied s at k e → k < 256 → Copied s at (k + 1) (set e k (get_or s (at + k) 0))
copied_more s at k e h l = record {
  long = length-set e k (get_or s (at + k) 0) ∙ h.long;
  there = λ j g. elim (ℕ_discrete j k) [
    | yes q ↦ rw q (get_or-set_same e k (get_or s (at + k) 0) 0 (omega (arith, h.long)))
    | no q ↦ get_or-set_other e k j (get_or s (at + k) 0) 0 q ∙ h.there j (omega arith)
  ];
  zeros = λ j g. get_or-set_other e k j (get_or s (at + k) 0) 0 (λ q. omega arith) ∙ h.zeros j (omega arith);
}

-- What was copied opens the bytes from number `at` on.
pub copied_opens : (s : List ℕ) (at : ℕ) (e : List ℕ) → at ≤ length s → Copied s at (min (length s - at) 256) e → Opens e (drop at s) (length s - at)
copied_opens s at e l h = record {
  first = λ k g. rw (get_or-drop at s k 0) (elim (dec_lt k (length s - at)) [
    | yes q ↦ h.there k (omega (arith, h.long))
    | no q ↦ h.zeros k (omega arith) ∙ sym (get_or-eq_default s 0 (omega arith))
  ]);
  many = length-drop at s;
}

-- ---- the bytes from number b on

bit_drop : (s : List ℕ) (b i : ℕ) → bit_at s (8 * b + i) ≡ bit_at (drop b s) i
unfolding bit_at after
bit_drop s b i =
    let byte : (8 * b + i) / 8 ≡ b + i / 8 = omega arith in
    let left : 7 - (8 * b + i) % 8 ≡ 7 - i % 8 = omega arith in
    rw (byte, left, ← (get_or-drop b s (i / 8) 0)) refl

pub value_drop : (s : List ℕ) (b i w : ℕ) → value_at s (8 * b + i) w ≡ value_at (drop b s) i w
unfolding value_at
value_drop s b i zero = refl
value_drop s b i (suc w) = omega (arith, value_drop s b i w, ap (bit_at s) (add_assoc (8 * b) i w) ∙ bit_drop s b (i + w))

-- Whether the bytes go on to the end of a field, there as here.
pub fits_drop : (s : List ℕ) (b n : ℕ) → b ≤ length s → leb (8 * b + n) (8 * length s) ≡ leb n (8 * length (drop b s))
fits_drop s b n h = cases (leb n (8 * length (drop b s)))
    (λ t. rw t (le-leb (8 * b + n) (8 * length s) (omega (arith, leb-true, length-drop b s))))
    (λ t. rw t (lt-leb (8 * b + n) (8 * length s) (omega (arith, leb-false, length-drop b s))))
