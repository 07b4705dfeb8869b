-- Laws about numbers as text and about text put into a slice.
use Prim.Native.Nat.{ℕ, zero, suc, ◌+◌, ◌-◌, ◌*◌, ◌/◌, ◌%◌, ◌^◌, ◌≤◌, ◌<◌}
use mathlib.Core.Path.{◌≡◌, refl, sym, ap, ap₂, subst, ◌∙◌}
use mathlib.Core.Bool.{Bool, true, false, cond, true≢false}
use mathlib.Core.List.{List, [], ◌∷◌, ◌++◌, flat_map, append-nil, append_assoc, Memᴰ}
use native.Mathlib.Nat.{add-zero, mul-suc, pow-suc, pow-le-pow_right, mod-eq_of_lt}
use native.Mathlib.Decide.{dec_lt}
use native.Mathlib.Omega.{arith}
use borrow.Author.Tests.{lt-ltb, le-ltb, ltb-true}
use lib.IntN.{ℤ, pos, negsuc, nat_abs, ◌-ℤ◌}
use lib.ListN.{length, drop, length-append}
use lib.Seq.{drop-drop}
use lib.Dec.{ltb}
use lib.Signed.{lt_z}
use Rattle.io.specs.Digits.{hex_digit_ascii, last_digits, IsDigitCount}
use Rattle.text.specs.Text.{digit, decimal_in, decimal, minus, signed, spaced, line}
use Rattle.text.specs.declared.Text.{Text}
use Rattle.text.specs.Inside.Promises.{text_of, Appended}

-- ---- numbers

glyph_is : (n : ℕ) → n < 10 → hex_digit_ascii n ≡ digit n
glyph_is n h = rw (lt-ltb n 10 h)

-- One digit, or the digits of a tenth and one more.
one_digit : (k n : ℕ) → n < 10 → decimal_in k n ≡ digit n ∷ []
unfolding decimal_in
one_digit zero n h = refl
one_digit (suc k) n h = rw (lt-ltb n 10 h)

more_digits : (k n : ℕ) → 10 ≤ n → decimal_in (suc k) n ≡ decimal_in k (n / 10) ++ (digit (n % 10) ∷ [])
unfolding decimal_in
more_digits k n h = rw (le-ltb n 10 h)

-- A number of two digits or more, and its tenth.
least_of : (r n : ℕ) → IsDigitCount 10 1 n (suc (suc r)) → 10 ^ suc r ≤ n
least_of r n f = subst (λ (k : ℕ). 10 ^ k ≤ n) (omega arith) (f.2 (omega arith))

two_digits : (r n : ℕ) → IsDigitCount 10 1 n (suc (suc r)) → 10 ≤ n
two_digits r n f = omega (arith, least_of r n f, pow-le-pow_right {n = 10} (omega arith) {i = 1} {j = suc r} (omega arith))

tenth : (r n : ℕ) → IsDigitCount 10 1 n (suc (suc r)) → IsDigitCount 10 1 (n / 10) (suc r)
tenth r n f =
    let e : r ≡ suc r - 1 = omega arith in
    (omega arith, omega (arith, f.1, pow-suc 10 (suc r)), λ g. subst (λ (k : ℕ). 10 ^ k ≤ n / 10) e (omega (arith, least_of r n f, pow-suc 10 r)))

fewest_in : (k r n : ℕ) → n ≤ k → IsDigitCount 10 1 n r → last_digits 10 r n ≡ decimal_in k n
fewest_in k zero n h f = absurd (omega arith)
fewest_in k (suc zero) n h f =
    let small : n < 10 = f.1 in
    ap (λ (d : ℕ). d ∷ []) (ap hex_digit_ascii (mod-eq_of_lt small) ∙ glyph_is n small) ∙ sym (one_digit k n small)
fewest_in zero (suc (suc r)) n h f = absurd (omega (arith, two_digits r n f))
fewest_in (suc k) (suc (suc r)) n h f =
    ap₂ (λ (ds : List ℕ) (d : ℕ). ds ++ (d ∷ [])) (fewest_in k (suc r) (n / 10) (omega (arith, two_digits r n f)) (tenth r n f)) (glyph_is (n % 10) (omega arith))
    ∙ sym (more_digits k n (two_digits r n f))

-- What `io::decimal` puts is the number's text.
pub decimal_is : (n r : ℕ) → IsDigitCount 10 1 n r → last_digits 10 r n ≡ decimal n
unfolding decimal
decimal_is n r f = fewest_in n r n (omega arith) f

-- A number below a power of ten has no more digits than its exponent.
digit_more : (k d n : ℕ) → ((e m : ℕ) → m < 10 ^ suc e → length (decimal_in k m) ≤ suc e) → n < 10 ^ suc d → Dec (n < 10) → length (decimal_in (suc k) n) ≤ suc d
digit_more k d n shorter h (yes l) = rw (one_digit (suc k) n l) (omega arith)
digit_more k zero n shorter h (no l) = absurd (omega arith)
digit_more k (suc d) n shorter h (no l) =
    rw (more_digits k n (omega arith), length-append (decimal_in k (n / 10)) (digit (n % 10) ∷ [])) (omega (arith, shorter d (n / 10) (omega (arith, pow-suc 10 (suc d)))))

fits_in : (k d n : ℕ) → n < 10 ^ suc d → length (decimal_in k n) ≤ suc d
unfolding decimal_in
fits_in zero d n h = omega arith
fits_in (suc k) d n h = digit_more k d n (fits_in k) h (dec_lt n 10)

pub decimal_fits : (d n : ℕ) → n < 10 ^ suc d → length (decimal n) ≤ suc d
unfolding decimal
decimal_fits d n h = fits_in n d n h

pub length_spaced : (w : List ℕ) (ws : List (List ℕ)) → length (spaced (w ∷ ws)) ≡ 1 + length w + length (spaced ws)
unfolding spaced
length_spaced w ws = omega (arith, length-append w (spaced ws))

pub length_line : (w : List ℕ) (ws : List (List ℕ)) → length (line (w ∷ ws)) ≡ length w + length (spaced ws)
unfolding line
length_line w ws = length-append w (spaced ws)

pub length_last : (v w : List ℕ) → length (spaced (v ∷ w ∷ [])) ≡ length v + length w + 3
unfolding spaced
length_last v w = omega (arith, length_spaced v (w ∷ []), length_spaced w [])

-- ---- integers

-- A test against 0 tells the sign.
is_negative : (z : ℤ) → lt_z z (pos 0) ≡ true → (k : ℕ) × (z ≡ negsuc k)
is_negative (pos n) t = absurd (omega (arith, ltb-true n 0 t))
is_negative (negsuc k) t = (k, refl)

not_negative : (z : ℤ) → lt_z z (pos 0) ≡ false → (k : ℕ) × (z ≡ pos k)
not_negative (pos k) t = (k, refl)
not_negative (negsuc n) t = absurd (true≢false t)

-- The text of an integer, by its sign.
pub signed_negative : (z : ℤ) → lt_z z (pos 0) ≡ true → signed z ≡ minus ∷ decimal (nat_abs z)
unfolding signed
signed_negative z t = let (k, e) = is_negative z t in rw e

pub signed_other : (z : ℤ) → lt_z z (pos 0) ≡ false → signed z ≡ decimal (nat_abs z)
unfolding signed
signed_other z t = let (k, e) = not_negative z t in rw e

-- A number less another takes no more bytes than the first has digits, and one more than the second has.
pub signed_fits : (d a b : ℕ) → a < 10 ^ suc (suc d) → b < 10 ^ suc d → length (signed (pos a -ℤ pos b)) ≤ suc (suc d)
unfolding signed
signed_fits d a zero h g = decimal_fits (suc d) (a + 0) (omega arith)
signed_fits d a (suc k) h g = go (ltb a (suc k))
  where
    go : (b : Bool) → length (signed (cond b (negsuc (suc k - suc a)) (pos (a - suc k)))) ≤ suc (suc d)
    go true = unfold signed in omega (arith, decimal_fits d (suc (suc k - suc a)) (omega arith))
    go false = unfold signed in decimal_fits (suc d) (a - suc k) (omega arith)

-- ---- lines for each entry of a list

module _ {A : Type 0} (f : A → List ℕ) where
  pub flat_map_append : (xs ys : List A) → flat_map f (xs ++ ys) ≡ flat_map f xs ++ flat_map f ys
  unfolding flat_map
  flat_map_append [] ys = refl
  flat_map_append (x ∷ xs) ys = ap (λ (r : List ℕ). f x ++ r) (flat_map_append xs ys) ∙ sym (append_assoc (f x) (flat_map f xs) (flat_map f ys))

  pub lines_short : (most : ℕ) (xs : List A) → ((x : A) → Memᴰ x xs → length (f x) ≤ most) → length (flat_map f xs) ≤ most * length xs
  unfolding flat_map
  lines_short most [] h = omega arith
  lines_short most (x ∷ xs) h = omega (arith, length-append (f x) (flat_map f xs), h x (Memᴰ.head refl), lines_short most xs (λ y m. h y (Memᴰ.tail m)), mul-suc most (length xs))

-- ---- text put into a slice

-- Nothing put.
pub appended_none : (t : Text) → Appended [] t t
appended_none t = record { same_slice = refl; same_room = refl; len = sym (add-zero t.len); text = sym (append-nil (text_of t)); rest = refl }

-- What is put after what was put is put with it.
pub appended_both : {u v : List ℕ} {entry mid exit : Text} → Appended u entry mid → Appended v mid exit → Appended (u ++ v) entry exit
appended_both {u} {v} {entry} {mid} {exit} p q =
    let past : (s : List ℕ) → drop exit.len s ≡ drop (length v) (drop mid.len s) = λ s. ap (λ (k : ℕ). drop k s) q.len ∙ sym (drop-drop (length v) mid.len s) in
    record {
      same_slice = q.same_slice ∙ p.same_slice;
      same_room = q.same_room ∙ p.same_room;
      len = omega (arith, p.len, q.len, length-append u v);
      text = q.text ∙ ap (λ (s : List ℕ). s ++ v) p.text ∙ append_assoc (text_of entry) u v;
      rest = q.rest ∙ past mid.bytes.now ∙ ap (drop (length v)) p.rest ∙ sym (past entry.bytes.now);
    }
