-- Crossings of a pattern in ascending order: which may be passed over after a walk.
use Prim.Native.Nat.{ℕ, zero, suc, ◌+◌, ◌-◌, ◌*◌, ◌/◌, ◌%◌, ◌^◌, ◌≤◌, ◌<◌}
use mathlib.Core.Path.{◌≡◌, refl, sym, ap, subst, ◌∙◌}
use mathlib.Core.Bool.{true, false≢true}
use mathlib.Core.List.{List, [], ◌∷◌, ◌++◌, append-nil}
use mathlib.Core.Option.{Option, none, some}
use native.Mathlib.Nat.{zero-add, mul-le-mul_right, suc-mul, mul-mod_left, mul_assoc, mod-lt, div-lt_iff_lt-mul}
use native.Mathlib.Omega.{arith}
use native.Mathlib.Numerals.{add-one}
use lib.Dec.{ltb}
use lib.Pow.{pow-add, pow_pos, shr_lt, shr_mono, split}
use borrow.Author.Tests.{eqb-true, eq-eqb, lt-ltb}
use borrow.Table.Steps.{cases}
use Rattle.std.specs.Prelude.{Result, Ok, Err}
use Rattle.sheets_rules.specs.Model.{Shape, Pattern, nands}
use Rattle.sheets_rules.specs.Inside.Sound.{SoundDrawing}
use Rattle.covers.specs.Lists.{keep_if, select}
use Rattle.covers.specs.Crossing.{crossing_limit, redrawn, is_crossing, counted}
use Rattle.covers.specs.Match.{Input, Match, matched, put_first, fitting_under}
use Rattle.covers.proofs.Basics.{tests, select_append}
use Rattle.overlay.specs.declared.Inputs.{Inputs}
use Rattle.overlay.specs.Inside.Promises.{WalkIs}
use Rattle.overlay.proofs.Patterns.{matched_laid, redrawn_sound}

-- ---- the next block of numbers

module _ (x k : ℕ) where
  -- The first number after the block of 2^k numbers that x stands in.
  abbrev pub next : ℕ
  next = (x / 2 ^ k + 1) * 2 ^ k

  next_is : next ≡ x / 2 ^ k * 2 ^ k + 2 ^ k
  next_is = ap (λ q. q * 2 ^ k) (add-one (x / 2 ^ k)) ∙ suc-mul (x / 2 ^ k) (2 ^ k)

  pub next_above : x < next
  next_above = omega (arith, next_is, split x k, mod-lt x (pow_pos k))

  pub next_limit : x < crossing_limit → k ≤ 5 → next ≤ crossing_limit
  next_limit h g =
      let e : (5 - k) + k ≡ 5 = omega arith in
      let f : 2 ^ (5 - k) * 2 ^ k ≡ crossing_limit = sym (pow-add 2 (5 - k) k) ∙ ap (λ i. 2 ^ i) e in
      let q : x / 2 ^ k < 2 ^ (5 - k) = shr_lt (5 - k) k (subst (λ i. x < 2 ^ i) (sym e) h) in
      omega (arith, f, mul-le-mul_right (2 ^ k) q, ap (λ i. i * 2 ^ k) (add-one (x / 2 ^ k)))

  -- The numbers in between stand in the same block.
  pub same_block : (y : ℕ) → x ≤ y → y < next → x / 2 ^ k ≡ y / 2 ^ k
  same_block y h g =
      let upper : y / 2 ^ k < x / 2 ^ k + 1 = (div-lt_iff_lt-mul (pow_pos k)).1 g in
      omega (arith, shr_mono k h)

-- ---- the test of a crossing

module _ (d : Shape) (x : ℕ) where
  abbrev unused : ℕ
  unused = 2 ^ (5 - nands d)

  pub crossing_is : is_crossing d x ≡ true → (x < crossing_limit) × (x % unused ≡ 0)
  unfolding is_crossing
  crossing_is e = cases (ltb x crossing_limit)
      (λ f. (omega (arith, tests), eqb-true (x % unused) 0 (rw f at e)))
      (λ f. absurd (false≢true (rw f at e)))

  pub is_crossing_lem : x < crossing_limit → x % unused ≡ 0 → is_crossing d x ≡ true
  unfolding is_crossing
  is_crossing_lem h g = rw (lt-ltb x crossing_limit h, eq-eqb (x % unused) 0 g)

-- ---- the matches of a pattern

put_append : (k : ℕ) (p : Pattern) (x : ℕ) (o : Option (List Input)) (ms qs : List Match) → put_first k p x o (ms ++ qs) ≡ put_first k p x o ms ++ qs
unfolding put_first
put_append k p x none ms qs = refl
put_append k p x (some is) ms qs = refl

module _ (n : ℕ) (s : Shape) (k : ℕ) (p : Pattern) where
  under_append : (xs ys : List ℕ) → fitting_under n s k p (xs ++ ys) ≡ fitting_under n s k p xs ++ fitting_under n s k p ys
  unfolding fitting_under
  under_append [] ys = refl
  under_append (x ∷ xs) ys = rw (under_append xs ys, put_append)

  -- Those under `count` crossings from a on; those below x; and that under x, if there is one.
  abbrev matches_from : ℕ → ℕ → List Match
  matches_from a m = fitting_under n s k p (select (is_crossing p.drawing) (counted a m))

  abbrev pub matches_below : ℕ → List Match
  matches_below x = matches_from 0 x

  abbrev pub matches_at : ℕ → List Match
  matches_at x = put_first k p x (matched (redrawn x p.drawing) n s) []

  abbrev Missing : ℕ → Type 0
  Missing y = is_crossing p.drawing y ≡ true → matched (redrawn y p.drawing) n s ≡ none

  -- One number more, without a match and with one.
  first_missing : (a m : ℕ) → Missing a → matches_from a (suc m) ≡ matches_from (suc a) m
  unfolding counted select keep_if fitting_under put_first
  first_missing a m h = cases (is_crossing p.drawing a) (λ e. rw (e, h e)) (λ e. rw e)

  first_kept : (a m : ℕ) → is_crossing p.drawing a ≡ true → matches_from a (suc m) ≡ matches_at a ++ matches_from (suc a) m
  unfolding counted select keep_if fitting_under
  first_kept a m e = rw e (put_append k p a (matched (redrawn a p.drawing) n s) [] (matches_from (suc a) m))

  none_from : (a m : ℕ) → ((y : ℕ) → a ≤ y → y < a + m → Missing y) → matches_from a m ≡ []
  unfolding counted select fitting_under
  none_from a zero h = refl
  none_from a (suc m) h = first_missing a m (h a (omega arith) (omega arith)) ∙ none_from (suc a) m (λ y f g. h y (omega arith) (omega arith))

  counted_append : (a m l : ℕ) → counted a (m + l) ≡ counted a m ++ counted (a + m) l
  unfolding counted
  counted_append a zero l = let e : zero + l ≡ l = omega arith in let f : a + zero ≡ a = omega arith in rw (e, f)
  counted_append a (suc m) l = let e : suc m + l ≡ suc (m + l) = omega arith in let f : a + suc m ≡ suc a + m = omega arith in rw (e, f) (ap (λ r. a ∷ r) (counted_append (suc a) m l))

  -- A crossing that was tried, and those that may be passed over.
  pub below_more : (x x' : ℕ) → x < x' → is_crossing p.drawing x ≡ true → ((y : ℕ) → x < y → y < x' → Missing y) → matches_below x' ≡ matches_below x ++ matches_at x
  below_more x x' h e f =
      let m = x' - suc x in
      let g : x' ≡ x + suc m = omega arith in
      ap matches_below g
      ∙ rw (counted_append 0 x (suc m), zero-add x, select_append (is_crossing p.drawing) (counted 0 x) (counted x (suc m)), under_append)
      (rw (first_kept x m e, none_from (suc x) m (λ y a b. f y a (omega arith)), append-nil))

-- ---- after a walk

-- The bits that decide what it found: after a match those of all NANDs.
abbrev pub bits : Shape → Result Inputs ℕ → ℕ
bits d (Ok inputs) = nands d
bits d (Err used) = used

-- The next crossing that has others.
abbrev after : ℕ → Shape → Result Inputs ℕ → ℕ
after x d r = next x (5 - bits d r)

module _ {d : Shape} (s : Shape) (n x : ℕ) {pins : ℕ} (sound : SoundDrawing pins d) (few : nands d ≤ 5) (crossing : is_crossing d x ≡ true) where
  pub bits_few : (r : Result Inputs ℕ) → WalkIs d s n x r → bits d r ≤ nands d
  bits_few (Ok inputs) w = omega arith
  bits_few (Err used) w = w.used_few

  pub passed_over : (r : Result Inputs ℕ) → WalkIs d s n x r → (y : ℕ) → x < y → y < after x d r → is_crossing d y ≡ true → matched (redrawn y d) n s ≡ none
  passed_over (Ok inputs) w y h g e =
      let k = 5 - nands d in
      let same = same_block x k y (omega arith) g in
      absurd (omega (arith, split x k, split y k, (crossing_is d x crossing).1, (crossing_is d y e).1, ap (λ q. q * 2 ^ k) same))
  passed_over (Err used) w y h g e = matched_laid (redrawn y d) n s (redrawn_sound y sound).gate ∙ w.ruled_out y (same_block x (5 - used) y (omega arith) g)

  pub crossing_after : (r : Result Inputs ℕ) → WalkIs d s n x r → after x d r < crossing_limit → is_crossing d (after x d r) ≡ true
  crossing_after r w h =
      let over = nands d - bits d r in
      let e : over + (5 - nands d) ≡ 5 - bits d r = omega (arith, bits_few r w) in
      let f : 2 ^ (5 - bits d r) ≡ 2 ^ over * 2 ^ (5 - nands d) = rw (← e) (pow-add 2 over (5 - nands d)) in
      is_crossing_lem d (after x d r) h
      (ap (λ b. ((x / 2 ^ (5 - bits d r) + 1) * b) % 2 ^ (5 - nands d)) f ∙ rw (← mul_assoc (x / 2 ^ (5 - bits d r) + 1)) (mul-mod_left ((x / 2 ^ (5 - bits d r) + 1) * 2 ^ over) (2 ^ (5 - nands d))))
