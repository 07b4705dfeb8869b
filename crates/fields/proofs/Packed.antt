-- Bytes in which fields stand one after another to the end are those fields packed, and no others.
-- And a reader made of fields, then, n times and the end finds its fields so, unless it is refused.
use Prim.Native.Nat.{ℕ, zero, suc, ◌+◌, ◌-◌, ◌*◌, ◌/◌, ◌≤◌, ◌<◌}
use mathlib.Core.Path.{◌≡◌, refl, sym, ap, ◌∙◌}
use mathlib.Core.Bool.{true}
use mathlib.Core.List.{List, [], ◌∷◌, ◌++◌, append_assoc, append-nil}
use native.Mathlib.Decide.{dec_lt}
use native.Mathlib.Nat.{add-zero, add_assoc, mod-eq_of_lt}
use native.Mathlib.Omega.{arith}
use lib.ListN.{replicate}
use borrow.Table.Steps.{cases}
use Rattle.bits.specs.Bits.{cursor_at, bytes_to, rest_of, bit_at, value_at, ends_at, with_field}
use Rattle.bits.proofs.Laws.{value_lt, place_at}
use Rattle.bits.proofs.Whole.{Bytes, bits_whole, value_bits, ends_says, bytes_field}
use Rattle.fields.specs.Reading.{Scan}
use Rattle.fields.specs.Reading.{At}
use Rattle.fields.specs.Reading.{Verdict}
use Rattle.fields.specs.Reading.{Reader, times, start, place, field, ended, Live}
use Rattle.fields.specs.Written.{Field, widths, written, packed}
use Rattle.bits.proofs.Words.{zeros_at}
use Rattle.fields.proofs.Laws.{field_ways}
use Rattle.fields.proofs.Written.{packed_reads, packed_ends, widths_append}

bytes_written : (fs : List Field) (i : ℕ) (s : List ℕ) → Bytes s → Bytes (written fs i s)
unfolding written
bytes_written [] i s h = h
bytes_written (f ∷ fs) i s h = bytes_written fs (i + f.width) (with_field s i f.width f.value) (bytes_field s i f.width f.value h)

pub bytes_packed : (fs : List Field) → Bytes (packed fs)
unfolding packed bytes_to
bytes_packed fs = let n = (widths fs + 7) / 8 in bytes_written fs 0 (replicate n 0) (λ k. rw (zeros_at n k) (omega arith))

-- ---- the bytes in which fields stand

-- The fields fs stand in the bytes s from place i on, each with its value.
abbrev pub Laid : List ℕ → ℕ → List Field → Type 0
Laid s i [] = Unit {0}
Laid s i (f ∷ fs) = (value_at s i f.width ≡ f.value) × Laid s (i + f.width) fs

-- Bytes in which fs stand after others have there the bits of the packed sheet.
laid_bits : (s : List ℕ) (before fs : List Field) (i : ℕ) → i ≡ widths before → Laid s i fs → (j : ℕ) → i ≤ j → j < i + widths fs → bit_at s j ≡ bit_at (packed (before ++ fs)) j
unfolding widths
laid_bits s before [] i e h j a b = absurd (omega arith)
laid_bits s before (f ∷ fs) i e h j a b =
    let value : value_at (packed (before ++ f ∷ fs)) i f.width ≡ f.value =
    rw e (packed_reads before f fs ∙ mod-eq_of_lt (omega (arith, value_lt s i f.width))) in
    elim (dec_lt j (i + f.width)) [
      | yes l ↦ value_bits s (packed (before ++ f ∷ fs)) i f.width (h.0 ∙ sym value) j a l
      | no l ↦
          laid_bits s (before ++ (f ∷ [])) fs (i + f.width) (omega (arith, widths_append before (f ∷ []))) h.1 j (omega arith) (omega arith)
          ∙ ap (λ (gs : List Field). bit_at (packed gs) j) (append_assoc before (f ∷ []) fs)
    ]

-- Bytes that end after fields that stand in them are those fields packed.
pub packed_only : (fs : List Field) (s : List ℕ) → Bytes s → Laid s 0 fs → ends_at s (widths fs) ≡ true → s ≡ packed fs
unfolding rest_of widths
packed_only fs s hs h e =
    let w = widths fs in
    let of-s = ends_says s w e in
    let of-p = ends_says (packed fs) w (packed_ends fs refl) in
    bits_whole s (packed fs) hs (bytes_packed fs) (of-s.0 ∙ sym of-p.0) (λ j l. elim (dec_lt j w) [
      | yes a ↦ laid_bits s [] fs 0 refl h j (omega arith) (omega arith)
      | no a ↦ value_bits s (packed fs) w (8 * bytes_to w - w) (of-s.1 ∙ sym of-p.1) j (omega arith) (omega (arith, of-s.0))
    ])

pub laid_append : (s : List ℕ) (i : ℕ) (fs gs : List Field) → Laid s i fs → Laid s (i + widths fs) gs → Laid s i (fs ++ gs)
unfolding widths
laid_append s i [] gs h g = rw add-zero at g
laid_append s i (f ∷ fs) gs h g = (h.0, laid_append s (i + f.width) fs gs h.1 (rw (← (add_assoc i f.width (widths fs))) at g))

-- ---- what a reader finds

-- The scan that was not refused has the cursor at its place.
abbrev Standing : Scan → Type 0
Standing c = c ≡ At (cursor_at (place c))

-- A scan went from c to c' over the fields fs.
pub record Found (s : List ℕ) (fs : List Field) (c c' : Scan) : Type 0 where
  pub live : Live c
  pub stand : Laid s (place c) fs
  pub after : place c' ≡ place c + widths fs
  pub kept : Standing c → Standing c'

pub found_live : {s : List ℕ} {fs : List Field} {c c' : Scan} → Found s fs c c' → Live c
found_live h = h.live

pub found_none : (s : List ℕ) (c : Scan) → Live c → Found s [] c c
unfolding widths
found_none s c h = record { live = h; stand = tt; after = sym (add-zero (place c)); kept = λ e. e }

-- A field that was not refused stands there with the value that was read.
pub found_field : (s : List ℕ) (w : ℕ) (verdict : ℕ → Verdict) (c : Scan) → Live (field s w verdict c).1 →
    Found s (record { value = (field s w verdict c).0; width = w } ∷ []) c (field s w verdict c).1
unfolding widths
found_field s w verdict c = field_ways s w verdict (λ x. Live x.1 → Found s (record { value = x.0; width = w } ∷ []) c x.1) c (λ f h. absurd h) (λ l g e h.
    let there = place_at (place c + w) in record { live = l; stand = (refl, tt); after = omega arith; kept = λ q. ap (λ (j : ℕ). At (cursor_at j)) (sym there) })

-- One run of fields, and then another.
pub found_then : {s : List ℕ} {fs gs : List Field} {a b c : Scan} → Found s fs a b → Found s gs b c → Found s (fs ++ gs) a c
found_then {s} {fs} {gs} {a} h g =
    search (arith, laid_append s (place a) fs gs h.stand (rw h.after at g.stand), widths_append fs gs, h.kept, g.kept)

-- The entries that were read, as often as there are.
module _ {A : Type 0} (s : List ℕ) (entry : A → List Field) (laid : List A → List Field) (none : laid [] ≡ []) (one : (x : A) (xs : List A) → laid (x ∷ xs) ≡ entry x ++ laid xs)
    (r : List A → Reader A) where
  laid_more : (xs : List A) (x : A) → laid (xs ++ (x ∷ [])) ≡ laid xs ++ entry x
  laid_more [] x = rw (one x [], none, append-nil)
  laid_more (y ∷ xs) x = rw (one y (xs ++ (x ∷ [])), laid_more xs x, one y xs, append_assoc)

  pub found_times : ((xs : List A) (c : Scan) → Live (r xs c).1 → Found s (entry (r xs c).0) c (r xs c).1) → (n : ℕ) (c : Scan) → Live (times n r c).1 →
      Found s (laid (times n r c).0) c (times n r c).1
  unfolding times
  found_times turn zero c h = rw none (found_none s c h)
  found_times turn (suc n) c h =
      let xs = times n r c in
      let last = turn xs.0 xs.1 h in
      rw (laid_more xs.0 (r xs.0 xs.1).0) (found_then (found_times turn n c (found_live last)) last)

-- The whole sheet, from its first bit on: its fields stand in it, it ends after them, and there the scan stands.
pub found_all : {s : List ℕ} {fs : List Field} {c : Scan} → Found s fs start c → Live (ended s c) →
    Laid s 0 fs × (ends_at s (widths fs) ≡ true) × (ended s c ≡ At (cursor_at (widths fs)))
found_all {s} {fs} {c} h l =
    let first : place start ≡ 0 = place_at 0 in
    let stop : c ≡ At (cursor_at (widths fs)) = h.kept (ap (λ (i : ℕ). At (cursor_at i)) (sym first)) ∙ ap (λ (i : ℕ). At (cursor_at i)) (omega (arith, first, h.after)) in
    cases (ends_at s (widths fs)) (λ t. (rw first at h.stand, t, rw (stop, place_at, t))) (λ t. absurd (rw (stop, place_at, t) at l))
