-- Fields written one after another read back: each stands at its place, and the bytes end after the last.
-- So a reader made of fields, then, n times and the end reads what was written, field by field.
use Prim.Native.Nat.{ℕ, zero, suc, ◌+◌, ◌*◌, ◌/◌, ◌%◌, ◌^◌, ◌≤◌, ◌<◌}
use mathlib.Core.Path.{◌≡◌, refl, sym, ap, ◌∙◌}
use mathlib.Core.Logic.{inl, inr}
use mathlib.Core.Bool.{true}
use borrow.Author.Tests.{eq-eqb, le-leb}
use mathlib.Core.List.{List, [], ◌∷◌, ◌++◌, Memᴰ, append_assoc, append-nil}
use native.Mathlib.Nat.{le_refl, zero-add, add-zero, add_assoc, mod-eq_of_lt, div-eq_of_lt}
use native.Mathlib.Omega.{arith}
use lib.ListN.{length, replicate, length-replicate, length-append}
use lib.Pow.{pow_pos}
use Rattle.bits.specs.Bits.{after, bytes_to, rest_of, bit_at, value_at, cursor_at, field_at, ends_at, with_field}
use Rattle.bits.proofs.Laws.{length_field, value_field, value_beside, place_at}
use Rattle.fields.specs.Reading.{Scan}
use Rattle.fields.specs.Reading.{At}
use Rattle.fields.specs.Reading.{Verdict}
use Rattle.fields.specs.Reading.{Sound}
use Rattle.fields.specs.Reading.{Reader, done, ◌>>=◌, times, start, free, field, ended}
use Rattle.fields.specs.Written.{Field, widths, written, packed}
use Rattle.bits.proofs.Words.{zeros_at}
use Rattle.fields.proofs.Laws.{times_more}

length_written : (fs : List Field) (i : ℕ) (s : List ℕ) → length (written fs i s) ≡ length s
unfolding written
length_written [] i s = refl
length_written (f ∷ fs) i s = length_written fs (i + f.width) (with_field s i f.width f.value) ∙ length_field s i f.width f.value

pub length_packed : (fs : List Field) → length (packed fs) ≡ (widths fs + 7) / 8
unfolding packed bytes_to
length_packed fs = length_written fs 0 (replicate (bytes_to (widths fs)) 0) ∙ length-replicate (bytes_to (widths fs)) 0

-- Fields written from place i on leave what stands before it.
written_before : (fs : List Field) (i : ℕ) (s : List ℕ) (j u : ℕ) → j + u ≤ i → value_at (written fs i s) j u ≡ value_at s j u
unfolding written
written_before [] i s j u h = refl
written_before (f ∷ fs) i s j u h = written_before fs (i + f.width) (with_field s i f.width f.value) j u (omega arith) ∙ value_beside s i f.width f.value j u (inl h)

-- And what stands after them.
written_after : (fs : List Field) (i : ℕ) (s : List ℕ) (j u : ℕ) → i + widths fs ≤ j → value_at (written fs i s) j u ≡ value_at s j u
unfolding written widths
written_after [] i s j u h = refl
written_after (f ∷ fs) i s j u h = written_after fs (i + f.width) (with_field s i f.width f.value) j u (omega arith) ∙ value_beside s i f.width f.value j u (inr (omega arith))

-- Zero bytes have zero bits.
bit_zeros : (n i : ℕ) → bit_at (replicate n 0) i ≡ 0
unfolding bit_at
bit_zeros n i = ap (λ x. x / 2 ^ after i % 2) (zeros_at n (i / 8)) ∙ ap (λ x. x % 2) (div-eq_of_lt (pow_pos (after i)))

value_zeros : (n i w : ℕ) → value_at (replicate n 0) i w ≡ 0
unfolding value_at
value_zeros n i zero = refl
value_zeros n i (suc w) = omega (arith, value_zeros n i w, bit_zeros n (i + w))

-- The field after fs stands after them, whatever is written next.
written_reads : (fs : List Field) (f : Field) (gs : List Field) (i : ℕ) (s : List ℕ) {p : ℕ} → p ≡ i + widths fs → i + widths (fs ++ f ∷ gs) ≤ 8 * length s → value_at (written (fs ++ f ∷ gs) i s) p f.width ≡ f.value % 2 ^ f.width
unfolding written widths
written_reads [] f gs i s {p} e h =
    let here : p ≡ i = omega arith in
    rw here (written_before gs (i + f.width) (with_field s i f.width f.value) i f.width (le_refl (i + f.width)) ∙ value_field s i f.width f.value (omega arith))
written_reads (g ∷ fs) f gs i s e h = written_reads fs f gs (i + g.width) (with_field s i g.width g.value) (omega arith) (omega (arith, length_field s i g.width g.value))

-- A field of a packed sheet stands after those packed before it.
pub packed_reads : (fs : List Field) (f : Field) (gs : List Field) → value_at (packed (fs ++ f ∷ gs)) (widths fs) f.width ≡ f.value % 2 ^ f.width
unfolding packed bytes_to
packed_reads fs f gs =
    let bytes = (widths (fs ++ f ∷ gs) + 7) / 8 in
    written_reads fs f gs 0 (replicate bytes 0) (omega arith) (omega (arith, length-replicate {A = ℕ} bytes 0))

-- Nothing but zero bits to the byte follows the last field.
pub packed_ends : (fs : List Field) {p : ℕ} → p ≡ widths fs → ends_at (packed fs) p ≡ true
unfolding ends_at packed bytes_to
packed_ends fs {p} e =
    let w = widths fs in
    let bytes = (w + 7) / 8 in
    let rest : value_at (packed fs) w (rest_of w) ≡ 0 = written_after fs 0 (replicate bytes 0) w (rest_of w) (omega arith) ∙ value_zeros bytes w (rest_of w) in
    rw (e, eq-eqb _ _ (length_packed fs), eq-eqb _ _ rest) refl

pub widths_append : (fs gs : List Field) → widths (fs ++ gs) ≡ widths fs + widths gs
unfolding widths
widths_append [] gs = sym (zero-add (widths gs))
widths_append (f ∷ fs) gs = omega (arith, widths_append fs gs)

-- ---- what reads a packed sheet

-- The fields gs stand in the sheet of `all` from place i on.
pub record Stands (all : List Field) (i : ℕ) (gs : List Field) : Type 0 where
  pub before : List Field
  pub whole : all ≡ before ++ gs
  pub place_is : i ≡ widths before

stands_next : {all : List Field} {i : ℕ} (fs : List Field) {gs : List Field} → Stands all i (fs ++ gs) → Stands all (i + widths fs) gs
stands_next fs {gs} h = record { before = h.before ++ fs; whole = cc (append_assoc h.before fs gs); place_is = omega (arith, widths_append h.before fs) }

-- Where fs stand in that sheet, and `rest` after them to its end, the reader r reads a out of fs.
pub record Says (all : List Field) {A : Type 0} (r : Reader A) (fs rest : List Field) (a : A) : Type 0 where
  pub reads : (i : ℕ) → Stands all i (fs ++ rest) → r (At (cursor_at i)) ≡ (a, At (cursor_at (i + widths fs)))

-- A field, with a value that fits and that the verdict lets pass.
pub says_sound : {all rest : List Field} {v : ℕ} (w : ℕ) (verdict : ℕ → Verdict) → v < 2 ^ w → verdict v ≡ Sound →
    Says all (field (packed all) w verdict) (record { value = v; width = w } ∷ []) rest v
unfolding field_at widths
says_sound {all} {rest} {v} w verdict fits sound = record {
  reads = λ i h.
      let f : Field = record { value = v; width = w } in
      let long : widths all ≡ widths h.before + (w + widths rest) = ap widths h.whole ∙ widths_append h.before (f ∷ rest) in
      let room : i + w ≤ 8 * length (packed all) = omega (arith, length_packed all, h.place_is) in
      let value : value_at (packed all) i w ≡ v = rw (h.whole, h.place_is) (packed_reads h.before f rest ∙ mod-eq_of_lt fits) in
      rw (place_at i, le-leb (i + w) (8 * length (packed all)) room, value, sound, add-zero w);
}

pub says_field : {all rest : List Field} {v : ℕ} (w : ℕ) → v < 2 ^ w → Says all (field (packed all) w free) (record { value = v; width = w } ∷ []) rest v
says_field w fits = says_sound w free fits refl

-- A value made of what was read before.
pub says_done : {all rest : List Field} {A : Type 0} (a : A) → Says all (done a) [] rest a
unfolding widths
says_done a = record { reads = λ i h. ap (λ (j : ℕ). (a, At (cursor_at j))) (sym (add-zero i)) }

-- One reader, and then another that may look at what was read.
pub says_then : {all rest : List Field} {A B : Type 0} {r : Reader A} (k : A → Reader B) {fs gs : List Field} {a : A} {b : B} →
    Says all r fs (gs ++ rest) a → Says all (k a) gs rest b → Says all (r >>= k) (fs ++ gs) rest b
says_then {all} {rest} {A} {B} k {fs} {gs} {a} {b} h g = record {
  reads = λ i z. let z' = rw (append_assoc fs gs rest) at z in rw (h.reads i z', g.reads (i + widths fs) (stands_next fs z'), widths_append fs gs, add_assoc i);
}

-- The entries of a list, packed one after another, are read as often as there are entries.
module _ {A : Type 0} (all : List Field) (entry : A → List Field) (laid : List A → List Field) (none : laid [] ≡ []) (one : (x : A) (xs : List A) → laid (x ∷ xs) ≡ entry x ++ laid xs) (r : List A → Reader A) where
  abbrev pub Entries : List A → Type 0
  Entries zs = (x : A) → Memᴰ x zs → (ys : List A) (gs : List Field) → Says all (r ys) (entry x) gs x

  entries_more : (ys zs : List A) (rest : List Field) (c : Scan) (i : ℕ) → Entries zs → times (length ys) r c ≡ (ys, At (cursor_at i)) → Stands all i (laid zs ++ rest) →
      times (length (ys ++ zs)) r c ≡ (ys ++ zs, At (cursor_at (i + widths (laid zs))))
  unfolding widths
  entries_more ys [] rest c i h e z = rw (append-nil ys, none, add-zero) e
  entries_more ys (x ∷ zs) rest c i h e z =
      let z' = rw (append_assoc (entry x) (laid zs) rest) at (rw (one x zs) at z) in
      let next = times_more (length ys) r c e ((h x (Memᴰ.head refl) ys (laid zs ++ rest)).reads i z') in
      rw (one x zs, widths_append (entry x) (laid zs), ← add_assoc i (widths (entry x)) (widths (laid zs)), ← append_assoc ys (x ∷ []) zs)
      (entries_more (ys ++ (x ∷ [])) zs rest c (i + widths (entry x)) (λ y m. h y (Memᴰ.tail m)) (rw (length-append ys (x ∷ [])) next) (stands_next (entry x) z'))

  pub says_times : (xs : List A) {rest : List Field} → Entries xs → Says all (times (length xs) r) (laid xs) rest xs
  unfolding times
  says_times xs {rest} h = record { reads = λ i z. entries_more [] xs rest (At (cursor_at i)) i h refl z }

-- The end of the sheet, after its last field.
pub says_end : {all : List Field} {A : Type 0} (a : A) → Says all (λ c. (a, ended (packed all) c)) [] [] a
unfolding widths
says_end {all} a = record {
  reads = λ i h.
      let end : ends_at (packed all) i ≡ true = packed_ends all (h.place_is ∙ sym (ap widths (h.whole ∙ append-nil h.before))) in
      rw (place_at i, end, add-zero i);
}

-- The whole sheet, from its first bit on.
pub says_all : {all fs : List Field} {A : Type 0} {r : Reader A} {a : A} → fs ≡ all → Says all r fs [] a → r start ≡ (a, At (cursor_at (widths all)))
unfolding widths
says_all {all} {fs} {A} {r} {a} e h =
    h.reads 0 (record { before = []; whole = sym (append-nil fs ∙ e); place_is = refl }) ∙ ap (λ (j : ℕ). (a, At (cursor_at j))) (zero-add (widths fs) ∙ ap widths e)
