-- Where the fields of a function sheet stand: how reading ends, and what was read.
use Prim.Native.Nat.{ℕ, zero, suc, ◌+◌, ◌*◌, ◌≤◌, ◌<◌}
use mathlib.Core.Path.{◌≡◌, refl, sym, ap, subst, ◌∙◌}
use mathlib.Core.Logic.{⊎_elim}
use mathlib.Core.Bool.{true, false}
use mathlib.Core.List.{List}
use native.Mathlib.Nat.{eq-or-lt_of_le}
use native.Mathlib.Omega.{arith}
use lib.ListN.{length, get_or}
use lib.Dec.{leb}
use borrow.Table.Steps.{cases}
use borrow.Author.Tests.{leb-true, leb-false}
use Rattle.bits.specs.Bits.{value_at, cursor_at, field_at, bytes_to, ends_at}
use Rattle.bits.specs.declared.Cursor.{Cursor}
use Rattle.bits.proofs.Laws.{place_at}
use Rattle.bits.proofs.Words.{found, none}
use Rattle.bits.proofs.Whole.{ends_says}
use Rattle.fields.specs.declared.Fault.TheVariants.{Truncated, Tail}
use Rattle.fields.specs.Reading.{Scan}
use Rattle.fields.specs.Reading.{At, Refused}
use Rattle.fields.specs.Reading.{start, times, free, scanned, field, ended}
use Rattle.functions_rules.specs.Function.{settings}
use Rattle.functions_rules.specs.FunctionSheet.{function_sheet}
use Rattle.functions_rules.specs.Demands.{first_bit}
use Rattle.functions_rules.proofs.Reading.{fields_to, scan_next, each_field}

module _ (fs pins : List ℕ) where
  abbrev all : ℕ
  all = 8 * length fs

  pub first_mono : (m n : ℕ) → m ≤ n → first_bit pins m ≤ first_bit pins n
  unfolding first_bit
  first_mono m zero h = let e : m ≡ 0 = omega arith in rw e (omega arith)
  first_mono m (suc n) h = ⊎_elim (λ e. rw e (omega arith)) (λ g. let r = first_mono m n (omega arith) in omega arith) (eq-or-lt_of_le h)

  -- One field more, whole or torn.
  field_whole : (i w : ℕ) → i + w ≤ all → field fs w free (At (cursor_at i)) ≡ (value_at fs i w, At (cursor_at (i + w)))
  field_whole i w h = ap (λ (j : ℕ). scanned j free (field_at fs j w)) (place_at i) ∙ ap (scanned i free) (sym (found fs i w (value_at fs i w) (cursor_at (i + w)) h refl refl))

  field_torn : (i w : ℕ) → all < i + w → field fs w free (At (cursor_at i)) ≡ (0, Refused Truncated i)
  field_torn i w h = ap (λ (j : ℕ). scanned j free (field_at fs j w)) (place_at i) ∙ ap (scanned i free) (sym (none fs i w h))

  -- After n fields.
  data Stood (n : ℕ) : Scan → Type 0 where
    whole : first_bit pins n ≤ all → Stood n (At (cursor_at (first_bit pins n)))
    torn : (m : ℕ) → m < n → first_bit pins m ≤ all → all < first_bit pins (suc m) → Stood n (Refused Truncated (first_bit pins m))

  stood_next : (n : ℕ) (q : Scan) → Stood n q → Stood (suc n) (field fs (settings (get_or pins n 0)) free q).1
  unfolding first_bit
  stood_next n q (torn m h a b) = torn m (omega arith) a b
  stood_next n q (whole h) =
      let w = settings (get_or pins n 0) in
      cases (leb (first_bit pins n + w) all)
      (λ e. let g = leb-true (first_bit pins n + w) all e in rw (field_whole (first_bit pins n) w g) (whole g))
      (λ e. let g = leb-false (first_bit pins n + w) all e in rw (field_torn (first_bit pins n) w g) (torn n (omega arith) h g))

  stood : (n : ℕ) → Stood n (fields_to fs pins start n).1
  unfolding times first_bit
  stood zero = whole (omega arith)
  stood (suc n) = subst (Stood (suc n)) (sym (scan_next fs pins start n)) (stood_next n (fields_to fs pins start n).1 (stood n))

  -- The fields that are there are those of the bytes.
  pub values_are : (n k : ℕ) → k < n → first_bit pins (suc k) ≤ all → get_or (fields_to fs pins start n).0 k 0 ≡ value_at fs (first_bit pins k) (settings (get_or pins k 0))
  unfolding first_bit
  values_are = each_field fs pins start (λ k v. first_bit pins (suc k) ≤ all → v ≡ value_at fs (first_bit pins k) (settings (get_or pins k 0)))
      (λ n. let w = settings (get_or pins n 0) in elim (stood n) as (λ q x. first_bit pins (suc n) ≤ all → (field fs w free q).0 ≡ value_at fs (first_bit pins n) w)
      [ whole g ↦ λ h. rw (field_whole (first_bit pins n) w h) | torn m g a b ↦ λ h. absurd (omega (arith, first_mono (suc m) (suc n) (omega arith))) ])

  -- How reading of the whole sheet ends.
  abbrev pub last : ℕ
  last = first_bit pins (length pins)

  pub data Ends : Scan → Type 0 where
    sound_at : (c : Cursor) → ends_at fs last ≡ true → Ends (At c)
    tail_at : last ≤ all → ends_at fs last ≡ false → Ends (Refused Tail last)
    torn_at : (m : ℕ) → m < length pins → first_bit pins m ≤ all → all < first_bit pins (suc m) → Ends (Refused Truncated (first_bit pins m))

  pub ends : Ends (function_sheet fs pins start).1
  unfolding function_sheet
  ends = elim (stood (length pins)) as (λ q x. Ends (ended fs q)) [
    | torn m h a b ↦ torn_at m h a b
    | whole h ↦
        rw (place_at last) (cases (ends_at fs last) (λ e. rw e (sound_at (cursor_at last) e)) (λ e. rw e (tail_at h e)))
  ]

  -- Bytes that end after the last field have all fields.
  pub ends_whole : ends_at fs last ≡ true → last ≤ all
  unfolding bytes_to
  ends_whole e = omega (arith, (ends_says fs last e).0)
