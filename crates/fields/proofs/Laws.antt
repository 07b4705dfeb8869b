-- Laws about scans and fields: one for each way out of a reader.
use mathlib.Core.Path.{◌≡◌, refl, sym, ap, subst, ◌∙◌}
use mathlib.Core.Logic.{⊎_elim}
use mathlib.Core.List.Memᴰ
use mathlib.Core.List.{List, ◌∷◌, [], ◌++◌, Memᴰ}
use mathlib.Core.Bool.{Bool, true, false, cond, and-false}
use Prim.Native.Nat.{ℕ, zero, suc, ◌+◌, ◌-◌, ◌*◌, ◌≤◌, ◌<◌, ◌^◌}
use native.Mathlib.Omega.{arith}
use lib.Pow.{pow_pos}
use lib.ListN.{length, length-append}
use native.Mathlib.Numerals.{add-one}
use lib.Dec.{leb}
use borrow.Author.Tests.{leb-true}
use borrow.Table.Steps.{cases}
use Rattle.bits.specs.Bits.{place_of, field_at, value_at, cursor_at}
use Rattle.bits.proofs.Laws.{value_lt, place_at}
use Rattle.bits.specs.declared.Cursor.{Cursor}
use Rattle.std.specs.Prelude.{Option, Some, None, Result, Ok, Err}
use Rattle.fields.specs.declared.Flaw.{Flaw}
use Rattle.fields.specs.Reading.{Scan}
use Rattle.fields.specs.Reading.{At, Refused}
use Rattle.fields.specs.declared.Fault.{Fault}
use Rattle.fields.specs.declared.Fault.TheVariants.{Truncated, Tail}
use Rattle.fields.specs.Reading.{Verdict}
use Rattle.fields.specs.Reading.{Sound, Faulty}
use Rattle.fields.specs.Reading.{Reader, times, start, place, free, within, field, scanned, settled, tailed, Live}
use Rattle.fields.specs.Inside.Promises.{Took, Flawed, UpTo, verdict_of}

pub start_place : place start ≡ 0
start_place = place_at 0

-- ---- a field of any value

-- What was found is the value there, which has w bits, and the cursor after it.
pub found_is : (s : List ℕ) (i w x : ℕ) (n : Cursor) (f : Option (ℕ × Cursor)) → f ≡ field_at s i w → f ≡ Some (x, n) →
    (x ≡ value_at s i w) × (n ≡ cursor_at (i + w))
unfolding field_at
found_is s i w x n f e q = cases (leb (i + w) (8 * length s))
    (λ t.
    let g : Some (x, n) ≡ Some (value_at s i w, cursor_at (i + w)) = sym q ∙ rw t at e in
    let p : ◌≡◌ {A = ℕ × Cursor} (x, n) (value_at s i w, cursor_at (i + w)) = cc in
    (ap (λ (y : ℕ × Cursor). y.0) p, ap (λ (y : ℕ × Cursor). y.1) p))
    (λ t. let g : Some (x, n) ≡ None = sym q ∙ rw t at e in absurd (cc))

pub found_fits : (s : List ℕ) (i w x : ℕ) (n : Cursor) (f : Option (ℕ × Cursor)) → f ≡ field_at s i w → f ≡ Some (x, n) → x < 2 ^ w
found_fits s i w x n f e q = omega (arith, (found_is s i w x n f e q).0, value_lt s i w)

-- The greatest value that a verdict lets pass.
abbrev pub Passes : (ℕ → Verdict) → ℕ → ℕ → Type 0
Passes verdict w most = (x : ℕ) → x < 2 ^ w → verdict x ≡ Sound → x ≤ most

module _ (s : List ℕ) (w : ℕ) (verdict : ℕ → Verdict) where
  -- What comes of a field: it is refused at its first bit, or its value is sound and the scan goes on after it.
  pub field_ways : (P : ℕ × Scan → Type 0) (scan : Scan) → ((f : Fault) → P (0, Refused f (place scan))) →
      (let x = value_at s (place scan) w in Live scan → x < 2 ^ w → verdict x ≡ Sound → P (x, At (cursor_at (place scan + w)))) → P (field s w verdict scan)
  unfolding field_at
  field_ways P (Refused f p) stop go = stop f
  field_ways P (At c) stop go = cases (leb (place_of c + w) (8 * length s)) (λ t. rw t (judged (verdict (value_at s (place_of c) w)) refl)) (λ t. rw t (stop Truncated))
    where
      judged : (v : Verdict) → verdict (value_at s (place_of c) w) ≡ v → P (settled (place_of c) v (value_at s (place_of c) w) (At (cursor_at (place_of c + w))))
      judged Sound e = go tt (value_lt s (place_of c) w) e
      judged (Faulty f) e = stop f

  field_small : (scan : Scan) (most : ℕ) → Passes verdict w most → (field s w verdict scan).0 ≤ most
  field_small scan most h = field_ways (λ x. x.0 ≤ most) scan (λ f. omega arith) (λ l. h (value_at s (place scan) w))

  pub field_near : (scan : Scan) → place (field s w verdict scan).1 ≤ place scan + w
  field_near scan = field_ways (λ x. place x.1 ≤ place scan + w) scan (λ f. omega arith) (λ l g e. omega (arith, place_at (place scan + w)))

  -- After a field that was not refused the verdict on its value is sound, and the scan was not refused before.
  pub live_sound : (scan : Scan) → Live (field s w verdict scan).1 → (verdict (field s w verdict scan).0 ≡ Sound) × Live scan
  live_sound scan = field_ways (λ x. Live x.1 → (verdict x.0 ≡ Sound) × Live scan) scan (λ f h. absurd h) (λ l g e h. (e, l))

  -- A value that is not 0 was not refused.
  pub positive_live : (scan : Scan) → 0 < (field s w verdict scan).0 → Live (field s w verdict scan).1
  positive_live scan = field_ways (λ x. 0 < x.0 → Live x.1) scan (λ f h. omega arith) (λ l g e h. tt)

  -- A refused field leaves the scan where it was.
  pub dead_stays : (scan : Scan) → (Live (field s w verdict scan).1 → ⊥) → place (field s w verdict scan).1 ≤ place scan
  dead_stays scan = field_ways (λ x. (Live x.1 → ⊥) → place x.1 ≤ place scan) scan (λ f h. omega arith) (λ l g e h. absurd (h tt))

-- A field of any value has w bits.
free_passes : (w : ℕ) → Passes free w (2 ^ w - 1)
free_passes w x l e = omega arith

pub free_small : (s : List ℕ) (w : ℕ) (c : Scan) → (field s w free c).0 < 2 ^ w
free_small s w c = omega (arith, field_small s w free c (2 ^ w - 1) (free_passes w), pow_pos w)

-- ---- what a reader of one field answers

module _ (s : List ℕ) (w : ℕ) (c : Cursor) where
  -- The bytes end before or inside it.
  pub field_flawed : (verdict : ℕ → Verdict) (p : ℕ) → None ≡ field_at s (place_of c) w → p ≡ place_of c →
      Flawed (field s w verdict (At c)) (place_of c + w) (record { fault = Truncated; place = p })
  field_flawed verdict p e q = record {
    says = ap (λ f. (scanned (place_of c) verdict f).1) (sym e) ∙ ap (Refused Truncated) (sym q);
    near = omega arith;
  }

  pub field_took : (x : ℕ) (n : Cursor) → Some (x, n) ≡ field_at s (place_of c) w → Took (UpTo (2 ^ w - 1)) (field s w free (At c)) (place_of c + w) n x
  field_took x n e = record {
    at = ap (λ f. (scanned (place_of c) free f).1) (sym e);
    holds = (ap (λ f. (scanned (place_of c) free f).0) e, omega (arith, found_fits s (place_of c) w x n (Some (x, n)) e refl));
    near = omega (arith, ap place_of (found_is s (place_of c) w x n (Some (x, n)) e refl).1, place_at (place_of c + w));
  }

  -- A verdict on the value of a field that was read as one of any value.
  module _ (verdict : ℕ → Verdict) (reach : ℕ) where
    pub still_flawed : (e : Flaw) → Flawed (field s w free (At c)) reach e → Flawed (field s w verdict (At c)) reach e
    still_flawed e h = record { says = same (field_at s (place_of c) w) h.says; near = h.near }
      where
        same : (f : Option (ℕ × Cursor)) → (scanned (place_of c) free f).1 ≡ Refused e.fault e.place → (scanned (place_of c) verdict f).1 ≡ Refused e.fault e.place
        same None q = q
        same (Some (x, n)) q = absurd (subst Live q tt)

    module _ (most : ℕ) (after : Cursor) (x : ℕ) (h : Took (UpTo most) (field s w free (At c)) reach after x) where
      -- As a field with that verdict.
      judged : field s w verdict (At c) ≡ settled (place_of c) (verdict x) x (At after)
      judged = same (field_at s (place_of c) w) h.at h.holds.0
        where
          same : (f : Option (ℕ × Cursor)) → (scanned (place_of c) free f).1 ≡ At after → x ≡ (scanned (place_of c) free f).0 →
              scanned (place_of c) verdict f ≡ settled (place_of c) (verdict x) x (At after)
          same None q e = absurd (subst Live (sym q) tt)
          same (Some (y, n)) q e = rw (q, ← e) refl

      pub judged_sound : (top : ℕ) → verdict x ≡ Sound → x ≤ top → Took (UpTo top) (field s w verdict (At c)) reach after x
      judged_sound top e l =
          let same : field s w verdict (At c) ≡ (x, At after) = judged ∙ ap (λ v. settled (place_of c) v x (At after)) e in
          record { at = ap (λ (y : ℕ × Scan). y.1) same; holds = (sym (ap (λ (y : ℕ × Scan). y.0) same), l); near = h.near }

      pub judged_faulty : (e : Flaw) → verdict x ≡ Faulty e.fault → e.place ≡ place_of c → place_of c ≤ reach → Flawed (field s w verdict (At c)) reach e
      judged_faulty e q p l =
          let same : field s w verdict (At c) ≡ (0, Refused e.fault (place_of c)) = judged ∙ ap (λ v. settled (place_of c) v x (At after)) q in
          record { says = ap (λ (y : ℕ × Scan). y.1) same ∙ ap (Refused e.fault) (sym p); near = omega arith }

-- What a range lets pass.
pub range_least : (least most x : ℕ) → within least most x ≡ Sound → least ≤ x
unfolding within
range_least least most x e = cases (leb least x) (leb-true least x) (λ l. let g = rw l at e in let z : ◌≡◌ {A = ℕ} 0 1 = cc in omega arith)

pub range_passes : (least most x : ℕ) → within least most x ≡ Sound → x ≤ most
unfolding within
range_passes least most x e = cases (leb x most) (leb-true x most) (λ l. let g = rw (l, and-false) at e in let z : ◌≡◌ {A = ℕ} 0 1 = cc in omega arith)

pub within_passes : (least most w : ℕ) → Passes (within least most) w most
within_passes least most w x l e = range_passes least most x e

-- ---- the end

-- A scan that was not refused at the end was not refused before, and it stands where it stood.
module _ (wanted : ℕ → Bool) where
  pub tailed_live : (c : Scan) → Live (tailed wanted c) → Live c
  tailed_live (At c) h = tt
  tailed_live (Refused f p) h = h

  pub tailed_place : (c : Scan) → place (tailed wanted c) ≡ place c
  tailed_place (At c) = cases (wanted (place_of c)) (λ t. rw t) (λ t. rw t)
  tailed_place (Refused f p) = refl

  pub tailed_wanted : (scan : Scan) (c : Cursor) → tailed wanted scan ≡ At c → wanted (place_of c) ≡ true
  tailed_wanted (At d) c e = cases (wanted (place_of d)) (λ t. ap wanted (sym (ap place (rw t at e))) ∙ t) (λ t. absurd (subst Live (sym (rw t at e)) tt))
  tailed_wanted (Refused f p) c e = absurd (subst Live (sym e) tt)

  -- What a reader that closes a sheet answers.
  pub tailed_true : (c : Cursor) (b : Bool) → b ≡ wanted (place_of c) → b ≡ true → tailed wanted (At c) ≡ At c
  tailed_true c b e t = ap (λ (x : Bool). cond x (At c) (Refused Tail (place_of c))) (sym e ∙ t)

  pub tailed_false : (c : Cursor) (b : Bool) → b ≡ wanted (place_of c) → b ≡ false → tailed wanted (At c) ≡ Refused Tail (place_of c)
  tailed_false c b e t = ap (λ (x : Bool). cond x (At c) (Refused Tail (place_of c))) (sym e ∙ t)

-- ---- n times

pub length_times : {A : Type 0} (n : ℕ) (r : List A → Reader A) (c : Scan) → length (times n r c).0 ≡ n
unfolding times
length_times zero r c = refl
length_times (suc n) r c =
    length-append (times n r c).0 ((r (times n r c).0 (times n r c).1).0 ∷ []) ∙ ap (λ (k : ℕ). k + 1) (length_times n r c) ∙ add-one n

-- What every turn keeps, all that was read keeps.
pub times_each : {A : Type 0} (P : A → Type 0) (r : List A → Reader A) → ((xs : List A) (c : Scan) → P (r xs c).0) → (n : ℕ) (c : Scan) (x : A) → Memᴰ x (times n r c).0 → P x
unfolding times
times_each P r h zero c x m = absurd (Memᴰ.not-nil m)
times_each P r h (suc n) c x m =
    let xs = times n r c in
    ⊎_elim (times_each P r h n c x) (λ k. subst P (sym (Memᴰ.eq_of_singleton k)) (h xs.0 xs.1)) (Memᴰ.append_cases xs.0 m)

-- One turn more.
module _ {A : Type 0} (n : ℕ) (r : List A → Reader A) (c : Scan) where
  pub times_value : (times (n + 1) r c).0 ≡ (times n r c).0 ++ ((r (times n r c).0 (times n r c).1).0 ∷ [])
  unfolding times
  times_value = rw add-one

  pub times_scan : (times (n + 1) r c).1 ≡ (r (times n r c).0 (times n r c).1).1
  unfolding times
  times_scan = rw add-one

-- One turn more, by what the turns before it read.
pub times_more : {A : Type 0} (n : ℕ) (r : List A → Reader A) (c : Scan) {q q' : Scan} {xs : List A} {x : A} → times n r c ≡ (xs, q) → r xs q ≡ (x, q') →
    times (n + 1) r c ≡ (xs ++ (x ∷ []), q')
unfolding times
times_more {A} n r c {q} {q'} {xs} {x} e e' =
    rw add-one
    (ap (λ (y : List A × Scan). (y.0 ++ ((r y.0 y.1).0 ∷ []), (r y.0 y.1).1)) e ∙ ap (λ (y : A × Scan). (xs ++ (y.0 ∷ []), y.1)) e')

-- Whether a scan was refused.
pub live? : (c : Scan) → Dec (Live c)
live? (At c) = yes tt
live? (Refused f p) = no (λ x. x)

-- ---- a verdict that a caller found

pub verdict_sound : (r : Result (Unit {0}) Fault) → verdict_of r ≡ Sound → r ≡ Ok tt
verdict_sound (Ok tt) e = refl
verdict_sound (Err f) e = absurd (cc)

pub verdict_faulty : (r : Result (Unit {0}) Fault) (f : Fault) → verdict_of r ≡ Faulty f → r ≡ Err f
verdict_faulty (Ok u) f e = absurd (cc)
verdict_faulty (Err g) f e = let same : g ≡ f = cc in ap Err same
