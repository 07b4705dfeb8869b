-- Laws about readers of a sheet, one after another: what stops one, and what a loop of them reads.
use mathlib.Core.Path.{◌≡◌, sym, ap, subst, ◌∙◌}
use mathlib.Core.List.{List, ◌∷◌, [], ◌++◌}
use Prim.Native.Nat.{ℕ, zero, suc, ◌+◌, ◌≤◌, ◌<◌}
use native.Mathlib.Nat.{eq-or-lt_of_le, le_of_suc-le-suc, zero-add}
use mathlib.Core.Logic.{⊎_elim}
use native.Mathlib.Omega.{arith}
use Rattle.std.specs.Prelude.{Result, Ok, Err, IsErrAnd}
use Rattle.std.proofs.lemmas.Result.{err_from_is_err_and}
use Rattle.bits.specs.declared.Cursor.{Cursor}
use Rattle.bits.specs.Bits.{place_of}
use Rattle.fields.specs.declared.Fault.{Fault}
use Rattle.fields.specs.declared.Flaw.{Flaw}
use Rattle.fields.specs.declared.Sheet.{Sheet}
use Rattle.fields.specs.Reading.{Scan, At, Refused, start, Reader, ◌>>=◌, times}
use Rattle.fields.specs.Inside.Promises.{Takes, Reads, Opens}
use Rattle.fields.proofs.Laws.{times_value, times_scan}

-- A reader that leaves a refused scan as it is.
abbrev pub Keeps : {A : Type 0} → Reader A → Type 0
Keeps r = (f : Fault) (p : ℕ) → (r (Refused f p)).1 ≡ Refused f p

module _ {A B : Type 0} where
  pub keeps_then : (r : Reader A) (rest : A → Reader B) → Keeps r → ((a : A) → Keeps (rest a)) → Keeps (r >>= rest)
  keeps_then r rest h g f p = ap (λ (c : Scan). (rest (r (Refused f p)).0 c).1) (h f p) ∙ g (r (Refused f p)).0 f p

-- What `?` hands on is the error that was found.
pub passed : {B E : Type 0} {e : E} (P : Result B E → Type 0) (r : Result B E) → IsErrAnd r (λ y. y ≡ e) → P (Err e) → P r
passed P r is h = let p = err_from_is_err_and r is in rw (p.1, p.2) h

-- And of a reader of a sheet, the flaw.
pub stopped : {A B : Type 0} {old new : Sheet} {reads : List ℕ → Reader A} {Holds : A → B → Type 0} {bits : ℕ} {e : Flaw} (r : Result B Flaw) →
    IsErrAnd r (λ y. y ≡ e) → Reads old new reads Holds bits (Err e) → Reads old new reads Holds bits r
stopped {A} {B} {old} {new} {reads} {Holds} {bits} r is h = let p = err_from_is_err_and r is in rw (p.1, p.2) h

-- What was read in the same bytes.
pub on_same : {A B : Type 0} {mid new : Sheet} {reads : List ℕ → Reader A} {Holds : A → B → Type 0} {bits : ℕ} {r : Result B Flaw} (s : List ℕ) → mid.bytes.now ≡ s →
    Reads mid new reads Holds bits r → Takes Holds (reads s (At mid.at)) (place_of mid.at + bits) new.at r
on_same {mid = mid} {new} {reads} {Holds} {bits} {r} s e h = subst (λ (t : List ℕ). Takes Holds (reads t (At mid.at)) (place_of mid.at + bits) new.at r) e h.takes

-- What was read of a whole sheet, from its first bit on.
pub from_start : {A B : Type 0} {sheet new : Sheet} {reads : List ℕ → Reader A} {Holds : A → B → Type 0} {bits : ℕ} {r : Result B Flaw} (s : List ℕ) → Opens s sheet →
    Reads sheet new reads Holds bits r → Takes Holds (reads s start) bits new.at r
from_start {sheet = sheet} {new} {reads} {Holds} {bits} {r} s o h =
    subst (λ (t : List ℕ). Takes Holds (reads t start) bits new.at r) o.bytes_are
    (subst (λ (c : Cursor). Takes Holds (reads sheet.bytes.now (At c)) bits new.at r) o.at_start (rw (o.place, zero-add) at h.takes))

-- One reader, and then another that may look at what was read.
module _ {A B C : Type 0} (first : List ℕ → Reader A) (rest : List ℕ → A → Reader B) {One : A → C → Type 0} {some : ℕ} {old mid : Sheet} where
  pub first_stops : {D : Type 0} {Holds : B → D → Type 0} {bits : ℕ} {e : Flaw} → Reads old mid first One some (Err e) → some ≤ bits →
      ((s : List ℕ) (a : A) → Keeps (rest s a)) → Reads old mid (λ s. first s >>= rest s) Holds bits (Err e)
  first_stops {e = e} h l keeps =
      let s = old.bytes.now in
      let x = first s (At old.at) in
      record { same = h.same; takes = record { says = ap (λ (c : Scan). (rest s x.0 c).1) h.takes.says ∙ keeps s x.0 e.fault e.place; near = omega (arith, h.takes.near) } }

  pub then_reads : {D : Type 0} {Holds : B → D → Type 0} {more bits : ℕ} {new : Sheet} {c : C} (r : Result D Flaw) → Reads old mid first One some (Ok c) →
      Reads mid new (λ s. rest s (first old.bytes.now (At old.at)).0) Holds more r → some + more ≤ bits → Reads old new (λ s. first s >>= rest s) Holds bits r
  then_reads {D} {Holds} {more} {bits} {new} r h g l = record { same = g.same ∙ h.same; takes = whole r g.takes }
    where
      x : A × Scan
      x = first old.bytes.now (At old.at)

      next : B × Scan
      next = rest mid.bytes.now x.0 (At mid.at)

      next_is : rest old.bytes.now x.0 x.1 ≡ next
      next_is = ap (rest old.bytes.now x.0) h.takes.at ∙ ap (λ (s : List ℕ). rest s x.0 (At mid.at)) (sym h.same)

      whole : (r : Result D Flaw) → Takes Holds next (place_of mid.at + more) new.at r → Takes Holds (rest old.bytes.now x.0 x.1) (place_of old.at + bits) new.at r
      whole (Ok d) t = rw next_is (record { at = t.at; holds = t.holds; near = omega (arith, h.takes.near, t.near) })
      whole (Err e) t = rw next_is (record { says = t.says; near = omega (arith, h.takes.near, t.near) })

-- The first refusal of a loop is what the whole loop reads.
pub times_refused : {A : Type 0} (r : List A → Reader A) (c : Scan) (n k : ℕ) {f : Fault} {p : ℕ} → ((xs : List A) → Keeps (r xs)) → k ≤ n →
    (times k r c).1 ≡ Refused f p → (times n r c).1 ≡ Refused f p
unfolding times
times_refused r c zero k {f} {p} keeps l e = let z : k ≡ 0 = omega arith in rw z at e
times_refused r c (suc n) k {f} {p} keeps l e =
    ⊎_elim (λ q. rw q at e) (λ q. let before = times_refused r c n k keeps (le_of_suc-le-suc q) e in rw before (keeps (times n r c).0 f p)) (eq-or-lt_of_le l)

pub keeps_times : {A : Type 0} (r : List A → Reader A) → ((xs : List A) → Keeps (r xs)) → (n : ℕ) → Keeps (times n r)
unfolding times
keeps_times r keeps n f p = times_refused r (Refused f p) n 0 keeps (omega arith) (λ i. Refused f p)

-- After k turns of a loop: what the next reads stands at the end, or stops the loop.
module _ {A B : Type 0} (r : List ℕ → List A → Reader A) (k : ℕ) {old mid : Sheet} {bits : ℕ} {Holds : List A → B → Type 0} {b : B}
    (so : Reads old mid (λ s. times k (r s)) Holds bits (Ok b)) where
  abbrev next : A × Scan
  next = r mid.bytes.now (times k (r old.bytes.now) (At old.at)).0 (At mid.at)

  next_is : r old.bytes.now (times k (r old.bytes.now) (At old.at)).0 (times k (r old.bytes.now) (At old.at)).1 ≡ next
  next_is =
      let xs = (times k (r old.bytes.now) (At old.at)).0 in
      ap (r old.bytes.now xs) so.takes.at ∙ ap (λ (s : List ℕ). r s xs (At mid.at)) (sym so.same)

  module _ {C D : Type 0} {new : Sheet} {more top : ℕ} {One : A → C → Type 0} {All : List A → D → Type 0} where
    pub one_more : {d : D} {c : C} → Reads mid new (λ s. r s (times k (r old.bytes.now) (At old.at)).0) One more (Ok c) → bits + more ≤ top →
        ((xs : List A) (x : A) → Holds xs b → One x c → All (xs ++ (x ∷ [])) d) → Reads old new (λ s. times (k + 1) (r s)) All top (Ok d)
    one_more {d} {c} h l all = record {
      same = h.same ∙ so.same;
      takes = record {
        at = times_scan k (r old.bytes.now) (At old.at) ∙ ap (λ (y : A × Scan). y.1) next_is ∙ h.takes.at;
        holds = rw (times_value k (r old.bytes.now) (At old.at), next_is) (all (times k (r old.bytes.now) (At old.at)).0 next.0 so.takes.holds h.takes.holds);
        near = omega (arith, so.takes.near, h.takes.near);
      };
    }

    pub one_stops : {n : ℕ} {e : Flaw} → Reads mid new (λ s. r s (times k (r old.bytes.now) (At old.at)).0) One more (Err e) → k < n → bits + more ≤ top →
        ((s : List ℕ) (xs : List A) → Keeps (r s xs)) → Reads old new (λ s. times n (r s)) All top (Err e)
    one_stops {n} {e} h l m keeps = record {
      same = h.same ∙ so.same;
      takes = record {
        says = times_refused (r old.bytes.now) (At old.at) n (k + 1) (keeps old.bytes.now) (omega arith)
            (times_scan k (r old.bytes.now) (At old.at) ∙ ap (λ (y : A × Scan). y.1) next_is ∙ h.takes.says);
        near = omega (arith, so.takes.near, h.takes.near);
      };
    }

-- No turn.
pub none_yet : {A B : Type 0} (r : List ℕ → List A → Reader A) (sheet : Sheet) {Holds : List A → B → Type 0} {b : B} → Holds [] b → Reads sheet sheet (λ s. times 0 (r s)) Holds 0 (Ok b)
unfolding times
none_yet r sheet h = record { same = λ i. sheet.bytes.now; takes = record { at = λ i. At sheet.at; holds = h; near = omega arith } }
