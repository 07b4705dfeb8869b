-- What the judge's answers are worth: when each is said.
use Prim.Native.Nat.{ℕ, suc, ◌+◌, ◌-◌, ◌*◌, ◌≤◌, ◌<◌}
use mathlib.Core.Path.{◌≡◌, refl, sym, ap, subst, ◌∙◌}
use mathlib.Core.Bool.{true, false, false≢true}
use mathlib.Core.List.Memᴰ
use mathlib.Core.List.{List, [], ◌∷◌, Memᴰ}
use native.Mathlib.Nat.{zero-add, add-suc, suc-add, add-zero}
use native.Mathlib.Omega.{arith}
use lib.ListN.{length, get_or, take, drop, take-append-drop}
use lib.Seq.{take-add}
use borrow.Table.Steps.{cases}
use borrow.Author.Tests.{eqb-true, eq-eqb}
use Rattle.bits.specs.Bits.{bit_at, value_at, ends_at}
use Rattle.fields.specs.Reading.{At, Refused}
use Rattle.fields.specs.Reading.{start, Live}
use Rattle.fields.specs.Answer.{Answer, refused, refused_in, success, said, ◌>>=◌, on_success}
use Rattle.sheets_rules.specs.Model.{Library, Pattern, patterns}
use Rattle.sheets_rules.specs.Inside.Sound.{SoundLibrary}
use Rattle.sheets_rules.specs.LibrarySheet.{library}
use Rattle.sheets_rules.specs.Report.{LibraryCounts, library_number, counts_of, library_report, library_said}
use Rattle.sheets_rules.proofs.Patterns.{SoundPattern, sound_pattern}
use Rattle.sheets_rules.proofs.Sound.{library_limits}
use Rattle.sheets_rules.proofs.Report.{number_bounds}
use Rattle.functions_rules.specs.Function.{settings, value, bit_of, computes}
use Rattle.functions_rules.specs.FunctionSheet.{pin_counts, function_sheet}
use Rattle.functions_rules.specs.Report.{other_number, torn_number, tail_number, is_right, drawings_judged, functions_number, functions_judged, sheet_judged, functions_report}
use Rattle.functions_rules.specs.Demands.{first_bit, Right, Other, SheetSound, FirstOther, Torn, BadTail, library_of, LibrarySound, FunctionDemands}
use Rattle.functions_rules.proofs.Words.{bit_read}
use Rattle.functions_rules.proofs.Every.{every_each, every_some}
use Rattle.functions_rules.proofs.Pins.{pattern_pins, count_pins}
use Rattle.functions_rules.proofs.Places.{first_mono, values_are, sound_at, tail_at, torn_at, ends, ends_whole}

-- ---- the drawings

module _ (fs : List ℕ) (l : Library) (sound : SoundLibrary l) (whole : SheetSound fs l) where
  abbrev pins : List ℕ
  pins = pin_counts l

  abbrev functions : List ℕ
  functions = (function_sheet fs pins start).0

  module _ {p : Pattern} (known : SoundPattern l p) where
    n : ℕ
    n = settings (length p.cell.pins)

    -- The field of a pattern's cell, by the bits of the sheet.
    field_bit : (k : ℕ) → k < n → bit_of n (get_or functions p.cell_number 0) k ≡ bit_at fs (first_bit pins p.cell_number + k)
    unfolding n function_sheet
    field_bit k h =
        let few : p.cell_number < length pins = omega (arith, count_pins l, known.number_small) in
        let room = first_mono fs pins (suc p.cell_number) (length pins) (omega arith) in
        let v = values_are fs pins (length pins) p.cell_number few (omega (arith, ends_whole fs pins whole)) in
        ap (λ (x : ℕ). bit_of n x k) (v ∙ ap (λ (m : ℕ). value_at fs (first_bit pins p.cell_number) (settings m)) (pattern_pins known)) ∙ bit_read fs (first_bit pins p.cell_number) n k h

    right_is : is_right functions p ≡ true → Right fs l p
    unfolding n is_right computes
    right_is e k h = eqb-true (value k p.drawing) (bit_of n (get_or functions p.cell_number 0) k) (every_each n _ e k h) ∙ field_bit k h

    other_is : is_right functions p ≡ false → Other fs l p
    unfolding n is_right computes
    other_is e =
        let s = every_some n _ e in
        (s.0, s.1, λ q. false≢true (sym s.2 ∙ eq-eqb (value s.0 p.drawing) (bit_of n (get_or functions p.cell_number 0) s.0) (q ∙ sym (field_bit s.0 s.1))))

  also : (P : Pattern → Type 0) {p : Pattern} {ps : List Pattern} → P p → ((q : Pattern) → Memᴰ q ps → P q) → (q : Pattern) → Memᴰ q (p ∷ ps) → P q
  also P r h q (Memᴰ.head e) = subst P (sym e) r
  also P r h q (Memᴰ.tail m) = h q m

  -- What is said of the patterns from number i on.
  data Judges (i : ℕ) (ps : List Pattern) : Answer LibraryCounts → Type 0 where
    all_right : ((p : Pattern) → Memᴰ p ps → Right fs l p) → Judges i ps (success (counts_of l))
    first_other : (k : ℕ) (p : Pattern) (later : List Pattern) → drop k ps ≡ p ∷ later → Other fs l p → ((q : Pattern) → Memᴰ q (take k ps) → Right fs l q) → Judges i ps (refused other_number (i + k))

  more : {i : ℕ} {p : Pattern} {ps : List Pattern} {o : Answer LibraryCounts} → Right fs l p → Judges (suc i) ps o → Judges i (p ∷ ps) o
  more r (all_right h) = all_right (also (Right fs l) r h)
  more {i} {p} {ps} r (first_other k q later e o h) = rw (suc-add, ← add-suc) (first_other (suc k) q later e o (also (Right fs l) r h))

  judges : (i : ℕ) (ps : List Pattern) → ((p : Pattern) → Memᴰ p ps → SoundPattern l p) → Judges i ps (drawings_judged functions (counts_of l) i ps)
  unfolding drawings_judged
  judges i [] known = all_right (λ p m. absurd (Memᴰ.not-nil m))
  judges i (p ∷ ps) known =
      let here = known p (Memᴰ.head refl) in
      cases (is_right functions p) (λ e. rw e (more (right_is here e) (judges (suc i) ps (λ q m. known q (Memᴰ.tail m))))) (λ e.
      rw e (subst (λ (k : ℕ). Judges i (p ∷ ps) (refused other_number k)) (add-zero i) (first_other 0 p ps refl (other_is here e) (λ q m. absurd (Memᴰ.not-nil m)))))

-- ---- the cases

-- An element of a list stands in every longer part of its front.
mem_drop : {A : Type 0} {x : A} {later : List A} (xs : List A) (j : ℕ) → drop j xs ≡ x ∷ later → Memᴰ x xs
mem_drop {x = x} xs j e = subst (Memᴰ x) (take-append-drop j xs) (Memᴰ.append_right (take j xs) (rw e (Memᴰ.head refl)))

mem_take : {A : Type 0} {x : A} {later : List A} (xs : List A) (j k : ℕ) → drop j xs ≡ x ∷ later → j < k → Memᴰ x (take k xs)
mem_take xs j k e h = let long : k ≡ j + suc (k - suc j) = omega arith in rw (long, take-add, e) (Memᴰ.append_right (take j xs) (Memᴰ.head refl))

module _ (ls fs : List ℕ) where
  abbrev l : Library
  l = library_of ls

  abbrev AllRight : Type 0
  AllRight = (p : Pattern) → Memᴰ p (patterns l) → Right fs l p

  data Case : Answer LibraryCounts → Type 0 where
    unsound : (number k : ℕ) → 1 ≤ number → number ≤ 6 → (LibrarySound ls → ⊥) → Case (refused number k)
    torn : (k : ℕ) → LibrarySound ls → Torn fs l k → Case (refused torn_number k)
    tail : (k : ℕ) → LibrarySound ls → BadTail fs l k → Case (refused tail_number k)
    other : (k : ℕ) → LibrarySound ls → SheetSound fs l → FirstOther fs l k → Case (refused other_number k)
    right : LibrarySound ls → SheetSound fs l → AllRight → Case (success (counts_of l))

  -- The sheet and the drawings, for a sound library.
  sheet_case : LibrarySound ls → Case (sheet_judged fs l)
  unfolding functions_judged functions_number library_number
  sheet_case live =
      let sound = library_limits ls live in
      elim (ends fs (pin_counts l)) as (λ q x. Case (functions_judged l ((function_sheet fs (pin_counts l) start).0, q))) [
        | sound_at c e ↦ elim (judges fs l sound e 0 (patterns l) (λ p m. sound_pattern l sound m)) as (λ o x. Case o)
            [ all_right h ↦ right live e h | first_other k p later there o h ↦ rw zero-add (other k live e (record { pattern = p; later = later; there = there; other = o; right_before = h })) ]
        | tail_at h e ↦ tail (first_bit (pin_counts l) (length (pin_counts l))) live (record { first = refl; whole = h; bad = e })
        | torn_at m h a b ↦ torn (first_bit (pin_counts l) m) live (record { cell = m; inside = h; first = refl; whole_before = a; torn = b })
      ]

  case : Case (functions_report ls fs)
  unfolding functions_report library_said ◌>>=◌
  case = (elim (library ls start).1 as (λ q. (library ls start).1 ≡ q → Case (said library_number (l, q) >>= sheet_judged fs))
      [ At c ↦ λ e. sheet_case (subst Live (sym e) tt) | Refused f p ↦ λ e. unsound (library_number f) p (number_bounds f).0 (number_bounds f).1 (λ h. subst Live e h) ]) refl

  -- ---- they exclude each other

  abbrev room : ℕ
  room = 8 * length fs

  abbrev last : ℕ
  last = first_bit (pin_counts l) (length (pin_counts l))

  -- A sheet with a torn field has no room for all of them.
  torn_short : {k : ℕ} → Torn fs l k → room < last
  torn_short t = omega (arith, t.torn, first_mono fs (pin_counts l) (suc t.cell) (length (pin_counts l)) t.inside)

  -- A field before one that has its first bit is whole.
  torn_before : {i k : ℕ} (a : Torn fs l i) (b : Torn fs l k) → a.cell < b.cell → ⊥
  torn_before a b h = omega (arith, a.torn, b.first, b.whole_before, first_mono fs (pin_counts l) (suc a.cell) b.cell h)

  torn_once : {j k : ℕ} → Torn fs l j → Torn fs l k → j ≡ k
  torn_once s t =
      let same : s.cell ≡ t.cell = omega (arith, torn_before s t, torn_before t s) in
      s.first ∙ ap (first_bit (pin_counts l)) same ∙ sym t.first

  tail_unsound : {k : ℕ} → BadTail fs l k → SheetSound fs l → ⊥
  tail_unsound b s = false≢true (sym b.bad ∙ ap (ends_at fs) b.first ∙ s)

  right_not_other : (p : Pattern) → Right fs l p → Other fs l p → ⊥
  right_not_other p r o = o.2 (r o.0 o.1)

  other_before : {j k : ℕ} (x : FirstOther fs l j) → FirstOther fs l k → j < k → ⊥
  other_before {j} {k} x y h = right_not_other x.pattern (y.right_before x.pattern (mem_take (patterns l) j k x.there h)) x.other

  -- Where all are right none is the first that is not.
  none_other : {k : ℕ} → AllRight → FirstOther fs l k → ⊥
  none_other {k} h o = right_not_other o.pattern (h o.pattern (mem_drop (patterns l) k o.there)) o.other

  -- ---- from an answer to its case, and back

  -- A refusal has a number above 0, and a library's is below those of a function sheet.
  abbrev number_of : Answer LibraryCounts → ℕ
  number_of (refused_in i n k) = n
  number_of (success c) = 0

  worth : {a : Answer LibraryCounts} → Case a → ((LibrarySound ls → ⊥) → a ≡ library_report ls) → FunctionDemands ls fs a
  worth (unsound n j some few bad) first = record {
    library_first = first;
    accepted_exactly = λ c. (λ e. absurd (omega (arith, ap number_of e)), λ h. absurd (bad h.0));
    other_exactly = λ k. (λ e. absurd (omega (arith, ap number_of e)), λ h. absurd (bad h.0));
    torn_exactly = λ k. (λ e. absurd (omega (arith, ap number_of e)), λ h. absurd (bad h.0));
    tail_exactly = λ k. (λ e. absurd (omega (arith, ap number_of e)), λ h. absurd (bad h.0));
  }
  worth (torn j live t) first = record {
    library_first = first;
    accepted_exactly = λ c. (λ e. absurd (omega (arith, ap number_of e)), λ h. absurd (omega (arith, ends_whole fs (pin_counts l) h.1, torn_short t)));
    other_exactly = λ k. (λ e. absurd (omega (arith, ap number_of e)), λ h. absurd (omega (arith, ends_whole fs (pin_counts l) h.1, torn_short t)));
    torn_exactly = λ k. (λ e. let same : j ≡ k = cc in (live, rw same at t), λ h. ap (refused torn_number) (torn_once t h.1));
    tail_exactly = λ k. (λ e. absurd (omega (arith, ap number_of e)), λ h. absurd (omega (arith, h.1.first, h.1.whole, torn_short t)));
  }
  worth (tail j live t) first = record {
    library_first = first;
    accepted_exactly = λ c. (λ e. absurd (omega (arith, ap number_of e)), λ h. absurd (tail_unsound t h.1));
    other_exactly = λ k. (λ e. absurd (omega (arith, ap number_of e)), λ h. absurd (tail_unsound t h.1));
    torn_exactly = λ k. (λ e. absurd (omega (arith, ap number_of e)), λ h. absurd (omega (arith, t.first, t.whole, torn_short h.1)));
    tail_exactly = λ k. (λ e. let same : j ≡ k = cc in (live, rw same at t), λ h. ap (refused tail_number) (t.first ∙ sym h.1.first));
  }
  worth (other j live s t) first = record {
    library_first = first;
    accepted_exactly = λ c. (λ e. absurd (omega (arith, ap number_of e)), λ h. absurd (none_other h.2 t));
    other_exactly = λ k. (λ e. let same : j ≡ k = cc in (live, s, rw same at t), λ h. ap (refused other_number) (omega (arith, other_before t h.2, other_before h.2 t)));
    torn_exactly = λ k. (λ e. absurd (omega (arith, ap number_of e)), λ h. absurd (omega (arith, ends_whole fs (pin_counts l) s, torn_short h.1)));
    tail_exactly = λ k. (λ e. absurd (omega (arith, ap number_of e)), λ h. absurd (tail_unsound h.1 s));
  }
  worth (right live s t) first = record {
    library_first = first;
    accepted_exactly = λ c. (λ e. (live, s, t, sym (cc)), λ h. ap success (sym h.3));
    other_exactly = λ k. (λ e. absurd (omega (arith, ap number_of e)), λ h. absurd (none_other t h.2));
    torn_exactly = λ k. (λ e. absurd (omega (arith, ap number_of e)), λ h. absurd (omega (arith, ends_whole fs (pin_counts l) s, torn_short h.1)));
    tail_exactly = λ k. (λ e. absurd (omega (arith, ap number_of e)), λ h. absurd (tail_unsound h.1 s));
  }

  -- A library that its own judge refuses.
  library_said_lem : (LibrarySound ls → ⊥) → functions_report ls fs ≡ library_report ls
  unfolding functions_report library_report library_said ◌>>=◌
  library_said_lem = elim (library ls start).1 as (λ q. (Live q → ⊥) → (said library_number (l, q) >>= sheet_judged fs) ≡ on_success counts_of (said library_number (l, q)))
      [ At c ↦ λ h. absurd (h tt) | Refused f p ↦ λ h. refl ]

  pub demands : FunctionDemands ls fs (functions_report ls fs)
  demands = worth case library_said_lem
