-- Laws about fields written one after another, matches appended, and a cover read.
use Prim.Native.Nat.{ℕ, zero, suc, ◌+◌, ◌-◌, ◌*◌, ◌/◌, ◌%◌, ◌^◌, ◌≤◌, ◌<◌}
use mathlib.Core.Path.{◌≡◌, refl, sym, ap, ap₂, subst, ◌∙◌}
use mathlib.Core.List.{List, [], ◌∷◌, ◌++◌, map, map-append, append-nil, append_assoc, reverse, reverse-append}
use native.Mathlib.Nat.{add-zero, zero-add, add_assoc}
use native.Mathlib.Omega.{arith}
use native.Mathlib.Numerals.{add-one}
use lib.ListN.{length, take, drop, get_or, set, replicate, replicate-append-replicate, length-replicate, length-reverse, length-map, length-append, get_or-append, length-take}
use lib.Seq.{sets, set-append_left, set-append_seam, get_or-append_seam, take-suc, take_all, drop-cons, length-take-le}
use Rattle.std.proofs.lemmas.List.{get_or-take, drop_all, take-replicate, take_at}
use borrow.Table.Steps.{cases}
use mathlib.Core.Bool.{Bool}
use Rattle.bits.specs.Bits.{place_of, cursor_at, ends_at, after, with_digit, with_bit, with_field, bytes_to}
use Rattle.bits.proofs.Laws.{place_at, length_bit, length_field}
use Rattle.std.specs.Prelude.{Result, Ok, Err, IsErrAnd}
use Rattle.std.proofs.lemmas.Result.{err_from_is_err_and}
use Rattle.bits.specs.declared.Cursor.{Cursor}
use Rattle.fields.specs.declared.Fault.{Fault}
use Rattle.fields.specs.declared.Sheet.{Sheet}
use Rattle.fields.specs.declared.Flaw.{Flaw}
use Rattle.fields.specs.Reading.{Scan, At, Refused, Live, Reader, place, start, times, free, field, tailed, ended}
use Rattle.fields.specs.Inside.Promises.{Took, Flawed, UpTo, Opens, Closes}
use Rattle.fields.proofs.Lists.{sets_append, take_sets, at_map}
use Rattle.fields.proofs.Laws.{field_ways, length_times, times_more}
use Rattle.covers.specs.Cover.{Point, Placed, Cover}
use Rattle.fields.specs.Written.{Field, widths, written, packed}
use Rattle.fields.proofs.Written.{length_packed}
use Rattle.covers.specs.CoverSheet.{area_width, arrival_width, match_count_width, node_width, pattern_width, crossing_width, placed_fields, cover_fields, point_fields, list_fields, cover_sheet, list_sheet, placed_read, cover_read, CoverReads}
use Rattle.covers.proofs.SheetLengths.{cover_sheet_length, list_sheet_length, cover_sheet_fits}
use Rattle.covers.specs.Inside.Curve.{base, point_of}
use Rattle.result_sheets.specs.declared.MatchRecord.{MatchRecord}
use Rattle.result_sheets.specs.declared.CoverRecord.{CoverRecord}
use Rattle.result_sheets.specs.declared.FlawedCover.{FlawedCover}
use Rattle.result_sheets.specs.Public.{placed_of, record_of, no_match, bare_cover, appended, cover_of, cover_bits, Written, CoverHolds, CoverTold, CoverIs}
use Rattle.result_sheets.specs.Inside.Promises.{points_of, scan_after, Puts}
use Rattle.covers.specs.Outcome.{map_bytes}

-- ---- what is written at the front keeps what stands behind

bit_front : (xs ys : List ℕ) (i b : ℕ) → i < 8 * length xs → with_bit (xs ++ ys) i b ≡ with_bit xs i b ++ ys
unfolding with_bit
bit_front xs ys i b h =
    let at : i / 8 < length xs = omega arith in
    ap (λ (x : ℕ). set (xs ++ ys) (i / 8) (with_digit x (after i) b)) (get_or-append xs ys 0 (i / 8) at)
    ∙ set-append_left xs ys (i / 8) (with_digit (get_or xs (i / 8) 0) (after i) b) at

field_front : (xs ys : List ℕ) (i w v : ℕ) → i + w ≤ 8 * length xs → with_field (xs ++ ys) i w v ≡ with_field xs i w v ++ ys
unfolding with_field
field_front xs ys i zero v h = refl
field_front xs ys i (suc w) v h =
    ap (λ (s : List ℕ). with_field s i w (v / 2)) (bit_front xs ys (i + w) (v % 2) (omega arith))
    ∙ field_front (with_bit xs (i + w) (v % 2)) ys i w (v / 2) (omega (arith, length_bit xs (i + w) (v % 2)))

fields_front : (fs : List Field) (i : ℕ) (xs ys : List ℕ) → i + widths fs ≤ 8 * length xs → written fs i (xs ++ ys) ≡ written fs i xs ++ ys
unfolding written widths
fields_front [] i xs ys h = refl
fields_front (f ∷ fs) i xs ys h =
    ap (written fs (i + f.width)) (field_front xs ys i f.width f.value (omega arith))
    ∙ fields_front fs (i + f.width) (with_field xs i f.width f.value) ys (omega (arith, length_field xs i f.width f.value))

-- Fields written into a front that was cleared are their sheet.
sheet_written : (fs : List Field) (entry exit : List ℕ) (n : ℕ) → n ≡ length (packed fs) → exit ≡ written fs 0 (replicate n 0 ++ drop n entry) → Written (packed fs) entry exit n
unfolding packed bytes_to
sheet_written fs entry exit n en ex =
    let zeros : List ℕ = replicate n 0 in
    let is : n ≡ (widths fs + 7) / 8 = en ∙ length_packed fs in
    record {
      bytes = en;
      output =
          ex
          ∙ fields_front fs 0 zeros (drop n entry) (omega (arith, length-replicate {A = ℕ} n 0))
          ∙ ap₂ (λ (m : ℕ) (k : ℕ). written fs 0 (replicate m 0) ++ drop k entry) is en;
    }

-- ---- fields put one after another

-- One field more: the length is kept.
field_put : (f : Field) (fs : List Field) (i : ℕ) (s s₁ : List ℕ) → s₁ ≡ with_field s i f.width f.value →
    (length s₁ ≡ length s) × (written fs (i + f.width) s₁ ≡ written (f ∷ fs) i s)
unfolding written
field_put f fs i s s₁ e = (ap length e ∙ length_field s i f.width f.value, ap (written fs (i + f.width)) e)

-- ---- the cover sheet

-- The fields of the matches from k on.
abbrev pub matches_from : ℕ → List MatchRecord → List Field
matches_from k ms = placed_fields (map placed_of (drop k ms))

module _ (ms : List MatchRecord) (k : ℕ) (d : MatchRecord) (here : k < length ms) where
  match_fields : matches_from k ms
      ≡ record { value = (get_or ms k d).node; width = 6 } ∷ record { value = (get_or ms k d).pattern; width = 7 } ∷ record { value = (get_or ms k d).crossing; width = 5 } ∷ matches_from (suc k) ms
  unfolding placed_fields
  match_fields = rw (drop-cons ms k d)

  pub match_turn : (i : ℕ) (s s₁ s₂ s₃ : List ℕ) {a b c : ℕ} → a ≡ (get_or ms k d).node → b ≡ (get_or ms k d).pattern → c ≡ (get_or ms k d).crossing →
      s₁ ≡ with_field s i 6 a → s₂ ≡ with_field s₁ (i + 6) 7 b → s₃ ≡ with_field s₂ (i + 6 + 7) 5 c →
      (length s₃ ≡ length s) × (written (matches_from (k + 1) ms) (i + 6 + 7 + 5) s₃ ≡ written (matches_from k ms) i s)
  match_turn i s s₁ s₂ s₃ n p x e₁ e₂ e₃ =
      let m = get_or ms k d in
      let pattern : Field = record { value = m.pattern; width = 7 } in
      let crossing : Field = record { value = m.crossing; width = 5 } in
      let rest = matches_from (suc k) ms in
      let one = field_put (record { value = m.node; width = 6 }) (pattern ∷ crossing ∷ rest) i s s₁ (e₁ ∙ ap (with_field s i 6) n) in
      let two = field_put pattern (crossing ∷ rest) (i + 6) s₁ s₂ (e₂ ∙ ap (with_field s₁ (i + 6) 7) p) in
      let three = field_put crossing rest (i + 6 + 7) s₂ s₃ (e₃ ∙ ap (with_field s₂ (i + 6 + 7) 5) x) in
      (three.0 ∙ two.0 ∙ one.0, ap (λ (j : ℕ). written (matches_from j ms) (i + 6 + 7 + 5) s₃) (add-one k) ∙ three.1 ∙ two.1 ∙ one.1 ∙ ap (λ (fs : List Field). written fs i s) (sym match_fields))

-- None is left.
pub matches_done : (ms : List MatchRecord) (k i : ℕ) (s : List ℕ) → length ms ≤ k → s ≡ written (matches_from k ms) i s
unfolding written placed_fields
matches_done ms k i s h = rw (drop_all k ms h)

-- The array of a cover's record has room for its matches.
abbrev pub Room : CoverRecord → Type 0
Room r = r.count ≤ length r.matches

pub placed_at : (r : CoverRecord) (k : ℕ) (d : MatchRecord) (e : Placed) → Room r → k < r.count → get_or (cover_of r).placed k e ≡ placed_of (get_or r.matches k d)
placed_at r k d e room h =
    at_map placed_of (take r.count r.matches) k d e (omega (arith, length-take-le r.count r.matches room)) ∙ ap placed_of (get_or-take r.count r.matches k d h)

module _ (r : CoverRecord) (room : Room r) where
  pub many : length (cover_of r).placed ≡ r.count
  many = length-map (take r.count r.matches) placed_of ∙ length-take-le r.count r.matches room

  -- The first three fields, then the matches.
  pub cover_written : (n : ℕ) (entry s₀ s₁ s₂ s₃ exit : List ℕ) → n ≡ (52 + 18 * r.count + 7) / 8 →
      s₀ ≡ replicate n 0 ++ drop n entry → s₁ ≡ with_field s₀ 0 22 r.area → s₂ ≡ with_field s₁ 22 24 r.arrival → s₃ ≡ with_field s₂ 46 6 r.count →
      exit ≡ written (placed_fields (cover_of r).placed) 52 s₃ → Written (cover_sheet (cover_of r)) entry exit n
  unfolding cover_sheet cover_fields
  cover_written n entry s₀ s₁ s₂ s₃ exit en e₀ e₁ e₂ e₃ e =
      let c = cover_of r in
      let xs = c.placed in
      let matches : Field = record { value = length xs; width = 6 } in
      let late : Field = record { value = r.arrival; width = 24 } in
      let long = cover_sheet_length c ∙ ap (λ (k : ℕ). (52 + 18 * k + 7) / 8) many in
      sheet_written (cover_fields c) entry exit n (en ∙ sym long)
      (e
      ∙ (field_put matches (placed_fields xs) 46 s₂ s₃ (e₃ ∙ ap (with_field s₂ 46 6) (sym many))).1
      ∙ (field_put late (matches ∷ placed_fields xs) 22 s₁ s₂ e₂).1
      ∙ (field_put (record { value = r.area; width = 22 }) (late ∷ matches ∷ placed_fields xs) 0 s₀ s₁ e₁).1
      ∙ ap (written (cover_fields c) 0) e₀)

-- ---- the list sheet

-- The fields of the points of the first k words, the last word's first.
abbrev pub points_to : ℕ → List ℕ → List Field
points_to k ws = point_fields (reverse (map point_of (take k ws)))

point_fields_lem : (ws : List ℕ) (k : ℕ) → k < length ws →
    points_to (suc k) ws ≡ record { value = get_or ws k 0 % base; width = 24 } ∷ record { value = get_or ws k 0 / base; width = 22 } ∷ points_to k ws
unfolding point_fields point_of
point_fields_lem ws k h =
    ap (λ (l : List ℕ). point_fields (reverse (map point_of l))) (take-suc ws k 0 h)
    ∙ ap (λ (l : List Point). point_fields (reverse l)) (map-append point_of (take k ws) (get_or ws k 0 ∷ []))
    ∙ ap point_fields (reverse-append (map point_of (take k ws)) (point_of (get_or ws k 0) ∷ []))

pub point_turn : (ws : List ℕ) (k : ℕ) → k < length ws → (i : ℕ) (s s₁ s₂ : List ℕ) → s₁ ≡ with_field s i 24 (get_or ws k 0 % base) → s₂ ≡ with_field s₁ (i + 24) 22 (get_or ws k 0 / base) →
    (length s₂ ≡ length s) × (written (points_to k ws) (i + 24 + 22) s₂ ≡ written (points_to (suc k) ws) i s)
point_turn ws k h i s s₁ s₂ e₁ e₂ =
    let late : Field = record { value = get_or ws k 0 % base; width = 24 } in
    let large : Field = record { value = get_or ws k 0 / base; width = 22 } in
    let one = field_put late (large ∷ points_to k ws) i s s₁ e₁ in
    let two = field_put large (points_to k ws) (i + 24) s₁ s₂ e₂ in
    (two.0 ∙ one.0, two.1 ∙ one.1 ∙ ap (λ (fs : List Field). written fs i s) (sym (point_fields_lem ws k h)))

-- None is left.
pub points_done : (ws : List ℕ) (k i : ℕ) (s t : List ℕ) → k ≡ 0 → written (points_to k ws) i s ≡ written (points_to (length ws) ws) 5 t → s ≡ written (point_fields (reverse (map point_of ws))) 5 t
unfolding written point_fields
points_done ws k i s t e h = ap (λ (j : ℕ). written (points_to j ws) i s) (sym e) ∙ h ∙ ap (λ (l : List ℕ). written (point_fields (reverse (map point_of l))) 5 t) (take_all (length ws) ws (omega arith))

pub points_length : (count : ℕ) (ws : List ℕ) → count ≤ length ws → length (points_of count ws) ≡ count
unfolding points_of
points_length count ws h = length-reverse (map point_of (take count ws)) ∙ length-map (take count ws) point_of ∙ length-take-le count ws h

-- The count, then the points.
pub list_written : (ws : List ℕ) (count n : ℕ) (entry s₀ s₁ exit : List ℕ) → count ≤ length ws → n ≡ (5 + 46 * count + 7) / 8 →
    s₀ ≡ replicate n 0 ++ drop n entry → s₁ ≡ with_field s₀ 0 5 count → exit ≡ written (points_to count ws) 5 s₁ → Written (list_sheet (points_of count ws)) entry exit n
unfolding list_sheet list_fields points_of
list_written ws count n entry s₀ s₁ exit h en e₀ e₁ e =
    let ps = points_of count ws in
    let many = points_length count ws h in
    let long = list_sheet_length ps ∙ ap (λ (k : ℕ). (5 + 46 * k + 7) / 8) many in
    sheet_written (list_fields ps) entry exit n (en ∙ sym long)
    (e ∙ (field_put (record { value = length ps; width = 5 }) (point_fields ps) 0 s₀ s₁ (e₁ ∙ ap (with_field s₀ 0 5) (sym many))).1 ∙ ap (written (list_fields ps) 0) e₀)

-- ---- a cover read

-- A list's records say the list again.
pub recorded : (xs : List Placed) → map placed_of (map record_of xs) ≡ xs
recorded [] = refl
recorded (x ∷ xs) = ap (λ (l : List Placed). x ∷ l) (recorded xs)

-- Nothing appended, and matches appended one list after another.
pub appended_none : (c : CoverRecord) → c ≡ appended c []
appended_none c = rw add-zero

pub appended_more : (c : CoverRecord) (xs ys : List Placed) → appended (appended c xs) ys ≡ appended c (xs ++ ys)
appended_more c xs ys =
    rw (length-append xs ys, add_assoc, map-append record_of xs ys, sets_append c.matches c.count (map record_of xs) (map record_of ys), length-map xs record_of)

-- The cover that a record with no match is, with matches appended.
pub appended_cover : (c : CoverRecord) (xs : List Placed) → c.count ≡ 0 → length xs ≤ length c.matches → cover_of (appended c xs) ≡ record { point = record { area = c.area; arrival = c.arrival }; placed = xs }
appended_cover c xs e h =
    let many = length-map xs record_of in
    let front : take (length xs) (sets c.matches 0 (map record_of xs)) ≡ map record_of xs = rw (← many) (ap (λ (k : ℕ). take k (sets c.matches 0 (map record_of xs))) (sym (zero-add _)) ∙ take_sets c.matches 0 (map record_of xs) (omega (arith, many))) in
    rw (e, zero-add (length xs), front, recorded xs)

-- What `?` hands on is the flaw that was found, beside what was put before it.
pub put_flawed : {A : Type 0} {old new : Sheet} {reads : List ℕ → Reader A} {put : A} {bits : ℕ} {e : Flaw} (r : Result (Unit {0}) Flaw) → IsErrAnd r (λ y. y ≡ e) →
    Puts old new reads put bits (Err e) → Puts old new reads put bits r
put_flawed r is h = let p = err_from_is_err_and r is in rw (p.1, p.2) h

-- A field that was read, and one that refuses: it reads 0.
field_read : {x : ℕ × Scan} {most reach b : ℕ} {after : Cursor} → Took (UpTo most) x reach after b → x ≡ (b, At after)
field_read h i = (sym h.holds.0 i, h.at i)

field_refused : (s : List ℕ) (w : ℕ) (c : Scan) {reach : ℕ} {e : Flaw} → Flawed (field s w free c) reach e → field s w free c ≡ (0, Refused e.fault e.place)
field_refused s w c {e = e} h =
    field_ways s w free (λ x. x.1 ≡ Refused e.fault e.place → x ≡ (0, Refused e.fault e.place)) c (λ f q i. (0, q i)) (λ l g v q. absurd (subst Live q tt)) h.says

-- ---- one match

-- By its three fields, of which those after a refusal are 0.
match_whole : (s : List ℕ) (xs : List Placed) (c : Scan) {n p x : ℕ} {q₁ q₂ q₃ : Scan} → field s node_width free c ≡ (n, q₁) → field s pattern_width free q₁ ≡ (p, q₂) → field s crossing_width free q₂ ≡ (x, q₃) →
    placed_read s xs c ≡ (record { node = n; pattern = p; crossing = x }, q₃)
unfolding placed_read
match_whole s xs c {n} {p} e₁ e₂ e₃ =
    let last : (node pattern : ℕ) → ℕ × Scan → Placed × Scan = λ node pattern z. (record { node = node; pattern = pattern; crossing = z.0 }, z.1) in
    let rest : ℕ → ℕ × Scan → Placed × Scan = λ node y. last node y.0 (field s crossing_width free y.1) in
    ap (λ (a : ℕ × Scan). rest a.0 (field s pattern_width free a.1)) e₁ ∙ ap (rest n) e₂ ∙ ap (last n p) e₃

module _ (s : List ℕ) (c : Cursor) (m : MatchRecord) (none : m ≡ no_match) where
  pub node_flawed : {i : ℕ} {e : Flaw} → Flawed (field s node_width free (At c)) i e → placed_read s [] (At c) ≡ (placed_of m, Refused e.fault e.place)
  node_flawed {e = e} h = match_whole s [] (At c) (field_refused s node_width (At c) h) refl refl ∙ ap (λ (k : MatchRecord). (placed_of k, Refused e.fault e.place)) (sym none)

  module _ {n i : ℕ} {d : Cursor} (node : Took (UpTo (2 ^ node_width - 1)) (field s node_width free (At c)) i d n) where
    pub pattern_flawed : {j : ℕ} {e : Flaw} → Flawed (field s pattern_width free (At d)) j e →
        placed_read s [] (At c) ≡ (record { node = n; pattern = m.pattern; crossing = m.crossing }, Refused e.fault e.place)
    pattern_flawed {e = e} h =
        match_whole s [] (At c) (field_read node) (field_refused s pattern_width (At d) h) refl
        ∙ ap (λ (k : MatchRecord). (record { node = n; pattern = k.pattern; crossing = k.crossing }, Refused e.fault e.place)) (sym none)

    module _ {p j : ℕ} {then : Cursor} (pattern : Took (UpTo (2 ^ pattern_width - 1)) (field s pattern_width free (At d)) j then p) where
      pub crossing_flawed : {k : ℕ} {e : Flaw} → Flawed (field s crossing_width free (At then)) k e →
          placed_read s [] (At c) ≡ (record { node = n; pattern = p; crossing = m.crossing }, Refused e.fault e.place)
      crossing_flawed {e = e} h =
          match_whole s [] (At c) (field_read node) (field_read pattern) (field_refused s crossing_width (At then) h)
          ∙ ap (λ (k : MatchRecord). (record { node = n; pattern = p; crossing = k.crossing }, Refused e.fault e.place)) (sym none)

      pub match_told : {x k : ℕ} {last : Cursor} → Took (UpTo (2 ^ crossing_width - 1)) (field s crossing_width free (At then)) k last x →
          placed_read s [] (At c) ≡ (record { node = n; pattern = p; crossing = x }, At last)
      match_told crossing = match_whole s [] (At c) (field_read node) (field_read pattern) (field_read crossing)

-- ---- the matches

-- What stands where a match was refused, or none was read.
abbrev blank : Placed
blank = placed_of no_match

-- After a refusal the matches that are left are all 0.
times_blank : (s : List ℕ) (c : Scan) (k m : ℕ) {f : Fault} {p : ℕ} {xs : List Placed} → times k (placed_read s) c ≡ (xs, Refused f p) → times (k + m) (placed_read s) c ≡ (xs ++ replicate m blank, Refused f p)
times_blank s c k zero {f} {p} {xs} e = ap (λ (j : ℕ). times j (placed_read s) c) (add-zero k) ∙ e ∙ ap (λ (l : List Placed). (l, Refused f p)) (sym (append-nil xs))
times_blank s c k (suc m) {f} {p} {xs} e =
    let one : replicate m blank ++ (blank ∷ []) ≡ replicate (suc m) blank = replicate-append-replicate m 1 blank ∙ ap (λ (j : ℕ). replicate j blank) (add-one m) in
    ap (λ (j : ℕ). times j (placed_read s) c) (omega arith)
    ∙ times_more (k + m) (placed_read s) c (times_blank s c k m e) (match_whole s (xs ++ replicate m blank) (Refused f p) refl refl refl)
    ∙ ap (λ (l : List Placed). (l, Refused f p)) (append_assoc xs (replicate m blank) (blank ∷ []) ∙ ap (λ (l : List Placed). xs ++ l) one)

map_blank : (m : ℕ) → map placed_of (replicate m no_match) ≡ replicate m blank
map_blank zero = refl
map_blank (suc m) = ap (λ (l : List Placed). blank ∷ l) (map_blank m)

-- The first of n records keep matches that were read, and the others none.
abbrev pub kept_of : ℕ → List Placed → List MatchRecord
kept_of n xs = map record_of xs ++ replicate (n - length xs) no_match

placed_kept : (n : ℕ) (xs : List Placed) → map placed_of (kept_of n xs) ≡ xs ++ replicate (n - length xs) blank
placed_kept n xs = map-append placed_of (map record_of xs) (replicate (n - length xs) no_match) ∙ ap₂ (λ (l k : List Placed). l ++ k) (recorded xs) (map_blank (n - length xs))

-- The next of them.
kept_next : (n : ℕ) (xs : List Placed) → length xs < n → kept_of n xs ≡ map record_of xs ++ (no_match ∷ replicate (n - suc (length xs)) no_match)
kept_next n xs h = let more : n - length xs ≡ suc (n - suc (length xs)) = omega arith in ap (λ (j : ℕ). map record_of xs ++ replicate j no_match) more

none_kept : (n : ℕ) (xs : List Placed) (d : MatchRecord) → length xs < n → get_or (kept_of n xs) (length xs) d ≡ no_match
none_kept n xs d h =
    ap₂ (λ (l : List MatchRecord) (k : ℕ). get_or l k d) (kept_next n xs h) (sym (length-map xs record_of)) ∙ get_or-append_seam (map record_of xs) no_match (replicate (n - suc (length xs)) no_match) d

one_kept : (n : ℕ) (xs : List Placed) (m : MatchRecord) → length xs < n → set (kept_of n xs) (length xs) m ≡ kept_of n (xs ++ (placed_of m ∷ []))
one_kept n xs m h =
    let rest = replicate (n - suc (length xs)) no_match in
    ap₂ (λ (l : List MatchRecord) (k : ℕ). set l k m) (kept_next n xs h) (sym (length-map xs record_of))
    ∙ set-append_seam (map record_of xs) no_match rest m
    ∙ sym (append_assoc (map record_of xs) (m ∷ []) rest)
    ∙ ap₂ (λ (l : List MatchRecord) (k : ℕ). l ++ replicate (n - k) no_match) (sym (map-append record_of xs (placed_of m ∷ []))) (sym (length-append xs (placed_of m ∷ []) ∙ add-one (length xs)))

-- After k turns: what was read stands in the first records.
pub record Filled (old new : Sheet) (k n : ℕ) (matches : List MatchRecord) : Type 0 where
  pub same : new.bytes.now ≡ old.bytes.now
  pub xs : List Placed
  pub reads_are : times k (placed_read old.bytes.now) (At old.at) ≡ (xs, At new.at)
  pub kept : matches ≡ kept_of n xs
  pub near : place_of new.at ≤ place_of old.at + 18 * k

pub filled_none : (sheet : Sheet) (matches : List MatchRecord) → matches ≡ replicate (length matches) no_match → Filled sheet sheet 0 (length matches) matches
unfolding times
filled_none sheet matches none =
    let all : length matches ≡ length matches - 0 = omega arith in
    record { same = refl; xs = []; reads_are = refl; kept = none ∙ ap (λ (j : ℕ). replicate j no_match) all; near = omega arith }

module _ {old mid : Sheet} {k n : ℕ} {matches : List MatchRecord} (so : Filled old mid k n matches) (here : k < n) where
  many_kept : length so.xs ≡ k
  many_kept = ap (λ (x : List Placed × Scan). length x.0) (sym so.reads_are) ∙ length_times k (placed_read old.bytes.now) (At old.at)

  pub none_here : (d : MatchRecord) → get_or matches k d ≡ no_match
  none_here d = ap₂ (λ (l : List MatchRecord) (j : ℕ). get_or l j d) so.kept (sym many_kept) ∙ none_kept n so.xs d (omega (arith, many_kept))

  one_set : (m : MatchRecord) → set matches k m ≡ kept_of n (so.xs ++ (placed_of m ∷ []))
  one_set m = ap₂ (λ (l : List MatchRecord) (j : ℕ). set l j m) so.kept (sym many_kept) ∙ one_kept n so.xs m (omega (arith, many_kept))

  module _ {new : Sheet} {m : MatchRecord} where
    one_read : {r : Result (Unit {0}) Flaw} → Puts mid new (λ s. placed_read s []) (placed_of m) 18 r → times (k + 1) (placed_read old.bytes.now) (At old.at) ≡ (so.xs ++ (placed_of m ∷ []), scan_after new.at r)
    unfolding placed_read
    one_read h = times_more k (placed_read old.bytes.now) (At old.at) so.reads_are (ap (λ (s : List ℕ). placed_read s [] (At mid.at)) (sym so.same) ∙ h.reads_are)

    pub filled_more : Puts mid new (λ s. placed_read s []) (placed_of m) 18 (Ok tt) → Filled old new (k + 1) n (set matches k m)
    filled_more h = record { same = h.same ∙ so.same; xs = so.xs ++ (placed_of m ∷ []); reads_are = one_read h; kept = one_set m; near = omega (arith, h.near, so.near) }

    -- The turn that refuses is the last.
    pub filled_flawed : {e : Flaw} → Puts mid new (λ s. placed_read s []) (placed_of m) 18 (Err e) → Puts old new (λ s. times n (placed_read s)) (map placed_of (set matches k m)) (18 * n) (Err e)
    filled_flawed {e} h =
        let xs = so.xs ++ (placed_of m ∷ []) in
        let all : length xs ≡ k + 1 = length-append so.xs (placed_of m ∷ []) ∙ ap (λ (j : ℕ). j + 1) many_kept in
        record {
          same = h.same ∙ so.same;
          reads_are =
              ap (λ (j : ℕ). times j (placed_read old.bytes.now) (At old.at)) (omega arith)
              ∙ times_blank old.bytes.now (At old.at) (k + 1) (n - (k + 1)) (one_read h)
              ∙ ap (λ (l : List Placed). (l, Refused e.fault e.place)) (ap (λ (j : ℕ). xs ++ replicate (n - j) blank) (sym all) ∙ sym (placed_kept n xs) ∙ ap (map placed_of) (sym (one_set m)));
          near = omega (arith, h.near, so.near);
        }

pub filled_all : {old new : Sheet} {k n : ℕ} {matches : List MatchRecord} → Filled old new k n matches → k ≡ n → Puts old new (λ s. times n (placed_read s)) (map placed_of matches) (18 * n) (Ok tt)
filled_all {old} {new} {k} {n} {matches} so all =
    let xs = so.xs in
    let none : n - length xs ≡ 0 = omega (arith, all, ap (λ (x : List Placed × Scan). length x.0) (sym so.reads_are) ∙ length_times k (placed_read old.bytes.now) (At old.at)) in
    record {
      same = so.same;
      reads_are =
          ap (λ (j : ℕ). times j (placed_read old.bytes.now) (At old.at)) (sym all) ∙ so.reads_are
          ∙ ap (λ (l : List Placed). (l, At new.at)) (sym (ap (map placed_of) so.kept ∙ placed_kept n xs ∙ ap (λ (j : ℕ). xs ++ replicate j blank) none ∙ append-nil xs));
      near = omega (arith, all, so.near);
    }

-- ---- the cover

-- By its fields, of which those after a refusal are 0.
cover_whole : (s : List ℕ) (c : Scan) {a t n : ℕ} {xs : List Placed} {q₁ q₂ q₃ q₄ : Scan} → field s area_width free c ≡ (a, q₁) → field s arrival_width free q₁ ≡ (t, q₂) → field s match_count_width free q₂ ≡ (n, q₃) →
    times n (placed_read s) q₃ ≡ (xs, q₄) → cover_read s c ≡ (record { point = record { area = a; arrival = t }; placed = xs }, ended s q₄)
unfolding cover_read
cover_whole s c {a} {t} e₁ e₂ e₃ e₄ =
    let last : (area arrival : ℕ) → List Placed × Scan → Cover × Scan = λ area arrival z. (record { point = record { area = area; arrival = arrival }; placed = z.0 }, ended s z.1) in
    let more : (area arrival : ℕ) → ℕ × Scan → Cover × Scan = λ area arrival y. last area arrival (times y.0 (placed_read s) y.1) in
    let rest : ℕ → ℕ × Scan → Cover × Scan = λ area y. more area y.0 (field s match_count_width free y.1) in
    ap (λ (x : ℕ × Scan). rest x.0 (field s arrival_width free x.1)) e₁ ∙ ap (rest a) e₂ ∙ ap (more a t) e₃ ∙ ap (last a t) e₄

no_times : (s : List ℕ) (c : Scan) → times 0 (placed_read s) c ≡ ([], c)
unfolding times
no_times s c = refl

-- In a cover with no match the first n records keep none.
pub none_taken : (r : CoverRecord) (n : ℕ) → r ≡ bare_cover 0 0 → n ≤ 64 → take n r.matches ≡ replicate (length (take n r.matches)) no_match
none_taken r n none h =
    let is : take n r.matches ≡ replicate n no_match = ap (λ (q : CoverRecord). take n q.matches) none ∙ take-replicate n 64 no_match h in
    is ∙ ap (λ (k : ℕ). replicate k no_match) (sym (ap length is ∙ length-replicate n no_match))

-- The matches that were put into the first n records.
pub matches_on : (s : List ℕ) {mid new : Sheet} {bits k n : ℕ} (part rest : List MatchRecord) {r : Result (Unit {0}) Flaw} → mid.bytes.now ≡ s →
    Puts mid new (λ b. times k (placed_read b)) (map placed_of part) bits r → k ≡ n → length part ≡ n → times n (placed_read s) (At mid.at) ≡ (map placed_of (take n (part ++ rest)), scan_after new.at r)
matches_on s {mid} {new} {n = n} part rest {r} same h turns long =
    ap₂ (λ (b : List ℕ) (j : ℕ). times j (placed_read b) (At mid.at)) (sym same) (sym turns) ∙ h.reads_are
    ∙ ap (λ (l : List MatchRecord). (map placed_of l, scan_after new.at r)) (sym (take_at part rest n long))

-- What follows the last match, refused or not.
pub closed_put : {old new : Sheet} {c : Cover} {bits : ℕ} (r : Result (Unit {0}) Flaw) → new.bytes.now ≡ old.bytes.now → cover_read old.bytes.now (At old.at) ≡ (c, ended old.bytes.now (At new.at)) →
    Closes (ended new.bytes.now) new.at r → place_of new.at ≤ place_of old.at + bits → Puts old new cover_read c bits r
closed_put {new = new} {c} (Ok tt) same h g near = record { same = same; reads_are = h ∙ ap (λ (q : Scan). (c, q)) (ap (λ (b : List ℕ). ended b (At new.at)) (sym same) ∙ g); near = near }
closed_put {new = new} {c} (Err e) same h g near =
    record { same = same; reads_are = h ∙ ap (λ (q : Scan). (c, q)) (ap (λ (b : List ℕ). ended b (At new.at)) (sym same) ∙ g.0); near = omega (arith, g.1, near) }

module _ (s : List ℕ) (c : Cursor) (r : CoverRecord) (none : r ≡ bare_cover 0 0) where
  pub area_flawed : {i : ℕ} {e : Flaw} → Flawed (field s area_width free (At c)) i e → cover_read s (At c) ≡ (cover_of r, Refused e.fault e.place)
  area_flawed {e = e} h =
      cover_whole s (At c) (field_refused s area_width (At c) h) refl refl (no_times s (Refused e.fault e.place)) ∙ ap (λ (q : CoverRecord). (cover_of q, Refused e.fault e.place)) (sym none)

  module _ {a i : ℕ} {d : Cursor} (area : Took (UpTo (2 ^ area_width - 1)) (field s area_width free (At c)) i d a) where
    pub arrival_flawed : {j : ℕ} {e : Flaw} → Flawed (field s arrival_width free (At d)) j e →
        cover_read s (At c) ≡ (cover_of (record { area = a; arrival = r.arrival; count = r.count; matches = r.matches }), Refused e.fault e.place)
    arrival_flawed {e = e} h =
        cover_whole s (At c) (field_read area) (field_refused s arrival_width (At d) h) refl (no_times s (Refused e.fault e.place))
        ∙ ap (λ (q : CoverRecord). (cover_of (record { area = a; arrival = q.arrival; count = q.count; matches = q.matches }), Refused e.fault e.place)) (sym none)

    module _ {t j : ℕ} {from : Cursor} (arrival : Took (UpTo (2 ^ arrival_width - 1)) (field s arrival_width free (At d)) j from t) where
      pub count_flawed : {k : ℕ} {e : Flaw} → Flawed (field s match_count_width free (At from)) k e →
          cover_read s (At c) ≡ (cover_of (record { area = a; arrival = t; count = r.count; matches = r.matches }), Refused e.fault e.place)
      count_flawed {e = e} h =
          cover_whole s (At c) (field_read area) (field_read arrival) (field_refused s match_count_width (At from) h) (no_times s (Refused e.fault e.place))
          ∙ ap (λ (q : CoverRecord). (cover_of (record { area = a; arrival = t; count = q.count; matches = q.matches }), Refused e.fault e.place)) (sym none)

      module _ {n k : ℕ} {then : Cursor} (count : Took (UpTo (2 ^ match_count_width - 1)) (field s match_count_width free (At from)) k then n) (ms : List MatchRecord) {q : Scan}
          (matches : times n (placed_read s) (At then) ≡ (map placed_of (take n ms), q)) where
        pub cover_put : cover_read s (At c) ≡ (cover_of (record { area = a; arrival = t; count = n; matches = ms }), ended s q)
        cover_put = cover_whole s (At c) (field_read area) (field_read arrival) (field_read count) matches

-- ---- where the scan stands

-- If the scan was not refused, it stands at place i.
abbrev Stands : ℕ → Scan → Type 0
Stands i c = Live c → c ≡ At (cursor_at i)

stands_field : (s : List ℕ) (w i : ℕ) (c : Scan) → Stands i c → Stands (i + w) (field s w free c).1
stands_field s w i c on = field_ways s w free (λ x. Stands (i + w) x.1) c (λ f h. absurd h) (λ l g v t. ap (λ (j : ℕ). At (cursor_at (j + w))) (ap place (on l) ∙ place_at i))

stands_match : (s : List ℕ) (xs : List Placed) (i : ℕ) (c : Scan) → Stands i c → Stands (i + 6 + 7 + 5) (placed_read s xs c).1
unfolding placed_read
stands_match s xs i c on = stands_field s 5 (i + 6 + 7) _ (stands_field s 7 (i + 6) _ (stands_field s 6 i c on))

stands_times : (s : List ℕ) (n i : ℕ) (c : Scan) → Stands i c → Stands (i + 18 * n) (times n (placed_read s) c).1
unfolding times
stands_times s zero i c on = let here : i ≡ i + 18 * 0 = omega arith in λ l. on l ∙ ap (λ (j : ℕ). At (cursor_at j)) here
stands_times s (suc n) i c on =
    let far : i + 18 * n + 6 + 7 + 5 ≡ i + 18 * suc n = omega arith in
    λ l. stands_match s (times n (placed_read s) c).0 (i + 18 * n) (times n (placed_read s) c).1 (stands_times s n i c on) l ∙ ap (λ (j : ℕ). At (cursor_at j)) far

stands_tail : (wanted : ℕ → Bool) (i : ℕ) (c : Scan) → Stands i c → Stands i (tailed wanted c)
stands_tail wanted i (At c) on = cases (wanted (place_of c)) (λ t. rw t on) (λ t. rw t (λ l. absurd l))
stands_tail wanted i (Refused f p) on = on

stands_cover : (s : List ℕ) → Stands (cover_bits (length (cover_read s start).0.placed)) (cover_read s start).1
unfolding cover_read
stands_cover s l =
    let a = field s area_width free start in
    let t = field s arrival_width free a.1 in
    let n = field s match_count_width free t.1 in
    let xs = times n.0 (placed_read s) n.1 in
    let on = stands_times s n.0 52 n.1 (stands_field s 6 46 t.1 (stands_field s 24 22 a.1 (stands_field s 22 0 start (λ _. refl)))) in
    stands_tail (ends_at s) (52 + 18 * n.0) xs.1 on l ∙ ap (λ (k : ℕ). At (cursor_at (cover_bits k))) (sym (length_times n.0 (placed_read s) n.1))

-- From what was put into the cover to what is said of it.
cover_told : (s : List ℕ) (r : CoverRecord) → Room r → CoverHolds (cover_read s start).0 r → Live (cover_read s start).1 → CoverTold (cover_read s start) r
cover_told s r room h live = record {
  scan_is = stands_cover s live ∙ ap (λ (k : ℕ). At (cursor_at (cover_bits k))) (sym (ap (λ (c : Cover). length c.placed) h.cover_is) ∙ many r room);
  holds = h;
}

pub cover_taken : {s : List ℕ} {sheet new : Sheet} (r : CoverRecord) → Opens s sheet → Puts sheet new cover_read (cover_of r) (cover_bits 63) (Ok tt) → r.count < 64 → Room r → CoverTold (cover_read s start) r
cover_taken {s} {new = new} r o h few room =
    let e : cover_read s start ≡ (cover_of r, At new.at) = ap₂ (λ (b : List ℕ) (c : Cursor). cover_read b (At c)) (sym o.bytes_are) (sym o.at_start) ∙ h.reads_are in
    cover_told s r room (record { cover_is = ap (λ (x : Cover × Scan). x.0) (sym e); few = few }) (subst Live (ap (λ (x : Cover × Scan). x.1) (sym e)) tt)

-- Bytes that say a cover are read as that cover, and not refused.
pub cover_back : {c : Cover} {s : List ℕ} (r : Result CoverRecord FlawedCover) → CoverReads c s → CoverIs s r →
    (k : CoverRecord) × (r ≡ Ok k) × (cover_of k ≡ c) × (At (cursor_at (cover_bits k.count)) ≡ At (cursor_at (widths (cover_fields c))))
cover_back (Ok k) h g = (k, refl, g.holds.cover_is ∙ ap (λ (x : Cover × Scan). x.0) h.reads, sym g.scan_is ∙ ap (λ (x : Cover × Scan). x.1) h.reads)
cover_back (Err e) h g = absurd (subst Live (sym (ap (λ (x : Cover × Scan). x.1) h.reads) ∙ g.scan_is) tt)

pub points_few : (count : ℕ) (ws : List ℕ) → length (points_of count ws) ≤ count
unfolding points_of
points_few count ws = omega (arith, length-reverse (map point_of (take count ws)), length-map (take count ws) point_of, length-take count ws)

-- The sheet of a cover in its record is no longer than the output that map is lent.
pub sheet_short : (r : CoverRecord) → r.count ≤ 63 → length (cover_sheet (cover_of r)) ≤ map_bytes
sheet_short r few = cover_sheet_fits (cover_of r) (omega (arith, few, length-take r.count r.matches, length-map (take r.count r.matches) placed_of))
