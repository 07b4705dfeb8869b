-- Laws about the sheet's readers.
use mathlib.Core.Path.{◌≡◌, refl, sym, ap, ap₂, subst, ◌∙◌}
use mathlib.Core.List.{List, [], ◌∷◌, ◌++◌, map, map-append, append_assoc}
use mathlib.Core.Bool.{Bool, true, false}
use mathlib.Core.Logic.{inl, inr}
use Prim.Native.Nat.{ℕ, suc, ◌+◌, ◌-◌, ◌*◌, ◌≤◌}
use native.Mathlib.Nat.{zero-add}
use native.Mathlib.Numerals.{add-one}
use native.Mathlib.Omega.{arith}
use lib.ListN.{length, take, drop, set, replicate, length-map, length-append}
use lib.Seq.{sets, drop-drop, sets-eq, length-sets}
use borrow.Rule.Slice.PartMut.{put_mid}
use Rattle.std.specs.Prelude.{Result, Ok, Err}
use Rattle.bits.specs.Bits.{place_of}
use Rattle.bits.specs.declared.Cursor.{Cursor}
use Rattle.fields.specs.declared.Fault.TheVariants.{Drawing}
use Rattle.fields.specs.declared.Flaw.{Flaw}
use Rattle.fields.specs.declared.Sheet.{Sheet}
use Rattle.fields.specs.Reading.{Scan, At, Refused, Verdict, Reader, done, ◌>>=◌, times, field, within, Live}
use Rattle.fields.specs.Inside.Promises.{Took, Reads, UpTo}
use Rattle.fields.proofs.Laws.{live_sound, range_least, length_times}
use Rattle.fields.proofs.Lists.{set_sets, mid_sets}
use Rattle.fields.proofs.Readers.{Keeps, keeps_then, keeps_times, first_stops, then_reads}
use Rattle.shapes_rules.specs.Shape.{Shape, symbols, size}
use Rattle.shapes_rules.specs.Drawing.{has_all, shape}
use Rattle.shapes_rules.proofs.Drawing.{length_symbols, node_dead}
use Rattle.shapes.specs.declared.ShapeRead.{ShapeRead}
use Rattle.shapes.specs.Inside.Promises.{Drawn, ShapeIs}
use Rattle.shapes.proofs.Wholes.{drawn_is}
use Rattle.sheets_rules.specs.declared.Bins.{Bins}
use Rattle.sheets_rules.specs.declared.PinRecord.{PinRecord}
use Rattle.sheets_rules.specs.Model.{Pin, Cell, drawn, patterns_from, pins_most}
use Rattle.sheets_rules.specs.LibrarySheet.{Head, last, bin_load, complete, pattern, pattern_rules, count_verdict, head, pin, drawings, cell}
use Rattle.sheets_rules.specs.Inside.Layout.{padded, pin_record, no_pin, cell_laid, size_at, symbols_at, row_words, table_words, cell_words, row, table_from, pattern_row, pattern_rows}
use Rattle.sheets_rules.specs.Reach.{bin_bits, head_bits, pin_bits, pattern_bits, drawings_bits, cell_bits}
use Rattle.sheets_rules.proofs.Rows.{row_written, length_row}
use Rattle.sheets_rules.proofs.LibrarySheet.{length_drawn, patterns_more}
use Rattle.sheets_rules.proofs.Laid.{padded_more, table_append}
use Rattle.library.specs.declared.NumberedCell.{NumberedCell}
use Rattle.library.specs.declared.CellHead.{CellHead}
use Rattle.library.specs.Inside.Promises.{Tabled, HeadHolds, PinsHold, row_under, PatternHolds, RowHolds, RowKept, RowsHold, DrawingsHold, CellHolds, PatternsHold}

-- ---- readers one after another

-- What a reader hands over, seen in another way.
module _ {A C : Type 0} {reads : List ℕ → Reader A} {old new : Sheet} {One : A → C → Type 0} {bits : ℕ} where
  module _ {D : Type 0} {Holds : A → D → Type 0} where
    pub reads_as : {c : C} {d : D} → Reads old new reads One bits (Ok c) → (One (reads old.bytes.now (At old.at)).0 c → Holds (reads old.bytes.now (At old.at)).0 d) →
        Reads old new reads Holds bits (Ok d)
    reads_as h g = record { same = h.same; takes = record { at = h.takes.at; holds = g h.takes.holds; near = h.takes.near } }

    pub stops_as : {e : Flaw} → Reads old new reads One bits (Err e) → Reads old new reads Holds bits (Err e)
    stops_as h = record { same = h.same; takes = record { says = h.takes.says; near = h.takes.near } }

  pub reads_same : {Holds : A → C → Type 0} (r : Result C Flaw) → Reads old new reads One bits r → ((a : A) (c : C) → One a c → Holds a c) → Reads old new reads Holds bits r
  reads_same (Ok c) h g = reads_as h (g _ c)
  reads_same (Err e) h g = stops_as h

  -- And made of what was read.
  module _ {B : Type 0} (f : A → B) where
    pub ok_done : {D : Type 0} {Holds : B → D → Type 0} {c : C} {d : D} → Reads old new reads One bits (Ok c) → (One (reads old.bytes.now (At old.at)).0 c → Holds (f (reads old.bytes.now (At old.at)).0) d) →
        Reads old new (λ s. reads s >>= λ a. done (f a)) Holds bits (Ok d)
    ok_done h g = record { same = h.same; takes = record { at = h.takes.at; holds = g h.takes.holds; near = h.takes.near } }

    pub stops_done : {D : Type 0} {Holds : B → D → Type 0} {e : Flaw} → Reads old new reads One bits (Err e) → Reads old new (λ s. reads s >>= λ a. done (f a)) Holds bits (Err e)
    stops_done h = record { same = h.same; takes = record { says = h.takes.says; near = h.takes.near } }

    pub reads_done : {Holds : B → C → Type 0} (r : Result C Flaw) → Reads old new reads One bits r → ((a : A) (c : C) → One a c → Holds (f a) c) →
        Reads old new (λ s. reads s >>= λ a. done (f a)) Holds bits r
    reads_done (Ok c) h g = ok_done h (g _ c)
    reads_done (Err e) h g = stops_done h

-- A count, and then as many as it says.
module _ {A D : Type 0} (w : ℕ) (verdict : ℕ → Verdict) (r : List ℕ → List A → Reader A) {One : ℕ → ℕ → Type 0} {some bits : ℕ} {old mid : Sheet} {Holds : List A → D → Type 0} where
  pub count_stops : {e : Flaw} → ((s : List ℕ) (xs : List A) → Keeps (r s xs)) → Reads old mid (λ s. field s w verdict) One some (Err e) → some ≤ bits →
      Reads old mid (λ s. field s w verdict >>= λ n. times n (r s)) Holds bits (Err e)
  count_stops keeps h l = first_stops (λ s. field s w verdict) (λ s n. times n (r s)) h l (λ s n. keeps_times (r s) (keeps s) n)

  pub counted_reads : {n more : ℕ} {new : Sheet} → Reads old mid (λ s. field s w verdict) One some (Ok n) → n ≡ (field old.bytes.now w verdict (At old.at)).0 →
      (q : Result D Flaw) → Reads mid new (λ s. times n (r s)) Holds more q → some + more ≤ bits → Reads old new (λ s. field s w verdict >>= λ n. times n (r s)) Holds bits q
  counted_reads h e q g l = then_reads (λ s. field s w verdict) (λ s n. times n (r s)) q h (rw e at g) l

-- The least value that a range lets pass.
pub ranged_least : (s : List ℕ) (w least most : ℕ) (c : Cursor) {after : Cursor} {reach x : ℕ} → Took (UpTo most) (field s w (within least most) (At c)) reach after x → least ≤ x
ranged_least s w least most c {x = x} h =
    range_least least most x (ap (within least most) h.holds.0 ∙ (live_sound s w (within least most) (At c) (subst Live (sym h.at) tt)).0)

-- ---- arrays that a loop fills

-- A bin load is above the one before.
pub bin_read : (before : ℕ) (xs : List ℕ) {mid new : Sheet} {r : Result ℕ Flaw} → before ≡ last xs → Reads mid new (λ s. field s 8 (within (before + 1) 255)) (UpTo 255) bin_bits r →
    Reads mid new (λ s. bin_load s xs) (UpTo 255) bin_bits r
unfolding bin_load
bin_read before xs e h = rw (add-one, e) at h

pub last_more : (xs : List ℕ) (x : ℕ) → last (xs ++ (x ∷ [])) ≡ x
unfolding last
last_more [] x = refl
last_more (y ∷ []) x = refl
last_more (y ∷ (z ∷ zs)) x = last_more (z ∷ zs) x

pub pins_more : (bins : Bins) (ps : List Pin) (p : Pin) (k : ℕ) (l : List PinRecord) → length ps ≡ k → PinsHold bins ps l → PinsHold bins (ps ++ (p ∷ [])) (set l k (pin_record bins.loads p))
pins_more bins ps p k l e h =
    let f = pin_record bins.loads in
    ap (λ (q : List PinRecord). set q k (f p)) h
    ∙ padded_more pins_most no_pin (f p) (map f ps) k (sym (length-map ps f ∙ e))
    ∙ ap (padded pins_most no_pin) (sym (map-append f ps (p ∷ [])))

-- Words that were copied to the front, and into a part of their length.
pub front_copied : (l xs : List ℕ) (k : ℕ) → k ≡ length xs → k ≤ length l → xs ++ drop k l ≡ sets l 0 xs
front_copied l xs k e h = rw (e, sets-eq xs l 0 (omega arith), zero-add) refl

pub mid_copied : (l : List ℕ) (a k : ℕ) (xs : List ℕ) → k ≡ length xs → a + k ≤ length l → put_mid a k l xs ≡ sets l a xs
mid_copied l a k xs e h = rw (e, sets-eq xs l a (omega arith), ← (drop-drop (length xs) a l)) (simp append_assoc)

-- ---- patterns

pub pattern_keeps : (s : List ℕ) (pins : ℕ) (xs : List Shape) → Keeps (pattern s pins xs)
unfolding pattern complete shape
pattern_keeps s pins xs f p =
    let x = shape s (pattern_rules pins) (Refused f p) in
    ap (complete (has_all pins (symbols x.0)) p) (node_dead s (pattern_rules pins) 17 [] (Refused f p) (λ q. q))

pub drawings_keep : (s : List ℕ) (pins total : ℕ) → Keeps (drawings s pins total)
unfolding drawings
drawings_keep s pins total = keeps_then (field s 3 (count_verdict total)) (λ n. times n (pattern s pins)) (λ f p. refl) (λ n. keeps_times (pattern s pins) (pattern_keeps s pins) n)

-- The ways out of the reader of patterns, after a shape was read.
module _ (pins : ℕ) (some : 1 ≤ pins) (old new : Sheet) (d l l' : List ℕ) where
  abbrev OfPattern : Result ℕ Flaw → Type 0
  OfPattern = Reads old new (λ s. pattern s pins []) (PatternHolds l l') pattern_bits

  abbrev OfShape : Result ShapeRead Flaw → Type 0
  OfShape = ShapeIs old new (pattern_rules pins) (replicate 64 0) d

  -- Whether all pins are there.
  whole_is : (x : Shape) (read : ShapeRead) → Drawn (pattern_rules pins) (replicate 64 0) d x read → read.whole ≡ has_all pins (symbols x)
  whole_is x read h = let same : suc (pins - 1) ≡ pins = omega arith in rw same at h.whole_is

  pub pattern_stops : {e : Flaw} → OfShape (Err e) → OfPattern (Err e)
  unfolding pattern complete
  pattern_stops {e} h =
      let x = shape old.bytes.now (pattern_rules pins) (At old.at) in
      record { same = h.reads.same; takes = record { says = ap (complete (has_all pins (symbols x.0)) (place_of old.at)) h.reads.takes.says; near = h.reads.takes.near } }

  module _ (read : ShapeRead) (h : OfShape (Ok read)) where
    abbrev x : Shape × Scan
    x = shape old.bytes.now (pattern_rules pins) (At old.at)

    ends : (b : Bool) → read.whole ≡ b → (pattern old.bytes.now pins [] (At old.at)).1 ≡ complete b (place_of old.at) (At new.at)
    unfolding pattern
    ends b e = ap₂ (λ (w : Bool) (c : Scan). complete w (place_of old.at) c) (sym (whole_is x.0 read h.reads.takes.holds) ∙ e) h.reads.takes.at

    pub pattern_lacks : {e : Flaw} → read.whole ≡ false → e ≡ record { fault = Drawing; place = place_of old.at } → OfPattern (Err e)
    unfolding complete
    pattern_lacks {e} lacks is = rw is (record { same = h.reads.same; takes = record { says = ends false lacks; near = omega arith } })

    pub pattern_drawn : read.whole ≡ true → l' ≡ sets l 0 (take read.size d) → OfPattern (Ok read.size)
    unfolding complete pattern
    pattern_drawn all laid =
        let t = h.reads.takes in
        record {
          same = h.reads.same;
          takes = record {
            at = ends true all;
            holds = record { sized = t.holds.size_is ∙ length_symbols x.0; small = t.holds.few; laid = laid ∙ ap (sets l 0) (drawn_is (pattern_rules pins) d x.0 read (omega arith) t.holds) };
            near = t.near;
          };
        }

-- A pattern's row, from its cell's words and its symbols.
pub row_is : (numbered : NumberedCell) (x : Shape) (n : ℕ) (l l₁ ys : List ℕ) → length l ≡ row_words → l₁ ≡ sets l 0 (numbered.number ∷ cell_words numbered.cell) →
    PatternHolds (take (length l₁ - symbols_at) (drop symbols_at l₁)) ys x n → RowHolds numbered l (set (put_mid symbols_at (length l₁ - symbols_at) l₁ ys) size_at n) x tt
row_is numbered x n l l₁ ys e e₁ h =
    let long : length l₁ ≡ row_words = ap length e₁ ∙ length-sets l 0 (numbered.number ∷ cell_words numbered.cell) ∙ e in
    record {
      laid =
          ap₂ (λ (k : List ℕ) (v : ℕ). set k size_at v)
          (ap (put_mid symbols_at (length l₁ - symbols_at) l₁) h.laid ∙ mid_sets l₁ symbols_at (length l₁ - symbols_at) (symbols x) (omega arith) (omega (arith, length_symbols x, h.sized, h.small)))
          h.sized
          ∙ set_sets l₁ symbols_at size_at (size x) (symbols x) (omega arith)
          ∙ ap (λ (l' : List ℕ). sets l' size_at (size x ∷ symbols x)) e₁
          ∙ row_written numbered.number numbered.cell x l;
      few = omega (arith, length_row numbered.number numbered.cell x, h.sized, h.small);
    }

-- ---- the table of rows

-- With no table nothing is laid out.
pub no_table : (l : List ℕ) (i : ℕ) (vs : List ℕ) → length l ≡ 0 → sets l i vs ≡ l
no_table [] i [] h = refl
no_table [] i (v ∷ vs) h = no_table [] (suc i) vs h
no_table (x ∷ l) i vs h = absurd (omega arith)

-- A table that is there is whole.
pub table_whole : (l : List ℕ) → Tabled l → (length l ≡ 0 → ⊥) → length l ≡ table_words
table_whole l (inl e) h = e
table_whole l (inr e) h = absurd (h e)

pub table_same : (l l₁ : List ℕ) → length l₁ ≡ length l → Tabled l → Tabled l₁
table_same l l₁ e (inl h) = inl (e ∙ h)
table_same l l₁ e (inr h) = inr (e ∙ h)

-- A row in the table that it was lent from.
pub row_kept : (numbered : NumberedCell) (number m : ℕ) (x : Shape) (l ys : List ℕ) → m ≡ row_words → row_words * number + row_words ≤ length l →
    RowHolds numbered (take m (drop (row_words * number) l)) ys x tt → RowKept numbered number l (put_mid (row_words * number) m l ys) x tt
row_kept numbered number m x l ys e h w =
    ap (put_mid (row_words * number) m l) w.laid ∙ mid_sets l (row_words * number) m (row_under numbered x) (omega arith) (omega (arith, w.few))

-- One row more.
pub rows_more : (numbered : NumberedCell) (total k : ℕ) (l l₁ l₂ : List ℕ) (xs : List Shape) (x : Shape) → length xs ≡ k →
    RowsHold numbered total l l₁ xs tt → RowKept numbered (total + k) l₁ l₂ x tt → RowsHold numbered total l l₂ (xs ++ (x ∷ [])) tt
unfolding table_from
rows_more numbered total k l l₁ l₂ xs x e h g =
    let f = row_under numbered in
    g
    ∙ ap₂ (λ (t : List ℕ) (i : ℕ). sets t (row_words * (total + i)) (f x)) h (sym (length-map xs f ∙ e))
    ∙ sym (table_append row_words l total (map f xs) (f x ∷ []))
    ∙ ap (table_from row_words l total) (sym (map-append f xs (x ∷ [])))

-- ---- the patterns of cells, numbered through the sheet

rows_drawn : (bins : List ℕ) (n : ℕ) (c : Cell) (ds : List Shape) → pattern_rows bins (drawn n c ds) ≡ map (row n (cell_laid bins c)) ds
unfolding pattern_rows pattern_row drawn
rows_drawn bins n c [] = refl
rows_drawn bins n c (d ∷ ds) = ap (λ (rs : List (List ℕ)). row n (cell_laid bins c) d ∷ rs) (rows_drawn bins n c ds)

-- One cell more.
pub cells_more : (bins : Bins) (k total n : ℕ) (l l₁ l₂ : List ℕ) (cs : List Cell) (c : Cell) → length cs ≡ k →
    PatternsHold bins l l₁ cs total → CellHolds bins k total l₁ l₂ c n → PatternsHold bins l l₂ (cs ++ (c ∷ [])) (total + n)
unfolding pattern_rows
cells_more bins k total n l l₁ l₂ cs c e h g =
    let before = patterns_from 0 cs in
    let here = drawn k c c.drawings in
    let rows = pattern_rows bins.loads in
    let more : patterns_from 0 (cs ++ (c ∷ [])) ≡ before ++ here = patterns_more 0 cs c ∙ ap (λ (i : ℕ). before ++ drawn i c c.drawings) (zero-add (length cs) ∙ e) in
    record {
      totalled = ap₂ ◌+◌ h.totalled (g.counted ∙ sym (length_drawn k c c.drawings)) ∙ sym (ap length more ∙ length-append before here);
      few = g.fits;
      laid =
          g.laid
          ∙ ap₂ (λ (t : List ℕ) (i : ℕ). table_from row_words t i (map (row k (cell_laid bins.loads c)) c.drawings)) h.laid (h.totalled ∙ sym (zero-add (length (rows before)) ∙ length-map before _))
          ∙ sym (table_append row_words l 0 (rows before) (map (row k (cell_laid bins.loads c)) c.drawings))
          ∙ ap (table_from row_words l 0) (ap (λ (rs : List (List ℕ)). rows before ++ rs) (sym (rows_drawn bins.loads k c c.drawings)) ∙ sym (ap rows more ∙ map-append _ before here));
    }

-- ---- cells

-- What follows a cell's first fields.
abbrev after_pins : Bins → ℕ → Head → List ℕ → List Pin → Reader Cell
after_pins bins total h s ps = drawings s h.pins total >>= λ ds. done (record { held = h.held; area = h.area; highest = h.highest; pins = ps; drawings = ds })

abbrev after_head : Bins → ℕ → List ℕ → Head → Reader Cell
after_head bins total s h = times h.pins (pin s bins.count) >>= after_pins bins total h s

module _ (bins : Bins) (total : ℕ) where
  head_keeps : (s : List ℕ) (h : Head) → Keeps (after_head bins total s h)
  unfolding pin
  head_keeps s h =
      keeps_then (times h.pins (pin s bins.count)) (after_pins bins total h s) (keeps_times (pin s bins.count) (λ xs f p. refl) h.pins) (λ ps f p. drawings_keep s h.pins total f p)

  pub cell_keeps : (s : List ℕ) → Keeps (cell s bins.count total)
  unfolding cell head
  cell_keeps s = keeps_then (head s) (after_head bins total s) (λ f p. refl) (head_keeps s)

  module _ {old mid : Sheet} where
    pub head_stops : {D : Type 0} {Holds : Cell → D → Type 0} {e : Flaw} → Reads old mid head HeadHolds head_bits (Err e) → Reads old mid (λ s. cell s bins.count total) Holds cell_bits (Err e)
    unfolding cell
    head_stops h = first_stops head (after_head bins total) h (omega arith) head_keeps

    module _ {h : CellHead} (hh : Reads old mid head HeadHolds head_bits (Ok h)) where
      abbrev H : Head
      H = (head old.bytes.now (At old.at)).0

      pub pins_stop : {D : Type 0} {Holds : Cell → D → Type 0} {new : Sheet} {e : Flaw} → Reads mid new (λ s. times h.pins (pin s bins.count)) (PinsHold bins) (pin_bits * h.pins) (Err e) →
          Reads old new (λ s. cell s bins.count total) Holds cell_bits (Err e)
      unfolding cell
      pins_stop g =
          then_reads head (after_head bins total) {more = pin_bits * 6} _ hh
          (first_stops (λ s. times H.pins (pin s bins.count)) (after_pins bins total H) (rw hh.takes.holds.pins at g) (omega (arith, hh.takes.holds)) (λ s ps f p. drawings_keep s H.pins total f p))
          (omega arith)

      pub cell_reads : {next new : Sheet} {ps : List PinRecord} (number : ℕ) (l l' : List ℕ) → Reads mid next (λ s. times h.pins (pin s bins.count)) (PinsHold bins) (pin_bits * h.pins) (Ok ps) →
          (r : Result ℕ Flaw) → Reads next new (λ s. drawings s h.pins total) (DrawingsHold (record {
            number = number;
            cell = record { held = h.held; area = h.area; highest = h.highest; count = h.pins; pins = ps };
          }) total l l') drawings_bits r →
          Reads old new (λ s. cell s bins.count total) (CellHolds bins number total l l') cell_bits r
      unfolding cell cell_laid
      cell_reads {next} {new} {ps} number l l' hp r hd =
          let t = hh.takes.holds in
          let P = times H.pins (pin mid.bytes.now bins.count) (At mid.at) in
          let pins : Reads mid next (λ s. times H.pins (pin s bins.count)) (PinsHold bins) (pin_bits * H.pins) (Ok ps) = rw t.pins at hp in
          let counted : h.pins ≡ length P.0 = t.pins ∙ sym (length_times H.pins (pin mid.bytes.now bins.count) (At mid.at)) in
          then_reads head (after_head bins total) {more = pin_bits * 6 + drawings_bits} r hh
          (then_reads (λ s. times H.pins (pin s bins.count)) (after_pins bins total H) {more = drawings_bits} r pins
          (reads_done (λ ds. record { held = H.held; area = H.area; highest = H.highest; pins = P.0; drawings = ds }) r
          (subst (λ (n : ℕ). Reads next new (λ s. drawings s n total) (DrawingsHold (record {
            number = number;
            cell = record { held = h.held; area = h.area; highest = h.highest; count = h.pins; pins = ps };
          }) total l l') drawings_bits r) t.pins hd)
          (λ ds n g. record {
            counted = g.counted;
            fits = g.fits;
            laid = g.laid ∙ (λ i. table_from row_words l total (map (row number (record {
              held = t.held i;
              area = t.area i;
              highest = t.highest i;
              count = counted i;
              pins = pins.takes.holds i;
            })) ds));
          }))
          (omega (arith, t)))
          (omega arith)

  -- After as many patterns as those before have.
  pub cell_after_total : (t : ℕ) {mid new : Sheet} {One : Cell → ℕ → Type 0} {bits : ℕ} {r : Result ℕ Flaw} → total ≡ t →
      Reads mid new (λ s. cell s bins.count total) One bits r → Reads mid new (λ s. cell s bins.count t) One bits r
  cell_after_total t {mid} {new} {One} {bits} {r} e = subst (λ (n : ℕ). Reads mid new (λ s. cell s bins.count n) One bits r) e
