-- Laws about the whole sheet.
use mathlib.Core.Path.{◌≡◌, refl, sym, ap, ap₂, subst, ◌∙◌}
use mathlib.Core.List.{List, map}
use Prim.Native.Nat.{ℕ, ◌+◌, ◌*◌, ◌≤◌}
use native.Mathlib.Omega.{arith}
use lib.ListN.{length, replicate}
use Rattle.std.specs.Prelude.{Result, Ok, Err, MatchResult, IsErrAnd}
use Rattle.std.proofs.lemmas.Result.{err_from_is_err_and}
use Rattle.fields.specs.declared.Flaw.{Flaw}
use Rattle.fields.specs.declared.Sheet.{Sheet}
use Rattle.fields.specs.Answer.{success, on_success, Bounded}
use Rattle.fields.specs.Reading.{At, Reader, done, ◌>>=◌, start, times, field, within, ended, Live}
use Rattle.fields.specs.Inside.Promises.{Reads, Opens, Closes, Told, Flawed}
use Rattle.fields.proofs.Answer.{told_said, flawed_said}
use Rattle.fields.proofs.Readers.{Keeps, keeps_then, keeps_times, first_stops, then_reads, from_start}
use Rattle.sheets_rules.specs.declared.Bins.{Bins}
use Rattle.sheets_rules.specs.declared.Counts.{Counts}
use Rattle.sheets_rules.specs.declared.Reason.TheVariants as Reason
use Rattle.sheets_rules.specs.declared.Refusal.{Refusal}
use Rattle.sheets_rules.specs.Model.{Library, Pin, bin_load_of, Cell, Pattern, patterns, patterns_from, pins_most}
use Rattle.sheets_rules.specs.LibrarySheet.{bins, cells, library, cell_after}
use Rattle.sheets_rules.specs.Reach.{bin_bits, cell_bits, library_bits}
use Rattle.sheets_rules.specs.Report.{LibraryLimits, LibraryBounded, library_number, counts_of, library_word, library_said, library_report, of_library_judged}
use Rattle.sheets_rules.specs.Inside.Layout.{padded, no_pin, cell_laid, row_words, table_words, row, table_from, pattern_row, pattern_rows, library_laid}
use Rattle.sheets_rules.specs.Inside.Readers.{LibraryIs}
use Rattle.sheets_rules.specs.Inside.Sound.{LibraryStored}
use Rattle.sheets_rules.proofs.Laid.{padded_at}
use Rattle.sheets_rules.proofs.Report.{number_bounds, library_number_fits}
use Rattle.sheets_rules.proofs.Results.{sound_says, refused_says}
use Rattle.sheets_rules.proofs.Sound.{library_limits}
use Rattle.library.specs.declared.Contents.{Contents}
use Rattle.library.specs.Inside.Promises.{BinsHold, CellsHold, ContentsHold}
use Rattle.library.proofs.Laws.{ok_done, stops_done, cell_keeps}

-- The bin loads in their array, and in the rows of patterns.
bins_padded : (xs : List ℕ) → length xs ≤ 4 → bin_load_of (padded 4 0 xs) ≡ bin_load_of xs
bins_padded xs h = λ i p. padded_at 4 xs p.bin h i

rows_padded : (xs : List ℕ) → length xs ≤ 4 → (ps : List Pattern) → pattern_rows (padded 4 0 xs) ps ≡ pattern_rows xs ps
unfolding pattern_rows pattern_row cell_laid
rows_padded xs h ps = ap (λ (f : Pin → ℕ). map (λ (p : Pattern). row p.cell_number (record {
  held = p.cell.held;
  area = p.cell.area;
  highest = p.cell.highest;
  count = length p.cell.pins;
  pins = padded pins_most no_pin (map (λ (q : Pin). record { bin = q.bin; load = f q; intrinsic = q.intrinsic; drive = q.drive }) p.cell.pins);
}) p.drawing) ps) (bins_padded xs h)

-- ---- the sheet, but for its end

abbrev of_cells : List ℕ → List Cell → Library
of_cells xs cs = record { bins = xs; cells = cs }

abbrev after_bins : List ℕ → List ℕ → Reader Library
after_bins s xs = cells s (length xs) >>= λ cs. done (of_cells xs cs)

bins_keep : (s xs : List ℕ) → Keeps (after_bins s xs)
unfolding cells
bins_keep s xs f p =
    keeps_then (field s 7 (within 1 64)) (λ n. times n (cell_after s (length xs))) (λ f p. refl)
    (λ n. keeps_times (cell_after s (length xs)) (λ cs. cell_keeps (record { count = length xs; loads = xs }) _ s) n) f p

module _ (s : List ℕ) {sheet mid : Sheet} (o : Opens s sheet) where
  pub bins_stop : {Holds : List ℕ → Bins → Type 0} {e : Flaw} → Reads sheet mid bins Holds (3 + bin_bits * 4) (Err e) → Flawed (library s start) library_bits e
  unfolding library
  bins_stop h =
      let all : Reads sheet mid (λ s. bins s >>= after_bins s) (ContentsHold s s) library_bits (Err _) = first_stops bins after_bins h (omega arith) bins_keep in
      let t = from_start s o all in
      record { says = ap (ended s) t.says; near = t.near }

  module _ {b : Bins} (hb : Reads sheet mid bins BinsHold (3 + bin_bits * 4) (Ok b)) (l l' : List ℕ) (new : Sheet) where
    abbrev OfCells : Result Counts Flaw → Type 0
    OfCells = Reads mid new (λ s. cells s b.count) (CellsHold b l l') (7 + cell_bits * 64)

    abbrev xs : List ℕ
    xs = (bins sheet.bytes.now (At sheet.at)).0

    -- By as many bins as were read.
    counted : (r : Result Counts Flaw) → OfCells r → Reads mid new (λ s. cells s (length xs)) (CellsHold b l l') (7 + cell_bits * 64) r
    counted r = subst (λ (n : ℕ). Reads mid new (λ s. cells s n) (CellsHold b l l') (7 + cell_bits * 64) r) hb.takes.holds.counted

    pub cells_stop : {e : Flaw} → OfCells (Err e) → Flawed (library s start) library_bits e
    unfolding library
    cells_stop {e} h =
        let all : Reads sheet new (λ s. bins s >>= after_bins s) (ContentsHold l l') library_bits (Err e) =
        then_reads bins after_bins {more = 7 + cell_bits * 64} _ hb (stops_done (of_cells xs) (counted (Err e) h)) (omega arith) in
        let t = from_start s o all in
        record { says = ap (ended s) t.says; near = t.near }

    module _ {n : Counts} (h : OfCells (Ok n)) where
      all : Reads sheet new (λ s. bins s >>= after_bins s) (ContentsHold l l') library_bits (Ok (record { bins = b; counts = n }))
      unfolding library_laid patterns
      all =
          let t = hb.takes.holds in
          let cs = (cells mid.bytes.now (length xs) (At mid.at)).0 in
          then_reads bins after_bins {more = 7 + cell_bits * 64} _ hb
          (ok_done (of_cells xs) (counted (Ok n) h) (λ g. record {
            bins_are = λ i. record { count = t.counted i; loads = t.loads i };
            counted = g.counted;
            totalled = g.patterns_are.totalled;
            cells_few = g.cells_few;
            patterns_few = g.patterns_are.few;
            laid =
                g.patterns_are.laid
                ∙ ap (λ (loads : List ℕ). table_from row_words l 0 (pattern_rows loads (patterns_from 0 cs))) t.loads
                ∙ ap (table_from row_words l 0) (rows_padded xs (omega (arith, t.counted, t.few)) (patterns_from 0 cs));
          }))
          (omega arith)

      ends : (library s start).1 ≡ ended new.bytes.now (At new.at)
      unfolding library
      ends = ap (ended s) (from_start s o all).at ∙ ap (λ (bytes : List ℕ). ended bytes (At new.at)) (sym (all.same ∙ o.bytes_are))

      pub sheet_told : Closes (ended new.bytes.now) new.at (Ok tt) → Told (ContentsHold l l') (library s start) (record { bins = b; counts = n })
      unfolding library
      sheet_told closed = record { live = subst Live (sym (ends ∙ closed)) tt; holds = (from_start s o all).holds }

      pub end_flawed : {e : Flaw} → Closes (ended new.bytes.now) new.at (Err e) → Flawed (library s start) library_bits e
      end_flawed closed = record { says = ends ∙ closed.0; near = omega (arith, closed.1, (from_start s o all).near) }

-- ---- what its readers say

-- A library's refusal.
abbrev pub refused_at : Flaw → Refusal
refused_at e = record { item = 0; reason = Reason.Library e.fault; place = e.place }

-- What an error was made of, and a value that was none.
module _ {A E F : Type 0} (P : E → F → Type 0) (m : Result A F) where
  pub mapped_ok : (r : Result A E) (x : A) → MatchResult r (λ y. m ≡ Ok y) (λ e. IsErrAnd m (P e)) → m ≡ Ok x → r ≡ Ok x
  mapped_ok (Ok y) x h e = let both : ◌≡◌ {A = Result A F} (Ok y) (Ok x) = sym h ∙ e in let same : y ≡ x = cc in ap Ok same
  mapped_ok (Err f) x h e = let p = err_from_is_err_and m h in let both : ◌≡◌ {A = Result A F} (Err p.0) (Ok x) = sym p.1 ∙ e in absurd (cc)

  pub mapped_err : (r : Result A E) (q : F) → MatchResult r (λ y. m ≡ Ok y) (λ e. IsErrAnd m (P e)) → m ≡ Err q → (e : E) × (r ≡ Err e) × P e q
  mapped_err (Ok y) q h e = let both : ◌≡◌ {A = Result A F} (Ok y) (Err q) = sym h ∙ e in absurd (cc)
  mapped_err (Err f) q h e =
      let p = err_from_is_err_and m h in
      let both : ◌≡◌ {A = Result A F} (Err p.0) (Err q) = sym p.1 ∙ e in
      let same : p.0 ≡ q = cc in
      (f, refl, subst (P f) same p.2)

-- With its rows laid out in a table of zeros the library is whole; or the sheet is refused.
pub library_is : (s l' : List ℕ) (r : Contents) → Told (ContentsHold (replicate table_words 0) l') (library s start) r →
    LibraryIs s (Ok (record { bins = r.bins; count = r.counts.cells; total = r.counts.patterns; rows = l' }))
unfolding library_laid library_said
library_is s l' r h =
    let x = h.holds in
    record {
      said = sound_says LibraryStored library_number (library s start) _ h.live
          (record { sound = library_limits s h.live; library_is = λ i. record { bins = x.bins_are i; count = x.counted i; total = x.totalled i; rows = x.laid i } });
      near = tt;
    }

pub library_refused : (s : List ℕ) (e : Flaw) → Flawed (library s start) library_bits e → LibraryIs s (Err (refused_at e))
unfolding library_said
library_refused s e h = record { said = refused_says LibraryStored library_number (library s start) (refused_at e) h.says refl refl (library_number_fits e.fault) (omega (arith, h.near)); near = h.near }

-- What the judge says.
abbrev pub Judged : List ℕ → Result Counts Refusal → Type 0
Judged s j = (of_library_judged j ≡ library_report s) × LibraryBounded (of_library_judged j)

pub library_judged : (s l l' : List ℕ) (r : Contents) → Told (ContentsHold l l') (library s start) r → Judged s (Ok r.counts)
unfolding of_library_judged library_report library_laid library_word Bounded LibraryLimits on_success
library_judged s l l' r h =
    let x = h.holds in
    let report = ap (on_success counts_of) (told_said library_number h) in
    (ap₂ (λ (n m : ℕ). success (record { cells = n; patterns = m })) x.counted x.totalled ∙ sym report, (omega (arith, x.cells_few, x.patterns_few), (x.cells_few, x.patterns_few)))

pub judged_refused : (s : List ℕ) (e : Flaw) → Flawed (library s start) library_bits e → Judged s (Err (refused_at e))
unfolding of_library_judged library_report Bounded LibraryLimits on_success
judged_refused s e h = (sym (ap (on_success counts_of) (flawed_said library_number h)), (omega (arith, h.near, number_bounds e.fault), h.near))
