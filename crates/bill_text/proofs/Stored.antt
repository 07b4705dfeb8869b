-- What a legal cover's bill needs: small numbers, room, and that the lines make up its text.
use Prim.Native.Nat.{ℕ, ◌+◌, ◌≤◌, ◌<◌}
use mathlib.Core.Path.{◌≡◌, refl, sym, ap, subst, ◌∙◌}
use mathlib.Core.Bool.{Bool, false}
use mathlib.Core.List.{List, ◌++◌, flat_map, Memᴰ}
use native.Mathlib.Omega.{arith}
use lib.IntN.{ℤ}
use lib.ListN.{length, take, length-append}
use lib.Seq.{get_or-take, length-take-le}
use Rattle.std.specs.Prelude.{Ok}
use Rattle.fields.specs.Reading.{start}
use Rattle.fields.specs.Answer.{success}
use Rattle.sheets_rules.specs.declared.LibraryRecord.{LibraryRecord}
use Rattle.sheets_rules.specs.declared.TreeRecord.{TreeRecord}
use Rattle.sheets_rules.specs.Model.{Library, Tree}
use Rattle.sheets_rules.specs.LibrarySheet.{library as library_of}
use Rattle.sheets_rules.specs.TreeSheet.{tree as tree_of}
use Rattle.sheets_rules.specs.Inside.Layout.{library_laid, tree_laid}
use Rattle.sheets_rules.specs.Inside.Readers.{LibraryIs, TreeIs}
use Rattle.sheets_rules.specs.Inside.Sound.{LibraryStored, TreeStored}
use Rattle.sheets_rules.specs.Report.{library_said, tree_said}
use Rattle.sheets_rules.proofs.Sound.{library_limits, tree_limits, library_said_lem, tree_said_lem}
use Rattle.sheets_rules.proofs.Results.{says_holds}
use Rattle.sheets_rules.proofs.Patterns.{cell_below, area_small, row_in, cell_told, area_told}
use Rattle.covers.specs.Cover.{Point, Placed, Cover}
use Rattle.covers.specs.CoverSheet.{cover_read}
use Rattle.covers.specs.Promise.{RootCover}
use Rattle.covers.proofs.Listing.{known_patterns}
use Rattle.covers.proofs.FromSheets.{root_bounds, cover_fits}
use Rattle.result_sheets.specs.declared.CoverRecord.{CoverRecord}
use Rattle.result_sheets.specs.Public.{cover_of, CoverHolds, Written}
use Rattle.judge_rules.specs.Judgement.{judgement}
use Rattle.text.specs.declared.Text.{Text}
use Rattle.text.specs.Inside.Promises.{Appended}
use Rattle.text.proofs.Laws.{appended_both}
use Rattle.bill_rules.specs.Bill.{entries_below, amounts, margin, bill}
use Rattle.bill_rules.specs.Billed.{is_spoiled, library_part, tree_part, cover_part, entry_line, total_line, margin_line, bill_text, bill_shown, longest_bill, billed, billed_within}
use Rattle.bill_rules.proofs.Accepted.{accepted}
use Rattle.bill_rules.proofs.Text.{small_total, bill_short}
use Rattle.bill_rules.proofs.Demands.{shown_bill}
use Rattle.frame.specs.Framed.{outcome_text, framed}
use Rattle.frame.proofs.Laws.{text_within, at_front}
use Rattle.bill_text.specs.declared.Entry.{Entry}
use Rattle.bill_text.specs.Inside.Promises.{CellTold, Countable, no_entry, TallyIs, Tallied, EntriesPut, BillStored}

module _ {l : Library} {t : Tree} {rows : List ℕ} {cells : ℕ} {cover : CoverRecord} {required : ℕ} (h : BillStored l t rows cells cover required) where
  abbrev xs : List Placed
  xs = (cover_of cover).placed

  abbrev total : ℕ
  total = amounts (entries_below l xs cells)

  abbrev spare : ℤ
  spare = margin required cover.arrival

  pub times : (required < 2147483648) × (cover.arrival < 2147483648)
  times = (omega (arith, h.required_is, h.tree.required), omega (arith, (root_bounds h.sound h.tree h.legal).1))

  told : (x : Placed) → Memᴰ x xs → CellTold l rows x
  told x m =
      let j = x.pattern in
      let known = (known_patterns h.legal x m).0 in
      subst (λ (rs : List ℕ). CellTold l rs x) (sym h.rows_are) (record {
        row_in = omega (arith, row_in h.sound j known);
        cell_is = cell_told h.sound j known;
        area_is = area_told h.sound j known;
        cell_small = omega (arith, cell_below h.sound j known, h.sound.few_cells);
        area_small = area_small h.sound j known;
      })

  pub countable : Countable l rows xs
  countable = record { few = (cover_fits h.sound h.tree h.legal).count; told = told }

  -- The lines of the cells, the total and the margin are the bill's text.
  text_is : flat_map entry_line (entries_below l xs cells) ++ (total_line total ++ margin_line spare) ≡ bill_text (bill l t (cover_of cover))
  unfolding bill_text bill
  text_is = rw (h.cells_are, h.required_is)

  pub parts_short : length (flat_map entry_line (entries_below l xs cells)) + length (total_line total) + length (margin_line spare) ≤ longest_bill
  parts_short = omega (
    arith,
    bill_short t h.sound h.tree h.legal,
    ap length text_is,
    length-append (flat_map entry_line (entries_below l xs cells)) (total_line total ++ margin_line spare),
    length-append (total_line total) (margin_line spare),
  )

  cells_in : cells ≤ 64
  cells_in = omega (arith, h.cells_are, h.sound.few_cells)

  -- The entries of the library's cells, of those of 64 cells.
  module _ (entries : List Entry) (long : length entries ≡ 64) where
    all : length (take cells entries) ≡ cells
    all = let few = cells_in in length-take-le cells entries (omega arith)

    pub listing : TallyIs l xs entries → (text : Text) → text.len + longest_bill ≤ length text.bytes.now → Tallied l xs (take cells entries) text
    listing is text room = record {
      tally_is = λ n below. let low : n < cells = omega (arith, all) in get_or-take cells entries n no_entry low ∙ is n (omega (arith, cells_in));
      small = omega (arith, small_total t h.sound h.tree h.legal, ap (λ (n : ℕ). amounts (entries_below l xs n)) (all ∙ h.cells_are));
      room = omega (arith, parts_short, ap (λ (n : ℕ). length (flat_map entry_line (entries_below l xs n))) all);
    }

    pub listed : {first text : Text} {sum : ℕ} → EntriesPut l xs (length (take cells entries)) first text sum → EntriesPut l xs cells first text sum
    listed {first} {text} {sum} = subst (λ (n : ℕ). EntriesPut l xs n first text sum) all

  pub bill_put : {first one two exit : Text} {sum : ℕ} {z : ℤ} → EntriesPut l xs cells first one sum → Appended (total_line sum) one two → Appended (margin_line z) two exit → z ≡ spare → Appended (bill_text (bill l t (cover_of cover))) first exit
  bill_put {first} {one} {two} {exit} a b c e =
      subst (λ (w : List ℕ). Appended w first exit) text_is
      (appended_both a.lines_put (appended_both (subst (λ (n : ℕ). Appended (total_line n) one two) a.total_is b) (subst (λ (k : ℤ). Appended (margin_line k) two exit) e c)))

-- ---- what is read of an accepted cover

module _ (ls ts cs : List ℕ) {p : Point} (accepts : judgement ls ts cs ≡ success p) {library : LibraryRecord} {tree : TreeRecord} {cover : CoverRecord} (hl : LibraryIs ls (Ok library)) (ht : TreeIs ts (Ok tree)) (hc : CoverHolds (cover_read cs start).0 cover) where
  pub stored_read : BillStored (library_of ls start).0 (tree_of ts start).0 library.rows library.count cover tree.required
  unfolding library_laid tree_laid
  stored_read =
      let found = accepted ls ts cs p accepts in
      let laid = (says_holds LibraryStored (library_said ls) (Ok library) refl hl.said (library_of ls start).0 (library_said_lem ls found.library_live)).library_is in
      record {
        sound = library_limits ls found.library_live;
        tree = tree_limits ts found.tree_live;
        legal = subst (RootCover (library_of ls start).0 (tree_of ts start).0) (sym hc.cover_is) found.legal;
        rows_are = ap (λ (r : LibraryRecord). r.rows) laid;
        cells_are = ap (λ (r : LibraryRecord). r.count) laid;
        required_is = ap (λ (r : TreeRecord). r.required) (says_holds TreeStored (tree_said ts) (Ok tree) refl ht (tree_of ts start).0 (tree_said_lem ts found.tree_live)).tree_is;
        count_small = hc.few;
      }

  pub shown_read : bill_text (bill (library_of ls start).0 (tree_of ts start).0 (cover_of cover)) ≡ outcome_text (bill_shown ls ts cs)
  unfolding outcome_text
  shown_read = ap (λ (c : Cover). bill_text (bill (library_of ls start).0 (tree_of ts start).0 c)) hc.cover_is ∙ sym (ap outcome_text (shown_bill ls ts cs accepts))

-- ---- what is printed

pub billed_whole : (input : List ℕ) {ls ts cs : List ℕ} → is_spoiled input ≡ false → ls ≡ library_part input → ts ≡ tree_part input → cs ≡ cover_part input → outcome_text (bill_shown ls ts cs) ≡ billed input
unfolding billed framed
billed_whole input whole l t c = (λ i. outcome_text (bill_shown (l i) (t i) (c i))) ∙ sym (ap (λ (b : Bool). framed b (bill_shown (library_part input) (tree_part input) (cover_part input))) whole)

-- What is put into a text that was empty, in a slice with room, is what is to be written.
pub front_written : (room : ℕ) (input : List ℕ) {before after : List ℕ} {entry exit : Text} → longest_bill ≤ room → entry.bytes.now ≡ before → entry.len ≡ 0 → Appended (billed input) entry exit → after ≡ exit.bytes.now → Written (billed_within room input) before after exit.len
unfolding billed_within
front_written room input h is none put left = rw (text_within longest_bill room (billed input) h) (at_front is none put left)
