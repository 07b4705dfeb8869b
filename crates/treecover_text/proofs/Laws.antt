-- Laws about the lines that are put.
use Prim.Native.Nat.{ℕ, ◌+◌, ◌*◌, ◌≤◌, ◌<◌}
use mathlib.Core.Path.{◌≡◌, refl, sym, ap, ap₂, subst, ◌∙◌}
use mathlib.Core.List.{List, [], ◌∷◌, ◌++◌, map, map-append, flat_map, append-nil, Memᴰ}
use native.Mathlib.Nat.{add-zero}
use native.Mathlib.Omega.{arith}
use native.Mathlib.Numerals.{add-one}
use lib.ListN.{length, take, drop, get_or, length-append, length-map, take-append-drop}
use lib.Seq.{take-suc}
use Rattle.std.specs.Prelude.{Ok}
use Rattle.fields.specs.Reading.{Live, start}
use Rattle.fields.proofs.Lists.{at_mem, at_map}
use Rattle.sheets_rules.specs.declared.LibraryRecord.{LibraryRecord}
use Rattle.sheets_rules.specs.LibrarySheet.{library as library_of}
use Rattle.sheets_rules.specs.Inside.Layout.{row_words}
use Rattle.sheets_rules.specs.Inside.Readers.{LibraryIs}
use Rattle.sheets_rules.specs.Inside.Sound.{LibraryStored}
use Rattle.sheets_rules.specs.Report.{library_said}
use Rattle.sheets_rules.proofs.Results.{says_holds}
use Rattle.sheets_rules.proofs.Sound.{library_said_lem}
use Rattle.covers.specs.Cover.{Placed, Cover}
use Rattle.result_sheets.specs.declared.CoverRecord.{CoverRecord}
use Rattle.result_sheets.specs.declared.MatchRecord.{MatchRecord}
use Rattle.result_sheets.specs.Public.{placed_of, cover_of, CoverHolds}
use Rattle.result_sheets.proofs.Laws.{Room, many}
use Rattle.text.specs.declared.Text.{Text}
use Rattle.text.specs.Text.{decimal, spaced, line}
use Rattle.text.specs.Inside.Promises.{Appended}
use Rattle.text.proofs.Laws.{length_spaced, length_line, flat_map_append, appended_none, appended_both}
use Rattle.treecover_text.specs.Printed.{cover_word, cover_line}
use Rattle.treecover_text.specs.Inside.Rows.{rows_of, row_line, row_lines, row_text, HaveRows, Printable}

-- ---- how long a line is, by what is put for it

pub cover_line_length : (a b n : ℕ) → length (cover_line a b n) ≡ 6 + length (decimal a) + length (spaced (decimal b ∷ decimal n ∷ []))
unfolding cover_line
cover_line_length a b n = omega (arith, length_line cover_word (decimal a ∷ decimal b ∷ decimal n ∷ []), length_spaced (decimal a) (decimal b ∷ decimal n ∷ []))

-- A pattern's cell and the line of a match, as they are put.
abbrev pub cell_text : List ℕ → ℕ → List ℕ
cell_text rows pattern = decimal (get_or rows (row_words * pattern + 0) 0)

module _ (rows : List ℕ) (node pattern crossing : ℕ) where
  pub row_line_lem : decimal node ++ spaced (cell_text rows pattern ∷ decimal pattern ∷ decimal crossing ∷ []) ≡ row_line rows (record { node = node; pattern = pattern; crossing = crossing })
  unfolding row_line line
  row_line_lem = ap (λ (i : ℕ). decimal node ++ spaced (decimal (get_or rows i 0) ∷ decimal pattern ∷ decimal crossing ∷ [])) (add-zero (row_words * pattern))

  pub row_line_length : length (row_line rows (record { node = node; pattern = pattern; crossing = crossing }))
      ≡ length (decimal node) + (1 + length (cell_text rows pattern) + length (spaced (decimal pattern ∷ decimal crossing ∷ [])))
  row_line_length =
      let cell = cell_text rows pattern in
      let last = decimal pattern ∷ decimal crossing ∷ [] in
      omega (arith, ap length row_line_lem, length-append (decimal node) (spaced (cell ∷ last)), length_spaced cell last)

-- ---- the lines of the matches

-- The lines of some of the matches that are kept, and the line of match k.
module _ (rows : List ℕ) (ms : List MatchRecord) where
  abbrev pub lines : List MatchRecord → List ℕ
  lines xs = row_lines rows (map placed_of xs)

  pub lines_none : (t : Text) → Appended (lines (take 0 ms)) t t
  unfolding row_lines flat_map
  lines_none t = appended_none t

  lines_append : (xs ys : List MatchRecord) → lines (xs ++ ys) ≡ lines xs ++ lines ys
  unfolding row_lines
  lines_append xs ys = ap (flat_map (row_line rows)) (map-append placed_of xs ys) ∙ flat_map_append (row_line rows) (map placed_of xs) (map placed_of ys)

  module _ (k : ℕ) (d : MatchRecord) (h : k < length ms) where
    abbrev match : MatchRecord
    match = get_or ms k d

    line_more : lines (take k ms) ++ row_line rows (placed_of match) ≡ lines (take (k + 1) ms)
    unfolding row_lines flat_map
    line_more = rw (add-one k, take-suc ms k d h, lines_append (take k ms) (match ∷ []), append-nil)

    pub line_fits : length (lines (take k ms)) + length (row_line rows (placed_of match)) ≤ length (lines ms)
    line_fits = omega (
      arith,
      length-append (lines (take k ms)) (row_line rows (placed_of match)),
      ap length line_more,
      length-append (lines (take (k + 1) ms)) (lines (drop (k + 1) ms)),
      ap length (lines_append (take (k + 1) ms) (drop (k + 1) ms)),
      ap (λ (xs : List MatchRecord). length (lines xs)) (take-append-drop (k + 1) ms),
    )

    pub line_row : HaveRows rows (map placed_of ms) → row_words * match.pattern < length rows
    line_row rowed =
        let x = placed_of match in
        let long : k < length (map placed_of ms) = omega (arith, length-map ms placed_of) in
        rowed x (subst (λ (y : Placed). Memᴰ y (map placed_of ms)) (at_map placed_of ms k d x h) (at_mem (map placed_of ms) k x long))

    pub line_put : {entry text exit : Text} → Appended (lines (take k ms)) entry text → Appended (row_line rows (placed_of match)) text exit → Appended (lines (take (k + 1) ms)) entry exit
    line_put {entry} {exit = exit} p q = subst (λ (w : List ℕ). Appended w entry exit) line_more (appended_both p q)

-- The lines of a cover.
pub cover_text_lem : (cover : CoverRecord) → Room cover → (rows : List ℕ) → cover_line cover.area cover.arrival cover.count ++ row_lines rows (cover_of cover).placed ≡ row_text rows (cover_of cover)
unfolding row_text
cover_text_lem cover room rows = ap (λ (n : ℕ). cover_line cover.area cover.arrival n ++ row_lines rows (cover_of cover).placed) (sym (many cover room))

-- ---- what is read back

module _ {library : List ℕ} {read : LibraryRecord} {c : Cover} {found : CoverRecord} (h : LibraryIs library (Ok read)) (live : Live (library_of library start).1) (g : CoverHolds c found) where
  rows_read : read.rows ≡ rows_of library
  rows_read = ap (λ (r : LibraryRecord). r.rows) (says_holds LibraryStored (library_said library) (Ok read) refl h.said (library_of library start).0 (library_said_lem library live)).library_is

  pub text_read : row_text read.rows (cover_of found) ≡ row_text (rows_of library) c
  text_read = ap₂ row_text rows_read g.cover_is

  pub printable_read : (text : Text) → Printable (rows_of library) c text → Printable read.rows (cover_of found) text
  printable_read text p = subst (λ (r : List ℕ). Printable r (cover_of found) text) (sym rows_read) (subst (λ (d : Cover). Printable (rows_of library) d text) (sym g.cover_is) p)
