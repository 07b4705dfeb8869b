-- The text of a legal cover by the library's rows is its text, and it is short.
use Prim.Native.Nat.{ℕ, ◌*◌, ◌≤◌, ◌<◌}
use mathlib.Core.Path.{◌≡◌, refl, sym, ap, ap₂, ◌∙◌}
use mathlib.Core.List.{List, [], ◌∷◌, ◌++◌, flat_map, Memᴰ}
use native.Mathlib.Nat.{add-zero}
use native.Mathlib.Omega.{arith}
use lib.ListN.{length, get_or, length-append}
use Rattle.sheets_rules.specs.Model.{Library, Pattern, patterns, cell_of, Tree}
use Rattle.sheets_rules.specs.Inside.Layout.{row_words, library_laid}
use Rattle.sheets_rules.specs.Inside.Sound.{SoundLibrary, SoundTree}
use Rattle.sheets_rules.proofs.Patterns.{cell_below, row_in, cell_told}
use Rattle.covers.specs.Cover.{Placed, Cover}
use Rattle.covers.specs.Promise.{RootCover}
use Rattle.covers.proofs.Listing.{known_patterns}
use Rattle.covers.proofs.FromSheets.{root_bounds, cover_fits}
use Rattle.text.specs.Text.{decimal, line}
use Rattle.text.proofs.Laws.{decimal_fits, length_line, length_spaced, length_last, lines_short}
use Rattle.treecover_text.specs.Printed.{match_line, cover_line, cover_text, longest_text}
use Rattle.treecover_text.specs.Inside.Rows.{row_line, row_lines, row_text, HaveRows}
use Rattle.treecover_text.proofs.Laws.{cover_line_length}

-- ---- the cell of a pattern

module _ {l : Library} (sound : SoundLibrary l) where
  abbrev ps : List Pattern
  ps = patterns l

  abbrev rows : List ℕ
  rows = (library_laid l).rows

  cell_at : (j : ℕ) → j < length ps → get_or rows (row_words * j) 0 ≡ cell_of l j
  cell_at j h = ap (λ (i : ℕ). get_or rows i 0) (sym (add-zero (row_words * j))) ∙ cell_told sound j h

  have_rows : (xs : List Placed) → ((x : Placed) → Memᴰ x xs → x.pattern < length ps) → HaveRows rows xs
  have_rows xs h x m = omega (arith, row_in sound x.pattern (h x m))

  lines_read : (xs : List Placed) → ((x : Placed) → Memᴰ x xs → x.pattern < length ps) → row_lines rows xs ≡ flat_map (match_line l) xs
  unfolding row_lines row_line match_line flat_map
  lines_read [] h = refl
  lines_read (x ∷ xs) h = ap₂ ◌++◌ (ap (λ (n : ℕ). line (decimal x.node ∷ decimal n ∷ decimal x.pattern ∷ decimal x.crossing ∷ [])) (cell_at x.pattern (h x (Memᴰ.head refl)))) (lines_read xs (λ y m. h y (Memᴰ.tail m)))

-- ---- the text of a cover

module _ {l : Library} {t : Tree} {c : Cover} (sound : SoundLibrary l) (tree : SoundTree t) (legal : RootCover l t c) where
  known : (x : Placed) → Memᴰ x c.placed → x.pattern < length (patterns l)
  known x m = (known_patterns legal x m).0

  pub cover_rows : HaveRows (library_laid l).rows c.placed
  cover_rows = have_rows sound c.placed known

  pub cover_read_lem : row_text (library_laid l).rows c ≡ cover_text l c
  unfolding row_text cover_text
  cover_read_lem = ap (λ (r : List ℕ). cover_line c.point.area c.point.arrival (length c.placed) ++ r) (lines_read sound c.placed known)

  match_short : (x : Placed) → Memᴰ x c.placed → length (match_line l x) ≤ 13
  unfolding match_line
  match_short x m =
      let b = (cover_fits sound tree legal).placed x m in
      let cell = decimal (cell_of l x.pattern) in
      let last = decimal x.pattern ∷ decimal x.crossing ∷ [] in
      omega (
        arith,
        length_line (decimal x.node) (cell ∷ last),
        length_spaced cell last,
        length_last (decimal x.pattern) (decimal x.crossing),
        decimal_fits 1 x.node (omega (arith, b.0)),
        decimal_fits 1 (cell_of l x.pattern) (omega (arith, cell_below sound x.pattern (known x m), sound.few_cells)),
        decimal_fits 2 x.pattern (omega (arith, b.1)),
        decimal_fits 1 x.crossing (omega (arith, b.2)),
      )

  -- 25 bytes for the first line, and 13 for each of 63 matches.
  pub cover_short : length (cover_text l c) ≤ longest_text
  unfolding cover_text
  cover_short =
      let b = root_bounds sound tree legal in
      let fits = cover_fits sound tree legal in
      let area = c.point.area in
      let arrival = c.point.arrival in
      let count = length c.placed in
      omega (
        arith,
        length-append (cover_line area arrival count) (flat_map (match_line l) c.placed),
        cover_line_length area arrival count,
        length_last (decimal arrival) (decimal count),
        decimal_fits 6 area (omega (arith, b.0)),
        decimal_fits 6 arrival (omega (arith, b.1)),
        decimal_fits 1 count (omega (arith, fits.count)),
        fits.count,
        lines_short (match_line l) 13 c.placed match_short,
      )
