-- From the record that the reader of libraries hands over to the rows of its patterns.
use mathlib.Core.Path.{◌≡◌, ap, ◌∙◌}
use Prim.Native.Nat.{ℕ, ◌*◌, ◌≤◌}
use native.Mathlib.Omega.{arith}
use lib.ListN.{length, take, replicate, length-replicate}
use Rattle.sheets_rules.specs.declared.LibraryRecord.{LibraryRecord}
use Rattle.sheets_rules.specs.Model.{Library, patterns}
use Rattle.sheets_rules.specs.Inside.Layout.{row_words, table_words, pattern_rows, pattern_table, library_laid}
use Rattle.sheets_rules.specs.Inside.Sound.{LibraryStored}
use Rattle.sheets_rules.proofs.Tables.{length_table}

module _ {l : Library} {library : LibraryRecord} (g : LibraryStored l library) where
  -- There are no more rows than the table has room for.
  pub table_whole : length library.rows ≡ table_words
  unfolding library_laid
  table_whole = ap (λ (r : LibraryRecord). length r.rows) g.library_is ∙ length_table row_words (replicate table_words 0) 0 (pattern_rows l.bins (patterns l)) ∙ length-replicate {A = ℕ} table_words 0

  pub row_count : library.total ≡ length (patterns l)
  unfolding library_laid
  row_count = ap (λ (r : LibraryRecord). r.total) g.library_is

  pub few_rows : library.total ≤ 128
  few_rows = omega (arith, row_count, g.sound.few_patterns)

  pub cell_count : library.count ≡ length l.cells
  unfolding library_laid
  cell_count = ap (λ (r : LibraryRecord). r.count) g.library_is

  -- The rows that are filled.
  pub rows_filled : take (row_words * library.total) library.rows ≡ pattern_table l
  unfolding library_laid pattern_table
  rows_filled = ap (λ (r : LibraryRecord). take (row_words * r.total) r.rows) g.library_is
