-- From the records that the readers hand over to the tables of a decoded library and tree.
use mathlib.Core.Path.{◌≡◌, ap}
use Prim.Native.Nat.{◌*◌, ◌≤◌}
use lib.ListN.{length, take}
use Rattle.sheets_rules.specs.declared.LibraryRecord.{LibraryRecord}
use Rattle.sheets_rules.specs.declared.TreeRecord.{TreeRecord}
use Rattle.sheets_rules.specs.Model.{Library, Tree}
use Rattle.sheets_rules.specs.Inside.Layout.{row_words, table_words, tree_laid}
use Rattle.sheets_rules.proofs.Stored.{table_whole, few_rows, rows_filled}
use Rattle.sheets_rules.specs.Inside.Sound.{TreeStored}
use Rattle.overlay.specs.Inside.Promises.{LibraryStored, SheetsStored, Decoded}

-- ---- a library and a tree that were read

pub sheets_stored : {l : Library} {t : Tree} {library : LibraryRecord} {tree : TreeRecord} → LibraryStored l library → TreeStored t tree → SheetsStored l t library tree
sheets_stored g h = record { read = g; tree_sound = h.sound; tree_is = h.tree_is }

-- ---- what their records hold

module _ {l : Library} {t : Tree} {library : LibraryRecord} {tree : TreeRecord} where
  -- There are no more rows than the table has room for.
  pub rows_long : SheetsStored l t library tree → length library.rows ≡ table_words
  rows_long g = table_whole g.read

  pub total_few : SheetsStored l t library tree → library.total ≤ 128
  total_few g = few_rows g.read

  -- The rows that are filled, and the tree's symbols and sizes.
  pub decoded_of : SheetsStored l t library tree → Decoded l t (take (row_words * library.total) library.rows) tree.symbols tree.sizes
  unfolding tree_laid
  decoded_of g = record {
    library = g.read.sound;
    tree = g.tree_sound;
    rows_are = rows_filled g.read;
    symbols_are = ap (λ (r : TreeRecord). r.symbols) g.tree_is;
    sizes_are = ap (λ (r : TreeRecord). r.sizes) g.tree_is;
  }
