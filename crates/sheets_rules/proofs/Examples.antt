-- The examples of the judges' answers hold, by computation from the definitions.
use Prim.Native.Nat.{ℕ}
use mathlib.Core.Path.{refl}
use mathlib.Core.List.{List}
use Rattle.bits.specs.Bits.{after, bit_at, value_at, place_of, cursor_at, field_at, bytes_to, rest_of, ends_at}
use Rattle.fields.specs.Reading.{Scan}
use Rattle.fields.specs.Reading.{times, within, start}
use Rattle.fields.specs.Written.{packed}
use Rattle.shapes_rules.specs.Shape.{symbols}
use Rattle.shapes_rules.specs.Drawing.{elem, has_all, code_verdict, leaf_verdict, leaf_node, driven_node, pair, branch, node, shape}
use Rattle.sheets_rules.specs.Model.{size, drawn, patterns_from, patterns, Library, Tree}
use Rattle.sheets_rules.specs.LibrarySheet.{last, count_verdict, complete, bin_load, head, pin, pattern, drawings, cell, bins, cells, library}
use Rattle.sheets_rules.specs.TreeSheet.{tree_to, tree}
use Rattle.sheets_rules.specs.Report.{library_number, tree_number, library_said, tree_said, library_report, tree_report}
use Rattle.sheets_rules.specs.Examples.Reports.{Reports}

-- What is read from the two sheets. A proof that unfolds this computes it, and its refusals' numbers, down to the bits.
unfoldable pub both_read : (ls ts : List ℕ) → (Library × Scan) × (Tree × Scan)
unfolding packed after bit_at value_at place_of cursor_at field_at bytes_to rest_of ends_at times within symbols elem has_all code_verdict leaf_verdict leaf_node driven_node pair branch node shape size patterns patterns_from drawn last count_verdict complete bin_load head pin pattern drawings cell bins cells library tree_to library_number tree_number
both_read ls ts = (library ls start, tree ts start)

pub reports : Reports
unfolding both_read library_said tree_said library_report tree_report
reports = (refl, refl)
