-- The examples of linked trees and of part sheets hold, by computation from the definitions alone.
use mathlib.Core.Path.{refl}
use Rattle.bits.specs.Bits.{after, bit_at, value_at, place_of, cursor_at, field_at, bytes_to, rest_of, filled_at, ends_at}
use Rattle.fields.specs.Reading.{times, within}
use Rattle.shapes_rules.specs.Drawing.{code_verdict, leaf_verdict, leaf_node, pair, branch, node, shape}
use Rattle.sheets_rules.specs.TreeSheet.{tree_to}
use Rattle.sheets_rules.specs.Report.{library_number, tree_number}
use Rattle.part_rules.specs.PartSheet.{link, counts}
use Rattle.fields.specs.Answer.{◌>>=◌, on_success}
use Rattle.part_rules.specs.PartRead.{links_judged, after_counts, part}
use Rattle.part_rules.specs.Outcome.{covers_from}
use Rattle.part_rules.specs.Examples.Linked.{Linked, Sheets}

pub linked : Linked
unfolding links_judged covers_from on_success ◌>>=◌
linked = refl

pub sheets : Sheets
unfolding part after_counts counts link times within tree_to shape node branch pair leaf_node code_verdict leaf_verdict library_number tree_number after bit_at value_at place_of cursor_at field_at bytes_to rest_of filled_at ends_at
sheets = refl
