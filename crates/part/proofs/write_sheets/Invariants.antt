use Prim.Native.Nat.{◌≤◌, ◌*◌}
use mathlib.Core.Path.{◌≡◌}
use mathlib.Core.List.{map, flat_map}
use lib.ListN.{length, take}
use Rattle.covers.specs.CoverSheet.{cover_sheet}
use Rattle.result_sheets.specs.Public.{cover_of, Written}
use Rattle.part.proofs.write_sheets.Given as goal

abbrev pub invariant-loop-cover : goal.invariant-loop-cover
invariant-loop-cover l = record {
  place : l.at ≤ 149 * l.cover-index;
  kept : length l.output ≡ length l.initial.output;
  written : Written (flat_map cover_sheet (map cover_of (take l.cover-index l.covers))) l.initial.output l.output l.at;
}
