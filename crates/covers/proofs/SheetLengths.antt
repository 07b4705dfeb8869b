-- How many bytes a sheet takes: at most 149 for a cover of 63 matches, and at most 179 for 31 trade-offs.
use Prim.Native.Nat.{◌+◌, ◌*◌, ◌/◌, ◌≤◌}
use mathlib.Core.Path.{◌≡◌, refl, ap, ◌∙◌}
use mathlib.Core.List.{List, [], ◌∷◌}
use native.Mathlib.Omega.{arith}
use lib.ListN.{length}
use Rattle.covers.specs.Cover.{Point, Placed, Cover}
use Rattle.fields.specs.Written.{widths}
use Rattle.fields.proofs.Written.{length_packed}
use Rattle.covers.specs.CoverSheet.{placed_fields, cover_fields, point_fields, list_fields, cover_sheet, list_sheet}

pub placed_widths : (xs : List Placed) → widths (placed_fields xs) ≡ 18 * length xs
unfolding placed_fields widths
placed_widths [] = refl
placed_widths (x ∷ xs) = omega (arith, placed_widths xs)

pub point_widths : (ps : List Point) → widths (point_fields ps) ≡ 46 * length ps
unfolding point_fields widths
point_widths [] = refl
point_widths (p ∷ ps) = omega (arith, point_widths ps)

pub cover_sheet_length : (c : Cover) → length (cover_sheet c) ≡ (52 + 18 * length c.placed + 7) / 8
unfolding cover_sheet cover_fields widths
cover_sheet_length c = length_packed (cover_fields c) ∙ ap (λ w. (w + 7) / 8) (omega (arith, placed_widths c.placed))

pub list_sheet_length : (ps : List Point) → length (list_sheet ps) ≡ (5 + 46 * length ps + 7) / 8
unfolding list_sheet list_fields widths
list_sheet_length ps = length_packed (list_fields ps) ∙ ap (λ w. (w + 7) / 8) (omega (arith, point_widths ps))

pub cover_sheet_fits : (c : Cover) → length c.placed ≤ 63 → length (cover_sheet c) ≤ 149
cover_sheet_fits c h = rw (cover_sheet_length c) (omega arith)

pub list_sheet_fits : (ps : List Point) → length ps ≤ 31 → length (list_sheet ps) ≤ 179
list_sheet_fits ps h = rw (list_sheet_length ps) (omega arith)
