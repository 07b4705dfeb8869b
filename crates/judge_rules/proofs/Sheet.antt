-- The cover sheet from its bytes: what was read stands in them to their end, and so they are the sheet of what they say.
use Prim.Native.Nat.{ℕ, ◌<◌}
use mathlib.Core.Path.{◌≡◌, refl, sym, ap, subst, ◌∙◌}
use mathlib.Core.Bool.{true}
use mathlib.Core.List.{List, [], ◌∷◌}
use lib.ListN.{get_or}
use Rattle.bits.specs.Bits.{cursor_at, ends_at}
use Rattle.bits.specs.declared.Cursor.{Cursor}
use Rattle.fields.specs.Reading.{Scan}
use Rattle.fields.specs.Reading.{At}
use Rattle.fields.specs.Reading.{Live, times, start, free, field}
use Rattle.fields.specs.Written.{widths}
use Rattle.fields.proofs.Laws.{length_times, tailed_live}
use Rattle.fields.proofs.Packed.{Laid, packed_only, Found, found_live, found_field, found_then, found_times, found_all}
use Rattle.covers.specs.Cover.{Placed, Cover}
use Rattle.covers.specs.CoverSheet.{area_width, arrival_width, match_count_width, node_width, pattern_width, crossing_width, placed_fields, cover_fields, cover_sheet, placed_read, cover_read, CoverReads}

-- One match that was not refused.
placed_found : (s : List ℕ) (xs : List Placed) (c : Scan) → Live (placed_read s xs c).1 → Found s (placed_fields ((placed_read s xs c).0 ∷ [])) c (placed_read s xs c).1
unfolding placed_read placed_fields
placed_found s xs c h =
    let n = field s node_width free c in
    let p = field s pattern_width free n.1 in
    let crossing = found_field s crossing_width free p.1 h in
    let pattern = found_field s pattern_width free n.1 (found_live crossing) in
    found_then (found_field s node_width free c (found_live pattern)) (found_then pattern crossing)

-- A cover as it was read, with its scan: its fields stand in the bytes, these end after them, and there the scan stands.
abbrev Whole : List ℕ → Cover × Scan → Type 0
Whole s (c, q) = Laid s 0 (cover_fields c) × (ends_at s (widths (cover_fields c)) ≡ true) × (q ≡ At (cursor_at (widths (cover_fields c))))

cover_found : (s : List ℕ) → Live (cover_read s start).1 → Whole s (cover_read s start)
unfolding cover_read placed_read cover_fields placed_fields
cover_found s h =
    let a = field s area_width free start in
    let t = field s arrival_width free a.1 in
    let n = field s match_count_width free t.1 in
    let xs = times n.0 (placed_read s) n.1 in
    let matches = found_times s (λ x. placed_fields (x ∷ [])) placed_fields refl (λ x ys. refl) (placed_read s) (placed_found s) n.0 n.1 (tailed_live (ends_at s) xs.1 h) in
    let counted = found_field s match_count_width free t.1 (found_live matches) in
    let timed = found_field s arrival_width free a.1 (found_live counted) in
    let sized = found_field s area_width free start (found_live timed) in
    rw (length_times n.0 (placed_read s) n.1) (found_all (found_then sized (found_then timed (found_then counted matches))) h)

cover_whole : (s : List ℕ) (c : Cover) (q : Cursor) → cover_read s start ≡ (c, At q) → Whole s (c, At q)
cover_whole s c q e = subst (Whole s) e (cover_found s (subst (λ (r : Cover × Scan). Live r.1) (sym e) tt))

-- A scan that was not refused stands after the last field of what it read.
pub reads_whole : (cs : List ℕ) (c : Cover) (q : Cursor) → cover_read cs start ≡ (c, At q) → CoverReads c cs
reads_whole cs c q e = record { reads = e ∙ ap (λ (z : Scan). (c, z)) (cover_whole cs c q e).2 }

-- Bytes that say a cover are its sheet, and no others.
pub one_sheet : (cs : List ℕ) (c : Cover) → CoverReads c cs → ((k : ℕ) → get_or cs k 0 < 256) → cs ≡ cover_sheet c
unfolding cover_sheet
one_sheet cs c h bytes =
    let whole = cover_whole cs c (cursor_at (widths (cover_fields c))) h.reads in
    packed_only (cover_fields c) cs bytes whole.0 whole.1
