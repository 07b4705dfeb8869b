use native.Mathlib.Omega.{arith}
use Prim.Native.Nat.{ℕ, ◌≤◌, ◌+◌, ◌-◌}
use mathlib.Core.Path.{refl, sym, subst, ◌∙◌}
use mathlib.Core.List.{List, map, flat_map}
use lib.ListN.{length, get_or, take}
use borrow.Rule.Slice.PartMut.{put_mid, same_len_mid}
use Rattle.covers.specs.CoverSheet.{cover_sheet}
use Rattle.result_sheets.specs.Public.{cover_of, Written}
use Rattle.result_sheets.proofs.Laws.{sheet_short}
use Rattle.part.specs.Inside.Promises.{no_cover}
use Rattle.part.proofs.Sheets.{written_more, sheets_more}
use Rattle.part.proofs.write_sheets.Goals as goal

pub loop-cover-init : goal.loop-cover-init
unfolding flat_map
loop-cover-init c = record { place = omega arith; kept = refl; written = record { bytes = refl; output = refl } }

pub loop-cover-preserved : goal.loop-cover-preserved
loop-cover-preserved c =
    let a = c.args in
    let p = c.requires in
    let i = c.loop-cover in
    let n = i.cover-index in
    let w = c.write_cover-at in
    let cover = get_or a.covers.now n no_cover in
    let rest = length i.output - i.at in
    let inside : i.at ≤ length i.output = omega (arith, i.invariant.place, i.invariant.kept, p.0, p.1) in record {
      place = omega (arith, w.ensures.bytes, sheet_short cover (p.2 n), i.invariant.place);
      kept = same_len_mid i.at rest i.output w.new.output w.auto.output ∙ i.invariant.kept;
      written = subst (λ (q : List ℕ). Written q a.output.now (put_mid i.at rest i.output w.new.output) (i.at + w.result)) (sym (sheets_more a.covers.now n no_cover (omega arith)))
          (written_more (flat_map cover_sheet (map cover_of (take n a.covers.now))) (cover_sheet (cover_of cover)) a.output.now i.output w.new.output i.at w.result inside i.invariant.written w.ensures);
    }
