-- Sheets written one after another.
use Prim.Native.Nat.{ℕ, suc, ◌+◌, ◌-◌, ◌≤◌, ◌<◌}
use mathlib.Core.Path.{◌≡◌, refl, sym, ap, ap₂, ◌∙◌}
use mathlib.Core.List.{List, [], ◌∷◌, ◌++◌, map, map-append, flat_map, append-nil, append_assoc}
use native.Mathlib.Omega.{arith}
use lib.ListN.{length, get_or, take, drop, length-append, length-drop, drop_of_length-le}
use lib.Seq.{take_all, take_at, drop_at, drop-drop, take-suc}
use borrow.Rule.Slice.PartMut.{mid_of, put_mid}
use Rattle.covers.specs.Cover.{Cover}
use Rattle.covers.specs.CoverSheet.{cover_sheet}
use Rattle.result_sheets.specs.declared.CoverRecord.{CoverRecord}
use Rattle.result_sheets.specs.Public.{cover_of, Written}

-- A sheet written after others.
pub written_more : (S sheet entry output part : List ℕ) (at r : ℕ) → at ≤ length output → Written S entry output at → Written sheet (mid_of at (length output - at) output) part r → Written (S ++ sheet) entry (put_mid at (length output - at) output part) (at + r)
written_more S sheet entry output part at r inside h g =
    let rest = drop (length S) entry in
    let front : take at output ≡ S = ap (take at) h.output ∙ take_at S rest at (sym h.bytes) in
    let back : drop at output ≡ rest = ap (drop at) h.output ∙ drop_at S rest at (sym h.bytes) in
    let k = length output - at in
    let long : length (drop at output) ≤ k = omega (arith, length-drop at output) in
    let middle : mid_of at k output ≡ rest = take_all k (drop at output) long ∙ back in
    let after : drop k (drop at output) ≡ [] = drop_of_length-le (drop at output) long in
    let whole : part ≡ sheet ++ drop (length S + length sheet) entry = g.output ∙ ap (λ (q : List ℕ). sheet ++ drop (length sheet) q) middle ∙ ap (λ (q : List ℕ). sheet ++ q) (drop-drop (length sheet) (length S) entry) in
    record {
      bytes = omega (arith, h.bytes, g.bytes, length-append S sheet);
      output = ap₂ (λ (p q : List ℕ). p ++ (part ++ q)) front after ∙ ap (λ (q : List ℕ). S ++ q) (append-nil part ∙ whole) ∙ sym (append_assoc S sheet (drop (length S + length sheet) entry))
          ∙ ap (λ (n : ℕ). (S ++ sheet) ++ drop n entry) (sym (length-append S sheet));
    }

-- The sheets of one cover more.
flat_append : (xs ys : List Cover) → flat_map cover_sheet (xs ++ ys) ≡ flat_map cover_sheet xs ++ flat_map cover_sheet ys
unfolding flat_map
flat_append [] ys = refl
flat_append (x ∷ xs) ys = ap (λ (q : List ℕ). cover_sheet x ++ q) (flat_append xs ys) ∙ sym (append_assoc (cover_sheet x) (flat_map cover_sheet xs) (flat_map cover_sheet ys))

pub sheets_more : (l : List CoverRecord) (k : ℕ) (d : CoverRecord) → k < length l → flat_map cover_sheet (map cover_of (take (k + 1) l)) ≡ flat_map cover_sheet (map cover_of (take k l)) ++ cover_sheet (cover_of (get_or l k d))
unfolding flat_map
sheets_more l k d h =
    let one : k + 1 ≡ suc k = omega arith in
    ap (λ (n : ℕ). flat_map cover_sheet (map cover_of (take n l))) one ∙ ap (λ (q : List CoverRecord). flat_map cover_sheet (map cover_of q)) (take-suc l k d h)
    ∙ ap (flat_map cover_sheet) (map-append cover_of (take k l) (get_or l k d ∷ [])) ∙ flat_append (map cover_of (take k l)) (cover_of (get_or l k d) ∷ []) ∙ ap (λ (q : List ℕ). flat_map cover_sheet (map cover_of (take k l)) ++ q) (append-nil (cover_sheet (cover_of (get_or l k d))))
