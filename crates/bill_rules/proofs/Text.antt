-- The text of a bill is short.
use Prim.Native.Nat.{ℕ, ◌+◌, ◌≤◌}
use mathlib.Core.Path.{◌≡◌, ap}
use mathlib.Core.List.{List, [], ◌∷◌, ◌++◌, flat_map, Memᴰ}
use native.Mathlib.Omega.{arith}
use lib.IntN.{ℤ, pos, ◌-ℤ◌}
use lib.ListN.{length, length-append}
use Rattle.sheets_rules.specs.Model.{Library, Tree}
use Rattle.sheets_rules.specs.Inside.Sound.{SoundLibrary, SoundTree}
use Rattle.covers.specs.Cover.{Cover}
use Rattle.covers.specs.Promise.{RootCover}
use Rattle.covers.proofs.Listing.{area_listed}
use Rattle.covers.proofs.FromSheets.{root_bounds, cover_fits}
use Rattle.text.specs.Text.{decimal, signed, spaced}
use Rattle.text.proofs.Laws.{decimal_fits, signed_fits, length_line, length_spaced, length_last, lines_short}
use Rattle.bill_rules.specs.Bill.{Entry, entry_of, entries_below, amounts, margin, bill}
use Rattle.bill_rules.specs.Billed.{total_word, margin_word, entry_line, total_line, margin_line, bill_text, longest_bill}
use Rattle.bill_rules.proofs.Entries.{figure_in, lines_few, entry_from, counts_are, amounts_are}

-- How long a line is, by what is put for it.
pub entry_length : (e : Entry) → length (entry_line e) ≡ length (decimal e.cell) + length (spaced (decimal e.count ∷ decimal e.amount ∷ []))
unfolding entry_line
entry_length e = length_line (decimal e.cell) (decimal e.count ∷ decimal e.amount ∷ [])

pub total_length : (n : ℕ) → length (total_line n) ≡ 7 + length (decimal n)
unfolding total_line spaced
total_length n = omega (arith, length_line total_word (decimal n ∷ []), length_spaced (decimal n) [])

pub margin_length : (z : ℤ) → length (margin_line z) ≡ 8 + length (signed z)
unfolding margin_line spaced
margin_length z = omega (arith, length_line margin_word (signed z ∷ []), length_spaced (signed z) [])

module _ {l : Library} (t : Tree) {c : Cover} (sound : SoundLibrary l) (tree : SoundTree t) (legal : RootCover l t c) where
  abbrev es : List Entry
  es = entries_below l c.placed (length l.cells)

  few_matches : length c.placed ≤ 63
  few_matches = omega (arith, (cover_fits sound tree legal).count)

  pub small_total : amounts es ≤ 4128705
  small_total = omega (arith, amounts_are t sound legal, area_listed l legal, (root_bounds sound tree legal).0)

  entry_short : (e : Entry) → Memᴰ e es → length (entry_line e) ≤ 14
  unfolding entry_of
  entry_short e m =
      let from = entry_from l c.placed (length l.cells) m in
      omega (
        arith,
        entry_length e,
        length_last (decimal e.count) (decimal e.amount),
        decimal_fits 1 e.cell (omega (arith, from.below, sound.few_cells, ap (λ (e : Entry). e.cell) from.entry_is)),
        decimal_fits 1 e.count (omega (arith, figure_in (λ (e : Entry). e.count) es m, counts_are t sound legal, few_matches)),
        decimal_fits 6 e.amount (omega (arith, figure_in (λ (e : Entry). e.amount) es m, small_total)),
      )

  pub bill_short : length (bill_text (bill l t c)) ≤ longest_bill
  unfolding bill_text bill margin
  bill_short =
      let m = pos t.required -ℤ pos c.point.arrival in
      omega (
        arith,
        length-append (flat_map entry_line es) (total_line (amounts es) ++ margin_line m),
        length-append (total_line (amounts es)) (margin_line m),
        lines_short entry_line 14 es entry_short,
        lines_few l c.placed (length l.cells),
        counts_are t sound legal,
        few_matches,
        total_length (amounts es),
        decimal_fits 6 (amounts es) (omega (arith, small_total)),
        margin_length m,
        signed_fits 6 t.required c.point.arrival (omega (arith, tree.required)) (omega (arith, (root_bounds sound tree legal).1)),
      )
