-- The text that `bill` prints for an input.
use Rattle.std.specs.Prelude.{ℕ, Bool, true, ℤ}
use mathlib.Core.List.{List, [], ◌∷◌, ◌++◌, flat_map}
use Rattle.fields.specs.Reading.{start}
use Rattle.fields.specs.Answer.{Answer, on_success}
use Rattle.sheets_rules.specs.LibrarySheet.{library}
use Rattle.sheets_rules.specs.TreeSheet.{tree}
use Rattle.covers.specs.CoverSheet.{cover_read}
use Rattle.judge_rules.specs.Judgement.{judgement}
use Rattle.text.specs.Text.{decimal, signed, line, spaced}
use Rattle.frame.specs.Framed.{spoiled, sheet, framed, within}
use Rattle.bill_rules.specs.Bill.{Entry, Bill, bill}

-- The fixed words `total` and `margin`, in ASCII.
abbrev pub total_word : List ℕ
total_word = 116 ∷ 111 ∷ 116 ∷ 97 ∷ 108 ∷ []

abbrev pub margin_word : List ℕ
margin_word = 109 ∷ 97 ∷ 114 ∷ 103 ∷ 105 ∷ 110 ∷ []

-- A line "of cell, count and count × area".
unfoldable pub entry_line : Entry → List ℕ
unfolding line spaced decimal
entry_line e = line (decimal e.cell ∷ decimal e.count ∷ decimal e.amount ∷ [])

-- "`total` and the total", and "`margin` and the margin".
unfoldable pub total_line : ℕ → List ℕ
unfolding line spaced decimal
total_line total = line (total_word ∷ decimal total ∷ [])

unfoldable pub margin_line : ℤ → List ℕ
unfolding line spaced signed
margin_line m = line (margin_word ∷ signed m ∷ [])

unfoldable pub bill_text : Bill → List ℕ
unfolding flat_map entry_line total_line margin_line
bill_text b = flat_map entry_line b.entries ++ (total_line b.total ++ margin_line b.margin)

-- The refusals of the judge of covers, in their order, or the bill of the cover that was accepted.
unfoldable pub bill_shown : (ls ts cs : List ℕ) → Answer (List ℕ)
unfolding on_success judgement bill_text bill
bill_shown ls ts cs = on_success (λ p. bill_text (bill (library ls start).0 (tree ts start).0 (cover_read cs start).0)) (judgement ls ts cs)

-- After three lengths come library, tree and cover sheet, and nothing else.
module _ (input : List ℕ) where
  abbrev pub is_spoiled : Bool
  is_spoiled = spoiled input 3 true

  abbrev pub library_part : List ℕ
  library_part = sheet input 3 0

  abbrev pub tree_part : List ℕ
  tree_part = sheet input 3 1

  abbrev pub cover_part : List ℕ
  cover_part = sheet input 3 2

unfoldable pub billed : List ℕ → List ℕ
unfolding framed spoiled sheet bill_shown
billed input = framed (is_spoiled input) (bill_shown (library_part input) (tree_part input) (cover_part input))

-- How many bytes are enough for every text: 14 for each of 63 cells, 14 for the total and 16 for the margin.
abbrev pub longest_bill : ℕ
longest_bill = 912

-- What is put into a text that is lent `room` bytes: nothing if they are fewer than these.
unfoldable pub billed_within : (room : ℕ) → List ℕ → List ℕ
unfolding within billed
billed_within room input = within longest_bill room (billed input)
