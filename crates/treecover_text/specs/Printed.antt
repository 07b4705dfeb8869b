-- The text that `treecover` prints for an input.
use Rattle.std.specs.Prelude.{ℕ, ◌≡◌, false, length}
use mathlib.Core.List.{List, [], ◌∷◌, ◌++◌, flat_map}
use Rattle.fields.specs.Answer.{Answer, on_success}
use Rattle.sheets_rules.specs.Model.{Library, cell_of, Tree}
use Rattle.sheets_rules.specs.TreeWritten.{SameTree}
use Rattle.covers.specs.Cover.{Placed, Cover}
use Rattle.covers.specs.Capacity.{capacity, work_words}
use Rattle.covers.specs.Answer.{mapped}
use Rattle.covers.specs.Outcome.{operation, map_bytes}
use Rattle.text.specs.Text.{decimal, line, spaced}
use Rattle.frame.specs.Framed.{spoiled, sheet, rest, framed, within}

-- The fixed word `cover`, in ASCII.
abbrev pub cover_word : List ℕ
cover_word = 99 ∷ 111 ∷ 118 ∷ 101 ∷ 114 ∷ []

-- A match: its node, its cell, its pattern and its crossing.
unfoldable pub match_line : Library → Placed → List ℕ
unfolding line spaced decimal cell_of
match_line l x = line (decimal x.node ∷ decimal (cell_of l x.pattern) ∷ decimal x.pattern ∷ decimal x.crossing ∷ [])

-- `cover`, area, arrival and match count.
unfoldable pub cover_line : (area arrival count : ℕ) → List ℕ
unfolding line spaced decimal
cover_line area arrival count = line (cover_word ∷ decimal area ∷ decimal arrival ∷ decimal count ∷ [])

-- A cover: its line, then a line for each match.
unfoldable pub cover_text : Library → Cover → List ℕ
unfolding cover_line match_line flat_map
cover_text l c = cover_line c.point.area c.point.arrival (length c.placed) ++ flat_map (match_line l) c.placed

-- Map's answer with the cover's text.
unfoldable pub text_answer : ℕ → Library → Tree → Answer (List ℕ)
unfolding on_success cover_text mapped
text_answer most l t = on_success (cover_text l) (mapped most l t)

-- The work words that treecover lends.
abbrev pub words_lent : ℕ
words_lent = work_words capacity

-- The outcome of map, with the cover's text, lent an output and a work area that are just long enough.
unfoldable pub map_shown : (library tree : List ℕ) → Answer (List ℕ)
unfolding operation text_answer
map_shown library tree = operation map_bytes text_answer library tree map_bytes words_lent

-- Sheets that say the same tree are shown alike.
abbrev pub ShownAlike : Type 0
ShownAlike = (ls ts ts' : List ℕ) → SameTree ts ts' → map_shown ls ts ≡ map_shown ls ts'

-- After one length, which is that of the library, come the library and, as all that is left, the tree.
unfoldable pub printed : List ℕ → List ℕ
unfolding framed spoiled sheet rest map_shown
printed input = framed (spoiled input 1 false) (map_shown (sheet input 1 0) (rest input 1))

-- How many bytes are enough for every text: 25 for the first line and 13 for each of 63 matches.
abbrev pub longest_text : ℕ
longest_text = 844

-- What is put into a text that is lent `room` bytes: nothing if they are fewer than these.
unfoldable pub printed_within : (room : ℕ) → List ℕ → List ℕ
unfolding within printed
printed_within room input = within longest_text room (printed input)
