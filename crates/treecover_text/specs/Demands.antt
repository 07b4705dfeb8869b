-- What a printed cover is worth.
use Rattle.std.specs.Prelude.{ℕ, ◌≤◌, ◌≡◌, false, List}
use Rattle.fields.specs.Answer.{refused_in, success}
use Rattle.sheets_rules.specs.Model.{Library, Tree}
use Rattle.sheets_rules.specs.Report.{library_said, tree_said}
use Rattle.covers.specs.Cover.{Cover}
use Rattle.covers.specs.CoverSheet.{cover_sheet, CoverReads}
use Rattle.covers.specs.Outcome.{map_bytes, map_outcome}
use Rattle.covers.specs.Promise.{BestCover}
use Rattle.frame.specs.Framed.{spoiled, sheet, rest, refusal_line}
use Rattle.treecover_text.specs.Printed.{cover_text, words_lent, longest_text}

-- What is demanded of the bytes printed for a library and a tree, by what map answers to them, lent just enough:
-- where it hands over a sheet, both are sound, and the bytes are the text of the cover that the sheet says, which is
-- the best; else map's refusal.
pub record TextDemands (ls ts printed : List ℕ) : Type 0 where
  pub handed : (bytes : List ℕ) → map_outcome ls ts map_bytes words_lent ≡ success bytes →
      (l : Library) × (t : Tree) × (c : Cover) × (library_said ls ≡ success l) × (tree_said ts ≡ success t)
      × (printed ≡ cover_text l c) × (bytes ≡ cover_sheet c) × CoverReads c bytes × BestCover l t c
  pub not_handed : (item number place : ℕ) → map_outcome ls ts map_bytes words_lent ≡ refused_in item number place → printed ≡ refusal_line number place

-- The demands of the two sheets of an input, if it is not spoiled and the text has room.
abbrev pub PrintedWhereWhole : (room : ℕ) (input printed : List ℕ) → Type 0
PrintedWhereWhole room input printed = longest_text ≤ room → spoiled input 1 false ≡ false → TextDemands (sheet input 1 0) (rest input 1) printed
