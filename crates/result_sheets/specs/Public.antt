-- What is written and read: covers and points as the code keeps them, and a sheet at the front of an output.
use Rattle.std.specs.Prelude.{ℕ, Result, MatchResult, ◌+◌, ◌*◌, ◌^◌, ◌≤◌, ◌<◌, ◌≡◌, List, ◌++◌, map, length, take, drop, replicate}
use Rattle.std.proofs.lemmas.List.Edits.{sets}
use Rattle.bits.specs.Bits.{cursor_at}
use Rattle.fields.specs.Reading.{Scan, At, Refused, start}
use Rattle.covers.specs.Cover.{Placed, Cover}
use Rattle.covers.specs.CoverSheet.{area_width, arrival_width, match_count_width, node_width, pattern_width, crossing_width, cover_read}
use Rattle.result_sheets.specs.declared.MatchRecord.{MatchRecord}
use Rattle.result_sheets.specs.declared.CoverRecord.{CoverRecord}
use Rattle.result_sheets.specs.declared.FlawedCover.{FlawedCover}

-- The match that a record keeps, and the record that keeps a match.
abbrev pub placed_of : MatchRecord → Placed
placed_of m = record { node = m.node; pattern = m.pattern; crossing = m.crossing }

abbrev pub record_of : Placed → MatchRecord
record_of x = record { node = x.node; pattern = x.pattern; crossing = x.crossing }

-- The cover that a record keeps.
abbrev pub cover_of : CoverRecord → Cover
cover_of r = record { point = record { area = r.area; arrival = r.arrival }; placed = map placed_of (take r.count r.matches) }

-- What stands where no match is kept.
abbrev pub no_match : MatchRecord
no_match = record { node = 0; pattern = 0; crossing = 0 }

-- A cover's record with no match yet.
abbrev pub bare_cover : (area arrival : ℕ) → CoverRecord
bare_cover area arrival = record { area = area; arrival = arrival; count = 0; matches = replicate 64 no_match }

-- A cover's record with these matches after those that it has.
abbrev pub appended : CoverRecord → List Placed → CoverRecord
appended c xs = record { area = c.area; arrival = c.arrival; count = c.count + length xs; matches = sets c.matches c.count (map record_of xs) }

-- How many bits one match takes.
abbrev pub match_width : ℕ
match_width = node_width + pattern_width + crossing_width

-- How many bits the sheet of a cover takes by its matches.
abbrev pub cover_bits : ℕ → ℕ
cover_bits count = area_width + arrival_width + match_count_width + match_width * count

-- The sheet stands at the front of the output, all after it is kept, and r is the sheet's length.
pub record Written (sheet entry exit : List ℕ) (r : ℕ) : Type 0 where
  pub bytes : r ≡ length sheet
  pub output : exit ≡ sheet ++ drop (length sheet) entry

-- A record keeps the cover that is read, of a refused sheet too: there it is what was read before, and what was not is 0.
pub record CoverHolds (c : Cover) (r : CoverRecord) : Type 0 where
  pub cover_is : cover_of r ≡ c
  pub few : r.count < 2 ^ match_count_width

-- Not refused: the scan stands after the last match.
pub record CoverTold (x : Cover × Scan) (r : CoverRecord) : Type 0 where
  pub scan_is : x.1 ≡ At (cursor_at (cover_bits r.count))
  pub holds : CoverHolds x.0 r

-- Refused.
pub record CoverFlawed (x : Cover × Scan) (e : FlawedCover) : Type 0 where
  pub scan_is : x.1 ≡ Refused e.flaw.fault e.flaw.place
  pub holds : CoverHolds x.0 e.cover
  pub near : e.flaw.place ≤ cover_bits 63

-- The bytes s were read as a cover sheet: the cover; or the flaw that the sheet is refused for, and the cover as far as it was read.
abbrev pub CoverIs : List ℕ → Result CoverRecord FlawedCover → Type 0
CoverIs s r = MatchResult r (CoverTold (cover_read s start)) (CoverFlawed (cover_read s start))
