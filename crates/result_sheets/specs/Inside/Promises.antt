-- What the functions inside promise each other.
use Rattle.std.specs.Prelude.{ℕ, Result, Ok, Err, ◌+◌, ◌*◌, ◌^◌, ◌≤◌, ◌<◌, ◌≡◌, List, map, reverse, length, take, get_or}
use Rattle.bits.specs.declared.Cursor.{Cursor}
use Rattle.bits.specs.Bits.{place_of}
use Rattle.fields.specs.declared.Flaw.{Flaw}
use Rattle.fields.specs.declared.Sheet.{Sheet}
use Rattle.fields.specs.Reading.{Scan, At, Refused, Reader, place}
use Rattle.covers.specs.Cover.{Point}
use Rattle.covers.specs.CoverSheet.{area_width, arrival_width, point_count_width}
use Rattle.covers.specs.Inside.Curve.{point_of}

-- The scan that a reader of a sheet leaves, from the cursor at which it left the sheet and what it answered.
abbrev pub scan_after : Cursor → Result (Unit {0}) Flaw → Scan
scan_after c (Ok u) = At c
scan_after c (Err e) = Refused e.fault e.place

-- What a reader promises that puts what it reads into a place: from where the sheet stood it is what a definition reads there, refused or not,
-- and the scan goes on by `bits` bits at the most; the bytes are the same.
pub record Puts {A : Type 0} (old new : Sheet) (reads : List ℕ → Reader A) (put : A) (bits : ℕ) (r : Result (Unit {0}) Flaw) : Type 0 where
  pub same : new.bytes.now ≡ old.bytes.now
  pub reads_are : reads old.bytes.now (At old.at) ≡ (put, scan_after new.at r)
  pub near : place (scan_after new.at r) ≤ place_of old.at + bits

-- The points of the first `count` words, the last word's first.
unfoldable pub points_of : ℕ → List ℕ → List Point
unfolding point_of
points_of count words = reverse (map point_of (take count words))

-- How many bits the list sheet takes by its points.
abbrev pub list_bits : ℕ → ℕ
list_bits count = point_count_width + (arrival_width + area_width) * count

-- The first `count` words are points, and the output has room for their list.
abbrev pub Listable : (count : ℕ) → (points output : List ℕ) → Type 0
Listable count points output =
    (count < 2 ^ point_count_width) × (count ≤ length points) × (list_bits count ≤ 8 * length output)
    × ((k : ℕ) → k < count → get_or points k 0 < 2 ^ (arrival_width + area_width))
