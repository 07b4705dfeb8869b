-- The cover sheet and the list sheet: their fields, the bytes written, and what reads them.
use Rattle.std.specs.Prelude.{ℕ, ◌≡◌, List, [], ◌∷◌, length}
use Rattle.bits.specs.Bits.{cursor_at}
use Rattle.fields.specs.Reading.{At}
use Rattle.fields.specs.Reading.{Reader, done, ◌>>=◌, times, start, free, field, ended}
use Rattle.fields.specs.Written.{Field, widths, packed}
use Rattle.covers.specs.Cover.{Point, Placed, Cover}

-- How wide the fields are, in bits.
abbrev pub area_width : ℕ
area_width = 22

abbrev pub arrival_width : ℕ
arrival_width = 24

abbrev pub match_count_width : ℕ
match_count_width = 6

abbrev pub node_width : ℕ
node_width = 6

abbrev pub pattern_width : ℕ
pattern_width = 7

abbrev pub crossing_width : ℕ
crossing_width = 5

abbrev pub point_count_width : ℕ
point_count_width = 5

-- ---- written

-- "For each match, ascending by node, node and pattern", with "five crossing bits after its pattern number".
unfoldable pub placed_fields : List Placed → List Field
placed_fields [] = []
placed_fields (x ∷ xs) =
    record { value = x.node; width = node_width }
    ∷ record { value = x.pattern; width = pattern_width }
    ∷ record { value = x.crossing; width = crossing_width }
    ∷ placed_fields xs

-- "Cover sheet: area; arrival; match count; then" the matches.
unfoldable pub cover_fields : Cover → List Field
unfolding placed_fields
cover_fields c =
    record { value = c.point.area; width = area_width }
    ∷ record { value = c.point.arrival; width = arrival_width }
    ∷ record { value = length c.placed; width = match_count_width }
    ∷ placed_fields c.placed

-- "For each" trade-off "arrival and area."
unfoldable pub point_fields : List Point → List Field
point_fields [] = []
point_fields (p ∷ ps) = record { value = p.arrival; width = arrival_width } ∷ record { value = p.area; width = area_width } ∷ point_fields ps

-- "List sheet: count;" then the trade-offs.
unfoldable pub list_fields : List Point → List Field
unfolding point_fields
list_fields ps = record { value = length ps; width = point_count_width } ∷ point_fields ps

-- The bytes of either, with "zero bits to the byte".
unfoldable pub cover_sheet : Cover → List ℕ
unfolding packed cover_fields
cover_sheet c = packed (cover_fields c)

unfoldable pub list_sheet : List Point → List ℕ
unfolding packed list_fields
list_sheet ps = packed (list_fields ps)

-- ---- read

module _ (s : List ℕ) where
  -- One match, whatever was read before it.
  unfoldable pub placed_read : List Placed → Reader Placed
  placed_read before = do
    node ← field s node_width free
    pattern ← field s pattern_width free
    crossing ← field s crossing_width free
    done (record { node = node; pattern = pattern; crossing = crossing })

  unfoldable pub cover_read : Reader Cover
  unfolding placed_read
  cover_read = do
    area ← field s area_width free
    arrival ← field s arrival_width free
    count ← field s match_count_width free
    xs ← times count placed_read
    λ c. (record { point = record { area = area; arrival = arrival }; placed = xs }, ended s c)

  -- One trade-off.
  unfoldable pub point_read : List Point → Reader Point
  point_read before = do
    arrival ← field s arrival_width free
    area ← field s area_width free
    done (record { area = area; arrival = arrival })

  unfoldable pub list_read : Reader (List Point)
  unfolding point_read
  list_read = do
    count ← field s point_count_width free
    ps ← times count point_read
    λ c. (ps, ended s c)

-- Bytes that say the cover, so that nothing of it is cut off: reading them gives it, they end after its last field, and nothing is refused.
pub record CoverReads (c : Cover) (s : List ℕ) : Type 0 where
  pub reads : cover_read s start ≡ (c, At (cursor_at (widths (cover_fields c))))

-- Bytes that say the trade-offs.
pub record ListReads (ps : List Point) (s : List ℕ) : Type 0 where
  pub reads : list_read s start ≡ (ps, At (cursor_at (widths (list_fields ps))))
