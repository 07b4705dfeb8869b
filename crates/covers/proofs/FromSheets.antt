-- A library and a tree from sound sheets keep the limits that the theorems about covers ask for.
use Prim.Native.Nat.{◌≤◌}
use mathlib.Core.Path.{ap}
use mathlib.Core.List.{List, Memᴰ}
use native.Mathlib.Omega.{arith}
use lib.ListN.{length}
use Rattle.sheets_rules.specs.Model.{Library, Tree}
use Rattle.sheets_rules.specs.Inside.Sound.{SoundLibrary, SoundTree}
use Rattle.covers.specs.Capacity.{capacity}
use Rattle.covers.specs.Cover.{Point, Cover, latest_arrival, largest_area}
use Rattle.covers.specs.Tradeoff.{IsTradeoff}
use Rattle.covers.specs.Promise.{RootCover}
use Rattle.covers.proofs.Ascending.{ascending_range}
use Rattle.covers.proofs.Matching.{gates_lt_size}
use Rattle.covers.proofs.Bounds.{Limited, area_bound, arrival_bound}
use Rattle.covers.proofs.Listing.{cover_ascends, few_matches, known_patterns}
use Rattle.covers.proofs.ReadBack.{CoverFits, ListFits}
use Rattle.covers.proofs.Filling.{Binned}

pub limited : {l : Library} → SoundLibrary l → Limited l 65_535 65_535 255 255
limited h = record { areas = λ c m. (h.cells c m).area; pins = λ c m p k. let q = (h.cells c m).pins p k in (q.1, q.2); bins = h.loads }

pub binned : {l : Library} → SoundLibrary l → Binned l
binned h = record { some_bin = h.some_bin; pins = λ c m p k. ((h.cells c m).pins p k).0 }

-- What a cover of the root may cost.
pub root_bounds : {l : Library} {t : Tree} {c : Cover} → SoundLibrary l → SoundTree t → RootCover l t c → (c.point.area ≤ largest_area) × (c.point.arrival ≤ latest_arrival)
root_bounds h k legal = (area_bound (limited h) legal k.load k.size k.leaves, arrival_bound (limited h) legal k.load k.size k.leaves)

-- So a cover sheet and a list sheet have room for what they say.
pub cover_fits : {l : Library} {t : Tree} {c : Cover} → SoundLibrary l → SoundTree t → RootCover l t c → CoverFits c
cover_fits {t = t} h k legal = let b = root_bounds h k legal in record {
  area = omega (arith, b.0);
  arrival = omega (arith, b.1);
  count = omega (arith, few_matches legal, gates_lt_size t.shape, k.size);
  placed = λ x m. (omega (arith, (ascending_range (cover_ascends legal) m).1, k.size), omega (arith, (known_patterns legal x m).0, h.few_patterns), (known_patterns legal x m).1);
}

pub list_fits : {l : Library} {t : Tree} {ps : List Point} → SoundLibrary l → SoundTree t → length ps ≤ capacity → ((p : Point) → Memᴰ p ps → IsTradeoff (RootCover l t) p) → ListFits ps
list_fits h k few are = record {
  count = omega (arith, few);
  points = λ p m. let r = are p m in let b = root_bounds h k r.among in (omega (arith, b.1, ap (λ q. q.arrival) r.point), omega (arith, b.0, ap (λ q. q.area) r.point));
}
