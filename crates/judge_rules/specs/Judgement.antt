-- The whole answer of the judge of covers, from the bytes of a library, a tree and a cover sheet: read, walk, figures.
use Rattle.std.specs.Prelude.{ℕ, ◌+◌, ◌*◌, ◌-◌, ◌/◌, ◌%◌, ◌^◌, ◌≤◌, ◌<◌, ◌≡◌, cond, List, ltb}
use Rattle.fields.specs.Reading.{Scan}
use Rattle.fields.specs.Reading.{start}
use Rattle.fields.specs.Answer.{Answer, refused, refused_in, success, said, ◌>>=◌, places, numbers, word}
use Rattle.sheets_rules.specs.Model.{Library, Tree}
use Rattle.sheets_rules.specs.Report.{library_said, tree_said}
use Rattle.covers.specs.Cover.{Point, Cover, latest_arrival, largest_area}
use Rattle.covers.specs.Tradeoff.{same}
use Rattle.covers.specs.CoverSheet.{arrival_width, cover_read}
use Rattle.judge_rules.specs.Walk.{started, walk}

-- "22 for a cover sheet torn or with a bad tail", and "24 for a false area or arrival (place 0)".
abbrev pub sheet_number : ℕ
sheet_number = 22

abbrev pub figures_number : ℕ
figures_number = 24

-- The stated figures against those of the cover listed.
unfoldable pub figures : Point → Answer Point → Answer Point
unfolding same
figures stated (refused_in item number place) = refused_in item number place
figures stated (success p) = cond (same p stated) (success p) (refused figures_number 0)

-- A cover sheet as it was read, for a sound library and a sound tree.
unfoldable pub cover_judged : Cover × Scan → Library → Tree → Answer Point
unfolding said ◌>>=◌ figures walk started
cover_judged x l t = do
  c ← said (λ f. sheet_number) x
  figures c.point (walk l 0 c.placed (started t))

-- The library's refusal, the tree's, or what is said of the cover.
unfoldable pub judgement : (ls ts cs : List ℕ) → Answer Point
judgement ls ts cs = do
  l ← library_said ls
  t ← tree_said ts
  cover_judged (cover_read cs start) l t

-- ---- in one word

-- A success has the highest bit set: 2^63 + area × 2^24 + arrival. A refusal is as everywhere.
abbrev pub accepted : ℕ
accepted = 2 ^ 63

unfoldable pub point_word : Answer Point → ℕ
unfolding word
point_word (refused_in item number place) = word (refused_in item number place)
point_word (success p) = accepted + p.area * 2 ^ arrival_width + p.arrival

-- What a caller reads from such a word.
unfoldable pub of_point_word : ℕ → Answer Point
of_point_word w = cond (ltb w accepted) (refused_in (w / places / numbers) (w / places % numbers) (w % places)) (success (record { area = (w - accepted) / 2 ^ arrival_width; arrival = (w - accepted) % 2 ^ arrival_width }))

-- Bounds within which a word says its answer: a refusal is about no item, and an accepted cover has figures that a legal cover can have.
unfoldable pub PointBounded : Answer Point → Type 0
PointBounded (refused_in item number place) = (item ≡ 0) × (number < numbers) × (place < places)
PointBounded (success p) = (p.area ≤ largest_area) × (p.arrival ≤ latest_arrival)
