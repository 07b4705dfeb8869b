-- Points as words, and curves as words in the work area.
use Rattle.std.specs.Prelude.{ℕ, ◌+◌, ◌*◌, ◌^◌, ◌≤◌, ◌<◌, ◌≡◌, cond, List, [], ◌∷◌, length, get_or, take, drop, eqb}
use Rattle.covers.specs.Capacity.{work_words}
use Rattle.covers.specs.Cover.{Point}
use Rattle.covers.specs.Inside.Curve.{base, point_of}

-- What stands for no point among kept words: 2^63, above every word of a point.
abbrev pub absent : ℕ
absent = 2 ^ 63

-- The words of the work area: 22 bits hold the area of a cover of a whole tree.
abbrev pub area_limit : ℕ
area_limit = 2 ^ 22

abbrev pub point_limit : ℕ
point_limit = area_limit * base

-- The word of a match: a cell's area in 16 bits, and those of at most six inputs.
abbrev pub match_limit : ℕ
match_limit = (65536 + 6 * area_limit) * base

-- No word is too great.
abbrev pub Small : List ℕ → Type 0
Small work = (k : ℕ) → get_or work k 0 < point_limit

-- The points of a curve's words, latest first: up to a 0, if there is one.
unfoldable pub stored : List ℕ → List Point
stored [] = []
stored (w ∷ ws) = cond (eqb w 0) [] (point_of w ∷ stored ws)

-- The number of the curve of a node under a load bin.
abbrev pub curve_number : ℕ → ℕ → ℕ
curve_number node bin = 4 * node + bin

module _ (most : ℕ) where
  -- The first word of curve i: every curve has room for one word more than a node may have trade-offs.
  abbrev pub slot : ℕ → ℕ
  slot i = (most + 1) * i

  -- The words of curve i.
  abbrev pub curve_at : List ℕ → ℕ → List ℕ
  curve_at work i = take (most + 1) (drop (slot i) work)

  -- The curves in the work area, by node and load bin.
  abbrev pub table_of : List ℕ → ℕ → ℕ → List Point
  table_of work node bin = stored (curve_at work (curve_number node bin))

  -- Two work areas have the same curves from one on; every word of the curves below one is 0.
  abbrev pub AgreeFrom : ℕ → List ℕ → List ℕ → Type 0
  AgreeFrom i work work' = (j : ℕ) → i ≤ j → curve_at work j ≡ curve_at work' j

  abbrev pub ZeroBelow : ℕ → List ℕ → Type 0
  ZeroBelow i work = (j : ℕ) → j < i → (k : ℕ) → get_or (curve_at work j) k 0 ≡ 0

-- A work area with room for the curves of 64 nodes under 4 bins. How many points a curve has is told in a byte.
pub record WorkArea (most : ℕ) (work : List ℕ) : Type 0 where
  pub bounded : most ≤ 254
  pub room : work_words most ≤ length work
  pub small : Small work
