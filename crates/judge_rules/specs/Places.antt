-- Where the fields of a cover sheet stand, by its bits alone, and where it is torn or has a bad tail.
use Rattle.std.specs.Prelude.{ℕ, zero, suc, ◌+◌, ◌*◌, ◌≤◌, ◌<◌, ◌≡◌, false, List, [], ◌∷◌, ◌++◌, length}
use Rattle.bits.specs.Bits.{value_at, ends_at}
use Rattle.covers.specs.CoverSheet.{area_width, arrival_width, match_count_width, node_width, pattern_width, crossing_width}

-- The widths of the fields of n matches, in order.
unfoldable pub match_widths : ℕ → List ℕ
match_widths zero = []
match_widths (suc n) = match_widths n ++ (node_width ∷ pattern_width ∷ crossing_width ∷ [])

-- Those of all fields of the sheet: the match count is the number in its six bits.
abbrev pub field_widths : List ℕ → List ℕ
field_widths cs = area_width ∷ arrival_width ∷ match_count_width ∷ match_widths (value_at cs (area_width + arrival_width) match_count_width)

-- How many bits fields of these widths take up: the first bit after them, where they stand in front.
unfoldable pub first_after : List ℕ → ℕ
first_after [] = 0
first_after (w ∷ ws) = w + first_after ws

module _ (cs : List ℕ) where
  -- Of fields of these widths from place i on, the bytes end before or inside the one that starts at place p, and no earlier one.
  pub record TornFrom (i : ℕ) (ws : List ℕ) (p : ℕ) : Type 0 where
    pub before : List ℕ
    pub width : ℕ
    pub later : List ℕ
    pub fields : ws ≡ before ++ (width ∷ later)
    pub first : p ≡ i + first_after before
    pub whole_before : p ≤ 8 * length cs
    pub torn : 8 * length cs < p + width

  abbrev pub Torn : ℕ → Type 0
  Torn p = TornFrom 0 (field_widths cs) p

  -- All fields are there, and the bytes do not end after the last.
  pub record BadTail (p : ℕ) : Type 0 where
    pub first : p ≡ first_after (field_widths cs)
    pub whole : p ≤ 8 * length cs
    pub bad : ends_at cs p ≡ false
