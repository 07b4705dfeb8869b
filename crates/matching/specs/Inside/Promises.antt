-- What the functions of this crate are lent and what they promise, by the definitions of matches and of hits.
use Rattle.std.specs.Prelude.{ℕ, ◌+◌, ◌*◌, ◌≤◌, ◌<◌, ◌≡◌, length}
use mathlib.Core.List.{List, map, Memᴰ}
use Rattle.std.proofs.lemmas.List.Edits.{sets}
use Rattle.sheets_rules.specs.Model.{Shape, Library, Pattern, Tree}
use Rattle.sheets_rules.specs.Inside.Sound.{SoundDrawing}
use Rattle.covers.specs.Crossing.{crossings}
use Rattle.covers.specs.Match.{fitting_under, fitting}
use Rattle.covers.specs.Tradeoff.{nodes}
use Rattle.overlay.specs.Inside.Standing.{DrawingStored, Measured}
use Rattle.overlay.specs.Inside.Promises.{Walkable, Decoded}
use Rattle.matching.specs.declared.Hit.{Hit}
use Rattle.matching.specs.Inside.Found.{match_most, hit_of}

-- ---- one pattern

-- The row of a sound pattern with a number, over the subtree s at node n, and room for its matches after `count` hits.
pub record Trying (row ss zs : List ℕ) (n number room count : ℕ) (p : Pattern) (s : Shape) : Type 0 where
  pub drawing : DrawingStored row p.drawing
  pub pins : ℕ
  pub few_pins : pins ≤ 6
  pub sound : SoundDrawing pins p.drawing
  pub walkable : (words : List ℕ) → Measured p.drawing words → Walkable row words ss zs n p.drawing s
  pub number_small : number < 128
  pub room_is : room ≡ match_most
  pub count_small : count ≤ 32 * number

-- The hits of a pattern under all its crossings stand after the first `count`; r says how many there are then.
abbrev pub CrossingsFound : (row ss zs : List ℕ) → (n number count : ℕ) → (entry exit : List Hit) → ℕ → Type 0
CrossingsFound row ss zs n number count entry exit r =
    (p : Pattern) (s : Shape) → Trying row ss zs n number (length entry) count p s →
    (r ≡ count + length (fitting_under n s number p (crossings p.drawing)))
    × (exit ≡ sets entry count (map hit_of (fitting_under n s number p (crossings p.drawing))))

-- ---- all matches of a node

-- The library l and the tree t as decoded, (n, s), which is a node of the tree, and room for a hit of each pattern under each crossing.
pub record Ready (l : Library) (t : Tree) (rows ss zs : List ℕ) (n room : ℕ) (s : Shape) : Type 0 where
  pub decoded : Decoded l t rows ss zs
  pub here : Memᴰ (record { number = n; shape = s }) (nodes 0 t.shape)
  pub room_is : room ≡ match_most

-- The hits of all matches at node n stand in the table, whichever library and tree are stored; r says how many.
abbrev pub MatchesFound : (rows ss zs : List ℕ) → ℕ → (entry exit : List Hit) → ℕ → Type 0
MatchesFound rows ss zs n entry exit r =
    (l : Library) (t : Tree) (s : Shape) → Ready l t rows ss zs n (length entry) s →
    (r ≡ length (fitting l n s)) × (exit ≡ sets entry 0 (map hit_of (fitting l n s)))
