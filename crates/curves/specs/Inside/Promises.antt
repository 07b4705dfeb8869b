-- What the functions of this crate promise.
use Rattle.std.specs.Prelude.{ℕ, ◌+◌, ◌%◌, ◌≤◌, ◌<◌, ◌≡◌, ltb, Option as Maybe, None, Some, List, map, length, get_or, take}
use Rattle.std.specs.List.{find}
use Rattle.std.proofs.lemmas.List.Edits.{sets}
use Rattle.std.proofs.Math.Option.{Option, none, some}
use Rattle.covers.specs.Cover.{Point}
use Rattle.covers.specs.Inside.Curve.{base, by_deadline, point_of, word_of}
use Rattle.matching.specs.declared.Hit.{Hit}
use Rattle.curves.specs.Inside.Words.{absent, area_limit, match_limit, slot, Small}
use Rattle.curves.specs.Inside.Best.{hit_at, pattern_of, legal_best, hits_best}

-- A word below the limit for a point that arrives before an instant.
pub record PointWord (limit end w : ℕ) (o : Option Point) : Type 0 where
  pub point : o ≡ some (point_of w)
  pub small : w < limit
  pub intime : w % base < end

-- Such a word, or none where there is no point.
abbrev pub Worth : (limit end : ℕ) → Maybe ℕ → Option Point → Type 0
Worth limit end None o = o ≡ none
Worth limit end (Some w) o = PointWord limit end w o

-- The same of a word that is kept, where one word stands for no point.
pub record Held (limit end w : ℕ) (o : Option Point) : Type 0 where
  pub missing : w ≡ absent → o ≡ none
  pub point : (w ≡ absent → ⊥) → PointWord limit end w o

-- The first of some words before an instant: a point's, or the 0 that ends a curve.
abbrev pub first_before : ℕ → List ℕ → Maybe ℕ
first_before end = find (λ w. ltb (w % base) end)

-- A point fits a word of the work area, which is then not 0.
pub record Fit (p : Point) : Type 0 where
  pub some_area : 1 ≤ p.area
  pub area : p.area < area_limit
  pub arrival : p.arrival < base

module _ (most : ℕ) (symbols work rows : List ℕ) (hits : List Hit) (load j : ℕ) where
  -- The least point of match j of a node before each instant, from the tables.
  abbrev pub match_before : ℕ → Option Point
  match_before end = legal_best most symbols work (pattern_of rows (hit_at hits j)) (hit_at hits j) load end

  -- It is in time and fits a word, and before a later instant there is one that is no greater.
  pub record Rising : Type 0 where
    pub intime : (end : ℕ) (p : Point) → match_before end ≡ some p → p.arrival < end
    pub small : (end : ℕ) (p : Point) → match_before end ≡ some p → word_of p < match_limit
    pub rises : (end end' : ℕ) → end ≤ end' → (p : Point) → match_before end ≡ some p → (q : Point) × (match_before end' ≡ some q) × (word_of q ≤ word_of p)

module _ (most : ℕ) (symbols work rows : List ℕ) (hits : List Hit) (load : ℕ) where
  -- The least point of all of them before each instant.
  abbrev pub best_before : ℕ → Option Point
  best_before end = hits_best most symbols work rows hits load end (length hits)

  abbrev pub AllRising : Type 0
  AllRising = (j : ℕ) → j < length hits → Rising most symbols work rows hits load j

  -- The word kept for each of the first n matches, before every instant from `end` back: where the word is still in time, it is the match's least
  -- point there, or says that there is none; and the match's least point there is never below it.
  pub record Kept (n end : ℕ) (kept : List ℕ) : Type 0 where
    pub lasts : (j : ℕ) → j < n → (e : ℕ) → e ≤ end → get_or kept j 0 % base < e → Held match_limit e (get_or kept j 0) (match_before most symbols work rows hits load j e)
    pub bounds : (j : ℕ) → j < n → (e : ℕ) → e ≤ end → (p : Point) → match_before most symbols work rows hits load j e ≡ some p → get_or kept j 0 ≤ word_of p

  -- The least of all, and what is kept after it was found.
  pub record Least (end : ℕ) (kept : List ℕ) (r : Maybe ℕ) : Type 0 where
    pub least : Worth match_limit end r (best_before end)
    pub lasting : Kept (length hits) end kept

  -- Every point fits a word of the work area, and each match's points rise.
  pub record PointsFit : Type 0 where
    pub fit : (end : ℕ) (p : Point) → best_before end ≡ some p → Fit p
    pub rising : AllRising

  -- The points by deadline, but not more than one too many for a curve.
  abbrev pub node_points : List Point
  node_points = by_deadline (most + 1) best_before base

  -- How many of them there are, and as many as are allowed in curve `at`.
  pub record CurveStored (at : ℕ) (work' : List ℕ) (r : ℕ) : Type 0 where
    pub counted : r ≡ length node_points
    pub laid : work' ≡ sets work (slot most at) (map word_of (take most node_points))
    pub small : Small work'
