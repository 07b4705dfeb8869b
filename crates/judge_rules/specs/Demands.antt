-- What the judge's answers are worth, for a sound library and a sound tree. All of it is said of all legal covers.
use Rattle.std.specs.Prelude.{ℕ, suc, ◌≤◌, ◌<◌, ◌≡◌, ◌⊎◌, ◌↔◌, List, ◌∷◌, ◌++◌, length, get_or, take}
use Rattle.fields.specs.Answer.{Answer, refused, success}
use Rattle.sheets_rules.specs.Model.{Library, Tree}
use Rattle.sheets_rules.specs.Report.{library_said, tree_said}
use Rattle.covers.specs.Cover.{Point, Placed, Cover}
use Rattle.covers.specs.CoverSheet.{cover_sheet, CoverReads}
use Rattle.covers.specs.Outcome.{map_outcome}
use Rattle.covers.specs.Promise.{RootCover, BestCover}
use Rattle.judge_rules.specs.Walk.{match_number}
use Rattle.judge_rules.specs.Places.{Torn, BadTail}
use Rattle.judge_rules.specs.Judgement.{sheet_number, figures_number, judgement}

-- A legal cover of the root that lists these matches.
abbrev pub Listing : Library → Tree → List Placed → Cover → Type 0
Listing l t xs d = RootCover l t d × (d.placed ≡ xs)

-- When each answer is said to the cover sheet cs.
pub record SaidExactly (cs : List ℕ) (l : Library) (t : Tree) (o : Answer Point) : Type 0 where
  -- A sheet is accepted exactly when it says a legal cover of the root with its true figures, which are the ones answered.
  pub accepted_exactly : (p : Point) → (o ≡ success p) ↔ ((c : Cover) × CoverReads c cs × RootCover l t c × (c.point ≡ p))
  -- 24 is said exactly when the listed matches make up a legal cover whose figures are others.
  pub figures_exactly : (o ≡ refused figures_number 0) ↔ ((c d : Cover) × CoverReads c cs × Listing l t c.placed d × (d.point ≡ c.point → ⊥))
  -- 23 is said exactly when the sheet is read and the listed matches make up no legal cover.
  pub match_exactly : ((k : ℕ) × (o ≡ refused match_number k)) ↔ ((c : Cover) × CoverReads c cs × ((d : Cover) → Listing l t c.placed d → ⊥))
  -- 22 is said exactly when the bytes say no cover at all.
  pub sheet_exactly : ((k : ℕ) × (o ≡ refused sheet_number k)) ↔ ((c : Cover) → CoverReads c cs → ⊥)

-- Where it is said.
pub record SaidWhere (ls ts cs : List ℕ) (l : Library) (t : Tree) (o : Answer Point) : Type 0 where
  -- 22 at the first bit of the first field before or inside which the bytes end, or, with all fields there and a bad tail, at the first bit after the last.
  pub sheet_place : (k : ℕ) → (o ≡ refused sheet_number k) ↔ (Torn cs k ⊎ BadTail cs k)
  -- 23 at a position of the list, or at its end.
  pub match_place : (c : Cover) (k : ℕ) → CoverReads c cs → o ≡ refused match_number k → k ≤ length c.placed
  -- A list that ends late: the first k matches make up a legal cover already.
  pub ends_late : (c d : Cover) (k : ℕ) → CoverReads c cs → Listing l t (take k c.placed) d → k < length c.placed → o ≡ refused match_number k
  -- A list that ends early: it is the front of a legal cover's that goes on.
  pub ends_early : (c d : Cover) (x : Placed) (xs : List Placed) → CoverReads c cs → Listing l t (c.placed ++ (x ∷ xs)) d → o ≡ refused match_number (length c.placed)
  -- A wrong match: no legal cover's list begins with the matches up to it.
  pub match_wrong : (c d : Cover) (k : ℕ) → CoverReads c cs → o ≡ refused match_number k → k < length c.placed → RootCover l t d → take (suc k) c.placed ≡ take (suc k) d.placed → ⊥
  -- It is the first one: whatever follows, a list that begins with them is answered the same.
  pub match_first : (c d : Cover) (k : ℕ) (ds : List ℕ) → CoverReads c cs → o ≡ refused match_number k → k < length c.placed → CoverReads d ds → take (suc k) c.placed ≡ take (suc k) d.placed → judgement ls ts ds ≡ refused match_number k

-- What is demanded of the answer o to the cover sheet cs.
pub record JudgeDemands (ls ts cs : List ℕ) (l : Library) (t : Tree) (o : Answer Point) : Type 0 where
  pub exactly : SaidExactly cs l t o
  pub where_said : SaidWhere ls ts cs l t o
  -- The same of bytes: they are accepted exactly when they are the sheet of a legal cover of the root, whose figures are the ones answered.
  pub sheets_exactly : ((k : ℕ) → get_or cs k 0 < 256) → (p : Point) → (o ≡ success p) ↔ ((c : Cover) × (cs ≡ cover_sheet c) × RootCover l t c × (c.point ≡ p))
  -- Every sheet that map hands over is accepted, with its area and arrival.
  pub from_map : (output work : ℕ) → map_outcome ls ts output work ≡ success cs → (c : Cover) × CoverReads c cs × BestCover l t c × (o ≡ success c.point)

-- The demands of the library and the tree on the two sheets, if both are sound.
abbrev pub JudgedWhereSound : (ls ts cs : List ℕ) → Answer Point → Type 0
JudgedWhereSound ls ts cs o = (l : Library) (t : Tree) → library_said ls ≡ success l → tree_said ts ≡ success t → JudgeDemands ls ts cs l t o
