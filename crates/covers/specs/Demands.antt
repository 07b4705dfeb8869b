-- What is demanded of everything that map and list answer to a sound library and a sound tree. All of it is said of all legal covers.
use Rattle.std.specs.Prelude.{ℕ, ◌≡◌, ◌↔◌}
use mathlib.Core.List.{List, Memᴰ}
use Rattle.fields.specs.Answer.{Answer, refused, success}
use Rattle.sheets_rules.specs.Model.{Library, Tree}
use Rattle.sheets_rules.specs.Report.{library_said, tree_said}
use Rattle.covers.specs.Cover.{Cover}
use Rattle.covers.specs.Tradeoff.{Node, nodes, TooMany}
use Rattle.covers.specs.CoverSheet.{cover_sheet, list_sheet, CoverReads, ListReads}
use Rattle.covers.specs.Answer.{overfull_number, no_cover_number}
use Rattle.covers.specs.Lending.{lent}
use Rattle.covers.specs.Promise.{RootCover, InTime, BestCover, RootTradeoffs, HighestTooMany, NoneTooMany}

-- Covers of a wanted kind are asked for, and what is right is put on a sheet. A node may have `most` trade-offs under a load.
pub record Demands {A : Type 0} (Wanted : Cover → Type 0) (Right : A → Type 0) (on : A → List ℕ) (Says : A → List ℕ → Type 0) (most : ℕ) (l : Library) (t : Tree) (o : Answer (List ℕ)) : Type 0 where
  -- Demand 3. Overfull (document 01's "crowded") is said exactly when some node has more trade-offs than that under a load considered there,
  pub overfull_exactly : ((k : ℕ) × (o ≡ refused overfull_number k)) ↔ ((x : Node) × Memᴰ x (nodes 0 t.shape) × TooMany most l t x)
  -- and its place is the highest-numbered such node.
  pub overfull_place : (k : ℕ) → (o ≡ refused overfull_number k) ↔ HighestTooMany most l t k
  -- No cover is said exactly when there is no such node and no cover of the wanted kind.
  pub none_exactly : (o ≡ refused no_cover_number 0) ↔ (NoneTooMany most l t × ((c : Cover) → Wanted c → ⊥))
  -- A sheet is handed over exactly when there is no such node and some cover of the wanted kind.
  pub sheet_exactly : ((bytes : List ℕ) × (o ≡ success bytes)) ↔ (NoneTooMany most l t × ((c : Cover) × Wanted c))
  -- Demand 2. The sheet is that of what is right, and its fields say it.
  pub sheet_is : (bytes : List ℕ) → o ≡ success bytes → (a : A) × (bytes ≡ on a) × Says a bytes × Right a

-- Map is asked for a cover in time and hands over the best.
abbrev pub MapDemands : ℕ → Library → Tree → Answer (List ℕ) → Type 0
MapDemands most l t = Demands (InTime l t) (BestCover l t) cover_sheet CoverReads most l t

-- List is asked for any legal cover and hands over the trade-offs of them all.
abbrev pub ListDemands : ℕ → Library → Tree → Answer (List ℕ) → Type 0
ListDemands most l t = Demands (RootCover l t) (RootTradeoffs l t) list_sheet ListReads most l t

-- An outcome meets the demands of the library and the tree on the two sheets, if enough is lent and both sheets are sound.
abbrev pub WhereSound : (ℕ → Library → Tree → Answer (List ℕ) → Type 0) → ℕ → List ℕ → List ℕ → ℕ → ℕ → Answer (List ℕ) → Type 0
WhereSound Demanded least ls ts output work o = (most : ℕ) (l : Library) (t : Tree) → lent least output work ≡ success most → library_said ls ≡ success l → tree_said ts ≡ success t → Demanded most l t o
