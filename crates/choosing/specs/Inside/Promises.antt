-- What the choice of a cover is lent and what it promises, by the choice rule.
use Rattle.std.specs.Prelude.{ℕ, suc, Option as Maybe, None, Some, ◌+◌, ◌-◌, ◌%◌, ◌≤◌, ◌<◌, ◌≡◌, length, get_or}
use mathlib.Core.List.{List, Memᴰ}
use Rattle.std.proofs.Math.Option.{some}
use Rattle.sheets_rules.specs.Model.{plain_leaf, Shape, Library, Tree}
use Rattle.covers.specs.Match.{Input, Match, pin_load}
use Rattle.covers.specs.Cover.{Point, Cover, feeds, input_delay}
use Rattle.covers.specs.Enumeration.{covers}
use Rattle.covers.specs.Tradeoff.{nodes}
use Rattle.covers.specs.Choice.{least, first_reaching, choice}
use Rattle.covers.specs.Inside.Curve.{base, gates, point_of}
use Rattle.cells.specs.Inside.Cell.{CellStored}
use Rattle.overlay.specs.Inside.Promises.{Decoded}
use Rattle.matching.specs.declared.Hit.{Hit}
use Rattle.matching.specs.Inside.Found.{match_most, hit_of}
use Rattle.curves.specs.Inside.Words.{WorkArea}
use Rattle.curves.specs.Inside.Best.{hit_at, pattern_of, legal_best}
use Rattle.curves.specs.Inside.Stored.{CurvesStored}
use Rattle.result_sheets.specs.declared.CoverRecord.{CoverRecord}
use Rattle.result_sheets.specs.Public.{appended}
use Rattle.choosing.specs.declared.Goal.{Goal}
use Rattle.choosing.specs.declared.Inputs.{Inputs}

-- ---- a match and its inputs

-- The hit of a legal match whose least point in time is that of the word w.
abbrev pub Reaches : ℕ → List ℕ → List ℕ → List ℕ → ℕ → ℕ → Hit → Type 0
Reaches most symbols work rows load w hit = legal_best most symbols work (pattern_of rows hit) hit load (w % base + 1) ≡ some (point_of w)

-- The first of the hits that reaches the word's area and arrival, or that none does.
module _ (most : ℕ) (symbols work rows : List ℕ) (hits : List Hit) (load w : ℕ) where
  pub record Reaching (r : ℕ) : Type 0 where
    pub within : r < length hits
    pub before : (j : ℕ) → j < r → Reaches most symbols work rows load w (hit_at hits j) → ⊥
    pub here : Reaches most symbols work rows load w (hit_at hits r)

  abbrev pub FirstHit : Maybe ℕ → Type 0
  FirstHit None = (j : ℕ) → j < length hits → Reaches most symbols work rows load w (hit_at hits j) → ⊥
  FirstHit (Some r) = Reaching r

-- A hit holds a match, and its pattern's row the cell.
pub record HitHolds (l : Library) (pattern : List ℕ) (hit : Hit) (m : Match) : Type 0 where
  pub few : length m.inputs ≤ 6
  pub hit_is : hit ≡ hit_of m
  pub stored : CellStored l pattern m.pattern.cell
  pub pinned : (i : Input) → Memᴰ i m.inputs → i.pin < length m.pattern.cell.pins

abbrev pub no_input : Input
no_input = record { pin = 0; node = 0; shape = plain_leaf 0 }

-- What is asked of an input of the match m that drives a load and is to arrive by t: the load and the bin are its pin's, and the pin's delay is
-- taken off the time.
abbrev pub goal_of : Library → Match → ℕ → ℕ → Input → Goal
goal_of l m load t i =
    let pin = feeds m.pattern.cell i in
    record { node = i.node; load = pin_load l pin; bin = pin.bin; time = t - input_delay m.pattern.cell load i }

-- What stands where nothing is asked.
abbrev pub no_goal : Goal
no_goal = record { node = 0; load = 0; bin = 0; time = 0 }

-- The inputs of a match.
pub record InputsAre (l : Library) (m : Match) (load t : ℕ) (r : Inputs) : Type 0 where
  pub pattern_is : r.pattern ≡ m.number
  pub crossing_is : r.crossing ≡ m.crossing
  pub count_is : r.count ≡ length m.inputs
  pub few : length m.inputs ≤ 6
  pub each : (k : ℕ) → k < length m.inputs → get_or r.goals k no_goal ≡ goal_of l m load t (get_or m.inputs k no_input)

-- The inputs are read of whichever match the hit holds.
abbrev pub InputsRead : List ℕ → Hit → (load t : ℕ) → Inputs → Type 0
InputsRead pattern hit load t r = (l : Library) (m : Match) → HitHolds l pattern hit m → InputsAre l m load t r

-- ---- the choice

-- The library l and the tree t as decoded, room for the matches of a node, and the curves of the tree's nodes in the work area.
pub record Prepared (most : ℕ) (l : Library) (t : Tree) (rows ss zs : List ℕ) (room : ℕ) (work : List ℕ) : Type 0 where
  pub decoded : Decoded l t rows ss zs
  pub room_is : room ≡ match_most
  pub area : WorkArea most work
  pub curves : CurvesStored most l t work

-- What a node drives: the root load at the root, where bin 0 has the root's curve; a bin's load elsewhere.
pub data Drives (l : Library) (t : Tree) (goal : Goal) : Type 0 where
  at_root : goal.node ≡ 0 → goal.load ≡ t.load → goal.bin ≡ 0 → Drives l t goal
  below : 0 < goal.node → goal.bin < length l.bins → goal.load ≡ get_or l.bins goal.bin 0 → Drives l t goal

-- What is asked of the node of the subtree s: the load that it drives, and a time by which some cover of it arrives.
pub record Driven (l : Library) (t : Tree) (goal : Goal) (s : Shape) : Type 0 where
  pub node : Memᴰ (record { number = goal.node; shape = s }) (nodes 0 t.shape)
  pub drives : Drives l t goal
  pub time_small : goal.time < base
  pub some_cover : (p : Point) × (least (suc goal.time) (covers l goal.load goal.node s) ≡ some p)

-- The first match that reaches the least point in time is chosen, whichever library and tree are stored.
abbrev pub MatchChosen : ℕ → (rows ss zs : List ℕ) → List Hit → (work : List ℕ) → Goal → Inputs → Type 0
MatchChosen most rows ss zs found work goal r =
    (l : Library) (t : Tree) (s : Shape) → Prepared most l t rows ss zs (length found) work → Driven l t goal s →
    (p : Point) → least (suc goal.time) (covers l goal.load goal.node s) ≡ some p →
    (m : Match) → first_reaching l goal.load goal.node s p ≡ some m → InputsAre l m goal.load p.arrival r

-- What the choice at a node is lent: all that, and a cover's record with room for the matches.
pub record Chooses (most : ℕ) (l : Library) (t : Tree) (rows ss zs : List ℕ) (room : ℕ) (work : List ℕ) (goal : Goal) (cover : CoverRecord) (s : Shape) : Type 0 where
  pub prepared : Prepared most l t rows ss zs room work
  pub driven : Driven l t goal s
  pub fits : cover.count + gates s ≤ 64

-- The matches of the cover that the choice rule names come after those of the record, whichever library and tree are stored.
abbrev pub CoverChosen : ℕ → (rows ss zs : List ℕ) → List Hit → (work : List ℕ) → Goal → CoverRecord → CoverRecord → Type 0
CoverChosen most rows ss zs found work goal cover r =
    (l : Library) (t : Tree) (s : Shape) → Chooses most l t rows ss zs (length found) work goal cover s →
    (c : Cover) → choice l goal.load goal.node s goal.time ≡ some c → r ≡ appended cover c.placed
