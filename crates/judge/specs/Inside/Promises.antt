-- What the functions inside promise each other.
use Rattle.std.specs.Prelude.{ℕ, ◌+◌, ◌-◌, ◌*◌, ◌≤◌, ◌<◌, max, ◌≡◌, Bool, length, get_or, set, drop, replicate, Option as Maybe, MatchOption, Result}
use mathlib.Core.List.{List, [], ◌∷◌, map, Memᴰ}
use Rattle.std.proofs.Math.Option.{Option, none, some}
use Rattle.fields.specs.Reading.{start}
use Rattle.fields.specs.Answer.{Answer, refused_in, ◌>>=◌, Bounded}
use Rattle.sheets_rules.specs.declared.LibraryRecord.{LibraryRecord}
use Rattle.sheets_rules.specs.declared.Refusal.{Refusal}
use Rattle.sheets_rules.specs.declared.TreeRecord.{TreeRecord}
use Rattle.sheets_rules.specs.Model.{Shape, size, nands as nandsOf, Library, Pattern, Tree}
use Rattle.sheets_rules.specs.Inside.Sound.{SoundCell, SoundDrawing, SoundLibrary, SoundTree}
use Rattle.sheets_rules.specs.Inside.Layout.{tree_laid}
use Rattle.sheets_rules.specs.Report.{tree_said}
use Rattle.covers.specs.Cover.{Point}
use Rattle.covers.specs.Crossing.{is_crossing}
use Rattle.covers.specs.CoverSheet.{cover_read}
use Rattle.covers.specs.Match.{Input, Match}
use Rattle.covers.specs.Inside.Curve.{base}
use Rattle.covers.specs.Tradeoff.{Node, nodes}
use Rattle.result_sheets.specs.declared.CoverRecord.{CoverRecord}
use Rattle.result_sheets.specs.declared.MatchRecord.{MatchRecord}
use Rattle.result_sheets.specs.Public.{placed_of, cover_of}
use Rattle.overlay.specs.declared.Inputs.{Inputs}
use Rattle.leaves.specs.Inside.Leaf.{Heads, symbol_limit}
use Rattle.cells.specs.Inside.Cell.{slowest, CellStored}
use Rattle.overlay.specs.Inside.Standing.{DrawingStored, Measured}
use Rattle.overlay.specs.Inside.Promises.{Walkable, MatchStored, LibraryStored, SheetsStored, Decoded}
use Rattle.judge_rules.specs.declared.Figures.{Figures}
use Rattle.judge_rules.specs.Walk.{Uncovered, Walk, visited, inputs_visited, match_at, match_taken, step as step_of, started, walk as walk_of}
use Rattle.judge_rules.specs.Judgement.{figures, cover_judged}
use Rattle.judge_rules.specs.Public.{of_cover_judged}
use Rattle.judge_rules.specs.Inside.Order.{Apart}
use Rattle.judge.specs.declared.WalkRecord.{WalkRecord}
use Rattle.judge.specs.declared.Waiting.{Waiting}

-- ---- a walk as it is kept

-- What is to be covered as it is kept, and what stands where nothing is.
abbrev pub waiting_of : Uncovered → Waiting
waiting_of o = record { node = o.node; load = o.load; delay = o.delay }

abbrev pub none_waits : Waiting
none_waits = record { node = 0; load = 0; delay = 0 }

-- The same over the subtree s.
abbrev pub uncovered : Waiting → Shape → Uncovered
uncovered i s = record { node = i.node; shape = s; load = i.load; delay = i.delay }

-- Nothing is reached yet.
abbrev pub nothing_yet : WalkRecord
nothing_yet = record { area = 0; arrival = 0; count = 0; waiting = replicate 64 none_waits }

-- With an arrival more, and with a node more to be covered.
abbrev pub arrived : WalkRecord → ℕ → WalkRecord
arrived r t = record { area = r.area; arrival = max r.arrival t; count = r.count; waiting = r.waiting }

abbrev pub pushed : WalkRecord → Waiting → WalkRecord
pushed r i = record { area = r.area; arrival = r.arrival; count = r.count + 1; waiting = set r.waiting r.count i }

-- The last of them taken away.
pub record Popped (r : WalkRecord) (i : Waiting) (q : WalkRecord) : Type 0 where
  pub some_waits : 0 < r.count
  pub last_is : i ≡ get_or r.waiting (r.count - 1) none_waits
  pub popped_is : q ≡ record { area = r.area; arrival = r.arrival; count = r.count - 1; waiting = r.waiting }

-- An array holds what is to be covered, the first of it last.
abbrev pub Stacked : List Waiting → List Uncovered → Type 0
Stacked is [] = Unit {0}
Stacked is (o ∷ os) = (get_or is (length os) none_waits ≡ waiting_of o) × Stacked is os

-- A record keeps a walk.
pub record WalkStored (w : Walk) (r : WalkRecord) : Type 0 where
  pub area_is : r.area ≡ w.point.area
  pub arrival_is : r.arrival ≡ w.point.arrival
  pub count_is : r.count ≡ length w.left
  pub stacked : Stacked r.waiting w.left
  pub waiting_long : length r.waiting ≡ 64

-- ---- coming to nodes

-- The walk that is kept has reached a node with this symbol, whichever shape it heads.
abbrev pub Reached : WalkRecord → (symbol : ℕ) → Waiting → WalkRecord → Type 0
Reached walk symbol i r = (w : Walk) (s : Shape) → WalkStored w walk → Heads symbol s → WalkStored (visited i.load i.delay i.node s w) r

-- A match that is taken at i, as the walk over its pattern found it, with its pattern's row, and the walk that reaches its inputs: there is room for each.
pub record Entering (l : Library) (row ss : List ℕ) (inputs : Inputs) (i : Waiting) (r : WalkRecord) (m : Match) (w : Walk) : Type 0 where
  pub kept : WalkStored w r
  pub stored : MatchStored l inputs row m
  pub heads : (j : Input) → Memᴰ j m.inputs → Heads (get_or ss j.node 0) j.shape × (j.node < 64)
  pub symbols_long : length ss ≡ 64
  pub symbols_small : (k : ℕ) → get_or ss k 0 ≤ symbol_limit
  pub library : SoundLibrary l
  pub light : i.load ≤ 255
  pub near : i.delay + slowest < base
  pub room : (k : ℕ) → k < length m.inputs → length (inputs_visited l m.pattern.cell i.load i.delay (drop (k + 1) m.inputs) w).left < 64

-- The walk that is kept has reached the inputs of the match, whichever this is.
abbrev pub InputsReached : WalkRecord → Inputs → (row ss : List ℕ) → Waiting → WalkRecord → Type 0
InputsReached walk inputs row ss i r =
    (l : Library) (m : Match) (w : Walk) → Entering l row ss inputs i walk m w → WalkStored (inputs_visited l m.pattern.cell i.load i.delay m.inputs w) r

-- ---- one match

-- It is told whether a number is a crossing of any drawing with so many NANDs.
abbrev pub CrossingTold : (nands crossing : ℕ) → Bool → Type 0
CrossingTold nands crossing r = (d : Shape) → nands ≡ nandsOf d → r ≡ is_crossing d crossing

-- What a step makes of a walk: none if the match stands wrongly.
abbrev pub StepIs : Option Walk → Maybe WalkRecord → Type 0
StepIs v r = MatchOption r (v ≡ none) (λ q. (w : Walk) × (v ≡ some w) × WalkStored w q)

-- What is to be covered, after k matches: a node of the tree, under a load that a field has room for, no more than k pins' delays from the root.
pub record Within (t : Tree) (k : ℕ) (o : Uncovered) : Type 0 where
  pub node_in : Memᴰ (record { number = o.node; shape = o.shape }) (nodes 0 t.shape)
  pub light : o.load ≤ 255
  pub near : o.delay ≤ slowest * k

-- A walk over the tree t after k matches.
pub record Walking (t : Tree) (k : ℕ) (w : Walk) : Type 0 where
  pub low : ℕ
  pub apart : Apart low (size t.shape) w.left
  pub within : (o : Uncovered) → Memᴰ o w.left → Within t k o
  pub area : w.point.area ≤ 65535 * k

-- The row of a sound pattern, and a walk over the tree after k matches: the first of what is left to cover, over the subtree s, was taken from what is kept.
pub record Taking (l : Library) (t : Tree) (row ss zs : List ℕ) (k : ℕ) (p : Pattern) (s : Shape) (w : Walk) (r : WalkRecord) (i : Waiting) : Type 0 where
  pub others : List Uncovered
  pub first : w.left ≡ uncovered i s ∷ others
  pub walking : Walking t k w
  pub kept : WalkStored (record { left = others; point = w.point }) r
  pub few : k ≤ 62
  pub drawn : DrawingStored row p.drawing
  pub walkable : {words : List ℕ} → Measured p.drawing words → Walkable row words ss zs i.node p.drawing s
  pub cell : CellStored l row p.cell
  pub sound : SoundCell (length l.bins) p.cell
  pub drawing : SoundDrawing (length p.cell.pins) p.drawing
  pub heads : (x : Node) → Memᴰ x (nodes 0 t.shape) → Heads (get_or ss x.number 0) x.shape
  pub tree : SoundTree t
  pub symbols_small : (j : ℕ) → get_or ss j 0 ≤ symbol_limit
  pub library : SoundLibrary l

-- The pattern in the row, whichever it is, taken under a crossing at what was the first.
abbrev pub MatchTaken : WalkRecord → Waiting → (row : List ℕ) → (crossing : ℕ) → (ss zs : List ℕ) → Maybe WalkRecord → Type 0
MatchTaken walk i row crossing ss zs r =
    (l : Library) (t : Tree) (k : ℕ) (p : Pattern) (s : Shape) (w : Walk) (number : ℕ) → Taking l t row ss zs k p s w walk i →
    StepIs (match_taken l w (uncovered i s) (match_at number crossing (uncovered i s) (some p))) r

-- The library and the tree as decoded, and a walk over it after k matches, of which there are at most 62.
pub record Stepping (l : Library) (t : Tree) (rows ss zs : List ℕ) (k : ℕ) (w : Walk) (r : WalkRecord) : Type 0 where
  pub decoded : Decoded l t rows ss zs
  pub walking : Walking t k w
  pub kept : WalkStored w r
  pub few : k ≤ 62

-- The step for a listed match, whichever walk is kept.
abbrev pub StepTaken : WalkRecord → (rows ss zs : List ℕ) → MatchRecord → Maybe WalkRecord → Type 0
StepTaken walk rows ss zs listed r = (l : Library) (t : Tree) (k : ℕ) (w : Walk) → Stepping l t rows ss zs k w walk → StepIs (step_of l w (placed_of listed)) r

-- ---- a cover

-- The library and the tree as decoded, the tree in its record.
pub record Judging (l : Library) (t : Tree) (rows : List ℕ) (tree : TreeRecord) : Type 0 where
  pub decoded : Decoded l t rows tree.symbols tree.sizes
  pub tree_is : tree ≡ tree_laid t

-- The walk over a cover's matches, whichever library and tree these are.
abbrev pub CoverWalked : (rows : List ℕ) → TreeRecord → List MatchRecord → Result Figures Refusal → Type 0
CoverWalked rows tree matches r = (l : Library) (t : Tree) → Judging l t rows tree → of_cover_judged r ≡ walk_of l 0 (map placed_of matches) (started t)

-- A cover as it was read, judged for a sound library and a sound tree, whichever these are.
abbrev pub RecordJudged : LibraryRecord → TreeRecord → CoverRecord → Result Figures Refusal → Type 0
RecordJudged library tree cover r =
    (l : Library) (t : Tree) → SheetsStored l t library tree → of_cover_judged r ≡ figures (cover_of cover).point (walk_of l 0 (cover_of cover).placed (started t))

-- A cover sheet judged for a sound library and a sound tree, whichever these are.
abbrev pub SheetJudged : LibraryRecord → TreeRecord → List ℕ → Result Figures Refusal → Type 0
SheetJudged library tree cs r = (l : Library) (t : Tree) → SheetsStored l t library tree → of_cover_judged r ≡ cover_judged (cover_read cs start) l t

-- What is said for any tree.
abbrev pub tree_judged : Library → (ts cs : List ℕ) → Answer Point
tree_judged l ts cs = tree_said ts >>= cover_judged (cover_read cs start) l

-- Any tree and any cover sheet judged for a sound library, whichever this is.
abbrev pub TreeJudged : LibraryRecord → (ts cs : List ℕ) → Result Figures Refusal → Type 0
TreeJudged library ts cs r = (l : Library) → LibraryStored l library → of_cover_judged r ≡ tree_judged l ts cs

-- A refusal that fits a word.
abbrev pub Fitting : {A : Type 0} → Answer A → Type 0
Fitting o = (item number place : ℕ) → o ≡ refused_in item number place → Bounded (refused_in item number place)
