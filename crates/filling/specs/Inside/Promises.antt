-- What the functions of this crate are lent and what they promise.
use Rattle.std.specs.Prelude.{ℕ, suc, ◌+◌, ◌*◌, ◌≤◌, ◌<◌, ◌≡◌, Bool, true, false, List, Result, Ok, Err, length, get_or, take}
use Rattle.std.proofs.Math.Option.{none, some}
use Rattle.sheets_rules.specs.declared.Bins.{Bins}
use Rattle.sheets_rules.specs.declared.TreeRecord.{TreeRecord}
use Rattle.sheets_rules.specs.Model.{Shape, Library, Tree}
use Rattle.sheets_rules.specs.Inside.Layout.{library_laid, tree_laid}
use Rattle.covers.specs.Capacity.{work_words}
use Rattle.covers.specs.Cover.{Point}
use Rattle.covers.specs.Enumeration.{covers}
use Rattle.covers.specs.Tradeoff.{overfull_node}
use Rattle.covers.specs.Inside.Curve.{Filled, curve, gates}
use Rattle.overlay.specs.Inside.Promises.{Decoded}
use Rattle.matching.specs.declared.Hit.{Hit}
use Rattle.matching.specs.Inside.Promises.{Ready}
use Rattle.curves.specs.Inside.Words.{table_of, AgreeFrom, ZeroBelow, WorkArea, Small}
use Rattle.curves.specs.Inside.Best.{SourcesSafe, Above}
use Rattle.curves.specs.Inside.Promises.{PointsFit, node_points}
use Rattle.curves.specs.Inside.Stored.{CurvesStored}
use Rattle.filling.specs.declared.Turn.{Turn}
use Rattle.filling.specs.declared.Counts.{Counts}

-- ---- the curves of a node, from the tables

module _ (turn : Turn) where
  -- The load in place b.
  abbrev pub load_at : ℕ → ℕ
  load_at b = get_or turn.bins.loads b 0

  -- The numbers of a node's curves: from the first up to, but without, the first of the next node.
  abbrev pub first_curve : ℕ
  first_curve = 4 * turn.node

  abbrev pub next_curve : ℕ
  next_curve = 4 * (turn.node + 1)

module _ (symbols work rows : List ℕ) (hits : List Hit) (turn : Turn) where
  -- The points by deadline under load b, but not more than one too many.
  abbrev pub points_under : ℕ → List Point
  points_under b = node_points turn.most symbols work rows hits (load_at turn b)

  -- The node's matches, whose inputs all have their curves after the node's own, which are empty.
  pub record NodeReady : Type 0 where
    pub sources : SourcesSafe turn.most symbols work
    pub node : turn.node < 64
    pub few_bins : turn.bins.count ≤ 4
    pub above : Above (first_curve turn + 3) hits
    pub fit : (b : ℕ) → b < turn.bins.count → PointsFit turn.most symbols work rows hits (load_at turn b)
    pub zero : ZeroBelow turn.most (next_curve turn) work

  -- A node's curves: how many points under each load, the curves themselves where they are not too many, and nothing changed above the node.
  pub record NodeFilled (work' : List ℕ) (r : Counts) : Type 0 where
    pub counted : (b : ℕ) → b < turn.bins.count → get_or r.points b 0 ≡ length (points_under b)
    pub stored : (b : ℕ) → b < turn.bins.count → length (points_under b) ≤ turn.most → table_of turn.most work' turn.node b ≡ points_under b
    pub zero : ZeroBelow turn.most (first_curve turn) work'
    pub agree : AgreeFrom turn.most (next_curve turn) work' work
    pub small : Small work'

-- ---- the curves of a node, as the covers have them

-- The library and the tree as decoded, at the node (turn.node, s), with the curves of all later nodes in the work area.
pub record FillReady (l : Library) (t : Tree) (rows ss zs : List ℕ) (turn : Turn) (room : ℕ) (work : List ℕ) (s : Shape) : Type 0 where
  pub ready : Ready l t rows ss zs turn.node room s
  pub few_bins : turn.bins.count ≤ 4
  pub light : (b : ℕ) → b < turn.bins.count → load_at turn b ≤ 255
  pub curves : WorkArea turn.most work
  pub filled : Filled l t.shape (table_of turn.most work) (suc turn.node)
  pub zero : ZeroBelow turn.most (next_curve turn) work

module _ (l : Library) (s : Shape) (turn : Turn) where
  abbrev pub curve_under : ℕ → List Point
  curve_under b = curve (covers l (load_at turn b) turn.node s)

  -- The node's curves under its loads; a leaf has none.
  pub record NodeDone (work work' : List ℕ) (r : Counts) : Type 0 where
    pub counted : 0 < gates s → (b : ℕ) → b < turn.bins.count → get_or r.points b 0 ≡ length (take (turn.most + 1) (curve_under b))
    pub stored : 0 < gates s → (b : ℕ) → b < turn.bins.count → length (curve_under b) ≤ turn.most → table_of turn.most work' turn.node b ≡ curve_under b
    pub none : gates s ≡ 0 → (b : ℕ) → get_or r.points b 0 ≡ 0
    pub zero : ZeroBelow turn.most (first_curve turn) work'
    pub agree : AgreeFrom turn.most (next_curve turn) work' work
    pub small : Small work'

-- The node's curves are filled, whichever library and tree are stored.
abbrev pub FillsNode : (rows ss zs : List ℕ) → Turn → (room : ℕ) → (work work' : List ℕ) → Counts → Type 0
FillsNode rows ss zs turn room work work' r = (l : Library) (t : Tree) (s : Shape) → FillReady l t rows ss zs turn room work s → NodeDone l s turn work work' r

-- Some count of the turn's loads is above what the node may have, or none is.
abbrev pub Exceeds : Turn → Bool → Counts → Type 0
Exceeds turn true r = (b : ℕ) × (b < turn.bins.count) × (turn.most < get_or r.points b 0)
Exceeds turn false r = (b : ℕ) → b < turn.bins.count → get_or r.points b 0 ≤ turn.most

-- ---- every node

-- The library l and the tree t as decoded, and a work area of zeros. A leaf at the root has one trade-off, so a node may have one; a count is told
-- in a byte.
pub record FillStart (l : Library) (t : Tree) (rows : List ℕ) (bins : Bins) (tree : TreeRecord) (most : ℕ) (work : List ℕ) : Type 0 where
  pub decoded : Decoded l t rows tree.symbols tree.sizes
  pub bins_are : bins ≡ (library_laid l).bins
  pub tree_is : tree ≡ tree_laid t
  pub work_length : length work ≡ work_words most
  pub zero : (k : ℕ) → get_or work k 0 ≡ 0
  pub some_most : 1 ≤ most
  pub bounded : most ≤ 254

-- Every curve is in the work area and no node is overfull, or the highest overfull node is named.
abbrev pub FillingIs : ℕ → Library → Tree → List ℕ → Result (Unit {0}) ℕ → Type 0
FillingIs most l t work' (Ok _) = (overfull_node most l t ≡ none) × CurvesStored most l t work'
FillingIs most l t work' (Err n) = overfull_node most l t ≡ some n

-- The curves of every node are filled or an overfull node is named, whichever library and tree are stored.
abbrev pub FillsTree : List ℕ → Bins → TreeRecord → ℕ → (work work' : List ℕ) → Result (Unit {0}) ℕ → Type 0
FillsTree rows bins tree most work work' r = (l : Library) (t : Tree) → FillStart l t rows bins tree most work → FillingIs most l t work' r
