-- The arrivals that links bring to a tree, and what is said of a tree with them.
use Rattle.std.specs.Prelude as Prelude
use Rattle.std.specs.Prelude.{ℕ, zero, suc, ◌≤◌, ◌<◌, ◌≡◌, List, length, get_or, cond, ltb, Result, Ok, Err}
use Rattle.std.proofs.Math.Option.{Option, none, some, map}
use Rattle.sheets_rules.specs.declared.TreeRecord.{TreeRecord}
use Rattle.sheets_rules.specs.Model.{Tree}
use Rattle.sheets_rules.specs.Inside.Sound.{SoundTree}
use Rattle.sheets_rules.specs.Inside.Layout.{tree_laid}
use Rattle.part_rules.specs.Part.{known_tree}
use Rattle.part_rules.specs.Outcome.{late_leaf, latest_linked}
use Rattle.shapes_rules.specs.Shape.{leaf_symbol}
use Rattle.leaves.specs.Inside.Leaf.{leaf_of}

-- The driver that a number names: 0 none, and any other the tree of one less.
abbrev pub driver_named : ℕ → Option ℕ
driver_named zero = none
driver_named (suc d) = some d

-- The arrival that a driver brings, from the arrivals of the trees.
abbrev pub brought : List ℕ → ℕ → Option ℕ
brought arrivals driver = map (λ d. get_or arrivals d 0) (driver_named driver)

-- What is said of a tree to which links bring the arrivals f: the lowest leaf at which one is too late; or that there is none, and the record holds the tree with them put in.
abbrev pub LinkedIs : (ℕ → Option ℕ) → Tree → Result TreeRecord ℕ → Type 0
LinkedIs f t (Err n) = (late_leaf f t ≡ some n) × (n < 64)
LinkedIs f t (Ok r) = (late_leaf f t ≡ none) × (r ≡ tree_laid (known_tree f t))

-- What is said of whichever sound tree the record holds, to which the drivers of its nodes bring these arrivals.
abbrev pub LinksTree : TreeRecord → (drivers arrivals : List ℕ) → Result TreeRecord ℕ → Type 0
LinksTree tree drivers arrivals r =
    (t : Tree) (f : ℕ → Option ℕ) → SoundTree t → tree ≡ tree_laid t → ((n : ℕ) → n < 64 → f n ≡ brought arrivals (get_or drivers n 0)) → LinkedIs f t r

-- With the arrival that a link brings to it, if it is a leaf; none, where that is too late.
unfoldable pub symbol_linked : Option ℕ → ℕ → Prelude.Option ℕ
unfolding leaf_of
symbol_linked none symbol = Prelude.Some symbol
symbol_linked (some arrival) symbol =
    cond (ltb symbol 2) (Prelude.Some symbol)
    (cond (ltb latest_linked arrival) Prelude.None (Prelude.Some (leaf_symbol (record { number = arrival; drive = (leaf_of symbol).drive }))))

-- The record holds a sound tree, and the drivers of its nodes are among the trees that have arrivals.
abbrev pub Linkable : TreeRecord → (drivers arrivals : List ℕ) → Type 0
Linkable tree drivers arrivals = (length drivers ≡ 64) × ((j : ℕ) → get_or drivers j 0 ≤ length arrivals) × ((t : Tree) × SoundTree t × (tree ≡ tree_laid t))
