-- What the core starts from, what it has once the curves are there, and what it promises.
use Rattle.std.specs.Prelude.{ℕ, ◌*◌, ◌≤◌, ◌<◌, ◌≡◌, List, length, get_or, take, replicate, Result, Ok, Err, IfOk}
use Rattle.std.proofs.Math.Option.{none, some}
use Rattle.sheets_rules.specs.declared.LibraryRecord.{LibraryRecord}
use Rattle.sheets_rules.specs.declared.Refusal.{Refusal}
use Rattle.sheets_rules.specs.declared.TreeRecord.{TreeRecord}
use Rattle.sheets_rules.specs.Model.{leaf, Library, Tree, patterns}
use Rattle.sheets_rules.specs.Inside.Layout.{row_words, library_laid, tree_laid}
use Rattle.covers.specs.Tradeoff.{overfull_node}
use Rattle.covers.specs.Answer.{answered, mapped, listed}
use Rattle.covers.specs.Capacity.{work_words}
use Rattle.covers.specs.Choice.{choice}
use Rattle.leaves.specs.Inside.Leaf.{leaf_of}
use Rattle.overlay.specs.Inside.Promises.{Decoded}
use Rattle.matching.specs.Inside.Found.{match_most}
use Rattle.curves.specs.Inside.Words.{point_limit}
use Rattle.choosing.specs.Inside.Promises.{Prepared}
use Rattle.result_sheets.specs.declared.CoverRecord.{CoverRecord}
use Rattle.map_core.specs.Inside.Found.{of_mapped, of_listed, overfull_at}

-- The words of a library's filled rows.
abbrev pub rows_of : LibraryRecord → List ℕ
rows_of library = take (row_words * library.total) library.rows

-- A sound library's bins and the rows that there are, a sound tree, and a work area of zeros for as many trade-offs as a node may have.
pub record Started (most : ℕ) (l : Library) (t : Tree) (library : LibraryRecord) (tree : TreeRecord) (work : List ℕ) : Type 0 where
  pub decoded : Decoded l t (rows_of library) tree.symbols tree.sizes
  pub bins_are : library.bins ≡ (library_laid l).bins
  pub total_is : library.total ≡ length (patterns l)
  pub tree_is : tree ≡ tree_laid t
  pub some_most : 1 ≤ most
  pub bounded : most ≤ 254
  pub zeros : work ≡ replicate (work_words most) 0

-- The library and the tree with the curves of all nodes, none of which is overfull.
pub record Curved (most : ℕ) (l : Library) (t : Tree) (library : LibraryRecord) (tree : TreeRecord) (work : List ℕ) : Type 0 where
  pub total_is : library.total ≡ length (patterns l)
  pub tree_is : tree ≡ tree_laid t
  pub prepared : Prepared most l t (rows_of library) tree.symbols tree.sizes match_most work
  pub some_most : 1 ≤ most
  pub not_overfull : overfull_node most l t ≡ none

-- Every curve is filled, or an overfull node is named.
abbrev pub FilledIs : (most : ℕ) → Library → Tree → LibraryRecord → TreeRecord → (work : List ℕ) → Result (Unit {0}) Refusal → Type 0
FilledIs most l t library tree work (Ok u) = Curved most l t library tree work
FilledIs most l t library tree work (Err q) = (n : ℕ) × (q ≡ overfull_at n) × (overfull_node most l t ≡ some n)

-- The cover that map hands over; a cover sheet has room for it.
pub record MappedIs (most : ℕ) (l : Library) (t : Tree) (r : Result CoverRecord Refusal) : Type 0 where
  pub answer_is : of_mapped r ≡ mapped most l t
  pub few : IfOk r (λ (cover : CoverRecord). cover.count ≤ 63)

-- The root's trade-offs, in the first words of the work area; a word has room for each.
pub record ListedIs (most : ℕ) (l : Library) (t : Tree) (work : List ℕ) (r : Result ℕ Refusal) : Type 0 where
  pub answer_is : of_listed work r ≡ listed most l t
  pub few : IfOk r (λ (count : ℕ). count ≤ most)
  pub small : IfOk r (λ (count : ℕ). (k : ℕ) → k < count → get_or work k 0 < point_limit)

-- A leaf's own cover, by any library's cells.
pub record MapsLeaf (symbol load time : ℕ) (r : Result CoverRecord Refusal) : Type 0 where
  pub answer_is : (l : Library) → of_mapped r ≡ answered none (choice l load 0 (leaf (leaf_of symbol)) time)
  pub few : IfOk r (λ (cover : CoverRecord). cover.count ≤ 63)

-- The curves of whichever tree, by whichever library's cells, the records hold.
abbrev pub Fills : (most : ℕ) → LibraryRecord → TreeRecord → (work work' : List ℕ) → Result (Unit {0}) Refusal → Type 0
Fills most library tree work work' r = (l : Library) (t : Tree) → Started most l t library tree work → FilledIs most l t library tree work' r

-- The cover of whichever tree, by whichever library's cells, has these curves.
abbrev pub MapsCurved : (most : ℕ) → LibraryRecord → TreeRecord → (work : List ℕ) → Result CoverRecord Refusal → Type 0
MapsCurved most library tree work r = (l : Library) (t : Tree) → Curved most l t library tree work → MappedIs most l t r

-- The cover of whichever tree, by whichever library's cells, the records hold.
abbrev pub MapsTree : (most : ℕ) → LibraryRecord → TreeRecord → (work : List ℕ) → Result CoverRecord Refusal → Type 0
MapsTree most library tree work r = (l : Library) (t : Tree) → Started most l t library tree work → MappedIs most l t r

-- The trade-offs of whichever tree, by whichever library's cells, has these curves.
abbrev pub ListsCurved : (most : ℕ) → TreeRecord → (work work' : List ℕ) → Result ℕ Refusal → Type 0
ListsCurved most tree work work' r = (l : Library) (t : Tree) (library : LibraryRecord) → Curved most l t library tree work → ListedIs most l t work' r

-- The trade-offs of whichever tree, by whichever library's cells, the records hold.
abbrev pub ListsTree : (most : ℕ) → LibraryRecord → TreeRecord → (work work' : List ℕ) → Result ℕ Refusal → Type 0
ListsTree most library tree work work' r = (l : Library) (t : Tree) → Started most l t library tree work → ListedIs most l t work' r
