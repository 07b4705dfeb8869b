-- The least point before an instant, read from the tables: of an input, of a match, and of all matches of a node.
use Rattle.std.specs.Prelude.{ℕ, zero, suc, ◌+◌, ◌-◌, ◌*◌, ◌≤◌, ◌<◌, cond, List, [], ◌∷◌, ◌≡◌, length, get_or, take, drop, leb}
use Rattle.std.proofs.Math.Option.{Option, none, map}
use Rattle.sheets_rules.specs.Inside.Layout.{row_words, area_at}
use Rattle.covers.specs.Cover.{late, raised, leaf_point, Point}
use Rattle.covers.specs.Choice.{lesser, before}
use Rattle.covers.specs.Inside.Curve.{both, lookup}
use Rattle.leaves.specs.Inside.Leaf.{leaf_of, symbol_limit}
use Rattle.cells.specs.declared.PinFigures.{PinFigures}
use Rattle.cells.specs.Inside.Cell.{row_legal, row_figures, delay_of, PinSafe}
use Rattle.overlay.specs.declared.Input.{Input}
use Rattle.overlay.specs.Inside.Promises.{blank_input}
use Rattle.matching.specs.declared.Hit.{Hit}
use Rattle.matching.specs.Inside.Found.{no_hit}
use Rattle.curves.specs.Inside.Words.{table_of, WorkArea}

-- ---- a hit, and its pattern's row

-- The row of the pattern that a hit names.
abbrev pub pattern_of : List ℕ → Hit → List ℕ
pattern_of rows hit = take row_words (drop (row_words * hit.pattern) rows)

-- Hit j of a node.
abbrev pub hit_at : List Hit → ℕ → Hit
hit_at hits j = get_or hits j no_hit

-- How many inputs a match has; they, and input k.
abbrev pub hit_count : Hit → ℕ
hit_count hit = hit.inputs.count

abbrev pub hit_inputs : Hit → List Input
hit_inputs hit = take hit.inputs.count hit.inputs.list

abbrev pub input_at : Hit → ℕ → Input
input_at hit k = get_or hit.inputs.list k blank_input

-- In a pattern's row: the cell's area, and the figures of an input's pin.
abbrev pub row_area : List ℕ → ℕ
row_area pattern = get_or pattern area_at 0

abbrev pub input_figures : List ℕ → Input → PinFigures
input_figures pattern input = row_figures pattern input.pin

-- ---- the least point

module _ (most : ℕ) (symbols work : List ℕ) where
  -- A leaf arrives under the load of the input's pin; a gate has a curve.
  unfoldable pub input_best : ℕ → ℕ → ℕ → ℕ → Option Point
  input_best node bin load end =
      cond (leb 2 (get_or symbols node 0)) (before end (leaf_point (leaf_of (get_or symbols node 0)) load)) (lookup end (table_of most work node bin))

  module _ (pattern : List ℕ) (load end : ℕ) where
    -- An input of a match, as the match sees it.
    unfoldable pub input_late : Input → Option Point
    input_late input =
        let pin = input_figures pattern input in
        map (late (delay_of pin load)) (input_best input.node pin.bin pin.load (end - delay_of pin load))

    -- Inputs side by side.
    unfoldable pub inputs_best : List Input → Option Point
    inputs_best [] = before end (record { area = 0; arrival = 0 })
    inputs_best (input ∷ inputs) = both (input_late input) (inputs_best inputs)

  module _ (pattern : List ℕ) (hit : Hit) (load end : ℕ) where
    unfoldable pub hit_best : Option Point
    hit_best = map (raised (row_area pattern)) (inputs_best pattern load end (hit_inputs hit))

    -- A match counts if it is legal.
    unfoldable pub legal_best : Option Point
    legal_best = cond (row_legal pattern load) hit_best none

  -- The first n hits of a node, with the patterns' rows.
  unfoldable pub hits_best : List ℕ → List Hit → ℕ → ℕ → ℕ → Option Point
  hits_best rows hits load end zero = none
  hits_best rows hits load end (suc n) = lesser (hits_best rows hits load end n) (legal_best (pattern_of rows (hit_at hits n)) (hit_at hits n) load end)

-- ---- what is required of the tables

-- An input of a match is within the limits.
pub record InputSafe (pattern : List ℕ) (input : Input) : Type 0 where
  pub pin : input.pin < 6
  pub node : input.node < 64
  pub figures : PinSafe (input_figures pattern input)

-- A match's figures are within the limits.
pub record HitSafe (pattern : List ℕ) (hit : Hit) : Type 0 where
  pub area : row_area pattern ≤ 65535
  pub few : hit_count hit ≤ 6
  pub inputs : (k : ℕ) → k < hit_count hit → InputSafe pattern (input_at hit k)

-- What the inputs' points are read from: the tree's symbols and the curves of later nodes.
pub record SourcesSafe (most : ℕ) (symbols work : List ℕ) : Type 0 where
  pub symbols_length : length symbols ≡ 64
  pub symbols_small : (k : ℕ) → get_or symbols k 0 ≤ symbol_limit
  pub curves : WorkArea most work

-- A hit is safe to read, and its pattern is one of those whose rows are there.
pub record HitKnown (rows : List ℕ) (hit : Hit) : Type 0 where
  pub known : row_words * (hit.pattern + 1) ≤ length rows
  pub safe : HitSafe (pattern_of rows hit) hit

abbrev pub HitsKnown : List ℕ → List Hit → Type 0
HitsKnown rows hits = (j : ℕ) → j < length hits → HitKnown rows (hit_at hits j)

-- Every input of a node's hits has its curves after this one.
abbrev pub Above : ℕ → List Hit → Type 0
Above at hits = (j : ℕ) → j < length hits → (k : ℕ) → k < hit_count (hit_at hits j) → at < 4 * (input_at (hit_at hits j) k).node
