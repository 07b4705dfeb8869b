-- A pattern's row, written part by part and read back word by word.
use Prim.Native.Nat.{ℕ, zero, suc, ◌+◌, ◌*◌, ◌<◌}
use mathlib.Core.Path.{◌≡◌, refl, sym, ap, ◌∙◌}
use mathlib.Core.Logic.{⊎_elim}
use mathlib.Core.Bool.{cond}
use mathlib.Core.List.{List, [], ◌∷◌, ◌++◌}
use native.Mathlib.Nat.{eq-or-lt_of_le, le_of_suc-le-suc}
use native.Mathlib.Numerals.{add-one}
use native.Mathlib.Omega.{arith}
use lib.ListN.{length, get_or, set, length-append, get_or-append}
use lib.Seq.{sets, get_or-append-add}
use Rattle.fields.proofs.Lists.{sets_append}
use Rattle.shapes_rules.specs.Shape.{Shape, size, symbols}
use Rattle.shapes_rules.proofs.Drawing.{length_symbols}
use Rattle.sheets_rules.specs.declared.CellRecord.{CellRecord}
use Rattle.sheets_rules.specs.Model.{pins_most}
use Rattle.sheets_rules.specs.Inside.Layout.{pin_words, figures_at, size_at, symbols_at, pin_figures, figures, cell_words, row}

-- ---- written

length_figures : (cell : CellRecord) (n : ℕ) → length (figures cell n) ≡ pin_words * n
unfolding figures pin_figures
length_figures cell zero = refl
length_figures cell (suc n) = omega (arith, length-append (figures cell n) (pin_figures cell n), length_figures cell n)

-- One pin more.
pub figures_turn : (cell : CellRecord) (k : ℕ) (l l₁ l₂ : List ℕ) → l₁ ≡ sets l figures_at (figures cell k) →
    l₂ ≡ sets l₁ (figures_at + pin_words * k) (pin_figures cell k) → l₂ ≡ sets l figures_at (figures cell (k + 1))
unfolding figures
figures_turn cell k l l₁ l₂ e₁ e₂ = rw (add-one, e₂, e₁, ← length_figures cell k) (sym (sets_append l figures_at (figures cell k) (pin_figures cell k)))

-- A cell's number, its first four words, then its pins' figures.
pub cell_written : (number mark : ℕ) (cell : CellRecord) (l l₁ l₂ : List ℕ) → mark ≡ cond cell.held 1 0 →
    l₁ ≡ sets (set l 0 number) 1 (mark ∷ (cell.area ∷ (cell.highest ∷ (cell.count ∷ [])))) →
    l₂ ≡ sets l₁ figures_at (figures cell pins_most) → l₂ ≡ sets l 0 (number ∷ cell_words cell)
unfolding cell_words
cell_written number mark cell l l₁ l₂ em e₁ e₂ = rw (e₂, e₁, em)

length_words : (cell : CellRecord) → length (cell_words cell) ≡ 4 + pin_words * pins_most
unfolding cell_words
length_words cell = omega (arith, length_figures cell pins_most)

-- The size and the symbols after them.
pub row_written : (number : ℕ) (cell : CellRecord) (x : Shape) (l : List ℕ) →
    sets (sets l 0 (number ∷ cell_words cell)) size_at (size x ∷ symbols x) ≡ sets l 0 (row number cell x)
unfolding row
row_written number cell x l =
    let long : size_at ≡ 0 + length (number ∷ cell_words cell) = omega (arith, length_words cell) in
    ap (λ (k : ℕ). sets (sets l 0 (number ∷ cell_words cell)) k (size x ∷ symbols x)) long
    ∙ sym (sets_append l 0 (number ∷ cell_words cell) (size x ∷ symbols x))

-- ---- read back

-- The figures of pin p stand in those of the first n.
figure_at : (cell : CellRecord) (n p q : ℕ) → p < n → q < pin_words → get_or (figures cell n) (pin_words * p + q) 0 ≡ get_or (pin_figures cell p) q 0
unfolding figures pin_figures
figure_at cell zero p q h g = absurd (omega arith)
figure_at cell (suc n) p q h g =
    ⊎_elim
    (λ e. ap (λ (k : ℕ). get_or (figures cell n ++ pin_figures cell n) (k + q) 0) (ap (λ (k : ℕ). pin_words * k) e ∙ sym (length_figures cell n))
    ∙ get_or-append-add (figures cell n) (pin_figures cell n) q 0 ∙ ap (λ (k : ℕ). get_or (pin_figures cell k) q 0) (sym e))
    (λ k. get_or-append (figures cell n) (pin_figures cell n) 0 (pin_words * p + q) (omega (arith, length_figures cell n)) ∙ figure_at cell n p q k g)
    (eq-or-lt_of_le (le_of_suc-le-suc h))

module _ (number : ℕ) (cell : CellRecord) (x : Shape) where
  pub length_row : length (row number cell x) ≡ symbols_at + size x
  unfolding row
  length_row = omega (arith, length-append (cell_words cell) (size x ∷ symbols x), length_words cell, length_symbols x)

  pub row_cell : get_or (row number cell x) 0 0 ≡ number
  unfolding row
  row_cell = refl

  pub row_held : get_or (row number cell x) 1 0 ≡ cond cell.held 1 0
  unfolding row cell_words
  row_held = refl

  pub row_area_lem : get_or (row number cell x) 2 0 ≡ cell.area
  unfolding row cell_words
  row_area_lem = refl

  pub row_highest : get_or (row number cell x) 3 0 ≡ cell.highest
  unfolding row cell_words
  row_highest = refl

  pub row_pins : get_or (row number cell x) 4 0 ≡ cell.count
  unfolding row cell_words
  row_pins = refl

  -- The words of pin p: its bin, that bin's load, its intrinsic delay and its drive.
  pub row_figure : (p q : ℕ) → p < pins_most → q < pin_words → get_or (row number cell x) (figures_at + pin_words * p + q) 0 ≡ get_or (pin_figures cell p) q 0
  unfolding row cell_words
  row_figure p q h g =
      let at : figures_at + pin_words * p + q ≡ suc (suc (suc (suc (suc (pin_words * p + q))))) = omega arith in
      rw at (get_or-append (figures cell pins_most) (size x ∷ symbols x) 0 (pin_words * p + q) (omega (arith, length_figures cell pins_most)) ∙ figure_at cell pins_most p q h g)

  after_cell : (k : ℕ) → get_or (row number cell x) (size_at + k) 0 ≡ get_or (size x ∷ symbols x) k 0
  unfolding row
  after_cell k =
      let at : size_at + k ≡ suc (length (cell_words cell) + k) = omega (arith, length_words cell) in
      ap (λ (i : ℕ). get_or (row number cell x) i 0) at ∙ get_or-append-add (cell_words cell) (size x ∷ symbols x) k 0

  pub row_size_lem : get_or (row number cell x) size_at 0 ≡ size x
  row_size_lem = after_cell 0

  pub row_symbol : (k : ℕ) → get_or (row number cell x) (symbols_at + k) 0 ≡ get_or (symbols x) k 0
  row_symbol k = let at : symbols_at + k ≡ size_at + suc k = omega arith in rw at (after_cell (suc k))
