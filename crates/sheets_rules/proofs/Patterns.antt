-- The patterns of a sound library, and their rows in the table that the core is lent.
use Prim.Native.Nat.{ℕ, zero, suc, ◌+◌, ◌*◌, ◌≤◌, ◌<◌}
use mathlib.Core.Path.{◌≡◌, refl, sym, ap, ◌∙◌}
use mathlib.Core.Logic.{⊎_elim}
use mathlib.Core.Bool.{false, cond}
use mathlib.Core.List.Memᴰ
use mathlib.Core.List.{List, [], ◌∷◌, ◌++◌, map, Memᴰ}
use native.Mathlib.Nat.{add-zero, zero-add, add-suc, suc-add}
use native.Mathlib.Omega.{arith}
use lib.ListN.{length, get_or, take, drop, replicate, length-append, length-map, length-drop, length-replicate}
use lib.Seq.{length-take-le, get_or-take, get_or-drop, get_or-append-add}
use Rattle.fields.proofs.Lists.{at_mem, at_map}
use Rattle.shapes_rules.specs.Shape.{plain_leaf, Shape, size, symbols}
use Rattle.sheets_rules.specs.Model.{Pin, bin_load_of, Cell, Library, Pattern, drawn, patterns_from, patterns, cell_of, area_of, pins_most}
use Rattle.sheets_rules.specs.Inside.Sound.{SoundDrawing, SoundCell, SoundLibrary}
use Rattle.sheets_rules.specs.declared.PinRecord.{PinRecord}
use Rattle.sheets_rules.specs.Inside.Layout.{padded, pin_record, no_pin, cell_laid, number_at, area_at, pin_words, figures_at, size_at, symbols_at, row_words, table_words, pin_figures, pattern_row, pattern_rows, library_laid, pattern_table}
use Rattle.sheets_rules.proofs.Rows.{length_row, row_cell, row_held, row_area_lem, row_highest, row_pins, row_figure, row_size_lem, row_symbol}
use Rattle.sheets_rules.proofs.Tables.{length_table, row_at}
use Rattle.sheets_rules.proofs.Laid.{in_padded}

-- ---- a pattern and its cell

-- A pattern of these cells, the first of which has number n.
record Listed (n : ℕ) (cs : List Cell) (p : Pattern) : Type 0 where
  place : ℕ
  number : p.cell_number ≡ n + place
  inside : place < length cs
  cell_at : (d : Cell) → get_or cs place d ≡ p.cell
  drawing_in : Memᴰ p.drawing p.cell.drawings

drawn_cases : (n : ℕ) (c : Cell) (ds : List Shape) {p : Pattern} → Memᴰ p (drawn n c ds) → (p.cell_number ≡ n) × (p.cell ≡ c) × Memᴰ p.drawing ds
unfolding drawn
drawn_cases n c [] h = absurd (Memᴰ.not-nil h)
drawn_cases n c (d ∷ ds) (Memᴰ.head e) = ((cc), (cc), Memᴰ.head (ap (λ (q : Pattern). q.drawing) e))
drawn_cases n c (d ∷ ds) (Memᴰ.tail h) = let r = drawn_cases n c ds h in (r.0, r.1, Memᴰ.tail r.2)

listed : (n : ℕ) (cs : List Cell) {p : Pattern} → Memᴰ p (patterns_from n cs) → Listed n cs p
unfolding patterns_from
listed n [] h = absurd (Memᴰ.not-nil h)
listed n (c ∷ cs) h =
    ⊎_elim
    (λ m. let (number, cell, drawing) = drawn_cases n c c.drawings m in record { place = 0; number = omega arith; inside = omega arith; cell_at = λ d. sym cell; drawing_in = rw cell drawing })
    (λ m. let r = listed (suc n) cs m in record { place = suc r.place; number = omega (arith, r.number); inside = omega (arith, r.inside); cell_at = r.cell_at; drawing_in = r.drawing_in })
    (Memᴰ.append_cases (drawn n c c.drawings) h)

-- Each of these cells has a pattern, if each has a drawing.
pub record Shown (d : Pattern) (ps : List Pattern) (n : ℕ) : Type 0 where
  pub place : ℕ
  pub inside : place < length ps
  pub number : (get_or ps place d).cell_number ≡ n

pub shown : (d : Pattern) (n : ℕ) (cs : List Cell) → ((c : Cell) → Memᴰ c cs → 1 ≤ length c.drawings) → (k : ℕ) → k < length cs → Shown d (patterns_from n cs) (n + k)
unfolding patterns_from drawn
shown d n [] h k g = absurd (omega arith)
shown d n (c ∷ cs) h zero g = (elim c.drawings as (λ ds. 1 ≤ length ds → Shown d (drawn n c ds ++ patterns_from (suc n) cs) (n + 0))
    [ [] ↦ λ q. absurd (omega arith) | x ∷ ds ↦ λ q. record { place = 0; inside = omega arith; number = sym (add-zero n) } ]) (h c (Memᴰ.head refl))
shown d n (c ∷ cs) h (suc k) g =
    let ds = drawn n c c.drawings in
    let r = shown d (suc n) cs (λ x m. h x (Memᴰ.tail m)) k (omega arith) in
    record {
      place = length ds + r.place;
      inside = omega (arith, length-append ds (patterns_from (suc n) cs), r.inside);
      number = ap (λ (p : Pattern). p.cell_number) (get_or-append-add ds (patterns_from (suc n) cs) r.place d) ∙ r.number ∙ suc-add n k ∙ sym (add-suc n k);
    }

-- What is known of a pattern of a sound library.
pub record SoundPattern (l : Library) (p : Pattern) : Type 0 where
  pub number_small : p.cell_number < length l.cells
  pub cell_in : Memᴰ p.cell l.cells
  pub cell_at : (d : Cell) → get_or l.cells p.cell_number d ≡ p.cell
  pub cell : SoundCell (length l.bins) p.cell
  pub drawing : SoundDrawing (length p.cell.pins) p.drawing

pub sound_pattern : (l : Library) → SoundLibrary l → {p : Pattern} → Memᴰ p (patterns l) → SoundPattern l p
unfolding patterns
sound_pattern l h {p} m =
    let r = listed 0 l.cells m in
    let cell_in = rw (r.cell_at p.cell) at (at_mem l.cells r.place p.cell r.inside) in
    let c = h.cells p.cell cell_in in
    record {
      number_small = omega (arith, r.number, r.inside);
      cell_in = cell_in;
      cell_at = λ d. ap (λ (k : ℕ). get_or l.cells k d) (r.number ∙ zero-add r.place) ∙ r.cell_at d;
      cell = c;
      drawing = c.drawings p.drawing r.drawing_in;
    }

-- The figures of a pin that a cell has.
pub pin_laid : (bins : List ℕ) (c : Cell) (d : Pin) (k : ℕ) → length c.pins ≤ pins_most → k < length c.pins →
    let p = get_or c.pins k d in pin_figures (cell_laid bins c) k ≡ (p.bin ∷ (bin_load_of bins p ∷ (p.intrinsic ∷ (p.drive ∷ []))))
unfolding pin_figures cell_laid
pin_laid bins c d k few h =
    let f = pin_record bins in
    let at : get_or (padded pins_most no_pin (map f c.pins)) k no_pin ≡ f (get_or c.pins k d) =
    in_padded pins_most no_pin no_pin (map f c.pins) k (omega (arith, length-map c.pins f)) (omega (arith, length-map c.pins f)) ∙ at_map f c.pins k d no_pin h in
    ap (λ (q : PinRecord). q.bin ∷ (q.load ∷ (q.intrinsic ∷ (q.drive ∷ [])))) at

-- ---- the table

-- What a row of the table says of its pattern.
pub record Told (bins : List ℕ) (p : Pattern) (r : List ℕ) : Type 0 where
  pub long : length r ≡ row_words
  pub number : get_or r 0 0 ≡ p.cell_number
  pub held : get_or r 1 0 ≡ cond p.cell.held 1 0
  pub area : get_or r 2 0 ≡ p.cell.area
  pub highest : get_or r 3 0 ≡ p.cell.highest
  pub pins : get_or r 4 0 ≡ length p.cell.pins
  pub figure : (k q : ℕ) → k < pins_most → q < pin_words → get_or r (figures_at + pin_words * k + q) 0 ≡ get_or (pin_figures (cell_laid bins p.cell) k) q 0
  pub nodes : get_or r size_at 0 ≡ size p.drawing
  pub symbol : (k : ℕ) → k < size p.drawing → get_or r (symbols_at + k) 0 ≡ get_or (symbols p.drawing) k 0

pub all_words : (l : Library) → length (library_laid l).rows ≡ table_words
unfolding library_laid
all_words l = length_table row_words (replicate table_words 0) 0 (pattern_rows l.bins (patterns l)) ∙ length-replicate {A = ℕ} table_words 0

-- A word of row j, which is lent in m words, in the whole table.
table_word : (l : Library) (j c m : ℕ) → c < m → row_words * j + c < row_words * length (patterns l) → get_or (take m (drop (row_words * j) (pattern_table l))) c 0 ≡ get_or (library_laid l).rows (row_words * j + c) 0
unfolding pattern_table
table_word l j c m h g =
    get_or-take m (drop (row_words * j) (pattern_table l)) c 0 h ∙ get_or-drop (row_words * j) (pattern_table l) c 0 ∙ get_or-take (row_words * length (patterns l)) (library_laid l).rows (row_words * j + c) 0 g

module _ (l : Library) (sound : SoundLibrary l) where
  pub table_long : length (pattern_table l) ≡ row_words * length (patterns l)
  unfolding pattern_table
  table_long = length-take-le (row_words * length (patterns l)) (library_laid l).rows (omega (arith, all_words l, sound.few_patterns))

  -- The row of pattern j, which is lent in m words.
  module _ (d : Pattern) (j m : ℕ) (h : j < length (patterns l)) (e : m ≡ row_words) where
    words : (c : ℕ) → c < symbols_at + size (get_or (patterns l) j d).drawing → c < row_words →
        get_or (take m (drop (row_words * j) (pattern_table l))) c 0 ≡ get_or (pattern_row l.bins (get_or (patterns l) j d)) c 0
    unfolding library_laid pattern_rows pattern_row
    words c g small =
        let ps = patterns l in
        let f = pattern_row l.bins in
        let p = get_or ps j d in
        let here : get_or (pattern_rows l.bins ps) j [] ≡ f p = at_map f ps j d [] h in
        table_word l j c m (omega arith) (omega arith)
        ∙ row_at row_words (replicate table_words 0) (pattern_rows l.bins ps) j c
        (λ r i.
        let q = Memᴰ.of_map f ps i in
        omega (arith, (sound_pattern l sound q.1).drawing.size, length_row q.0.cell_number (cell_laid l.bins q.0.cell) q.0.drawing, ap length q.2))
        (omega (arith, length-map ps f, sound.few_patterns, length-replicate {A = ℕ} table_words 0))
        (omega (arith, length-map ps f))
        (omega (arith, ap length here, length_row p.cell_number (cell_laid l.bins p.cell) p.drawing))
        ∙ ap (λ (r : List ℕ). get_or r c 0) here

    pub row_told : Told l.bins (get_or (patterns l) j d) (take m (drop (row_words * j) (pattern_table l)))
    unfolding pattern_row cell_laid
    row_told =
        let p = get_or (patterns l) j d in
        let n = p.cell_number in
        let c = cell_laid l.bins p.cell in
        let x = p.drawing in
        let few = (sound_pattern l sound (at_mem (patterns l) j d h)).drawing.size in
        let at : (i : ℕ) → i < symbols_at + size x → get_or (take m (drop (row_words * j) (pattern_table l))) i 0 ≡ get_or (pattern_row l.bins p) i 0 = λ i g. words i g (omega arith) in
        record {
          long = length-take-le m (drop (row_words * j) (pattern_table l)) (omega (arith, length-drop (row_words * j) (pattern_table l), table_long)) ∙ e;
          number = at 0 (omega arith) ∙ row_cell n c x;
          held = at 1 (omega arith) ∙ row_held n c x;
          area = at 2 (omega arith) ∙ row_area_lem n c x;
          highest = at 3 (omega arith) ∙ row_highest n c x;
          pins = at 4 (omega arith) ∙ row_pins n c x;
          figure = λ k q i o. at (figures_at + pin_words * k + q) (omega arith) ∙ row_figure n c x k q i o;
          nodes = at size_at (omega arith) ∙ row_size_lem n c x;
          symbol = λ k i. at (symbols_at + k) (omega arith) ∙ row_symbol n c x k;
        }

-- ---- a pattern's cell, by the words of the whole table

abbrev pub no_cell : Cell
no_cell = record { held = false; area = 0; highest = 0; pins = []; drawings = [] }

abbrev pub no_pattern : Pattern
no_pattern = record { cell_number = 0; cell = no_cell; drawing = plain_leaf 0 }

module _ {l : Library} (sound : SoundLibrary l) (j : ℕ) (h : j < length (patterns l)) where
  abbrev ps : List Pattern
  ps = patterns l

  abbrev rows : List ℕ
  rows = (library_laid l).rows

  known : SoundPattern l (get_or ps j no_pattern)
  known = sound_pattern l sound (at_mem ps j no_pattern h)

  cell_of_lem : cell_of l j ≡ (get_or ps j no_pattern).cell_number
  unfolding cell_of
  cell_of_lem = at_map (λ (p : Pattern). p.cell_number) ps j no_pattern 0 h

  pub cell_below : cell_of l j < length l.cells
  cell_below = omega (arith, known.number_small, cell_of_lem)

  -- The area of a pattern's cell is that of the cell with its number.
  pub area_of_lem : area_of l (cell_of l j) ≡ (get_or ps j no_pattern).cell.area
  unfolding area_of
  area_of_lem =
      let area : Cell → ℕ = λ c. c.area in
      ap (λ (n : ℕ). get_or (map area l.cells) n 0) cell_of_lem ∙ at_map area l.cells (get_or ps j no_pattern).cell_number no_cell 0 known.number_small ∙ ap area (known.cell_at no_cell)

  pub area_small : area_of l (cell_of l j) ≤ 65535
  area_small = omega (arith, area_of_lem, known.cell.area)

  -- Its row is in the table, and has both.
  pub row_in : row_words * j + row_words ≤ length rows
  row_in = omega (arith, sound.few_patterns, all_words l)

  pub cell_told : get_or rows (row_words * j + number_at) 0 ≡ cell_of l j
  cell_told = sym (table_word l j number_at row_words (omega arith) (omega arith)) ∙ (row_told l sound no_pattern j row_words h refl).number ∙ sym cell_of_lem

  pub area_told : get_or rows (row_words * j + area_at) 0 ≡ area_of l (cell_of l j)
  area_told = sym (table_word l j area_at row_words (omega arith) (omega arith)) ∙ (row_told l sound no_pattern j row_words h refl).area ∙ sym area_of_lem
