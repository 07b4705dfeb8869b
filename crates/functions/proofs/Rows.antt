-- The rows of a sound library's patterns: what each holds, and the pin counts that they say together.
use Prim.Native.Nat.{ℕ, ◌+◌, ◌*◌, ◌≤◌, ◌<◌}
use mathlib.Core.Path.{◌≡◌, refl, sym, ap, subst, ◌∙◌}
use mathlib.Core.Logic.{⊎_elim}
use mathlib.Core.List.{List}
use native.Mathlib.Decide.{ℕ_discrete}
use native.Mathlib.Nat.{zero-add, eq-or-lt_of_le}
use native.Mathlib.Omega.{arith}
use lib.ListN.{length, get_or, take, drop, set, length-map, length-append, length-drop}
use Rattle.std.proofs.lemmas.List.{take_at, drop_at, drop-drop}
use lib.Seq.{get_or-take, get_or-set_same, get_or-set_other, ext_get_or, length-take-le}
use denote.Ref.{Bor}
use Rattle.std.specs.Prelude.{Some, None}
use Rattle.std.specs.declared.slice.ChunksExact.{ChunksExact}
use Rattle.std.specs.Slice.Iter.{chunks_exact_size, chunks_exact_rest, chunks_exact_steps}
use Rattle.fields.proofs.Lists.{at_mem}
use Rattle.shapes_rules.proofs.Drawing.{length_symbols}
use Rattle.sheets_rules.specs.Model.{Cell, Library, Pattern, patterns}
use Rattle.sheets_rules.specs.Inside.Layout.{row_words}
use Rattle.sheets_rules.proofs.Patterns.{SoundPattern, sound_pattern, Told, row_told, table_long, no_pattern, shown}
use Rattle.functions_rules.specs.FunctionSheet.{pin_counts}
use Rattle.functions.specs.Inside.Promises.{RowHolds, RowsHold}
use Rattle.functions_rules.proofs.Pins.{pattern_pins}

abbrev pub pattern_at : Library → ℕ → Pattern
pattern_at l k = get_or (patterns l) k no_pattern

-- A row that tells of a pattern holds it.
told_holds : (l : Library) (p : Pattern) {r : List ℕ} → length l.cells ≤ 64 → SoundPattern l p → Told l.bins p r → RowHolds r p
told_holds l p few sound t = record {
  number_is = t.number;
  pins_are = t.pins;
  few_pins = sound.cell.few_pins;
  number_small = omega (arith, sound.number_small);
  drawing = record {
    long = t.long;
    inside = omega (arith, sound.drawing.size);
    symbols_are = λ k h. t.symbol k (omega (arith, length_symbols p.drawing));
    pinned = λ x m. let q = sound.drawing.leaves x m in (omega (arith, q.0, sound.cell.few_pins), q.1);
  };
}

module _ {l : Library} {rows : List ℕ} (h : RowsHold l rows) where
  rows_long : length rows ≡ row_words * length (patterns l)
  rows_long = ap length h.rows_are ∙ table_long l h.sound

  module _ (k : ℕ) (g : k < length (patterns l)) where
    pub known : SoundPattern l (pattern_at l k)
    known = sound_pattern l h.sound (at_mem (patterns l) k no_pattern g)

    pub row_holds : RowHolds (take row_words (drop (row_words * k) rows)) (pattern_at l k)
    row_holds =
        subst (λ (rs : List ℕ). RowHolds (take row_words (drop (row_words * k) rs)) (pattern_at l k)) (sym h.rows_are)
        (told_holds l (pattern_at l k) h.sound.few_cells known (row_told l h.sound no_pattern k row_words g refl))

    pub count_of : get_or (pin_counts l) (pattern_at l k).cell_number 0 ≡ length (pattern_at l k).cell.pins
    count_of = pattern_pins known

-- ---- the rows one after another

-- An iterator of the rows that goes on at the row of pattern k.
pub record GoesOn (rows : List ℕ) (k : ℕ) (s : ChunksExact ℕ) : Type 0 where
  pub size : chunks_exact_size s ≡ row_words
  pub rest : chunks_exact_rest s ≡ drop (row_words * k) rows

module _ {rows : List ℕ} {k : ℕ} {s : ChunksExact ℕ} (g : GoesOn rows k s) (t : ChunksExact ℕ) where
  pub goes_on : (row : Bor (List ℕ)) → chunks_exact_steps s (Some row) t → GoesOn rows (k + 1) t
  goes_on row n =
      let after : drop row_words (chunks_exact_rest s) ≡ chunks_exact_rest t = ap (drop row_words) n.1.0 ∙ drop_at row.now (chunks_exact_rest t) row_words (n.1.1 ∙ g.size) in
      let next : row_words * k + row_words ≡ row_words * (k + 1) = omega arith in
      record { size = n.0 ∙ g.size; rest = sym after ∙ ap (drop row_words) g.rest ∙ drop-drop row_words (row_words * k) rows ∙ ap (λ m. drop m rows) next }

  module _ {l : Library} (h : RowsHold l rows) where
    pub row_next : (row : Bor (List ℕ)) → chunks_exact_steps s (Some row) t → (k < length (patterns l)) × RowHolds row.now (pattern_at l k)
    row_next row n =
        let long : length row.now ≡ row_words = n.1.1 ∙ g.size in
        let all : length (chunks_exact_rest s) ≡ row_words + length (chunks_exact_rest t) = ap length n.1.0 ∙ length-append row.now (chunks_exact_rest t) ∙ ap (λ m. m + length (chunks_exact_rest t)) long in
        let inside : k < length (patterns l) = omega (arith, all, ap length g.rest, length-drop (row_words * k) rows, rows_long h) in
        let is : take row_words (drop (row_words * k) rows) ≡ row.now = ap (take row_words) (sym g.rest ∙ n.1.0) ∙ take_at row.now (chunks_exact_rest t) row_words long in
        (inside, subst (λ r. RowHolds r (pattern_at l k)) is (row_holds h k inside))

    pub no_row : chunks_exact_steps s None t → length (patterns l) ≤ k
    no_row n = omega (arith, n.1.0, g.size, ap length g.rest, length-drop (row_words * k) rows, rows_long h)

-- ---- the pin counts

-- Those of the cells of the first k patterns are noted.
abbrev pub Noted : Library → List ℕ → ℕ → Type 0
Noted l counts k = (i : ℕ) → i < k → get_or counts (pattern_at l i).cell_number 0 ≡ get_or (pin_counts l) (pattern_at l i).cell_number 0

module _ {l : Library} {rows : List ℕ} (h : RowsHold l rows) (counts : List ℕ) (long : length counts ≡ 64) where
  pub noted_more : (k n v : ℕ) → k < length (patterns l) → n ≡ (pattern_at l k).cell_number → v ≡ length (pattern_at l k).cell.pins → Noted l counts k → Noted l (set counts n v) (k + 1)
  noted_more k n v g en ev before i j = go (ℕ_discrete (pattern_at l i).cell_number n)
    where
      go : Dec ((pattern_at l i).cell_number ≡ n) → get_or (set counts n v) (pattern_at l i).cell_number 0 ≡ get_or (pin_counts l) (pattern_at l i).cell_number 0
      go (yes e) =
          ap (λ (m : ℕ). get_or (set counts n v) m 0) e
          ∙ get_or-set_same counts n v 0 (omega (arith, en, (known h k g).number_small, h.sound.few_cells))
          ∙ ev ∙ sym (count_of h k g) ∙ ap (λ (m : ℕ). get_or (pin_counts l) m 0) (sym (e ∙ en))
      go (no q) =
          ⊎_elim (λ e. absurd (q (ap (λ (m : ℕ). (pattern_at l m).cell_number) e ∙ sym en)))
          (λ less. get_or-set_other counts n (pattern_at l i).cell_number v 0 q ∙ before i less)
          (eq-or-lt_of_le (omega arith))

  pub noted_all : (k : ℕ) → length (patterns l) ≤ k → Noted l counts k → take (length l.cells) counts ≡ pin_counts l
  unfolding pin_counts patterns
  noted_all k all before =
      let n = length l.cells in
      let pins : Cell → ℕ = λ c. length c.pins in
      let few : length (take n counts) ≡ n = length-take-le n counts (omega (arith, h.sound.few_cells)) in
      ext_get_or 0 (take n counts) (pin_counts l) (few ∙ sym (length-map l.cells pins))
      (λ i j.
      let s = shown no_pattern 0 l.cells (λ c m. (h.sound.cells c m).some_drawing) i (omega arith) in
      let e : (pattern_at l s.place).cell_number ≡ i = s.number ∙ zero-add i in
      get_or-take n counts i 0 (omega arith) ∙ subst (λ (m : ℕ). get_or counts m 0 ≡ get_or (pin_counts l) m 0) e (before s.place (omega (arith, s.inside))))
