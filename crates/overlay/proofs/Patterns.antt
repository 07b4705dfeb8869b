-- What a walk notes of a drawing, and the patterns of a decoded library.
use Prim.Native.Nat.{ℕ, suc, ◌+◌, ◌*◌, ◌≤◌, ◌<◌}
use mathlib.Core.Path.{◌≡◌, refl, sym, ap, subst, ◌∙◌}
use mathlib.Core.Logic.{◌⊎◌, inl, inr, ⊎_elim}
use mathlib.Core.Bool.{Bool, true, false}
use mathlib.Core.List.Memᴰ
use mathlib.Core.List.{List, [], ◌∷◌, ◌++◌, map, Memᴰ}
use mathlib.Core.Option.{Option, none, some}
use native.Mathlib.Omega.{arith}
use lib.Seq.{sets-eq, take-append_seam}
use lib.ListN.{replicate, length, get_or, take, drop, length-append, length-map}
use Rattle.fields.proofs.Lists.{at_mem, at_map}
use Rattle.sheets_rules.specs.Model.{Leaf, pin_of, plain_leaf, Shape, leaf, inv, nand, size, leaves, nands, Library, Pattern, Tree, patterns, pins_most}
use Rattle.sheets_rules.specs.Inside.Layout.{pin_words, figures_at, row_words}
use Rattle.sheets_rules.specs.Inside.Sound.{IsGate, SoundDrawing}
use Rattle.sheets_rules.proofs.Laid.{in_padded}
use Rattle.sheets_rules.proofs.Patterns.{SoundPattern, sound_pattern, Told, row_told, table_long, pin_laid}
pub use Rattle.sheets_rules.proofs.Patterns.{no_pattern}
use Rattle.covers.specs.Crossing.{exchanged, ordered, redrawn_from, redrawn}
use Rattle.covers.specs.Match.{Input, joined, laid, matched, pin_at, pin_load}
use Rattle.covers.specs.Tradeoff.{nodes}
use Rattle.covers.proofs.Matching.{Whenever, never, holds, whenever}
use Rattle.cells.specs.Inside.Cell.{row_figures, figures_of}
use Rattle.overlay.specs.Inside.Promises.{input_of, blank_input, inputs_of, PatternStored, Walkable, Decoded, WalkFound, WalkMissed}
use Rattle.overlay.specs.declared.Input.{Input as InputRecord}
use Rattle.overlay.specs.declared.Inputs.{Inputs}
use Rattle.overlay.specs.Inside.Standing.{Measured}
use Rattle.overlay.proofs.Standing.{subject_everywhere}
use Rattle.overlay.proofs.Measuring.{drawn}

-- ---- the inputs of one match

-- There is an input for each leaf, one more than NANDs, and each pin stands at a leaf of the drawing.
pub record FromDrawing (d : Shape) (is : List Input) : Type 0 where
  pub few : length is ≤ suc (nands d)
  pub pins : (i : Input) → Memᴰ i is → (x : Leaf) × Memᴰ x (leaves d) × (i.pin ≡ pin_of x)

pub laid_from : (d : Shape) (n : ℕ) (s : Shape) → Whenever (FromDrawing d) (laid d n s)
unfolding laid nands leaves
laid_from (leaf x) n s = holds {is = record { pin = pin_of x; node = n; shape = s } ∷ []} (record {
  few = omega arith;
  pins = λ i m. (x, Memᴰ.head refl, ap (λ (j : Input). j.pin) (Memᴰ.eq_of_singleton m));
})
laid_from (inv d) n (leaf x) = never
laid_from (inv d) n (inv s) = go (laid_from d (suc n) s)
  where
    go : {o : Option (List Input)} → Whenever (FromDrawing d) o → Whenever (FromDrawing (inv d)) o
    go never = never
    go (holds {is} f) = holds {is = is} (record { few = f.few; pins = f.pins })
laid_from (inv d) n (nand s t) = never
laid_from (nand d e) n (leaf x) = never
laid_from (nand d e) n (inv s) = never
laid_from (nand d e) n (nand s t) = go (laid_from d (suc n) s) (laid_from e (suc n + size s) t)
  where
    go : {a b : Option (List Input)} → Whenever (FromDrawing d) a → Whenever (FromDrawing e) b → Whenever (FromDrawing (nand d e)) (joined a b)
    go never g = unfold joined in never
    go (holds f) never = unfold joined in never
    go (holds {is} f) (holds {is = js} g) = unfold joined in holds {is = is ++ js} (record {
      few = omega (arith, f.few, g.few, length-append is js);
      pins = λ i m.
          ⊎_elim (λ k. let p = f.pins i k in (p.0, Memᴰ.append_left (leaves e) p.1, p.2)) (λ k. let p = g.pins i k in (p.0, Memᴰ.append_right (leaves d) p.1, p.2))
          (Memᴰ.append_cases is m);
    })

-- Each input of a sound drawing feeds a pin of its cell.
pub pinned : {pins : ℕ} {d : Shape} {is : List Input} → SoundDrawing pins d → FromDrawing d is → (i : Input) → Memᴰ i is → i.pin < pins
pinned sound f i m = let p = f.pins i m in omega (arith, p.2, sound.leaves p.0 p.1)

pub matched_laid : (d : Shape) (n : ℕ) (s : Shape) → IsGate d → matched d n s ≡ laid d n s
unfolding matched
matched_laid (leaf x) n s h = absurd h
matched_laid (inv d) n s h = refl
matched_laid (nand d e) n s h = refl

-- A NAND has the same nodes and leaves either way.
ordered_size : (b : Bool) (p q : Shape) → size (ordered b p q) ≡ suc (size p + size q)
unfolding ordered size
ordered_size false p q = refl
ordered_size true p q = omega arith

ordered_nands : (b : Bool) (p q : Shape) → nands (ordered b p q) ≡ suc (nands p + nands q)
unfolding ordered nands
ordered_nands false p q = refl
ordered_nands true p q = omega arith

ordered_leaves : (b : Bool) (p q : Shape) {y : Leaf} → Memᴰ y (leaves (ordered b p q)) → Memᴰ y (leaves p) ⊎ Memᴰ y (leaves q)
unfolding ordered leaves
ordered_leaves false p q m = Memᴰ.append_cases (leaves p) m
ordered_leaves true p q m = ⊎_elim (λ i. inr i) (λ i. inl i) (Memᴰ.append_cases (leaves q) m)

ordered_gate : (b : Bool) (p q : Shape) → IsGate (ordered b p q)
unfolding ordered
ordered_gate false p q = tt
ordered_gate true p q = tt

-- So a redrawing of a sound drawing is sound.
module _ (x : ℕ) where
  redrawn_size : (j : ℕ) (d : Shape) → size (redrawn_from x j d) ≡ size d
  unfolding redrawn_from size
  redrawn_size j (leaf y) = refl
  redrawn_size j (inv d) = ap suc (redrawn_size j d)
  redrawn_size j (nand d e) = omega (arith, ordered_size (exchanged x j) (redrawn_from x (suc j) d) (redrawn_from x (suc j + nands d) e), redrawn_size (suc j) d, redrawn_size (suc j + nands d) e)

  redrawn_nands : (j : ℕ) (d : Shape) → nands (redrawn_from x j d) ≡ nands d
  unfolding redrawn_from nands
  redrawn_nands j (leaf y) = refl
  redrawn_nands j (inv d) = redrawn_nands j d
  redrawn_nands j (nand d e) = omega (arith, ordered_nands (exchanged x j) (redrawn_from x (suc j) d) (redrawn_from x (suc j + nands d) e), redrawn_nands (suc j) d, redrawn_nands (suc j + nands d) e)

  redrawn_leaves : (j : ℕ) (d : Shape) {y : Leaf} → Memᴰ y (leaves (redrawn_from x j d)) → Memᴰ y (leaves d)
  unfolding redrawn_from leaves
  redrawn_leaves j (leaf z) m = m
  redrawn_leaves j (inv d) m = redrawn_leaves j d m
  redrawn_leaves j (nand d e) m =
      ⊎_elim (λ i. Memᴰ.append_left (leaves e) (redrawn_leaves (suc j) d i)) (λ i. Memᴰ.append_right (leaves d) (redrawn_leaves (suc j + nands d) e i))
      (ordered_leaves (exchanged x j) (redrawn_from x (suc j) d) (redrawn_from x (suc j + nands d) e) m)

  redrawn_gate : (j : ℕ) (d : Shape) → IsGate d → IsGate (redrawn_from x j d)
  unfolding redrawn_from
  redrawn_gate j (leaf y) h = absurd h
  redrawn_gate j (inv d) h = tt
  redrawn_gate j (nand d e) h = ordered_gate (exchanged x j) (redrawn_from x (suc j) d) (redrawn_from x (suc j + nands d) e)

  pub redrawn_sound : {pins : ℕ} {d : Shape} → SoundDrawing pins d → SoundDrawing pins (redrawn x d)
  unfolding redrawn
  redrawn_sound {d = d} h = record {
    size = rw (redrawn_size 0 d) h.size;
    gate = redrawn_gate 0 d h.gate;
    leaves = λ y m. h.leaves y (redrawn_leaves 0 d m);
    nands = rw (redrawn_nands 0 d) h.nands;
  }

-- What a walk over a sound drawing says of the match.
module _ {pins : ℕ} {d : Shape} (n : ℕ) (s : Shape) (crossing : ℕ) (sound : SoundDrawing pins d) where
  pub missed : {used : ℕ} → WalkMissed d s n crossing used → matched (redrawn crossing d) n s ≡ none
  missed w = matched_laid (redrawn crossing d) n s (redrawn_sound crossing sound).gate ∙ w.ruled_out crossing refl

  pub record Hit (found : Inputs) : Type 0 where
    pub inputs : List Input
    pub fits : matched (redrawn crossing d) n s ≡ some inputs
    pub inputs_are : found ≡ inputs_of inputs
    pub few : length inputs ≤ pins
    pub pinned : (i : Input) → Memᴰ i inputs → i.pin < pins

  pub hit : {found : Inputs} → WalkFound d s n crossing found → Hit found
  hit w =
      let again = redrawn_sound crossing sound in
      let f : FromDrawing (redrawn crossing d) w.inputs = whenever (laid_from (redrawn crossing d) n s) w.laid_is in
      record {
        inputs = w.inputs;
        fits = matched_laid (redrawn crossing d) n s again.gate ∙ w.laid_is;
        inputs_are = w.inputs_are;
        few = omega (arith, f.few, again.nands);
        pinned = λ i m. pinned again f i m;
      }

abbrev pub no_input : Input
no_input = record { pin = 0; node = 0; shape = plain_leaf 0 }

-- How the input k is kept.
pub input_kept : {r : Inputs} (is : List Input) (k : ℕ) → r ≡ inputs_of is → length is ≤ 6 → k < length is → get_or r.list k blank_input ≡ input_of (get_or is k no_input)
unfolding inputs_of
input_kept is k e h g =
    ap (λ (r : Inputs). get_or r.list k blank_input) e
    ∙ in_padded 6 blank_input blank_input (map input_of is) k (omega (arith, length-map is input_of)) (omega (arith, length-map is input_of))
    ∙ at_map input_of is k no_input blank_input g

-- The slice of those that are there.
pub slice_kept : {r : Inputs} (is : List Input) → r ≡ inputs_of is → length is ≤ 6 → take r.count r.list ≡ map input_of is
unfolding inputs_of
slice_kept is e h =
    let blanks : List InputRecord = replicate 6 blank_input in
    let laid = map input_of is in
    ap (λ (r : Inputs). take r.count r.list) e
    ∙ ap (λ (l : List InputRecord). take (length is) l) (sets-eq laid blanks 0 (omega (arith, length-map is input_of)))
    ∙ rw (← length-map is input_of) (take-append_seam laid (drop (0 + length laid) blanks))

-- ---- the patterns of a decoded library

abbrev pub pattern_at : Library → ℕ → Pattern
pattern_at l j = get_or (patterns l) j no_pattern

-- A row that tells of a pattern holds it.
holds_pattern : (l : Library) (p : Pattern) {r : List ℕ} → length p.cell.pins ≤ pins_most → Told l.bins p r → PatternStored l r p
unfolding pin_at pin_load row_figures figures_of
holds_pattern l p {r} few t = record {
  drawing = record { long = t.long; size_is = t.nodes; symbols_are = t.symbol };
  cell = record {
    long = t.long;
    held_is = t.held;
    area_is = t.area;
    highest_is = t.highest;
    pins_are = λ k h.
        let pin = pin_at p.cell k in
        let word : (q : ℕ) → q < pin_words → get_or r (figures_at + pin_words * k + q) 0 ≡ get_or (pin.bin ∷ (pin_load l pin ∷ (pin.intrinsic ∷ (pin.drive ∷ [])))) q 0 =
        λ q g. t.figure k q (omega arith) g ∙ ap (λ (ws : List ℕ). get_or ws q 0) (pin_laid l.bins p.cell (record { bin = 0; intrinsic = 0; drive = 0 }) k few h) in
        (λ i. record { bin = word 0 (omega arith) i; load = word 1 (omega arith) i; intrinsic = word 2 (omega arith) i; drive = word 3 (omega arith) i });
  };
}

module _ {l : Library} {t : Tree} {rows ss zs : List ℕ} (decoded : Decoded l t rows ss zs) where
  pub rows_long : length rows ≡ row_words * length (patterns l)
  rows_long = ap length decoded.rows_are ∙ table_long l decoded.library

  pub few_patterns : length (patterns l) ≤ 128
  few_patterns = decoded.library.few_patterns

  module _ (j : ℕ) (h : j < length (patterns l)) where
    pub at_hand : SoundPattern l (pattern_at l j)
    at_hand = sound_pattern l decoded.library (at_mem (patterns l) j no_pattern h)

    module _ (m : ℕ) (e : m ≡ row_words) where
      -- The row of pattern j.
      pub row_stored : PatternStored l (take m (drop (row_words * j) rows)) (pattern_at l j)
      row_stored =
          subst (λ (rs : List ℕ). PatternStored l (take m (drop (row_words * j) rs)) (pattern_at l j)) (sym decoded.rows_are)
          (holds_pattern l (pattern_at l j) at_hand.cell.few_pins (row_told l decoded.library no_pattern j m h e))

      pub walkable : {words : List ℕ} {n : ℕ} {s : Shape} → Measured (pattern_at l j).drawing words → Memᴰ (record { number = n; shape = s }) (nodes 0 t.shape) →
          Walkable (take m (drop (row_words * j) rows)) words ss zs n (pattern_at l j).drawing s
      walkable {n = n} {s = s} measured here = record {
        long = row_stored.drawing.long;
        words_long = measured.long;
        drawn = drawn row_stored.drawing measured;
        small = at_hand.drawing.size;
        few = omega (arith, at_hand.drawing.nands, at_hand.cell.few_pins);
        pinned = λ x i. let p = at_hand.drawing.leaves x i in (omega (arith, p.0, at_hand.cell.few_pins), p.1);
        subject = subject_everywhere decoded (record { number = n; shape = s }) here;
      }
