-- The patterns of a sound library, tried one after another at a node, each under its crossings.
use Prim.Native.Nat.{ℕ, suc, ◌+◌, ◌-◌, ◌*◌, ◌/◌, ◌≤◌, ◌<◌}
use mathlib.Core.Path.{◌≡◌, refl, sym, ap, ◌∙◌}
use mathlib.Core.Bool.{Bool, true}
use mathlib.Core.List.{List, [], ◌∷◌, ◌++◌, map, map-append, append_assoc, append-nil, Memᴰ}
use mathlib.Core.Option.{Option, none, some}
use native.Mathlib.Nat.{zero-add, add-zero}
use native.Mathlib.Numerals.{add-one}
use native.Mathlib.Omega.{arith}
use lib.ListN.{length, get_or, set, take, drop, length-append, length-map}
use lib.Seq.{sets, take-suc, length-take-le}
use borrow.Table.Steps.{cases}
use Rattle.fields.proofs.Lists.{sets_append, front_sets, at_map}
use Rattle.sheets_rules.specs.Model.{Shape, Library, Pattern, Tree, patterns, nands}
use Rattle.sheets_rules.specs.Inside.Layout.{row_words}
use Rattle.sheets_rules.specs.Inside.Sound.{SoundDrawing, SoundCell, SoundLibrary}
use Rattle.sheets_rules.proofs.Patterns.{sound_pattern}
use Rattle.covers.specs.Lists.{keep_if, select}
use Rattle.covers.specs.Crossing.{crossing_limit, redrawn, is_crossing, counted, crossings}
use Rattle.covers.specs.Match.{Input, Match, laid, matched, put_first, fitting_under, fitting_from, fitting}
use Rattle.covers.proofs.Basics.{at_in}
use Rattle.covers.proofs.Matching.{whenever, IsFitting, fitting_are}
use Rattle.covers.proofs.Nodes.{root_in}
use Rattle.overlay.specs.declared.Inputs.{Inputs}
use Rattle.overlay.specs.Inside.Standing.{extent, Measured}
use Rattle.std.specs.Prelude.{Result}
use Rattle.overlay.specs.Inside.Promises.{inputs_of, WalkIs}
use Rattle.overlay.proofs.Patterns.{pinned, redrawn_sound, FromDrawing, laid_from, matched_laid, no_pattern, pattern_at, at_hand, row_stored, walkable}
use Rattle.matching.specs.declared.Hit.{Hit}
use Rattle.matching.specs.Inside.Found.{match_most, hit_of}
use Rattle.matching.specs.Inside.Promises.{Trying, Ready}
use Rattle.matching.proofs.Crossings.{next, next_above, matches_below, matches_at, below_more, bits, bits_few, passed_over, crossing_after}

-- ---- one pattern under one crossing

-- What a sound drawing finds: at most six inputs, each at a pin of its cell.
module _ {pins : ℕ} {d : Shape} (sound : SoundDrawing pins d) (few_pins : pins ≤ 6) (n : ℕ) (s : Shape) (x : ℕ) where
  gate : matched (redrawn x d) n s ≡ laid (redrawn x d) n s
  gate = matched_laid (redrawn x d) n s (redrawn_sound x sound).gate

  pub record Sound (is : List Input) : Type 0 where
    pub few : length is ≤ 6
    pub pinned : (i : Input) → Memᴰ i is → i.pin < pins

  pub inputs_sound : {is : List Input} → matched (redrawn x d) n s ≡ some is → Sound is
  inputs_sound e =
      let again = redrawn_sound x sound in
      let f : FromDrawing (redrawn x d) _ = whenever (laid_from (redrawn x d) n s) (sym gate ∙ e) in
      record { few = omega (arith, f.few, again.nands); pinned = λ i m. pinned again f i m }

-- ---- one turn of the loop over the crossings

put_more : (k : ℕ) (p : Pattern) (x : ℕ) (o : Option (List Input)) (ms : List Match) → length (put_first k p x o ms) ≤ suc (length ms)
unfolding put_first
put_more k p x none ms = omega arith
put_more k p x (some is) ms = omega arith

module _ (n : ℕ) (s : Shape) (k : ℕ) (p : Pattern) (x : ℕ) where
  -- The matches under the crossings so far, and those under one crossing more.
  turn : (t₀ t : List Hit) (count found x' : ℕ) (ms : List Match) → matches_below n s k p x' ≡ matches_below n s k p x ++ ms →
      found ≡ count + length (matches_below n s k p x) → t ≡ sets t₀ count (map hit_of (matches_below n s k p x)) →
      (found + length ms ≡ count + length (matches_below n s k p x')) × (sets t found (map hit_of ms) ≡ sets t₀ count (map hit_of (matches_below n s k p x')))
  turn t₀ t count found x' ms more ec et =
      let fs = matches_below n s k p x in (
        omega (arith, ap length more, length-append fs ms),
        rw (more, map-append hit_of fs ms, sets_append, length-map fs hit_of, ← ec, ← et),
      )

  -- Under this one there is a match, or none.
  pub turn_found : (t₀ t : List Hit) (count found x' : ℕ) (is : List Input) {inputs : Inputs} → matched (redrawn x p.drawing) n s ≡ some is → inputs ≡ inputs_of is →
      matches_below n s k p x' ≡ matches_below n s k p x ++ matches_at n s k p x →
      found ≡ count + length (matches_below n s k p x) → t ≡ sets t₀ count (map hit_of (matches_below n s k p x)) →
      (found + 1 ≡ count + length (matches_below n s k p x')) × (set t found (record { pattern = k; crossing = x; inputs = inputs }) ≡ sets t₀ count (map hit_of (matches_below n s k p x')))
  unfolding put_first hit_of
  turn_found t₀ t count found x' is e f more ec et =
      let m : Match = record { number = k; crossing = x; pattern = p; inputs = is } in
      rw f (turn t₀ t count found x' (m ∷ []) (rw e at more) ec et)

  pub turn_missed : (t₀ t : List Hit) (count found x' : ℕ) → matched (redrawn x p.drawing) n s ≡ none →
      matches_below n s k p x' ≡ matches_below n s k p x ++ matches_at n s k p x →
      found ≡ count + length (matches_below n s k p x) → t ≡ sets t₀ count (map hit_of (matches_below n s k p x)) →
      (found ≡ count + length (matches_below n s k p x')) × (t ≡ sets t₀ count (map hit_of (matches_below n s k p x')))
  unfolding put_first
  turn_missed t₀ t count found x' e more ec et =
      let r = turn t₀ t count found x' [] (rw e at more) ec et in (omega (arith, r.0), r.1)

-- Those below the last are all.
pub all_below : (n : ℕ) (s : Shape) (k : ℕ) (p : Pattern) {x : ℕ} → x ≡ crossing_limit → matches_below n s k p x ≡ fitting_under n s k p (crossings p.drawing)
unfolding crossings
all_below n s k p e = ap (matches_below n s k p) e

-- What a walk of a pattern under a crossing says of the crossings after it.
module _ {row ss zs : List ℕ} {n k room count : ℕ} {p : Pattern} {s : Shape} (t : Trying row ss zs n k room count p s) where
  pub few_nands : nands p.drawing ≤ 5
  few_nands = omega (arith, t.sound.nands, t.few_pins)

  -- How many NANDs the extents tell.
  pub nands_told : {words : List ℕ} → Measured p.drawing words → get_or words 0 0 / 32 ≡ nands p.drawing
  unfolding extent
  nands_told m = omega (arith, m.each (record { number = 0; shape = p.drawing }) (root_in 0 p.drawing), t.sound.size)

  module _ (x : ℕ) (crossing : is_crossing p.drawing x ≡ true) (r : Result Inputs ℕ) (walk_is : WalkIs p.drawing s n x r) (decides : ℕ) (decides_is : decides ≡ bits p.drawing r) where
    pub decides_few : decides ≤ 5
    decides_few = omega (arith, decides_is, bits_few s n x t.sound few_nands crossing r walk_is, few_nands)

    module _ (x' : ℕ) (next_is : x' ≡ next x (5 - decides)) where
      same_next : x' ≡ next x (5 - bits p.drawing r)
      same_next = next_is ∙ ap (λ i. next x (5 - i)) decides_is

      pub more_below : matches_below n s k p x' ≡ matches_below n s k p x ++ matches_at n s k p x
      more_below =
          below_more n s k p x x' (rw same_next (next_above x (5 - bits p.drawing r))) crossing
          (λ y a b. passed_over s n x t.sound few_nands crossing r walk_is y a (rw same_next at b))

      pub next_crosses : x' < crossing_limit → is_crossing p.drawing x' ≡ true
      next_crosses h = rw same_next (crossing_after s n x t.sound few_nands crossing r walk_is (rw same_next at h))

-- ---- one turn of the loop over the patterns

-- The matches among the first k patterns, and those of pattern j.
abbrev pub matches_before : Library → ℕ → Shape → ℕ → List Match
matches_before l n s k = fitting_from n s 0 (take k (patterns l))

abbrev pub matches_of : Library → ℕ → Shape → ℕ → List Match
matches_of l n s j = fitting_under n s j (pattern_at l j) (crossings (pattern_at l j).drawing)

fitting_more : (n : ℕ) (s : Shape) (k : ℕ) (ps : List Pattern) (p : Pattern) →
    fitting_from n s k (ps ++ (p ∷ [])) ≡ fitting_from n s k ps ++ fitting_under n s (k + length ps) p (crossings p.drawing)
unfolding fitting_from
fitting_more n s k [] p = rw (append-nil, add-zero)
fitting_more n s k (q ∷ ps) p =
    let e : suc k + length ps ≡ k + suc (length ps) = omega arith in
    rw (fitting_more n s (suc k) ps p, e) (sym (append_assoc (fitting_under n s k q (crossings q.drawing)) (fitting_from n s (suc k) ps) _))

before_more : (l : Library) (n : ℕ) (s : Shape) (j : ℕ) → j < length (patterns l) → matches_before l n s (j + 1) ≡ matches_before l n s j ++ matches_of l n s j
before_more l n s j h =
    rw (add-one j, take-suc (patterns l) j no_pattern h)
    (fitting_more n s 0 (take j (patterns l)) (pattern_at l j) ∙ rw (zero-add, length-take-le j (patterns l) (omega arith)))

pub pattern_turn : (l : Library) (n : ℕ) (s : Shape) (j : ℕ) → j < length (patterns l) → (t₀ t t' : List Hit) (count r : ℕ) →
    count ≡ length (matches_before l n s j) → t ≡ sets t₀ 0 (map hit_of (matches_before l n s j)) →
    (r ≡ count + length (matches_of l n s j)) × (t' ≡ sets t count (map hit_of (matches_of l n s j))) →
    (r ≡ length (matches_before l n s (j + 1))) × (t' ≡ sets t₀ 0 (map hit_of (matches_before l n s (j + 1))))
pattern_turn l n s j h t₀ t t' count r ec et w =
    let fs = matches_before l n s j in
    let ms = matches_of l n s j in
    let more = before_more l n s j h in (
      omega (arith, ap length more, length-append fs ms, w.0),
      rw (more, map-append hit_of fs ms, sets_append, length-map fs hit_of, zero-add, ← ec, ← et) w.1,
    )

-- How many matches there may be.
under_few : (n : ℕ) (s : Shape) (k : ℕ) (p : Pattern) (xs : List ℕ) → length (fitting_under n s k p xs) ≤ length xs
unfolding fitting_under
under_few n s k p [] = omega arith
under_few n s k p (x ∷ xs) = omega (arith, put_more k p x (matched (redrawn x p.drawing) n s) (fitting_under n s k p xs), under_few n s k p xs)

select_few : (test : ℕ → Bool) (xs : List ℕ) → length (select test xs) ≤ length xs
unfolding select keep_if
select_few test [] = omega arith
select_few test (x ∷ xs) = let few = select_few test xs in cases (test x) (λ e. rw e (omega arith)) (λ e. rw e (omega arith))

crossings_few : (d : Shape) → length (crossings d) ≤ 32
unfolding crossings counted
crossings_few d = select_few (is_crossing d) (counted 0 crossing_limit)

pub of_few : (l : Library) (n : ℕ) (s : Shape) (j : ℕ) → length (matches_of l n s j) ≤ 32
of_few l n s j = let d = (pattern_at l j).drawing in omega (arith, under_few n s j (pattern_at l j) (crossings d), crossings_few d)

from_few : (n : ℕ) (s : Shape) (k : ℕ) (ps : List Pattern) → length (fitting_from n s k ps) ≤ 32 * length ps
unfolding fitting_from
from_few n s k [] = omega arith
from_few n s k (p ∷ ps) =
    let xs = crossings p.drawing in
    omega (arith, length-append (fitting_under n s k p xs) (fitting_from n s (suc k) ps), under_few n s k p xs, crossings_few p.drawing, from_few n s (suc k) ps)

pub fitting_few : (l : Library) (n : ℕ) (s : Shape) → length (fitting l n s) ≤ 32 * length (patterns l)
unfolding fitting
fitting_few l n s = from_few n s 0 (patterns l)

-- The row of pattern j, over the node.
pub trying : {l : Library} {t : Tree} {rows ss zs : List ℕ} {n room : ℕ} {s : Shape} → Ready l t rows ss zs n room s → (j : ℕ) → j < length (patterns l) → (m : ℕ) → m ≡ row_words →
    {count : ℕ} → count ≤ 32 * j → Trying (take m (drop (row_words * j) rows)) ss zs n j room count (pattern_at l j) s
trying {l} ready j h m e {count} few =
    let d = ready.decoded in
    let p = at_hand d j h in
    record {
      drawing = (row_stored d j h m e).drawing;
      pins = length (pattern_at l j).cell.pins;
      few_pins = p.cell.few_pins;
      sound = p.drawing;
      walkable = λ words measured. walkable d j h m e measured ready.here;
      number_small = omega (arith, d.library.few_patterns);
      room_is = ready.room_is;
      count_small = few;
    }

-- ---- the matches found

-- The inputs in a hit.
pub hit_inputs : (m : Match) → (hit_of m).inputs ≡ inputs_of m.inputs
unfolding hit_of
hit_inputs m = refl

module _ (l : Library) (n : ℕ) (s : Shape) where
  -- A match of a sound library has at most six inputs, each at a pin of its cell.
  pub record SoundMatch (m : Match) : Type 0 where
    pub few : length m.inputs ≤ 6
    pub pinned : (i : Input) → Memᴰ i m.inputs → i.pin < length m.pattern.cell.pins
    pub cell : SoundCell (length l.bins) m.pattern.cell
    pub fitting_is : IsFitting l n s m

  pub fitting_sound : SoundLibrary l → {m : Match} → Memᴰ m (fitting l n s) → SoundMatch m
  fitting_sound h {m} i =
      let f = fitting_are l n s i in
      let p = sound_pattern l h (at_in (patterns l) m.number f.numbered) in
      let g = inputs_sound p.drawing p.cell.few_pins n s m.crossing f.fits in
      record { few = g.few; pinned = g.pinned; cell = p.cell; fitting_is = f }

  -- The hits of all matches fit, and each is read back.
  pub hit_read : SoundLibrary l → (t : List Hit) → length t ≡ match_most → (d : Match) (e : Hit) (j : ℕ) → j < length (fitting l n s) →
      get_or (sets t 0 (map hit_of (fitting l n s))) j e ≡ hit_of (get_or (fitting l n s) j d)
  hit_read h t f d e j g =
      let ms = fitting l n s in
      front_sets t (map hit_of ms) j e (omega (arith, length-map ms hit_of, fitting_few l n s, h.few_patterns)) (omega (arith, length-map ms hit_of))
      ∙ at_map hit_of ms j d e g
