-- The walk over a pattern and the tree: where it stands is parts of the drawing, as the crossing orders them, side by side with as many subtrees.
use Prim.Native.Nat.{ℕ, suc, ◌+◌, ◌-◌, ◌*◌, ◌/◌, ◌%◌, ◌^◌, ◌≤◌, ◌<◌, max}
use mathlib.Core.Path.{◌≡◌, refl, sym, ap, ap₂, subst, ◌∙◌}
use mathlib.Core.Logic.{◌≢◌}
use mathlib.Core.Bool.{Bool, true, false, cond}
use mathlib.Core.List.Memᴰ
use mathlib.Core.List.{List, [], ◌∷◌, ◌++◌, map, map-append, append_assoc, append-nil, Memᴰ}
use mathlib.Core.Option.{Option, none, some}
use native.Mathlib.Omega.{arith}
use borrow.Author.Tests.{ne_eqb}
use lib.Dec.{eqb}
use lib.ListN.{replicate, get_or, length, set, length-append, length-map, length-set, length-replicate}
use lib.Pow.{shr-shr}
use lib.Seq.{get_or-set_same, get_or-set_other}
use Rattle.sheets_rules.specs.Inside.Layout.{padded, symbols_at}
use Rattle.sheets_rules.proofs.Laid.{padded_more}
use Rattle.sheets_rules.specs.Model.{Leaf, pin_of, Shape, leaf, inv, nand, size, leaves, nands}
use Rattle.covers.specs.Crossing.{exchanged, ordered, redrawn_from, redrawn}
use Rattle.covers.specs.Match.{Input, joined, laid}
use Rattle.covers.proofs.Basics.{each}
use Rattle.covers.proofs.Matching.{size_pos}
use Rattle.overlay.specs.declared.Left.{Left}
use Rattle.overlay.specs.declared.Input.{Input as InputRecord}
use Rattle.overlay.specs.declared.Inputs.{Inputs}
use Rattle.overlay.specs.Inside.Standing.{Stands, extent, Drawn}
use Rattle.overlay.specs.Inside.Promises.{input_of, blank_input, inputs_of, pushed, Passable, branched, passed, resumed, SameBits, WalkFound, WalkMissed, Walkable}

-- ---- the inputs of a match

pub inputs_count : {r : Inputs} (is : List Input) → r ≡ inputs_of is → r.count ≡ length is
unfolding inputs_of
inputs_count is e = ap (λ (r : Inputs). r.count) e

-- One input more.
inputs_more : (is : List Input) (i : Input) → pushed (inputs_of is) (input_of i) ≡ inputs_of (is ++ (i ∷ []))
unfolding inputs_of
inputs_more is i =
    ap₂ (λ (n : ℕ) (l : List InputRecord). record { count = n; list = l }) (sym (length-append is (i ∷ [])))
    (padded_more 6 blank_input (input_of i) (map input_of is) (length is) (sym (length-map is input_of)) ∙ ap (padded 6 blank_input) (sym (map-append input_of is (i ∷ []))))

-- ---- drawings laid in a row

joined_assoc : (a b c : Option (List Input)) → joined a (joined b c) ≡ joined (joined a b) c
unfolding joined
joined_assoc none b c = refl
joined_assoc (some is) none c = refl
joined_assoc (some is) (some js) none = refl
joined_assoc (some is) (some js) (some ks) = ap {B = Option (List Input)} some (sym (append_assoc is js ks))

noting : (noted : List Input) (i : Input) (o : Option (List Input)) → joined (some noted) (joined (some (i ∷ [])) o) ≡ joined (some (noted ++ (i ∷ []))) o
noting noted i o = joined_assoc (some noted) (some (i ∷ [])) o ∙ (unfold joined in refl)

-- Several drawings laid over as many subtrees, the first of which stands at node n.
unfoldable laid_in_row : List Shape → ℕ → List Shape → Option (List Input)
laid_in_row [] n ss = some []
laid_in_row (p ∷ ps) n [] = none
laid_in_row (p ∷ ps) n (s ∷ ss) = joined (laid p n s) (laid_in_row ps (n + size s) ss)

unfoldable row_size : List Shape → ℕ
row_size [] = 0
row_size (s ∷ ss) = size s + row_size ss

pub stands_size : (ss zs : List ℕ) (n : ℕ) (s : Shape) → Stands ss zs n s → get_or zs n 0 ≡ size s
unfolding size
stands_size ss zs n (leaf x) h = h.1
stands_size ss zs n (inv s) h = h.1
stands_size ss zs n (nand s t) h = h.1

-- Subtrees that stand one after another.
abbrev StandInRow : List ℕ → List ℕ → ℕ → List Shape → Type 0
StandInRow ss zs n [] = Unit {0}
StandInRow ss zs n (s ∷ ts) = Stands ss zs n s × StandInRow ss zs (n + size s) ts

-- ---- bits of a crossing

-- Fewer bits are the same too.
same_fewer : (u v x y : ℕ) → u ≤ v → v ≤ 5 → SameBits v x y → SameBits u x y
same_fewer u v x y h g e =
    let k : (5 - v) + (v - u) ≡ 5 - u = omega arith in
    let go : (z : ℕ) → z / 2 ^ (5 - v) / 2 ^ (v - u) ≡ z / 2 ^ (5 - u) = λ z. shr-shr z (5 - v) (v - u) ∙ ap (λ i. z / 2 ^ i) k in
    sym (go x) ∙ ap (λ i. i / 2 ^ (v - u)) e ∙ go y

-- A NAND among those whose bits are the same is exchanged by both or by none.
same_exchanged : (j u x y : ℕ) → j < u → u ≤ 5 → SameBits u x y → exchanged x j ≡ exchanged y j
unfolding exchanged
same_exchanged j u x y h g e =
    let k : 5 - suc j ≡ 4 - j = omega arith in
    let go : x / 2 ^ (4 - j) ≡ y / 2 ^ (4 - j) = subst (λ i. x / 2 ^ i ≡ y / 2 ^ i) k (same_fewer (suc j) u x y h g e) in
    ap (λ i. eqb (i % 2) 1) go

-- A NAND's branches under a crossing.
redrawn_nand : (y j : ℕ) (p q : Shape) {b : Bool} → exchanged y j ≡ b → redrawn_from y j (nand p q) ≡ ordered b (redrawn_from y (j + 1) p) (redrawn_from y (j + 1 + nands p) q)
unfolding redrawn_from
redrawn_nand y j p q {b} e = let f : suc j ≡ j + 1 = omega arith in rw (e, f)

-- ---- parts of a drawing

-- A part still to be laid: where it stands in the drawing, how many NANDs come before it, and its shape.
record Part : Type 0 where
  spot : ℕ
  before : ℕ
  shape : Shape

abbrev part_word : Part → ℕ
part_word p = p.spot + 32 * p.before

abbrev redrawn_part : ℕ → Part → Shape
redrawn_part y p = redrawn_from y p.before p.shape

-- A NAND's branches.
abbrev first_of : ℕ → ℕ → Shape → Part
first_of spot before p = record { spot = spot + 1; before = before + 1; shape = p }

abbrev second_of : ℕ → ℕ → Shape → Shape → Part
second_of spot before p q = record { spot = spot + 1 + size p; before = before + 1 + nands p; shape = q }

abbrev input_at : ℕ → Leaf → Shape → Input
input_at at x t = record { pin = pin_of x; node = at; shape = t }

-- How many leaves some parts have.
unfoldable parts_leaves : List Part → ℕ
parts_leaves [] = 0
parts_leaves (p ∷ ps) = suc (nands p.shape + parts_leaves ps)

parts_few : (ps : List Part) → length ps ≤ parts_leaves ps
unfolding parts_leaves
parts_few [] = omega arith
parts_few (p ∷ ps) = omega (arith, parts_few ps)

-- An array holds the words of the parts that wait, the next one last.
abbrev Stacked : List ℕ → List Part → Type 0
Stacked ws [] = Unit {0}
Stacked ws (p ∷ ps) = (get_or ws (length ps) 0 ≡ part_word p) × Stacked ws ps

stacked_set : (ws : List ℕ) (i x : ℕ) (ps : List Part) → length ps ≤ i → Stacked ws ps → Stacked (set ws i x) ps
stacked_set ws i x [] h k = tt
stacked_set ws i x (p ∷ ps) h k = (get_or-set_other ws i (length ps) x 0 (λ e. omega arith) ∙ k.0, stacked_set ws i x ps (omega arith) k.1)

-- What passing a gate makes of where the walk stands.
module _ (left : Left) (words : List ℕ) (crossing : ℕ) {symbol : ℕ} where
  pub passed_inv : symbol ≡ 0 → record { spot = left.spot + 1; depth = left.depth; waiting = left.waiting; used = left.used } ≡ passed left symbol words crossing
  unfolding passed
  passed_inv e = rw e

  pub passed_nand : {b : Bool} {used : ℕ} → symbol ≢ 0 → exchanged crossing (left.spot / 32) ≡ b → used ≡ max left.used (left.spot / 32 + 1) →
      let first = left.spot + 33 in
      let second = first + get_or words (first % 32) 0 in
      record { spot = cond b second first; depth = left.depth + 1; waiting = set left.waiting left.depth (cond b first second); used = used } ≡ passed left symbol words crossing
  unfolding passed branched
  passed_nand e f g = rw (ne_eqb symbol 0 e, f, g)

module _ (row words ss zs : List ℕ) (d s : Shape) (n crossing : ℕ) where
  -- The part of the drawing d at a spot.
  record PartIn (p : Part) : Type 0 where
    drawn : Drawn row words p.spot p.shape
    ends : p.spot + size p.shape ≤ size d
    numbers : p.before + nands p.shape ≤ nands d
    pinned : (x : Leaf) → Memᴰ x (leaves p.shape) → (pin_of x < 6) × (x.drive ≡ 0)

  -- What is to be found under a crossing.
  abbrev whole : ℕ → Option (List Input)
  whole y = laid (redrawn y d) n s

  -- A walk that has noted these inputs: before the node `at`, with a part and those that wait, and as many subtrees. All of it holds for every crossing with the bits used.
  record Abreast (used : ℕ) (noted : List Input) (spot before : ℕ) (shape : Shape) (ps : List Part) (at : ℕ) (t : Shape) (ts : List Shape) : Type 0 where
    paired : length ps ≡ length ts
    first : PartIn (record { spot = spot; before = before; shape = shape })
    inside : (p : Part) → Memᴰ p ps → PartIn p
    stands : Stands ss zs at t
    stand : StandInRow ss zs (at + size t) ts
    ends : at + (size t + row_size ts) ≡ n + size s
    finds : (y : ℕ) → SameBits used crossing y → whole y ≡ joined (some noted) (joined (laid (redrawn_from y before shape) at t) (laid_in_row (map (redrawn_part y) ps) (at + size t) ts))
    counted : length noted + suc (nands shape + parts_leaves ps) ≡ suc (nands d)
    used_few : used ≤ nands d

  -- Past the last leaf all inputs are noted.
  abreast_end : {used : ℕ} {noted : List Input} {spot before at : ℕ} {x : Leaf} {t : Shape} {ts : List Shape} → Abreast used noted spot before (leaf x) [] at t ts →
      (y : ℕ) → SameBits used crossing y → whole y ≡ some (noted ++ (input_at at x t ∷ []))
  unfolding redrawn_from laid laid_in_row
  abreast_end {noted} {at} {x} {t} a y e = a.finds y e ∙ noting noted (input_at at x t) (some []) ∙ (unfold joined in ap {B = Option (List Input)} some (append-nil (noted ++ (input_at at x t ∷ []))))

  module _ (few : nands d ≤ 5) {used : ℕ} {noted : List Input} {spot before : ℕ} {ps : List Part} {at : ℕ} where
    -- Past another leaf the part that waits is next.
    abreast_skip : {x : Leaf} {t t' : Shape} {ts : List Shape} {p : Part} → Abreast used noted spot before (leaf x) (p ∷ ps) at t (t' ∷ ts) →
        Abreast used (noted ++ (input_at at x t ∷ [])) p.spot p.before p.shape ps (at + size t) t' ts
    unfolding redrawn_from laid laid_in_row parts_leaves row_size nands
    abreast_skip {x} {t} {t'} {ts} {p} a = record {
      paired = omega (arith, a.paired);
      first = a.inside p (Memᴰ.head refl);
      inside = λ q m. a.inside q (Memᴰ.tail m);
      stands = a.stand.0;
      stand = a.stand.1;
      ends = omega (arith, a.ends);
      finds = λ y e. a.finds y e ∙ noting noted (input_at at x t) (laid_in_row (map (redrawn_part y) (p ∷ ps)) (at + size t) (t' ∷ ts));
      counted = omega (arith, a.counted, length-append noted (input_at at x t ∷ []));
      used_few = a.used_few;
    }

    -- Past an inverter its branch is next.
    abreast_inv : {q t : Shape} {ts : List Shape} → Abreast used noted spot before (inv q) ps at (inv t) ts → Abreast used noted (spot + 1) before q ps (at + 1) t ts
    unfolding redrawn_from laid size nands leaves
    abreast_inv {q} {t} {ts} a =
        let e : suc spot ≡ spot + 1 = omega arith in
        let f : at + suc (size t) ≡ at + 1 + size t = omega arith in
        let g : suc at ≡ at + 1 = omega arith in
        record {
          paired = a.paired;
          first = record { drawn = subst (λ k. Drawn row words k q) e a.first.drawn.1; ends = omega (arith, a.first.ends); numbers = a.first.numbers; pinned = a.first.pinned };
          inside = a.inside;
          stands = subst (λ k. Stands ss zs k t) g a.stands.2;
          stand = subst (λ k. StandInRow ss zs k ts) f a.stand;
          ends = omega (arith, a.ends);
          finds = λ y h. a.finds y h ∙ ap₂ (λ k l. joined (some noted) (joined (laid (redrawn_from y before q) k t) (laid_in_row (map (redrawn_part y) ps) l ts))) g f;
          counted = a.counted;
          used_few = a.used_few;
        }

    -- Past a NAND the branch that stands first under the crossing is next, and the other waits.
    module _ {p q t t' : Shape} {ts : List Shape} (a : Abreast used noted spot before (nand p q) ps at (nand t t') ts) where
      abbrev used' : ℕ
      used' = max used (before + 1)

      used_five : used' ≤ 5
      used_five = unfold nands in omega (arith, a.used_few, a.first.numbers)

      first_in : PartIn (first_of spot before p)
      unfolding size nands leaves
      first_in = let e : suc spot ≡ spot + 1 = omega arith in record {
        drawn = subst (λ k. Drawn row words k p) e a.first.drawn.2;
        ends = omega (arith, a.first.ends);
        numbers = omega (arith, a.first.numbers);
        pinned = λ x m. a.first.pinned x (Memᴰ.append_left (leaves q) m);
      }

      second_in : PartIn (second_of spot before p q)
      unfolding size nands leaves
      second_in = let e : suc spot + size p ≡ spot + 1 + size p = omega arith in record {
        drawn = subst (λ k. Drawn row words k q) e a.first.drawn.3;
        ends = omega (arith, a.first.ends);
        numbers = omega (arith, a.first.numbers);
        pinned = λ x m. a.first.pinned x (Memᴰ.append_right (leaves p) m);
      }

      -- What is to be found, with the branches in the order of the crossing.
      abreast_nand : (u v : Part) → PartIn u → PartIn v → nands u.shape + nands v.shape ≡ nands p + nands q →
          ((y : ℕ) → exchanged y before ≡ exchanged crossing before → redrawn_from y before (nand p q) ≡ nand (redrawn_part y u) (redrawn_part y v)) →
          Abreast used' noted u.spot u.before u.shape (v ∷ ps) (at + 1) t (t' ∷ ts)
      unfolding laid laid_in_row parts_leaves row_size size nands
      abreast_nand u v g h k e =
          let f : suc at ≡ at + 1 = omega arith in
          let i : suc at + size t ≡ at + 1 + size t = omega arith in
          let j : at + suc (size t + size t') ≡ at + 1 + size t + size t' = omega arith in
          record {
            paired = omega (arith, a.paired);
            first = g;
            inside = each {P = PartIn} h a.inside;
            stands = subst (λ k. Stands ss zs k t) f a.stands.2;
            stand = (subst (λ k. Stands ss zs k t') i a.stands.3, subst (λ k. StandInRow ss zs k ts) j a.stand);
            ends = omega (arith, a.ends);
            finds = λ y same.
                let rest = laid_in_row (map (redrawn_part y) ps) (at + 1 + size t + size t') ts in
                a.finds y (same_fewer used used' crossing y (omega arith) used_five same)
                ∙ ap (λ r. joined (some noted) (joined (laid r at (nand t t')) (laid_in_row (map (redrawn_part y) ps) (at + suc (size t + size t')) ts))) (e y (sym (same_exchanged before used' crossing y (omega arith) used_five same)))
                ∙ ap (λ l. joined (some noted) (joined (joined (laid (redrawn_part y u) (suc at) t) (laid (redrawn_part y v) (suc at + size t) t')) (laid_in_row (map (redrawn_part y) ps) l ts))) j
                ∙ ap₂ (λ k l. joined (some noted) (joined (joined (laid (redrawn_part y u) k t) (laid (redrawn_part y v) l t')) rest)) f i
                ∙ ap (joined (some noted)) (sym (joined_assoc (laid (redrawn_part y u) (at + 1) t) (laid (redrawn_part y v) (at + 1 + size t) t') rest));
            counted = omega (arith, a.counted, k);
            used_few = omega (arith, a.used_few, a.first.numbers);
          }

  -- ---- the walk's own records

  -- What the walk noted stands in `inputs`, and where it stands in `left`.
  pub record Going (inputs : Inputs) (left : Left) (at : ℕ) : Type 0 where
    noted : List Input
    spot : ℕ
    before : ℕ
    shape : Shape
    ps : List Part
    t : Shape
    ts : List Shape
    abreast : Abreast left.used noted spot before shape ps at t ts
    spot_is : left.spot ≡ spot + 32 * before
    depth_is : left.depth ≡ length ps
    stacked : Stacked left.waiting ps
    waiting_long : length left.waiting ≡ 6
    inputs_are : inputs ≡ inputs_of noted

  -- The word at the spot where it stands.
  abbrev symbol_at : Left → ℕ
  symbol_at left = get_or row (symbols_at + left.spot % 32) 0

  module _ (w : Walkable row words ss zs n d s) where
    pub going_start : Going (record { count = 0; list = replicate 6 blank_input }) (record { spot = 0; depth = 0; waiting = replicate 6 0; used = 0 }) n
    unfolding laid_in_row row_size parts_leaves joined redrawn inputs_of
    going_start = record {
      noted = [];
      spot = 0;
      before = 0;
      shape = d;
      ps = [];
      t = s;
      ts = [];
      abreast = record {
        paired = refl;
        first = record { drawn = w.drawn; ends = omega arith; numbers = omega arith; pinned = w.pinned };
        inside = λ p m. absurd (Memᴰ.not-nil m);
        stands = w.subject.stands;
        stand = tt;
        ends = omega arith;
        finds = λ y e. go (laid (redrawn_from y 0 d) n s);
        counted = omega arith;
        used_few = omega arith;
      };
      spot_is = refl;
      depth_is = refl;
      stacked = tt;
      waiting_long = length-replicate {A = ℕ} 6 0;
      inputs_are = refl;
    }
      where
        go : (a : Option (List Input)) → a ≡ joined (some []) (joined a (some []))
        go none = refl
        go (some is) = ap {B = Option (List Input)} some (sym (append-nil is))

    module _ {inputs : Inputs} {left : Left} {at : ℕ} (g : Going inputs left at) where
      -- The spot in the row, the NANDs before it, and how much is noted and waits.
      pub record Within : Type 0 where
        placed : left.spot % 32 ≡ g.spot
        numbered : left.spot / 32 ≡ g.before
        inside : g.spot + size g.shape ≤ 16
        pub spot_small : left.spot % 32 < 16
        pub noted_few : inputs.count + left.depth < 6
        pub at_some : 0 < get_or zs at 0
        pub at_ends : at + get_or zs at 0 ≤ 64

      pub within : Within
      within =
          let a = g.abreast in
          let z = size_pos g.shape in
          let inside : g.spot + size g.shape ≤ 16 = omega (arith, a.first.ends, w.small) in
          let ended = stands_size ss zs at g.t a.stands in
          record {
            placed = omega (arith, g.spot_is);
            numbered = omega (arith, g.spot_is);
            inside = inside;
            spot_small = omega (arith, g.spot_is);
            noted_few = omega (arith, a.counted, w.few, parts_few g.ps, inputs_count g.noted g.inputs_are, g.depth_is);
            at_some = omega (arith, ended, size_pos g.t);
            at_ends = omega (arith, ended, a.ends, w.subject.ends);
          }

      abbrev Here : Shape → Shape → Type 0
      Here x t = Abreast left.used g.noted g.spot g.before x g.ps at t g.ts

      -- The symbol there, by the part's shape.
      symbol_is : {v : ℕ} → get_or row (symbols_at + g.spot) 0 ≡ v → symbol_at left ≡ v
      symbol_is e = ap (λ k. get_or row (symbols_at + k) 0) within.placed ∙ e

      pub symbol_small : symbol_at left < 8
      symbol_small = go g.shape g.abreast.first
        where
          go : (x : Shape) → PartIn (record { spot = g.spot; before = g.before; shape = x }) → symbol_at left < 8
          go (leaf x) p = unfold leaves in omega (arith, symbol_is p.drawn, p.pinned x (Memᴰ.head refl))
          go (inv p) h = omega (arith, symbol_is h.drawn.0)
          go (nand p q) h = omega (arith, symbol_is h.drawn.0)

      -- Two symbols differ: no crossing with the bits used has a match.
      pub going_differs : symbol_at left < 2 → get_or ss at 0 ≢ symbol_at left → (y : ℕ) → SameBits left.used crossing y → whole y ≡ none
      going_differs h c y e = go g.shape g.t g.abreast
        where
          nothing : (b : Bool) (p q t : Shape) (o : Option (List Input)) → ((p q : Shape) → laid (nand p q) at t ≡ none) → joined (some g.noted) (joined (laid (ordered b p q) at t) o) ≡ none
          nothing false p q t o f = unfold ordered joined in ap (λ r. joined (some g.noted) (joined r o)) (f p q)
          nothing true p q t o f = unfold ordered joined in ap (λ r. joined (some g.noted) (joined r o)) (f q p)

          go : (x t : Shape) → Here x t → whole y ≡ none
          go (leaf x) t a = absurd (omega (arith, symbol_is a.first.drawn))
          go (inv p) (leaf z) a = a.finds y e ∙ (unfold redrawn_from laid joined in refl)
          go (inv p) (inv t) a = absurd (c (a.stands.0 ∙ sym (symbol_is a.first.drawn.0)))
          go (inv p) (nand t u) a = a.finds y e ∙ (unfold redrawn_from laid joined in refl)
          go (nand p q) (leaf z) a = a.finds y e ∙ (unfold redrawn_from in nothing (exchanged y g.before) _ _ (leaf z) _ (λ p q. unfold laid in refl))
          go (nand p q) (inv t) a = a.finds y e ∙ (unfold redrawn_from in nothing (exchanged y g.before) _ _ (inv t) _ (λ p q. unfold laid in refl))
          go (nand p q) (nand t u) a = absurd (c (a.stands.0 ∙ sym (symbol_is a.first.drawn.0)))

      -- Past two equal symbols of gates.
      -- At a NAND: its number, and where its second branch stands.
      record AtNand : Type 0 where
        number : left.spot / 32 ≤ 4
        first : (left.spot + 33) % 32 < 16
        second : left.spot + 33 + get_or words ((left.spot + 33) % 32) 0 ≤ 255

      at_nand : symbol_at left < 2 → symbol_at left ≢ 0 → AtNand
      at_nand h z = go g.shape g.abreast.first within
        where
          go : (x : Shape) → PartIn (record { spot = g.spot; before = g.before; shape = x }) → Within → AtNand
          go (leaf x) p b = absurd (omega (arith, symbol_is p.drawn))
          go (inv p) q b = absurd (z (symbol_is q.drawn.0))
          go (nand p q) r b = unfold size nands extent in
              let e : (left.spot + 33) % 32 ≡ suc g.spot = omega (arith, b.placed, b.inside) in
              let f : get_or words ((left.spot + 33) % 32) 0 ≡ size p + 32 * nands p = ap (λ k. get_or words k 0) e ∙ r.drawn.1 in
              record { number = omega (arith, b.numbered, r.numbers, w.few); first = omega (arith, r.ends, w.small, size_pos p, size_pos q); second = omega (arith, f, r.ends, r.numbers, w.few, w.small, g.spot_is) }

      pub passable : symbol_at left < 2 → Passable left (symbol_at left) words
      passable h =
          let b = within in
          record {
            near = omega (arith, g.spot_is, b.inside, g.abreast.first.numbers, w.few);
            few = omega (arith, b.noted_few);
            waiting_long = g.waiting_long;
            words_long = w.words_long;
            used_few = omega (arith, g.abreast.used_few, w.few);
            number = λ z. (at_nand h z).number;
            first = λ z. (at_nand h z).first;
            second = λ z. (at_nand h z).second;
          }

      -- Past two NANDs.
      module _ (p q t u : Shape) (a : Here (nand p q) (nand t u)) where
        extent_is : get_or words ((left.spot + 33) % 32) 0 ≡ size p + 32 * nands p
        unfolding size extent
        extent_is =
            let b = within in
            let e : (left.spot + 33) % 32 ≡ suc g.spot = omega (arith, b.placed, a.first.ends, w.small) in
            ap (λ k. get_or words k 0) e ∙ a.first.drawn.1

        nand_symbol_lem : symbol_at left ≢ 0
        nand_symbol_lem e = absurd (omega (arith, symbol_is a.first.drawn.0))

        used_is : max left.used (g.before + 1) ≡ max left.used (left.spot / 32 + 1)
        used_is = ap (λ k. max left.used (k + 1)) (sym within.numbered)

        -- With the branch that is next, and the one that waits.
        branch_going : (x y : Part) → Abreast (max left.used (g.before + 1)) g.noted x.spot x.before x.shape (y ∷ g.ps) (at + 1) t (u ∷ g.ts) →
            {next waits : ℕ} → next ≡ part_word x → waits ≡ part_word y →
            Going inputs (record { spot = next; depth = left.depth + 1; waiting = set left.waiting left.depth waits; used = max left.used (g.before + 1) }) (at + 1)
        branch_going x y b {next} {waits} e f = record {
          noted = g.noted;
          spot = x.spot;
          before = x.before;
          shape = x.shape;
          ps = y ∷ g.ps;
          t = t;
          ts = u ∷ g.ts;
          abreast = b;
          spot_is = e;
          depth_is = omega (arith, g.depth_is);
          stacked = (
            ap (λ k. get_or (set left.waiting left.depth waits) k 0) (sym g.depth_is) ∙ get_or-set_same left.waiting left.depth waits 0 (omega (arith, g.waiting_long, within.noted_few)) ∙ f,
            stacked_set left.waiting left.depth waits g.ps (omega (arith, g.depth_is)) g.stacked,
          );
          waiting_long = length-set left.waiting left.depth waits ∙ g.waiting_long;
          inputs_are = g.inputs_are;
        }

        branches : (b : Bool) → exchanged crossing g.before ≡ b → Going inputs (passed left (symbol_at left) words crossing) (at + 1)
        branches false e =
            rw (← passed_nand left words crossing nand_symbol_lem (ap (exchanged crossing) within.numbered ∙ e) used_is, extent_is)
            (branch_going (first_of g.spot g.before p) (second_of g.spot g.before p q)
            (abreast_nand w.few a _ _ (first_in w.few a) (second_in w.few a) refl (λ y f. unfold ordered in redrawn_nand y g.before p q (f ∙ e))) (omega (arith, g.spot_is)) (omega (arith, g.spot_is)))
        branches true e =
            rw (← passed_nand left words crossing nand_symbol_lem (ap (exchanged crossing) within.numbered ∙ e) used_is, extent_is)
            (branch_going (second_of g.spot g.before p q) (first_of g.spot g.before p)
            (abreast_nand w.few a _ _ (second_in w.few a) (first_in w.few a) (omega arith) (λ y f. unfold ordered in redrawn_nand y g.before p q (f ∙ e))) (omega (arith, g.spot_is)) (omega (arith, g.spot_is)))

      -- Past two equal symbols.
      pub going_pass : symbol_at left < 2 → get_or ss at 0 ≡ symbol_at left → Going inputs (passed left (symbol_at left) words crossing) (at + 1)
      going_pass h c = go g.shape g.t g.abreast
        where
          go : (x t : Shape) → Here x t → Going inputs (passed left (symbol_at left) words crossing) (at + 1)
          go (leaf x) t a = absurd (omega (arith, symbol_is a.first.drawn))
          go (inv p) (leaf z) a = absurd (omega (arith, c, symbol_is a.first.drawn.0, a.stands.0))
          go (inv p) (inv t) a =
              let e : symbol_at left ≡ 0 = symbol_is a.first.drawn.0 in
              rw (← passed_inv left words crossing e) record {
                noted = g.noted;
                spot = g.spot + 1;
                before = g.before;
                shape = p;
                ps = g.ps;
                t = t;
                ts = g.ts;
                abreast = abreast_inv w.few a;
                spot_is = omega (arith, g.spot_is);
                depth_is = g.depth_is;
                stacked = g.stacked;
                waiting_long = g.waiting_long;
                inputs_are = g.inputs_are;
              }
          go (inv p) (nand t u) a = absurd (omega (arith, c, symbol_is a.first.drawn.0, a.stands.0))
          go (nand p q) (leaf z) a = absurd (omega (arith, c, symbol_is a.first.drawn.0, a.stands.0))
          go (nand p q) (inv t) a = absurd (omega (arith, c, symbol_is a.first.drawn.0, a.stands.0))
          go (nand p q) (nand t u) a = branches p q t u a (exchanged crossing g.before) refl

      -- Past a pattern's leaf its input is noted.
      module _ (x : Leaf) where
        abbrev noted' : List Input
        noted' = g.noted ++ (input_at at x g.t ∷ [])

        inputs_noted : PartIn (record { spot = g.spot; before = g.before; shape = leaf x }) → pushed inputs (record { pin = symbol_at left - 2; node = at }) ≡ inputs_of noted'
        inputs_noted p =
            let e : symbol_at left - 2 ≡ pin_of x = omega (arith, symbol_is p.drawn, p.pinned x (unfold leaves in Memᴰ.head refl)) in
            ap₂ (λ (r : Inputs) (q : ℕ). pushed r (record { pin = q; node = at })) g.inputs_are e ∙ inputs_more g.noted (input_at at x g.t)

      -- The part that waited last is next.
      pub going_skip : 2 ≤ symbol_at left → 0 < left.depth → Going (pushed inputs (record { pin = symbol_at left - 2; node = at })) (resumed left) (at + get_or zs at 0)
      unfolding resumed
      going_skip h z = go g.shape g.ps g.ts g.abreast g.depth_is g.stacked
        where
          go : (x : Shape) (ps : List Part) (ts : List Shape) → Abreast left.used g.noted g.spot g.before x ps at g.t ts → left.depth ≡ length ps → Stacked left.waiting ps →
              Going (pushed inputs (record { pin = symbol_at left - 2; node = at })) (resumed left) (at + get_or zs at 0)
          go (inv p) ps ts a k m = absurd (omega (arith, symbol_is a.first.drawn.0))
          go (nand p q) ps ts a k m = absurd (omega (arith, symbol_is a.first.drawn.0))
          go (leaf x) [] ts a k m = absurd (omega arith)
          go (leaf x) (p ∷ ps) [] a k m = absurd (omega (arith, a.paired))
          go (leaf x) (p ∷ ps) (t ∷ ts) a k m =
              let e : left.depth - 1 ≡ length ps = omega (arith, k) in
              rw (stands_size ss zs at g.t a.stands) record {
                noted = noted' x;
                spot = p.spot;
                before = p.before;
                shape = p.shape;
                ps = ps;
                t = t;
                ts = ts;
                abreast = abreast_skip w.few a;
                spot_is = ap (λ i. get_or left.waiting i 0) e ∙ m.0;
                depth_is = e;
                stacked = m.1;
                waiting_long = g.waiting_long;
                inputs_are = inputs_noted x a.first;
              }

      -- After the last leaf the walk has found the match.
      pub going_end : 2 ≤ symbol_at left → left.depth ≡ 0 → WalkFound d s n crossing (pushed inputs (record { pin = symbol_at left - 2; node = at }))
      going_end h z = go g.shape g.ps g.abreast g.depth_is
        where
          go : (x : Shape) (ps : List Part) → Abreast left.used g.noted g.spot g.before x ps at g.t g.ts → left.depth ≡ length ps → WalkFound d s n crossing (pushed inputs (record { pin = symbol_at left - 2; node = at }))
          go (inv p) ps a k = absurd (omega (arith, symbol_is a.first.drawn.0))
          go (nand p q) ps a k = absurd (omega (arith, symbol_is a.first.drawn.0))
          go (leaf x) (p ∷ ps) a k = absurd (omega arith)
          go (leaf x) [] a k = record { inputs = noted' x; laid_is = abreast_end a crossing refl; inputs_are = inputs_noted x a.first }

      -- Where two symbols differ it has found none.
      pub going_missed : symbol_at left < 2 → get_or ss at 0 ≢ symbol_at left → WalkMissed d s n crossing left.used
      going_missed h c = record { used_few = g.abreast.used_few; ruled_out = going_differs h c }
