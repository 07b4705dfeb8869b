-- The matches that a legal cover lists: they ascend by node, so none twice; there are no more than inverters and NANDs; each is of a pattern of the library; and their cells' areas make up its area.
use Prim.Native.Nat.{ℕ, ◌+◌, ◌≤◌, ◌<◌}
use mathlib.Core.Path.{◌≡◌, sym, ap, ap₂, ◌∙◌}
use mathlib.Core.Logic.{⊎_elim}
use mathlib.Core.List.Memᴰ
use mathlib.Core.List.{List, [], ◌∷◌, ◌++◌, Memᴰ}
use native.Mathlib.Nat.{le_refl, le-add_right, zero-add, add_assoc}
use native.Mathlib.Omega.{arith}
use lib.ListN.{get_elem?, length, length-append}
use Rattle.sheets_rules.specs.Model.{Shape, size, Cell, Library, patterns}
use Rattle.covers.specs.Crossing.{crossing_limit}
use Rattle.covers.specs.Match.{Input}
use Rattle.covers.specs.Cover.{Placed, Cover, IsCover, bare, matching, AreCovers, done, more, leaf_point, leaf_cover, nothing, beside, late, raised, together, delayed, topped}
use Rattle.covers.specs.Promise.{cell_area, listed_area}
use Rattle.covers.proofs.Basics.{each, at_below}
use Rattle.covers.proofs.Ascending.{Ascending, end, then, lowered, ascending_append}
use Rattle.covers.specs.Inside.Curve.{gates}
use Rattle.covers.proofs.Matching.{Spread, last, next, match_inside, crossing_small}

module _ {l : Library} where
  mutual
    unfolding leaf_cover nothing together delayed topped

    -- Ascending by node, so no node twice.
    pub cover_ascends : {load n : ℕ} {s : Shape} {c : Cover} → IsCover l load n s c → Ascending (λ x. x.node) n (n + size s) c.placed
    cover_ascends (bare {n = n} e) = rw e (end (le-add_right n _))
    cover_ascends (matching {n = n} m f g e) = rw e (then {x = record { node = n; pattern = m.number; crossing = m.crossing }} (le_refl n) (inputs_ascend g (match_inside f).spread))

    pub inputs_ascend : {cell : Cell} {load : ℕ} {is : List Input} {c : Cover} → AreCovers l cell load is c → {low high g : ℕ} → Spread low high g is → Ascending (λ x. x.node) low high c.placed
    inputs_ascend (done e) (last h) = rw e (end h)
    inputs_ascend (more f r e) (next u v w) = rw e (ascending_append (lowered u (cover_ascends f)) (inputs_ascend r w))

module _ {l : Library} where
  mutual
    unfolding leaf_cover nothing together delayed topped

    -- No more matches than inverters and NANDs.
    pub few_matches : {load n : ℕ} {s : Shape} {c : Cover} → IsCover l load n s c → length c.placed ≤ gates s
    few_matches (bare e) = rw e (omega arith)
    few_matches (matching m f g e) = let u = match_inside f in rw e (omega (arith, inputs_few g u.spread, u.fewer))

    inputs_few : {cell : Cell} {load : ℕ} {is : List Input} {c : Cover} → AreCovers l cell load is c → {low high g : ℕ} → Spread low high g is → length c.placed ≤ g
    inputs_few (done e) s = rw e (omega arith)
    inputs_few (more {d = d} {e = c} f r e) (next u v w) = rw (e, length-append d.placed c.placed) (omega (arith, few_matches f, inputs_few r w))

-- A pattern of the library, and a crossing in five bits.
abbrev pub Known : Library → Placed → Type 0
Known l x = (x.pattern < length (patterns l)) × (x.crossing < crossing_limit)

module _ {l : Library} where
  mutual
    unfolding leaf_cover nothing together delayed topped

    -- Every listed match is one of those.
    pub known_patterns : {load n : ℕ} {s : Shape} {c : Cover} → IsCover l load n s c → (x : Placed) → Memᴰ x c.placed → Known l x
    known_patterns (bare e) = rw e (λ x m. absurd (Memᴰ.not-nil m))
    known_patterns (matching m f g e) = rw e (each {P = Known l} (at_below (patterns l) m.number f.numbered, crossing_small m.pattern.drawing m.crossing f.crossed) (inputs_known g))

    inputs_known : {cell : Cell} {load : ℕ} {is : List Input} {c : Cover} → AreCovers l cell load is c → (x : Placed) → Memᴰ x c.placed → Known l x
    inputs_known (done e) = rw e (λ x m. absurd (Memᴰ.not-nil m))
    inputs_known (more {d = d} {e = c} f r e) = rw e (λ x m. ⊎_elim (known_patterns f x) (inputs_known r x) (Memᴰ.append_cases d.placed m))

module _ (l : Library) where
  listed_append : (xs ys : List Placed) → listed_area l (xs ++ ys) ≡ listed_area l xs + listed_area l ys
  unfolding listed_area
  listed_append [] ys = sym (zero-add (listed_area l ys))
  listed_append (x ∷ xs) ys = ap (λ r. cell_area (get_elem? (patterns l) x.pattern) + r) (listed_append xs ys) ∙ sym (add_assoc (cell_area (get_elem? (patterns l) x.pattern)) (listed_area l xs) (listed_area l ys))

  mutual
    unfolding leaf_cover leaf_point nothing together beside late raised delayed topped listed_area cell_area

    pub area_listed : {load n : ℕ} {s : Shape} {c : Cover} → IsCover l load n s c → c.point.area ≡ listed_area l c.placed
    area_listed (bare e) = rw e
    area_listed (matching {d = d} m f g e) = rw e (rw f.numbered (ap (λ r. m.pattern.cell.area + r) (inputs_listed g)))

    inputs_listed : {cell : Cell} {load : ℕ} {is : List Input} {c : Cover} → AreCovers l cell load is c → c.point.area ≡ listed_area l c.placed
    inputs_listed (done e) = rw e
    inputs_listed (more {d = d} {e = c} f r e) = rw e (ap₂ ◌+◌ (area_listed f) (inputs_listed r) ∙ sym (listed_append d.placed c.placed))
