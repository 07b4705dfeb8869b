-- The listed matches make up the cover: two legal covers of a node under a load that list the same matches are the same cover.
use Prim.Native.Nat.{ℕ}
use mathlib.Core.Path.{◌≡◌, sym, ap, ap₂, subst, ◌∙◌}
use mathlib.Core.List.{List, head-eq_of_cons-eq, tail-eq_of_cons-eq}
use mathlib.Core.Option.{some-injective}
use native.Mathlib.Omega.{arith}
use Rattle.sheets_rules.specs.Model.{Shape, Cell, Library}
use Rattle.covers.specs.Match.{Input, Match, IsMatch}
use Rattle.covers.specs.Cover.{Cover, IsCover, bare, matching, AreCovers, done, more, nothing, leaf_cover, together, delayed, topped, input_delay}
use Rattle.covers.proofs.Ascending.{ascending_parts}
use Rattle.covers.specs.Inside.Curve.{gates}
use Rattle.covers.proofs.Matching.{Spread, next, match_inside}
use Rattle.covers.proofs.Listing.{cover_ascends, inputs_ascend}

module _ {l : Library} where
  -- A match at a node is known from its pattern's number and its crossing.
  match_determined : {load n : ℕ} {s : Shape} {m m' : Match} → IsMatch l load n s m → IsMatch l load n s m' → m.number ≡ m'.number → m.crossing ≡ m'.crossing → m ≡ m'
  match_determined {m} {m'} f f' e x =
      let p : m.pattern ≡ m'.pattern = some-injective m.pattern m'.pattern (rw (← f.numbered, e) f'.numbered) in
      let q : m.inputs ≡ m'.inputs = some-injective m.inputs m'.inputs (rw (← f.fits, x, p) f'.fits) in
      λ i. record { number = e i; crossing = x i; pattern = p i; inputs = q i }

  mutual
    unfolding leaf_cover nothing together delayed topped gates

    pub placed_determines : {load n : ℕ} {s : Shape} {c d : Cover} → IsCover l load n s c → IsCover l load n s d → c.placed ≡ d.placed → c ≡ d
    placed_determines (bare e) (bare f) p = e ∙ sym f
    placed_determines (bare e) (matching m f g k) p = absurd (omega (arith, (match_inside f).fewer))
    placed_determines (matching m f g e) (bare k) p = absurd (omega (arith, (match_inside f).fewer))
    placed_determines (matching {load} {n} m f g e) (matching {d = d'} m' f' g' e') p =
        let q = sym (ap (λ c. c.placed) e) ∙ p ∙ ap (λ c. c.placed) e' in
        let k = match_determined f f' (ap (λ x. x.pattern) (head-eq_of_cons-eq q)) (ap (λ x. x.crossing) (head-eq_of_cons-eq q)) in
        let r = inputs_determined g (subst (λ m. AreCovers l m.pattern.cell load m.inputs d') (sym k) g') (match_inside f).spread (tail-eq_of_cons-eq q) in
        e ∙ ap₂ (topped n) k r ∙ sym e'

    inputs_determined : {cell : Cell} {load : ℕ} {is : List Input} {c d : Cover} → AreCovers l cell load is c → AreCovers l cell load is d → {low high g : ℕ} → Spread low high g is → c.placed ≡ d.placed → c ≡ d
    inputs_determined (done e) (done f) s p = e ∙ sym f
    inputs_determined (more {cell} {load} {i} f g e) (more f' g' e') (next u v w) p =
        let parts = ascending_parts (cover_ascends f) (inputs_ascend g w) (cover_ascends f') (inputs_ascend g' w) (sym (ap (λ c. c.placed) e) ∙ p ∙ ap (λ c. c.placed) e') in
        e ∙ ap₂ (λ c d. together (delayed (input_delay cell load i) c) d) (placed_determines f f' parts.0) (inputs_determined g g' w parts.1) ∙ sym e'
