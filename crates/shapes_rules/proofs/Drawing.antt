-- Laws about shapes, and about reading them from a sheet.
use mathlib.Core.Path.{◌≡◌, refl, ap, ap₂, subst, ◌∙◌}
use mathlib.Core.List.{List}
use mathlib.Core.Bool.{Bool, true, false, cond, ◌&&◌}
use Prim.Native.Nat.{ℕ, zero, suc, ◌+◌, ◌≤◌, ◌<◌}
use native.Mathlib.Omega.{arith}
use lib.ListN.{length, length-append}
use lib.Dec.{leb, eqb}
use borrow.Author.Tests.{leb-true, leb-false}
use Rattle.shapes_rules.specs.declared.Rules.{Rules}
use Rattle.fields.specs.Reading.{Scan}
use Rattle.fields.specs.Reading.{At, Refused}
use Rattle.fields.specs.declared.Fault.TheVariants.{Range, Drawing, Size}
use Rattle.fields.specs.Reading.{Sound, Faulty}
use Rattle.shapes_rules.specs.Shape.{Shape, leaf, inv, nand, size, leaves, nands, symbols, sizes, leaf_symbol, pin_symbol, plain}
use Rattle.shapes_rules.specs.Drawing.{elem, leaf_verdict, leaf_node, branch, node, code_verdict}
use Rattle.fields.specs.Reading.{Live}

-- A leaf that passes has a number in range, and a pattern's pin stands at no leaf before.
pub leaf_passes : (rules : Rules) (seen : List ℕ) (x : ℕ) → leaf_verdict rules seen x ≡ Sound →
    (x ≤ rules.most) × (rules.pattern ≡ true → elem (pin_symbol x) seen ≡ false)
unfolding leaf_verdict
leaf_passes rules seen x e = go (leb x rules.most) rules.pattern (elem (pin_symbol x) seen) refl e
  where
    go : (a b k : Bool) → leb x rules.most ≡ a → cond a (cond (b && k) (Faulty Drawing) Sound) (Faulty Range) ≡ Sound → (x ≤ rules.most) × (b ≡ true → k ≡ false)
    go true true true ea e = let z : ◌≡◌ {A = ℕ} 0 1 = cc in absurd (omega arith)
    go true true false ea e = (leb-true x rules.most ea, λ p. refl)
    go true false k ea e = (leb-true x rules.most ea, λ p. cc)
    go false b k ea e = let z : ◌≡◌ {A = ℕ} 0 1 = cc in absurd (omega arith)

-- A leaf with no drive is its number.
pub plain_symbol : (x : ℕ) → leaf_symbol (plain x) ≡ pin_symbol x
plain_symbol x = omega arith

pub length_symbols : (x : Shape) → length (symbols x) ≡ size x
unfolding symbols size
length_symbols (leaf x) = refl
length_symbols (inv a) = ap suc (length_symbols a)
length_symbols (nand a b) = ap suc (length-append (symbols a) (symbols b) ∙ ap₂ ◌+◌ (length_symbols a) (length_symbols b))

pub length_sizes : (x : Shape) → length (sizes x) ≡ size x
unfolding sizes size
length_sizes (leaf x) = refl
length_sizes (inv a) = ap suc (length_sizes a)
length_sizes (nand a b) = ap suc (length-append (sizes a) (sizes b) ∙ ap₂ ◌+◌ (length_sizes a) (length_sizes b))

-- A shape has one leaf more than NANDs.
pub leaves_nands : (d : Shape) → length (leaves d) ≡ suc (nands d)
unfolding leaves nands
leaves_nands (leaf x) = refl
leaves_nands (inv a) = leaves_nands a
leaves_nands (nand a b) = omega (arith, length-append (leaves a) (leaves b), leaves_nands a, leaves_nands b)

-- A refused scan stays as it is.
pub node_dead : (s : List ℕ) (rules : Rules) (d : ℕ) (seen : List ℕ) (c : Scan) → (Live c → ⊥) → (node s rules d seen c).1 ≡ c
unfolding node branch leaf_node
node_dead s rules zero seen c h = refl
node_dead s rules (suc d) seen (At c) h = absurd (h tt)
node_dead s rules (suc d) seen (Refused f p) h = refl

pub node_live : (s : List ℕ) (rules : Rules) (d : ℕ) (seen : List ℕ) (c : Scan) → Live (node s rules d seen c).1 → Live c
node_live s rules d seen (At c) h = tt
node_live s rules d seen (Refused f p) h = subst Live (node_dead s rules d seen (Refused f p) (λ q. q)) h

-- A code that passes: there is room for its node, and a pattern has no driven leaf.
pub code_room : (rules : Rules) (n code : ℕ) → code_verdict rules n code ≡ Sound → (n < rules.nodes) × (rules.pattern ≡ true → code ≤ 2)
unfolding code_verdict
code_room rules n code e = go (leb rules.nodes n) rules.pattern (leb 3 code) refl refl e
  where
    no_pattern_lem : ◌≡◌ {A = Bool} false true → ⊥
    no_pattern_lem q = let z : ◌≡◌ {A = ℕ} 0 1 = cc in absurd (omega arith)

    go : (a p b : Bool) → leb rules.nodes n ≡ a → leb 3 code ≡ b →
        cond a (Faulty Size) (cond (p && b) (Faulty Range) (cond (p && (eqb n 0 && eqb code 0)) (Faulty Drawing) Sound)) ≡ Sound → (n < rules.nodes) × (p ≡ true → code ≤ 2)
    go true p b ea eb e = let z : ◌≡◌ {A = ℕ} 0 1 = cc in absurd (omega arith)
    go false true true ea eb e = let z : ◌≡◌ {A = ℕ} 0 1 = cc in absurd (omega arith)
    go false true false ea eb e = (leb-false rules.nodes n ea, λ q. omega (arith, leb-false 3 code eb))
    go false false b ea eb e = (leb-false rules.nodes n ea, λ q. absurd (no_pattern_lem q))
