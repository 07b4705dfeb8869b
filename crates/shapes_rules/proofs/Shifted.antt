-- Reading a shape from the bytes from number b on is reading it from the whole: the same shape, every place 8 * b farther.
use mathlib.Core.Path.{◌≡◌, refl, ap, ap₂, ◌∙◌}
use mathlib.Core.List.{List, [], ◌∷◌, ◌++◌}
use mathlib.Core.Bool.{Bool, true, false, cond}
use Prim.Native.Nat.{ℕ, zero, suc, ◌+◌, ◌*◌, ◌≤◌, ◌<◌}
use native.Mathlib.Omega.{arith}
use lib.ListN.{length, drop}
use lib.Dec.{leb}
use borrow.Author.Tests.{lt-leb}
use Rattle.bits.specs.declared.Cursor.{Cursor}
use Rattle.std.specs.Prelude.{Some, None}
use Rattle.bits.specs.Bits.{place_of, cursor_at, value_at, field_at}
use Rattle.bits.proofs.Laws.{place_at}
use Rattle.bits.proofs.Words.{value_drop, fits_drop}
use Rattle.fields.specs.declared.Fault.TheVariants.{Truncated as TruncatedFault}
use Rattle.fields.specs.Reading.{Scan}
use Rattle.fields.specs.Reading.{At, Refused}
use Rattle.fields.specs.Reading.{Verdict}
use Rattle.fields.specs.Reading.{Sound, Faulty}
use Rattle.fields.specs.Reading.{Reader, field, free, scanned, settled}
use Rattle.shapes_rules.specs.declared.Rules.{Rules}
use Rattle.shapes_rules.specs.Shape.{plain, Shape, leaf, inv, nand, symbols}
use Rattle.shapes_rules.specs.Drawing.{code_verdict, leaf_verdict, leaf_node, driven_node, pair, branch, node, shape}

abbrev pub shift : ℕ → Scan → Scan
shift b (At c) = At (cursor_at (8 * b + place_of c))
shift b (Refused f p) = Refused f (8 * b + p)

-- What was read, with the scan after it farther on.
abbrev shifted : {A : Type 0} → ℕ → A × Scan → A × Scan
shifted b x = (x.0, shift b x.1)

module _ (s : List ℕ) (b : ℕ) (few : b ≤ length s) where
  abbrev t : List ℕ
  t = drop b s

  pub field_shift : (w : ℕ) (v : ℕ → Verdict) (c c' : Cursor) → place_of c' ≡ 8 * b + place_of c → field s w v (At c') ≡ shifted b (field t w v (At c))
  unfolding field_at
  field_shift w v c c' e = ap (λ (p : ℕ). scanned p v (field_at s p w)) e ∙ found ∙ go (leb (place_of c + w) (8 * length t))
    where
      p : ℕ
      p = place_of c

      settle : (d : Verdict) (x : ℕ) → settled (8 * b + p) d x (At (cursor_at (8 * b + p + w))) ≡ shifted b (settled p d x (At (cursor_at (p + w))))
      settle Sound x =
          let there : 8 * b + p + w ≡ 8 * b + place_of (cursor_at (p + w)) = omega (arith, place_at (p + w)) in
          ap (λ (i : ℕ). (x, At (cursor_at i))) there
      settle (Faulty f) x = refl

      found : scanned (8 * b + p) v (cond (leb (8 * b + p + w) (8 * length s)) (Some (value_at s (8 * b + p) w, cursor_at (8 * b + p + w))) None)
          ≡ scanned (8 * b + p) v (cond (leb (p + w) (8 * length t)) (Some (value_at t p w, cursor_at (8 * b + p + w))) None)
      found =
          let reach : leb (8 * b + p + w) (8 * length s) ≡ leb (p + w) (8 * length t) = ap (λ (i : ℕ). leb i (8 * length s)) (omega arith) ∙ fits_drop s b (p + w) few in
          ap₂ (λ (q : Bool) (x : ℕ). scanned (8 * b + p) v (cond q (Some (x, cursor_at (8 * b + p + w))) None)) reach (value_drop s b p w)

      go : (q : Bool) → scanned (8 * b + p) v (cond q (Some (value_at t p w, cursor_at (8 * b + p + w))) None) ≡ shifted b (scanned p v (cond q (Some (value_at t p w, cursor_at (p + w))) None))
      go true = settle (v (value_at t p w)) (value_at t p w)
      go false = refl

  field_scan : (w : ℕ) (v : ℕ → Verdict) (c : Scan) → field s w v (shift b c) ≡ shifted b (field t w v c)
  field_scan w v (At c) = field_shift w v c (cursor_at (8 * b + place_of c)) (place_at (8 * b + place_of c))
  field_scan w v (Refused f p) = refl

  module _ (rules : Rules) where
    leaf_shift : (seen : List ℕ) (c : Scan) → leaf_node s rules seen (shift b c) ≡ shifted b (leaf_node t rules seen c)
    unfolding leaf_node
    leaf_shift seen c = ap (λ (x : ℕ × Scan). (leaf (plain x.0), x.1)) (field_scan rules.width (leaf_verdict rules seen) c)

    driven_shift : (seen : List ℕ) (c : Scan) → driven_node s rules seen (shift b c) ≡ shifted b (driven_node t rules seen c)
    unfolding driven_node
    driven_shift seen c =
        let first = field t rules.width (leaf_verdict rules seen) c in
        ap (λ (x : ℕ × Scan). (leaf (record { number = x.0; drive = (field s 8 free x.1).0 }), (field s 8 free x.1).1)) (field_scan rules.width (leaf_verdict rules seen) c)
        ∙ ap (λ (y : ℕ × Scan). (leaf (record { number = first.0; drive = y.0 }), y.1)) (field_scan 8 free first.1)

    -- A reader of branches that is shifted shifts what follows a code.
    module _ (f g : List ℕ → Reader Shape) (same : (seen : List ℕ) (c : Scan) → f seen (shift b c) ≡ shifted b (g seen c)) where
      pair_shift : (seen : List ℕ) (c : Scan) → pair s rules f seen (shift b c) ≡ shifted b (pair t rules g seen c)
      unfolding pair
      pair_shift seen c =
          let first = g seen c in
          ap (λ (x : Shape × Scan). ((x.0, (f (seen ++ symbols x.0) x.1).0), (f (seen ++ symbols x.0) x.1).1)) (same seen c)
          ∙ ap (λ (y : Shape × Scan). ((first.0, y.0), y.1)) (same (seen ++ symbols first.0) first.1)

      branch_shift : (seen : List ℕ) (code : ℕ) (c : Scan) → branch s rules f seen code (shift b c) ≡ shifted b (branch t rules g seen code c)
      unfolding branch
      branch_shift seen zero c = leaf_shift seen c
      branch_shift seen (suc zero) c = ap (λ (x : Shape × Scan). (inv x.0, x.1)) (same (seen ++ (0 ∷ [])) c)
      branch_shift seen (suc (suc zero)) c = ap (λ (x : (Shape × Shape) × Scan). (nand x.0.0 x.0.1, x.1)) (pair_shift (seen ++ (1 ∷ [])) c)
      branch_shift seen (suc (suc (suc k))) c = driven_shift seen c

    node_shift : (d : ℕ) (seen : List ℕ) (c : Scan) → node s rules d seen (shift b c) ≡ shifted b (node t rules d seen c)
    unfolding node
    node_shift zero seen c = refl
    node_shift (suc d) seen c =
        let x = field t 2 (code_verdict rules (length seen)) c in
        ap (λ (y : ℕ × Scan). branch s rules (node s rules d) seen y.0 y.1) (field_scan 2 (code_verdict rules (length seen)) c)
        ∙ branch_shift (node s rules d) (node t rules d) (node_shift d) seen x.0 x.1

    pub shape_shift : (c c' : Cursor) → place_of c' ≡ 8 * b + place_of c → shape s rules (At c') ≡ shifted b (shape t rules (At c))
    unfolding shape node
    shape_shift c c' e =
        let x = field t 2 (code_verdict rules 0) (At c) in
        ap (λ (y : ℕ × Scan). branch s rules (node s rules rules.nodes) [] y.0 y.1) (field_shift 2 (code_verdict rules 0) c c' e)
        ∙ branch_shift (node s rules rules.nodes) (node t rules rules.nodes) (node_shift rules.nodes) [] x.0 x.1

-- Where the bytes end before the first code.
pub shape_truncated : (s : List ℕ) (rules : Rules) (c : Cursor) → 8 * length s < place_of c + 2 → (shape s rules (At c)).1 ≡ Refused TruncatedFault (place_of c)
unfolding shape node branch leaf_node field_at
shape_truncated s rules c h = rw (lt-leb (place_of c + 2) (8 * length s) h) refl
