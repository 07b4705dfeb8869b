-- What is read to its end is read alike where bytes follow.
use Prim.Native.Nat.{ℕ, zero, suc, ◌+◌, ◌-◌, ◌*◌, ◌/◌, ◌≤◌, ◌<◌}
use mathlib.Core.Path.{◌≡◌, refl, ap, ap₂, ◌∙◌}
use mathlib.Core.Bool.{Bool, true, false, false≢true}
use mathlib.Core.List.{List, [], ◌∷◌, ◌++◌}
use native.Mathlib.Omega.{arith}
use lib.Dec.{leb, eqb}
use lib.ListN.{length, length-append, get_or-append}
use borrow.Table.Steps.{cases}
use borrow.Author.Tests.{le-leb, leb-true, eqb-true}
use Rattle.bits.specs.Bits.{bit_at, value_at, place_of, field_at, bytes_to, rest_of, filled_at, ends_at}
use Rattle.bits.proofs.Whole.{ends_says}
use Rattle.fields.specs.Reading.{Scan}
use Rattle.fields.specs.Reading.{At, Refused}
use Rattle.fields.specs.Reading.{Verdict}
use Rattle.fields.specs.Reading.{Reader, done, ◌>>=◌, times, within, free, field, scanned, tailed, Live}
use Rattle.shapes_rules.specs.declared.Rules.{Rules}
use Rattle.shapes_rules.specs.Shape.{plain_leaf, Shape, leaf, inv, nand, symbols, inv_symbol, nand_symbol}
use Rattle.shapes_rules.specs.Drawing.{code_verdict, leaf_verdict, leaf_node, driven_node, pair, branch, node, shape}
use Rattle.sheets_rules.specs.TreeSheet.{tree_rules, tree_to}
use Rattle.part_rules.specs.Part.{Link}
use Rattle.part_rules.specs.PartSheet.{tree_count_width, link_count_width, tree_width, leaf_width, trees_most, link, counts}

-- ---- bits

bit_front : (s rest : List ℕ) (i : ℕ) → i < 8 * length s → bit_at (s ++ rest) i ≡ bit_at s i
unfolding bit_at
bit_front s rest i h = rw (get_or-append s rest 0 (i / 8) (omega arith)) refl

value_front : (s rest : List ℕ) (i w : ℕ) → i + w ≤ 8 * length s → value_at (s ++ rest) i w ≡ value_at s i w
unfolding value_at
value_front s rest i zero h = refl
value_front s rest i (suc w) h = ap₂ (λ (a b : ℕ). 2 * a + b) (value_front s rest i w (omega arith)) (bit_front s rest (i + w) (omega arith))

inside : (s : List ℕ) (i : ℕ) → bytes_to i ≤ length s → i + rest_of i ≤ 8 * length s
unfolding bytes_to rest_of
inside s i h = omega arith

filled_more : (s rest : List ℕ) (i : ℕ) → bytes_to i ≤ length s → value_at s i (rest_of i) ≡ 0 → filled_at (s ++ rest) i ≡ true
unfolding filled_at
filled_more s rest i h e = rw (le-leb (bytes_to i) (length (s ++ rest)) (omega (arith, length-append s rest)), value_front s rest i (rest_of i) (inside s i h), e)

pub ended_filled : (s rest : List ℕ) (i : ℕ) → ends_at s i ≡ true → filled_at (s ++ rest) i ≡ true
ended_filled s rest i e = let r = ends_says s i e in filled_more s rest i (omega (arith, r.0)) r.1

filled_filled : (s rest : List ℕ) (i : ℕ) → filled_at s i ≡ true → filled_at (s ++ rest) i ≡ true
unfolding filled_at
filled_filled s rest i e = cases (leb (bytes_to i) (length s)) (λ p. cases (eqb (value_at s i (rest_of i)) 0)
    (λ q. filled_more s rest i (leb-true _ _ p) (eqb-true _ _ q)) (λ q. absurd (false≢true (rw (p, q) at e)))) (λ p. absurd (false≢true (rw p at e)))

-- ---- readers

-- What the first reader reads without a refusal, the second reads as well.
pub record Alike {A : Type 0} (r r' : Reader A) : Type 0 where
  pub alike : (c : Scan) → Live (r c).1 → (r' c ≡ r c) × Live c

alike_done : {A : Type 0} (a : A) → Alike (done a) (done a)
alike_done a = record { alike = λ c h. (refl, h) }

alike_then : {A B : Type 0} {r r' : Reader A} {k k' : A → Reader B} → Alike r r' → ((a : A) → Alike (k a) (k' a)) → Alike (r >>= k) (r' >>= k')
alike_then {A} {r = r} {k' = k'} f g = record {
  alike = λ c h.
      let later = (g (r c).0).alike (r c).1 h in
      let now = f.alike c later.1 in
      (ap (λ (x : A × Scan). k' x.0 x.1) now.0 ∙ later.0, now.1);
}

alike_times : {A : Type 0} (n : ℕ) {r r' : List A → Reader A} → ((xs : List A) → Alike (r xs) (r' xs)) → Alike (times n r) (times n r')
unfolding times
alike_times zero f = alike_done []
alike_times (suc n) f = alike_then (alike_times n f) (λ xs. alike_then (f xs) (λ x. alike_done (xs ++ (x ∷ []))))

alike_tail : {A : Type 0} (a : A) (wanted wanted' : ℕ → Bool) → ((i : ℕ) → wanted i ≡ true → wanted' i ≡ true) → Alike (λ c. (a, tailed wanted c)) (λ c. (a, tailed wanted' c))
alike_tail {A} a wanted wanted' f = record {
  alike = λ c. elim c as (λ c. Live (tailed wanted c) → (◌≡◌ {A = A × Scan} (a, tailed wanted' c) (a, tailed wanted c)) × Live c)
      [ At c ↦ λ h. (cases (wanted (place_of c)) (λ e. rw (e, f (place_of c) e)) (λ e. absurd (rw e at h)), tt) | Refused f p ↦ λ h. absurd h ];
}

module _ (s rest : List ℕ) where
  abbrev longer : List ℕ
  longer = s ++ rest

  found : (w : ℕ) (verdict : ℕ → Verdict) (i : ℕ) → Live (scanned i verdict (field_at s i w)).1 → field_at longer i w ≡ field_at s i w
  unfolding field_at
  found w verdict i h = cases (leb (i + w) (8 * length s)) (λ e.
      let room : i + w ≤ 8 * length s = leb-true _ _ e in
      rw (e, le-leb (i + w) (8 * length longer) (omega (arith, length-append s rest)), value_front s rest i w room)) (λ e. absurd (rw e at h))

  alike_field : (w : ℕ) (verdict : ℕ → Verdict) → Alike (field s w verdict) (field longer w verdict)
  alike_field w verdict = record {
    alike = λ c. elim c as (λ c. Live (field s w verdict c).1 → (field longer w verdict c ≡ field s w verdict c) × Live c)
        [ At c ↦ λ h. (ap (scanned (place_of c) verdict) (found w verdict (place_of c) h), tt) | Refused f p ↦ λ h. absurd h ];
  }

  module _ (rules : Rules) where
    alike_branch : {r r' : List ℕ → Reader Shape} → ((seen : List ℕ) → Alike (r seen) (r' seen)) → (seen : List ℕ) (code : ℕ) → Alike (branch s rules r seen code) (branch longer rules r' seen code)
    unfolding branch pair leaf_node driven_node
    alike_branch f seen zero = alike_then (alike_field rules.width (leaf_verdict rules seen)) (λ x. alike_done (plain_leaf x))
    alike_branch f seen (suc zero) = alike_then (f (seen ++ (inv_symbol ∷ []))) (λ a. alike_done (inv a))
    alike_branch f seen (suc (suc zero)) =
        alike_then {A = Shape × Shape} (alike_then (f (seen ++ (nand_symbol ∷ []))) (λ a. alike_then (f ((seen ++ (nand_symbol ∷ [])) ++ symbols a)) (λ b. alike_done (a, b)))) (λ ab. alike_done (nand ab.0 ab.1))
    alike_branch f seen (suc (suc (suc k))) = alike_then (alike_field rules.width (leaf_verdict rules seen)) (λ x. alike_then (alike_field 8 free) (λ y. alike_done (leaf (record { number = x; drive = y }))))

    alike_node : (depth : ℕ) (seen : List ℕ) → Alike (node s rules depth seen) (node longer rules depth seen)
    unfolding node
    alike_node zero seen = alike_done (plain_leaf 0)
    alike_node (suc depth) seen = alike_then (alike_field 2 (code_verdict rules (length seen))) (λ code. alike_branch (alike_node depth) seen code)

  -- A tree's own sheet, and the same before another.
  pub alike_tree : Alike (tree_to true s) (tree_to false longer)
  unfolding tree_to shape
  alike_tree =
      alike_then (alike_field 8 (within 0 255)) (λ load. alike_then (alike_field 24 (within 0 16777215)) (λ required. alike_then (alike_node tree_rules 65 []) (λ x. alike_tail (record { load = load; required = required; shape = x }) (ends_at s) (filled_at longer) (ended_filled s rest))))

  -- The counts and the links.
  alike_link : (trees : ℕ) (before : List Link) → Alike (link s trees before) (link longer trees before)
  unfolding link
  alike_link trees before =
      alike_then (alike_field tree_width (within 0 (trees - 1))) (λ reading. alike_then (alike_field leaf_width free) (λ node. alike_then (alike_field tree_width (within 0 (trees - 1))) (λ driving. alike_done (record { reading = reading; node = node; driving = driving }))))

  pub alike_counts : Alike (counts s) (counts longer)
  unfolding counts
  alike_counts =
      alike_then (alike_field tree_count_width (within 1 trees_most)) (λ trees. alike_then (alike_field link_count_width free) (λ count. alike_then (alike_times count (alike_link trees)) (λ links. alike_tail (record { trees = trees; links = links }) (filled_at s) (filled_at longer) (filled_filled s rest))))
