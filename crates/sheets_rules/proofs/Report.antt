-- Laws about what the judges of sheets say.
use mathlib.Core.Path.{◌≡◌, refl, ap, subst, ◌∙◌}
use mathlib.Core.List.{List, [], ◌∷◌, ◌++◌}
use Prim.Native.Nat.{ℕ, zero, suc, ◌+◌, ◌*◌, ◌/◌, ◌%◌, ◌≤◌, ◌<◌}
use native.Mathlib.Omega.{arith}
use lib.ListN.{length}
use mathlib.Core.Bool.{Bool, true, false, cond, ◌&&◌}
use lib.Dec.{leb}
use Rattle.bits.specs.declared.Cursor.{Cursor}
use Rattle.std.specs.Prelude.{Some, None}
use Rattle.bits.specs.Bits.{place_of, field_at, bytes_to}
use Rattle.bits.proofs.Whole.{ends_says, fills_says}
use Rattle.fields.specs.declared.Fault.{Fault}
use Rattle.fields.specs.declared.Fault.TheVariants.{Truncated, Tail, Range, Drawing, Size}
use Rattle.fields.specs.Answer.{Answer, refused_in, success, on_success, numbers, word, of_word, Bounded}
use Rattle.fields.specs.Reading.{Scan}
use Rattle.fields.specs.Reading.{At, Refused}
use Rattle.fields.specs.Reading.{Verdict}
use Rattle.fields.specs.Reading.{Sound, Faulty}
use Rattle.fields.specs.Reading.{start, place, free, within, settled, scanned, tailed, field}
use Rattle.shapes_rules.specs.Shape.{symbols, inv_symbol, nand_symbol}
use Rattle.shapes_rules.specs.Drawing.{code_verdict, leaf_verdict, leaf_node, driven_node, pair, branch, node, shape}
use Rattle.fields.proofs.Answer.{word_reads}
use Rattle.fields.proofs.Laws.{tailed_wanted}
use Rattle.sheets_rules.specs.TreeSheet.{tree_rules, tail_at, tree_to}
use Rattle.sheets_rules.specs.Report.{LibraryLimits, library_number, tree_number, TreeRefusal, torn, loose_tail, off_the_scale, overgrown, LibraryCounts, library_word, of_library_word}

-- The bytes that it takes up are there.
pub tree_room : (last : Bool) (s : List ℕ) (c : Cursor) → (tree_to last s start).1 ≡ At c → bytes_to (place_of c) ≤ length s
unfolding tree_to
tree_room last s c e =
    (elim last as (λ b. tail_at b s (place_of c) ≡ true → bytes_to (place_of c) ≤ length s) [ true ↦ λ f. omega (arith, ends_says s (place_of c) f) | false ↦ λ f. fills_says s (place_of c) f ])
    (tailed_wanted (tail_at last s) (shape s tree_rules (field s 24 (within 0 16777215) (field s 8 (within 0 255) start).1).1).1 c e)

pub number_bounds : (f : Fault) → (1 ≤ library_number f) × (library_number f ≤ 6)
unfolding library_number
number_bounds = elim [ Truncated ↦ omega arith | Tail ↦ omega arith | Range ↦ omega arith | Drawing ↦ omega arith | Size ↦ omega arith ]

-- The numbers of both sheets fit a word.
pub library_number_fits : (f : Fault) → (1 ≤ library_number f) × (library_number f < numbers)
library_number_fits f = omega (arith, number_bounds f)

pub tree_number_fits : (f : Fault) → (1 ≤ tree_number f) × (tree_number f < numbers)
unfolding tree_number
tree_number_fits f = omega (arith, number_bounds f)

-- What a caller reads from the word of an answer with counts is the answer.
pub counts_read : (o : Answer LibraryCounts) → Bounded (on_success library_word o) → LibraryLimits o → on_success of_library_word (of_word (word (on_success library_word o))) ≡ o
unfolding on_success library_word of_library_word LibraryLimits
counts_read o h limits = ap (on_success of_library_word) (word_reads (on_success library_word o) h) ∙
    (elim o as (λ o. LibraryLimits o → on_success of_library_word (on_success library_word o) ≡ o) [
      | refused_in item number place ↦ λ g. refl
      | success n ↦ λ g.
          let cells : (n.cells * 256 + n.patterns) / 256 ≡ n.cells = omega (arith, g.1) in
          let patterns : (n.cells * 256 + n.patterns) % 256 ≡ n.patterns = omega (arith, g.1) in
          λ i. success (record { cells = cells i; patterns = patterns i })
    ]) limits

-- ---- a tree is never misdrawn

-- If it is refused, with one of a tree's numbers.
abbrev OfTree : Scan → Type 0
OfTree (At c) = Unit {0}
OfTree (Refused f p) = TreeRefusal (tree_number f)

abbrev VerdictOfTree : Verdict → Type 0
VerdictOfTree Sound = Unit {0}
VerdictOfTree (Faulty f) = TreeRefusal (tree_number f)

range_of_tree : (b : Bool) → VerdictOfTree (cond b Sound (Faulty Range))
unfolding tree_number library_number
range_of_tree true = tt
range_of_tree false = off_the_scale

within_of_tree : (least most x : ℕ) → VerdictOfTree (within least most x)
unfolding within
within_of_tree least most x = range_of_tree (leb least x && leb x most)

module _ (s : List ℕ) where
  field_of_tree : (w : ℕ) (verdict : ℕ → Verdict) → ((x : ℕ) → VerdictOfTree (verdict x)) → (c : Scan) → OfTree c → OfTree (field s w verdict c).1
  unfolding tree_number library_number
  field_of_tree w verdict h (Refused f p) g = g
  field_of_tree w verdict h (At c) g = elim (field_at s (place_of c) w) as (λ r. OfTree (scanned (place_of c) verdict r).1) [
    | None ↦ torn
    | Some (x, n) ↦
        (elim (verdict x) as (λ v. VerdictOfTree v → OfTree (settled (place_of c) v x (At n)).1) [ Sound ↦ λ k. tt | Faulty f ↦ λ k. k ]) (h x)
  ]

  leaf_of_tree : (seen : List ℕ) (c : Scan) → OfTree c → OfTree (field s 20 (leaf_verdict tree_rules seen) c).1
  unfolding leaf_verdict
  leaf_of_tree seen = field_of_tree 20 (leaf_verdict tree_rules seen) (λ x. range_of_tree (leb x 1000000))

  abbrev NodesOfTree : ℕ → Type 0
  NodesOfTree d = (seen : List ℕ) (c : Scan) → OfTree c → OfTree (node s tree_rules d seen c).1

  branch_of_tree : (d : ℕ) → NodesOfTree d → (seen : List ℕ) (code : ℕ) (c : Scan) → OfTree c → OfTree (branch s tree_rules (node s tree_rules d) seen code c).1
  unfolding branch leaf_node driven_node pair
  branch_of_tree d below seen zero c g = leaf_of_tree seen c g
  branch_of_tree d below seen (suc zero) c g = below (seen ++ (inv_symbol ∷ [])) c g
  branch_of_tree d below seen (suc (suc zero)) c g =
      let first = seen ++ (nand_symbol ∷ []) in
      let a = node s tree_rules d first c in
      below (first ++ symbols a.0) a.1 (below first c g)
  branch_of_tree d below seen (suc (suc (suc k))) c g = field_of_tree 8 free (λ x. tt) (field s 20 (leaf_verdict tree_rules seen) c).1 (leaf_of_tree seen c g)

  node_of_tree : (d : ℕ) → NodesOfTree d
  unfolding node code_verdict tree_number library_number
  node_of_tree zero seen c g = g
  node_of_tree (suc d) seen c g =
      let code = field s 2 (code_verdict tree_rules (length seen)) c in
      let passes = elim (leb 64 (length seen)) as (λ b. VerdictOfTree (cond b (Faulty Size) Sound)) [ true ↦ overgrown | false ↦ tt ] in
      branch_of_tree d (node_of_tree d) seen code.0 code.1 (field_of_tree 2 (code_verdict tree_rules (length seen)) (λ x. passes) c g)

  tailed_of_tree : (wanted : ℕ → Bool) (c : Scan) → OfTree c → OfTree (tailed wanted c)
  unfolding tree_number library_number
  tailed_of_tree wanted (Refused f p) g = g
  tailed_of_tree wanted (At c) g = elim (wanted (place_of c)) as (λ b. OfTree (cond b (At c) (Refused Tail (place_of c)))) [ true ↦ tt | false ↦ loose_tail ]

  pub tree_refusal : (last : Bool) {f : Fault} {p : ℕ} → (tree_to last s start).1 ≡ Refused f p → TreeRefusal (tree_number f)
  unfolding tree_to shape
  tree_refusal last e =
      let load = (field s 8 (within 0 255) start).1 in
      let required = (field s 24 (within 0 16777215) load).1 in
      subst OfTree e (tailed_of_tree (tail_at last s) (shape s tree_rules required).1 (node_of_tree 65 [] required
      (field_of_tree 24 (within 0 16777215) (within_of_tree 0 16777215) load (field_of_tree 8 (within 0 255) (within_of_tree 0 255) start tt))))
