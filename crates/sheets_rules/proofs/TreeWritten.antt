-- A tree sheet that is written says its tree: the reader reads it back.
use Prim.Native.Nat.{ℕ, zero, suc, ◌+◌, ◌≤◌, ◌<◌}
use mathlib.Core.Path.{◌≡◌, refl, sym, ap, ap₂, ◌∙◌}
use mathlib.Core.List.{List, [], ◌∷◌, ◌++◌, append-nil}
use native.Mathlib.Omega.{arith}
use lib.ListN.{length, length-append}
use borrow.Author.Tests.{le-leb, lt-leb}
use Rattle.bits.specs.Bits.{cursor_at}
use Rattle.fields.specs.Answer.{success, said}
use Rattle.sheets_rules.specs.Report.{tree_number, tree_said}
use Rattle.fields.specs.Reading.{At}
use Rattle.fields.specs.Reading.{Sound}
use Rattle.fields.specs.Reading.{Reader, done, ◌>>=◌, within, free, field, ended, start}
use Rattle.fields.specs.Written.{Field, widths, packed}
use Rattle.fields.proofs.Written.{Says, says_sound, says_field, says_done, says_then, says_end, says_all}
use Rattle.shapes_rules.specs.Shape.{symbols}
use Rattle.shapes_rules.specs.Drawing.{code_verdict, leaf_verdict, leaf_node, driven_node, pair, branch, node, shape}
use Rattle.shapes_rules.proofs.Drawing.{length_symbols}
use Rattle.sheets_rules.specs.Model.{plain_leaf, Shape, leaf, inv, nand, size, Tree}
use Rattle.sheets_rules.specs.TreeSheet.{tree_rules, tree_to, tree}
use Rattle.sheets_rules.specs.TreeWritten.{CodedTree, code0, code1, code2, code3, coded_fields, shape_of, tree_fields, tree_sheet, Ranged, SoundCoded, plainly, Undriven, SameTree, SameWithPlain}

-- A code passes while there is room for its node, and an arrival up to the latest.
passes_range : (most x : ℕ) → x ≤ most → within 0 most x ≡ Sound
unfolding within
passes_range most x h = rw (le-leb 0 x (omega arith), le-leb x most h) refl

module _ (all : List Field) where
  abbrev s : List ℕ
  s = packed all

  -- What follows a code says the rest of a node.
  coded : (d : ℕ) (seen : List ℕ) (k : ℕ) {fs rest : List Field} {x : Shape} → k < 4 → length seen < 64 → Says all (branch s tree_rules (node s tree_rules d) seen k) fs rest x →
      Says all (node s tree_rules (suc d) seen) (record { value = k; width = 2 } ∷ fs) rest x
  unfolding node code_verdict
  coded d seen k small room h = says_then (branch s tree_rules (node s tree_rules d) seen) (says_sound 2 (code_verdict tree_rules (length seen)) small (rw (lt-leb 64 (length seen) room))) h

  arrival_says : (seen : List ℕ) {rest : List Field} {x : ℕ} → x ≤ 1000000 → Says all (field s 20 (leaf_verdict tree_rules seen)) (record { value = x; width = 20 } ∷ []) rest x
  unfolding leaf_verdict
  arrival_says seen {x = x} h = says_sound 20 (leaf_verdict tree_rules seen) (omega arith) (rw (le-leb x 1000000 h))

  node_says : (x : CodedTree) (d : ℕ) (seen : List ℕ) (rest : List Field) → Ranged x → length seen + size (shape_of x) ≤ 64 → size (shape_of x) ≤ d → Says all (node s tree_rules d seen) (coded_fields x) rest (shape_of x)
  unfolding coded_fields shape_of size branch leaf_node driven_node pair
  node_says x zero seen rest h room deep = absurd ((elim x as (λ y. size (shape_of y) ≤ 0 → ⊥) [ code0 n ↦ λ g. omega arith | code1 a ↦ λ g. omega arith | code2 a b ↦ λ g. omega arith | code3 n e ↦ λ g. omega arith ]) deep)
  node_says (code0 x) (suc d) seen rest h room deep = coded d seen 0 (omega arith) (omega arith) (says_then (λ y. done (plain_leaf y)) (arrival_says seen h) (says_done (plain_leaf x)))
  node_says (code1 a) (suc d) seen rest h room deep =
      coded d seen 1 (omega arith) (omega arith)
      (simp append-nil at (says_then (λ y. done (inv y)) (node_says a d (seen ++ (0 ∷ [])) ([] ++ rest) h (omega (arith, length-append seen (0 ∷ []))) (omega arith)) (says_done (inv (shape_of a)))))
  node_says (code2 a b) (suc d) seen rest h room deep =
      let first = seen ++ (1 ∷ []) in
      let second = first ++ symbols (shape_of a) in
      let longer : length second ≡ length seen + 1 + size (shape_of a) = omega (arith, length-append first (symbols (shape_of a)), length-append seen (1 ∷ []), length_symbols (shape_of a)) in
      coded d seen 2 (omega arith) (omega arith)
      (simp append-nil at (says_then {rest = rest} (λ (ab : Shape × Shape). done (nand ab.0 ab.1))
      (says_then (λ (y : Shape). node s tree_rules d (first ++ symbols y) >>= (λ (z : Shape). done (y, z))) (node_says a d first _ h.0 (omega (arith, length-append seen (1 ∷ []))) (omega arith))
      (says_then (λ (z : Shape). done (shape_of a, z)) (node_says b d second _ h.1 (omega arith) (omega arith)) (says_done (shape_of a, shape_of b))))
      (says_done (nand (shape_of a) (shape_of b)))))
  node_says (code3 x e) (suc d) seen rest h room deep =
      coded d seen 3 (omega arith) (omega arith)
      (says_then (λ y. field s 8 free >>= (λ z. done (leaf (record { number = y; drive = z })))) (arrival_says seen h.0)
      (says_then (λ z. done (leaf (record { number = x; drive = z }))) (says_field 8 (omega (arith, h.1))) (says_done (leaf (record { number = x; drive = e })))))

-- The whole sheet.
pub tree_reads : (load required : ℕ) (x : CodedTree) → SoundCoded load required x →
    tree (tree_sheet load required x) start ≡ (record { load = load; required = required; shape = shape_of x }, At (cursor_at (widths (tree_fields load required x))))
unfolding tree_to tree_sheet tree_fields shape
tree_reads load required x h =
    let all = tree_fields load required x in
    let s = packed all in
    let last : ℕ → ℕ → Shape → Reader Tree = λ l r y c. (record { load = l; required = r; shape = y }, ended s c) in
    let timed : ℕ → Reader Tree = λ l. field s 24 (within 0 16777215) >>= (λ r. shape s tree_rules >>= last l r) in
    says_all (ap (λ (fs : List Field). record { value = load; width = 8 } ∷ record { value = required; width = 24 } ∷ fs) (append-nil (coded_fields x)))
    (says_then timed (says_sound 8 (within 0 255) (omega (arith, h.light)) (passes_range 255 load h.light))
    (says_then (λ r. shape s tree_rules >>= last load r) (says_sound 24 (within 0 16777215) (omega (arith, h.timed)) (passes_range 16777215 required h.timed))
    (says_then (last load required) (node_says all x 65 [] _ h.ranged (omega (arith, h.nodes)) (omega (arith, h.nodes)))
    (says_end (record { load = load; required = required; shape = shape_of x })))))

-- Driven leaves with drive 0 stand for plain ones.
pub plainly_same : (x : CodedTree) → Undriven x → shape_of (plainly x) ≡ shape_of x
unfolding shape_of plainly
plainly_same (code0 x) h = refl
plainly_same (code1 a) h = ap inv (plainly_same a h)
plainly_same (code2 a b) h = ap₂ nand (plainly_same a h.0) (plainly_same b h.1)
plainly_same (code3 x d) h = ap (λ (k : ℕ). leaf (record { number = x; drive = k })) (sym h)

plainly_ranged : (x : CodedTree) → Ranged x → Ranged (plainly x)
unfolding plainly
plainly_ranged (code0 x) h = h
plainly_ranged (code1 a) h = plainly_ranged a h
plainly_ranged (code2 a b) h = (plainly_ranged a h.0, plainly_ranged b h.1)
plainly_ranged (code3 x d) h = h.0

pub plainly_sound : (load required : ℕ) (x : CodedTree) → SoundCoded load required x → Undriven x → SoundCoded load required (plainly x)
plainly_sound load required x h u = record { light = h.light; timed = h.timed; nodes = rw (plainly_same x u) h.nodes; ranged = plainly_ranged x h.ranged }

pub same_with_plain : SameWithPlain
unfolding tree_said
same_with_plain load required x h u = record {
  tree = record { load = load; required = required; shape = shape_of x };
  first = ap (said tree_number) (tree_reads load required x h);
  second = ap (said tree_number) (tree_reads load required (plainly x) (plainly_sound load required x h u)) ∙ ap (λ (s : Shape). success (record { load = load; required = required; shape = s })) (plainly_same x u);
}

-- So they say the same.
pub same_said : {ts ts' : List ℕ} → SameTree ts ts' → tree_said ts ≡ tree_said ts'
same_said s = s.first ∙ sym s.second
