-- A sound tree stands on some sheet, and the judge of covers accepts a mapped tree's cover for every sheet of the tree.
use Prim.Native.Nat.{ℕ}
use mathlib.Core.Path.{◌≡◌, refl, ap, ap₂, ◌∙◌}
use mathlib.Core.List.Memᴰ
use mathlib.Core.List.{List, Memᴰ}
use mathlib.Core.Option.{Option}
use Rattle.fields.specs.Answer.{success, said}
use Rattle.sheets_rules.specs.Model.{Leaf, Shape, leaf, inv, nand, leaves, Library, Tree}
use Rattle.sheets_rules.specs.Report.{tree_number, library_said, tree_said}
use Rattle.sheets_rules.specs.Inside.Sound.{SoundLeaf, SoundTree}
use Rattle.sheets_rules.specs.TreeWritten.{CodedTree, code1, code2, code3, shape_of, tree_sheet, Ranged}
use Rattle.sheets_rules.proofs.Sound.{library_sound}
use Rattle.sheets_rules.proofs.TreeWritten.{tree_reads}
use Rattle.covers.specs.Cover.{Cover}
use Rattle.covers.specs.CoverSheet.{cover_sheet}
use Rattle.covers.proofs.ReadBack.{cover_reads}
use Rattle.covers.proofs.FromSheets.{cover_fits}
use Rattle.judge_rules.proofs.Demands.{judge_demands}
use Rattle.part_rules.specs.Part.{known_tree}
use Rattle.part_rules.specs.Demands.{IsMapped, IsAccepted}
use Rattle.part_rules.proofs.Known.{known_sound}

-- A shape with every leaf written as a driven one.
coded : Shape → CodedTree
coded (leaf x) = code3 x.number x.drive
coded (inv a) = code1 (coded a)
coded (nand a b) = code2 (coded a) (coded b)

-- It stands for that shape, and keeps the sheet's rules where the leaves are sound.
coded_shape : (s : Shape) → shape_of (coded s) ≡ s
unfolding coded shape_of
coded_shape (leaf x) = refl
coded_shape (inv a) = ap inv (coded_shape a)
coded_shape (nand a b) = ap₂ nand (coded_shape a) (coded_shape b)

coded_ranged : (s : Shape) → ((x : Leaf) → Memᴰ x (leaves s) → SoundLeaf x) → Ranged (coded s)
unfolding coded leaves
coded_ranged (leaf x) h = h x (Memᴰ.head refl)
coded_ranged (inv a) h = coded_ranged a h
coded_ranged (nand a b) h = (coded_ranged a (λ x m. h x (Memᴰ.append_left (leaves b) m)), coded_ranged b (λ x m. h x (Memᴰ.append_right (leaves a) m)))

-- Every sound tree is said by some sheet.
tree_written : (t : Tree) → SoundTree t → (ts : List ℕ) × (tree_said ts ≡ success t)
unfolding tree_said
tree_written t h =
    let x = coded t.shape in
    let same = coded_shape t.shape in
    let reads = tree_reads t.load t.required x (record { light = h.load; timed = h.required; nodes = rw same h.size; ranged = coded_ranged t.shape h.leaves }) in
    (tree_sheet t.load t.required x, ap (said tree_number) reads ∙ ap (λ (s : Shape). success (record { load = t.load; required = t.required; shape = s })) same)

-- The judge accepts the cover of a mapped tree, for the tree with the arrivals put in.
pub is_accepted : (ls : List ℕ) {l : Library} {most : ℕ} {f : ℕ → Option ℕ} {t : Tree} {c : Cover} → library_said ls ≡ success l → SoundTree t → IsMapped most l f t c → IsAccepted ls (known_tree f t) c
is_accepted ls {l} {f = f} {t = t} {c = c} e sound m =
    let known = known_sound sound m.none_late in
    let legal = m.best.best.legal in
    let reads = cover_reads (cover_fits (library_sound ls e) known legal) in
    record { reads = reads; some_sheet = tree_written (known_tree f t) known; accepts = λ ts e'. ((judge_demands ls ts (cover_sheet c) l (known_tree f t) e e').exactly.accepted_exactly c.point).1 (c, reads, legal, refl) }
