-- Parts with pairwise the same trees are answered alike.
use Prim.Native.Nat.{ℕ, suc}
use mathlib.Core.Path.{◌≡◌, refl, sym, ap, ◌∙◌}
use mathlib.Core.Bool.{Bool, true, false}
use mathlib.Core.List.{List, [], ◌∷◌, ◌++◌, append-nil, flat_map, Memᴰ}
use native.Mathlib.Omega.{arith}
use borrow.Author.Tests.{eqb-true}
use lib.Dec.{eqb}
use lib.ListN.{length, drop}
use lib.Seq.{drop-append_seam}
use Rattle.bits.specs.Bits.{place_of, ends_at}
use Rattle.bits.proofs.Whole.{ends_says}
use Rattle.fields.specs.declared.Fault.{Fault}
use Rattle.fields.specs.Reading.{Scan}
use Rattle.fields.specs.Reading.{At, Refused}
use Rattle.fields.specs.Reading.{start, within, field, Live}
use Rattle.fields.specs.Answer.{Answer, success, said, in_item, ◌>>=◌}
use Rattle.fields.proofs.Answer.{answer_apart, after_success, said_read}
use Rattle.fields.proofs.Laws.{tailed_wanted}
use Rattle.shapes_rules.specs.Drawing.{shape}
use Rattle.sheets_rules.specs.Model.{Tree}
use Rattle.sheets_rules.specs.TreeSheet.{tree_rules, tree_to}
use Rattle.sheets_rules.specs.TreeWritten.{SoundCoded, Undriven}
use Rattle.sheets_rules.specs.Report.{tree_number, tree_said}
use Rattle.sheets_rules.proofs.TreeWritten.{same_with_plain}
use Rattle.part_rules.specs.Part.{Link}
use Rattle.part_rules.specs.PartSheet.{Counts, counts}
use Rattle.part_rules.specs.PartRead.{link_number, sheet_read, trees_from, links_judged, after_counts, part}
use Rattle.part_rules.specs.Outcome.{part_outcome}
use Rattle.part_rules.specs.DriveZero.{SameTrees, none_left, one_more, SamePart, SamePartAlike, Written, sheet_of, plain_sheet_of, PartDriveZero}
use Rattle.part_rules.proofs.Fronts.{alike_tree, alike_counts}

-- ---- a tree

-- What was read of a tree's own sheet takes up all its bytes.
own_sheet : (ts : List ℕ) (t : Tree) (x : Tree × Scan) → tree_to true ts start ≡ x → said tree_number x ≡ success t → sheet_read tree_number x ≡ success (t, length ts)
unfolding tree_to said sheet_read
own_sheet ts t (a, At c) e h =
    let all = ends_says ts (place_of c) (tailed_wanted (ends_at ts) (shape ts tree_rules (field ts 24 (within 0 16777215) (field ts 8 (within 0 255) start).1).1).1 c (ap (λ (x : Tree × Scan). x.1) e)) in
    let same : a ≡ t = cc in
    rw (same, all.0) refl
own_sheet ts t (a, Refused f p) e h = absurd (answer_apart (sym h))

-- The same sheet in a part: the last, or before other bytes.
in_part : (last : Bool) (ts s : List ℕ) (t : Tree) → tree_said ts ≡ success t → (last ≡ true → s ≡ []) → sheet_read tree_number (tree_to last (ts ++ s) start) ≡ success (t, length ts)
unfolding tree_said
in_part true ts s t e h = rw (h refl, append-nil ts) (own_sheet ts t (tree_to true ts start) refl e)
in_part false ts s t e h = rw ((alike_tree ts s).alike start (said_read tree_number (tree_to true ts start) e).1).0 (own_sheet ts t (tree_to true ts start) refl e)

one_tree : (before : List Tree) (left : ℕ) (ts s : List ℕ) (t : Tree) → tree_said ts ≡ success t → (left ≡ 0 → s ≡ []) → trees_from before (suc left) (ts ++ s) ≡ trees_from (before ++ (t ∷ [])) left s
unfolding trees_from in_item
one_tree before left ts s t e h =
    after_success (λ (x : Tree × ℕ). trees_from (before ++ (x.0 ∷ [])) left (drop x.1 (ts ++ s))) (ap (in_item (length before)) (in_part (eqb left 0) ts s t e (λ z. h (eqb-true left 0 z))))
    ∙ ap (trees_from (before ++ (t ∷ [])) left) (drop-append_seam ts s)

-- ---- the trees

none_after : {count : ℕ} {s s' : List ℕ} → SameTrees count s s' → count ≡ 0 → (s ≡ []) × (s' ≡ [])
none_after none_left e = (refl, refl)
none_after (one_more same more) e = absurd (omega (arith, e))

trees_alike : {count : ℕ} {s s' : List ℕ} (before : List Tree) → SameTrees count s s' → trees_from before count s ≡ trees_from before count s'
trees_alike before none_left = refl
trees_alike before (one_more {count} {ts} {ts'} {s} {s'} same more) =
    one_tree before count ts s same.tree same.first (λ z. (none_after more z).0)
    ∙ trees_alike (before ++ (same.tree ∷ [])) more
    ∙ sym (one_tree before count ts' s' same.tree same.second (λ z. (none_after more z).1))

-- ---- the part

read_live : {A : Type 0} (number : Fault → ℕ) (x : A × Scan) {y : A × ℕ} → sheet_read number x ≡ success y → Live x.1
unfolding sheet_read
read_live number (a, At c) e = tt
read_live number (a, Refused f p) e = absurd (answer_apart (sym e))

after_head : (head s : List ℕ) (c : Counts) → sheet_read (λ f. link_number) (counts head start) ≡ success (c, length head) → part (head ++ s) ≡ after_counts c.trees c.links s
unfolding part
after_head head s c e =
    after_success (λ (h : Counts × ℕ). after_counts h.0.trees h.0.links (drop h.1 (head ++ s)))
    (ap (sheet_read (λ f. link_number)) ((alike_counts head s).alike start (read_live (λ f. link_number) (counts head start) e)).0 ∙ e)
    ∙ ap (after_counts c.trees c.links) (drop-append_seam head s)

counts_alike : {count : ℕ} {s s' : List ℕ} (links : List Link) → SameTrees count s s' → after_counts count links s ≡ after_counts count links s'
unfolding after_counts
counts_alike links same = ap (λ (o : Answer (List Tree)). o >>= (λ trees. links_judged trees [] links >>= (λ judged. success (record { trees = trees; links = judged })))) (trees_alike [] same)

part_alike : {ps ps' : List ℕ} → SamePart ps ps' → part ps ≡ part ps'
part_alike s =
    let c = s.is_head.counted in
    let at : (rest : List ℕ) → part (s.head ++ rest) ≡ after_counts s.count c.links rest =
    λ rest. after_head s.head rest c s.is_head.whole ∙ ap (λ (n : ℕ). after_counts n c.links rest) s.is_head.count_is in
    ap part s.first ∙ at s.trees ∙ counts_alike c.links s.same_trees ∙ sym (at s.trees') ∙ sym (ap part s.second)

pub same_part_alike : SamePartAlike
unfolding part_outcome
same_part_alike ls ps ps' s output work = rw (part_alike s) refl

-- ---- drive 0

abbrev Plain : Written → Type 0
Plain x = SoundCoded x.load x.required x.nodes × Undriven x.nodes

written_same : (xs : List Written) → ((x : Written) → Memᴰ x xs → Plain x) → SameTrees (length xs) (flat_map sheet_of xs) (flat_map plain_sheet_of xs)
unfolding flat_map
written_same [] h = none_left
written_same (x ∷ xs) h =
    let p = h x (Memᴰ.head refl) in
    one_more (same_with_plain x.load x.required x.nodes p.0 p.1) (written_same xs (λ y m. h y (Memᴰ.tail m)))

pub part_drive_zero : PartDriveZero
part_drive_zero ls head xs is_head h =
    same_part_alike ls (head ++ flat_map sheet_of xs) (head ++ flat_map plain_sheet_of xs)
    (record { head = head; count = length xs; is_head = is_head; trees = flat_map sheet_of xs; trees' = flat_map plain_sheet_of xs; same_trees = written_same xs h; first = refl; second = refl })
