-- The trees of a part that was read are sound.
use Prim.Native.Nat.{ℕ, zero, suc}
use mathlib.Core.Path.{◌≡◌, sym, subst}
use mathlib.Core.Logic.{⊎_elim}
use mathlib.Core.List.Memᴰ
use mathlib.Core.List.{List, [], ◌∷◌, ◌++◌, Memᴰ}
use lib.Dec.{eqb}
use lib.ListN.{length, drop}
use Rattle.fields.specs.Reading.{start, Live}
use Rattle.fields.specs.Reading.{Scan}
use Rattle.fields.specs.Reading.{At, Refused}
use Rattle.sheets_rules.specs.Model.{Tree}
use Rattle.sheets_rules.specs.Report.{tree_number}
use Rattle.sheets_rules.specs.Inside.Sound.{SoundTree}
use Rattle.sheets_rules.specs.TreeSheet.{tree_to}
use Rattle.sheets_rules.proofs.Sound.{tree_limits_to}
use Rattle.part_rules.specs.Part.{Part}
use Rattle.fields.specs.Answer.{Answer, success, in_item, ◌>>=◌}
use Rattle.fields.proofs.Answer.{answer_apart, both_succeed}
use Rattle.part_rules.specs.PartSheet.{Counts, counts}
use Rattle.part_rules.specs.PartRead.{link_number, sheet_read, trees_from, links_judged, after_counts, part}

-- ---- trees

-- A fact about all entries and about one more is one about all.
pub each_more : {A : Type 0} {P : A → Type 0} (xs : List A) {x : A} → ((y : A) → Memᴰ y xs → P y) → P x → (y : A) → Memᴰ y (xs ++ (x ∷ [])) → P y
each_more {P} xs h one y m = ⊎_elim (h y) (λ k. subst P (sym (Memᴰ.eq_of_singleton k)) one) (Memᴰ.append_cases xs m)

abbrev pub AllSound : List Tree → Type 0
AllSound ts = (t : Tree) → Memᴰ t ts → SoundTree t

-- A tree that was read is sound.
read_sound : (k : ℕ) (r : Tree × Scan) {x : Tree × ℕ} → in_item k (sheet_read tree_number r) ≡ success x → (Live r.1 → SoundTree r.0) → SoundTree x.0
unfolding in_item sheet_read
read_sound k (t, At c) {x} e h = let same : t ≡ x.0 = cc in subst SoundTree same (h tt)
read_sound k (t, Refused f p) e h = absurd (answer_apart (sym e))

-- Reading on after sound trees, all are sound.
pub trees_from_lem : (before : List Tree) (n : ℕ) (s : List ℕ) {ts : List Tree} → AllSound before → trees_from before n s ≡ success ts → AllSound ts
unfolding trees_from
trees_from_lem before zero s {ts} h e = let same : before ≡ ts = cc in subst AllSound same h
trees_from_lem before (suc left) s h e =
    let r = both_succeed (in_item (length before) (sheet_read tree_number (tree_to (eqb left 0) s start))) (λ x. trees_from (before ++ (x.0 ∷ [])) left (drop x.1 s)) e in
    let one : SoundTree r.0.0 = read_sound (length before) (tree_to (eqb left 0) s start) r.1 (tree_limits_to (eqb left 0) s) in
    trees_from_lem (before ++ (r.0.0 ∷ [])) left (drop r.0.1 s) (each_more {P = SoundTree} before h one) r.2

-- ---- the whole sheet

-- What a part that was read comes from: its trees, and its links judged against them.
pub part_from : (s : List ℕ) (p : Part) → part s ≡ success p → (head : Counts × ℕ) × (trees_from [] head.0.trees (drop head.1 s) ≡ success p.trees) × (links_judged p.trees [] head.0.links ≡ success p.links)
unfolding part after_counts
part_from s p e =
    let judged : Counts × ℕ → List Tree → Answer Part = λ head trees. links_judged trees [] head.0.links >>= (λ links. success (record { trees = trees; links = links })) in
    let read : Counts × ℕ → Answer Part = λ head. trees_from [] head.0.trees (drop head.1 s) >>= judged head in
    let (head, _, e₁) = both_succeed (sheet_read (λ f. link_number) (counts s start)) read e in
    let (trees, t, e₂) = both_succeed (trees_from [] head.0.trees (drop head.1 s)) (judged head) e₁ in
    let (links, j, e₃) = both_succeed (links_judged trees [] head.0.links) (λ links. success (record { trees = trees; links = links })) e₂ in
    (head, (cc), (cc))

-- Every tree of a part that was read is sound.
pub trees_sound : (s : List ℕ) (p : Part) → part s ≡ success p → (t : Tree) → Memᴰ t p.trees → SoundTree t
trees_sound s p e = let r = part_from s p e in trees_from_lem [] r.0.0.trees (drop r.0.1 s) (λ t m. absurd (Memᴰ.not-nil m)) r.1
