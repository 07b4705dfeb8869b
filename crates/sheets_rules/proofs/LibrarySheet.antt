-- Laws about the library sheet: what a scan that is not refused has passed, and the patterns numbered through the sheet.
use mathlib.Core.Path.{◌≡◌, refl, sym, ap, subst, ◌∙◌}
use mathlib.Core.List.{List, [], ◌∷◌, ◌++◌, append_assoc, append-nil}
use Prim.Native.Nat.{ℕ, zero, suc, ◌+◌, ◌≤◌}
use mathlib.Core.Bool.{Bool, true}
use native.Mathlib.Omega.{arith}
use borrow.Table.Steps.{cases}
use borrow.Author.Tests.{leb-true}
use lib.Dec.{leb}
use native.Mathlib.Nat.{add-zero, add-suc, suc-add}
use lib.ListN.{length}
use Rattle.fields.specs.Reading.{Scan}
use Rattle.fields.specs.Reading.{place, field, Live, Reader, times}
use Rattle.fields.specs.Reading.{Sound}
use Rattle.fields.proofs.Laws.{positive_live, live_sound, range_least, range_passes}
use Rattle.shapes_rules.proofs.Drawing.{node_live}
use Rattle.fields.specs.Reading.{At, Refused}
use Rattle.shapes_rules.specs.Shape.{Shape, symbols}
use Rattle.shapes_rules.specs.Drawing.{has_all, shape}
use Rattle.sheets_rules.specs.LibrarySheet.{complete, pattern, pattern_rules, count_verdict, head, pin, drawings, cell}
use Rattle.fields.specs.declared.Fault.{Fault}
use Rattle.sheets_rules.specs.Model.{Cell, Pattern, drawn, patterns_from}

pub complete_dead : (whole : Bool) (first : ℕ) (c : Scan) → (Live c → ⊥) → complete whole first c ≡ c
unfolding complete
complete_dead whole first (At c) h = absurd (h tt)
complete_dead whole first (Refused f p) h = refl

pub complete_live : (whole : Bool) (first : ℕ) (c : Scan) → Live (complete whole first c) → Live c
unfolding complete
complete_live whole first (At c) h = tt
complete_live whole first (Refused f p) h = h

pub complete_whole : (first : ℕ) (c : Scan) → complete true first c ≡ c
unfolding complete
complete_whole first (At c) = refl
complete_whole first (Refused f p) = refl

-- A refused scan stays as it is.
pub pattern_live : (s : List ℕ) (pins : ℕ) (xs : List Shape) (c : Scan) → Live (pattern s pins xs c).1 → Live c
unfolding pattern shape
pattern_live s pins xs c h =
    let x = shape s (pattern_rules pins) c in
    node_live s (pattern_rules pins) 17 [] c (complete_live (has_all pins (symbols x.0)) (place c) x.1 h)

pub count_passes : (total x : ℕ) → count_verdict total x ≡ Sound → (total + x ≤ 128) × (x ≤ 7) × (1 ≤ x)
unfolding count_verdict
count_passes total x e = cases (leb (total + x) 128) (λ f. let g = rw f at e in (leb-true (total + x) 128 f, range_passes 1 7 x g, range_least 1 7 x g))
    (λ f. let g = rw f at e in let z : ◌≡◌ {A = ℕ} 0 1 = cc in absurd (omega arith))

-- A count fits after the patterns before it: it is 0 if it was refused.
pub count_fits : (s : List ℕ) (total : ℕ) (scan : Scan) → total ≤ 128 → total + (field s 3 (count_verdict total) scan).0 ≤ 128
count_fits s total scan h = (elim (field s 3 (count_verdict total) scan).0 as (λ v. (field s 3 (count_verdict total) scan).0 ≡ v → total + v ≤ 128) [
  | zero ↦ λ e. omega arith
  | suc v ↦ λ e.
      let live = positive_live s 3 (count_verdict total) scan (omega arith) in
      rw (← e) (count_passes total (field s 3 (count_verdict total) scan).0 (live_sound s 3 (count_verdict total) scan live).0).0
]) refl

times_dead : {A : Type 0} (n : ℕ) (r : List A → Reader A) (f : Fault) (p : ℕ) → ((xs : List A) → (r xs (Refused f p)).1 ≡ Refused f p) → (times n r (Refused f p)).1 ≡ Refused f p
unfolding times
times_dead zero r f p h = refl
times_dead (suc n) r f p h = ap (λ (c : Scan). (r (times n r (Refused f p)).0 c).1) (times_dead n r f p h) ∙ h (times n r (Refused f p)).0

pub cell_live : (s : List ℕ) (bins total : ℕ) (c : Scan) → Live (cell s bins total c).1 → Live c
unfolding cell drawings head times pin
cell_live s bins total (At c) h = tt
cell_live s bins total (Refused f p) h =
    let ps = (times (head s (Refused f p)).0.pins (pin s bins) (Refused f p)).1 in
    let still : ps ≡ Refused f p = times_dead (head s (Refused f p)).0.pins (pin s bins) f p (λ xs. refl) in
    subst Live (ap (λ (q : Scan). (drawings s (head s (Refused f p)).0.pins total q).1) still) h

pub length_drawn : (n : ℕ) (c : Cell) (ds : List Shape) → length (drawn n c ds) ≡ length ds
unfolding drawn
length_drawn n c [] = refl
length_drawn n c (d ∷ ds) = ap suc (length_drawn n c ds)

pub patterns_more : (n : ℕ) (cs : List Cell) (c : Cell) → patterns_from n (cs ++ (c ∷ [])) ≡ patterns_from n cs ++ drawn (n + length cs) c c.drawings
unfolding patterns_from
patterns_more n [] c = append-nil (drawn n c c.drawings) ∙ ap (λ (k : ℕ). drawn k c c.drawings) (sym (add-zero n))
patterns_more n (b ∷ cs) c =
    ap (λ (ps : List Pattern). drawn n b b.drawings ++ ps)
    (patterns_more (suc n) cs c ∙ ap (λ (k : ℕ). patterns_from (suc n) cs ++ drawn k c c.drawings) (suc-add n (length cs) ∙ sym (add-suc n (length cs))))
    ∙ sym (append_assoc (drawn n b b.drawings) (patterns_from (suc n) cs) _)
