-- The drawings gone through one after another.
use Prim.Native.Nat.{ℕ, suc, ◌+◌, ◌≤◌, ◌<◌, ◌^◌}
use mathlib.Core.Path.{◌≡◌, refl, sym, ap, ap₂, subst, ◌∙◌}
use mathlib.Core.Bool.{Bool, true, false, cond}
use mathlib.Core.List.{List, [], ◌∷◌}
use native.Mathlib.Numerals.{add-one}
use native.Mathlib.Omega.{arith}
use lib.ListN.{length, get_or, drop, drop_of_length-le}
use lib.Seq.{drop-cons}
use Rattle.fields.specs.Answer.{Answer, refused, success, on_success, Bounded}
use Rattle.sheets_rules.specs.Model.{Library, Pattern, patterns}
use Rattle.sheets_rules.specs.Reach.{library_bits}
use Rattle.sheets_rules.specs.Report.{LibraryCounts, library_word, LibraryLimits}
use Rattle.sheets_rules.proofs.Patterns.{no_pattern}
use Rattle.functions_rules.specs.Function.{settings, computes}
use Rattle.functions_rules.specs.Report.{other_number, is_right, drawings_judged}
use Rattle.functions.specs.Inside.Promises.{RowsHold, FieldFits, Stated}
use Rattle.functions.proofs.Rows.{pattern_at, known, count_of}

-- What is said of all patterns is what is said of those from number k on.
abbrev pub Judging : List ℕ → LibraryCounts → List Pattern → ℕ → Type 0
Judging functions counts ps k = drawings_judged functions counts 0 ps ≡ drawings_judged functions counts k (drop k ps)

module _ (functions : List ℕ) (counts : LibraryCounts) (ps : List Pattern) (k : ℕ) (h : k < length ps) (before : Judging functions counts ps k) where
  next : drawings_judged functions counts k (drop k ps) ≡ cond (is_right functions (get_or ps k no_pattern)) (drawings_judged functions counts (suc k) (drop (suc k) ps)) (refused other_number k)
  unfolding drawings_judged
  next = ap (drawings_judged functions counts k) (drop-cons ps k no_pattern h)

  pub judged_other : is_right functions (get_or ps k no_pattern) ≡ false → refused other_number k ≡ drawings_judged functions counts 0 ps
  judged_other e = sym (before ∙ next ∙ ap (λ (b : Bool). cond b (drawings_judged functions counts (suc k) (drop (suc k) ps)) (refused other_number k)) e)

  pub judged_right : is_right functions (get_or ps k no_pattern) ≡ true → Judging functions counts ps (k + 1)
  judged_right e = rw add-one (before ∙ next ∙ ap (λ (b : Bool). cond b (drawings_judged functions counts (suc k) (drop (suc k) ps)) (refused other_number k)) e)

pub judged_all : (functions : List ℕ) (counts : LibraryCounts) (ps : List Pattern) (k : ℕ) → length ps ≤ k → Judging functions counts ps k → success counts ≡ drawings_judged functions counts 0 ps
unfolding drawings_judged
judged_all functions counts ps k h before = sym (before ∙ ap (drawings_judged functions counts k) (drop_of_length-le ps h))

-- The function of a pattern's cell fits, if all do.
pub stated_fits : {l : Library} {rows : List ℕ} (h : RowsHold l rows) (k : ℕ) → k < length (patterns l) → (functions : List ℕ) → Stated l functions → FieldFits (pattern_at l k) functions
stated_fits {l} h k g functions fits =
    subst (λ (n : ℕ). get_or functions (pattern_at l k).cell_number 0 < 2 ^ settings n) (count_of h k g) (fits (pattern_at l k).cell_number (known h k g).number_small)

-- The functions may stand in an array.
pub judged_same : (fs gs : List ℕ) → ((k : ℕ) → get_or fs k 0 ≡ get_or gs k 0) → (counts : LibraryCounts) (n : ℕ) (ps : List Pattern) → drawings_judged fs counts n ps ≡ drawings_judged gs counts n ps
unfolding drawings_judged is_right
judged_same fs gs e counts n [] = refl
judged_same fs gs e counts n (p ∷ ps) =
    ap₂ (λ (b : Bool) (o : Answer LibraryCounts). cond b o (refused other_number n))
    (ap (λ (f : ℕ). computes (length p.cell.pins) f p.drawing) (e p.cell_number))
    (judged_same fs gs e counts (suc n) ps)

-- ---- limits

abbrev pub InLimits : Answer LibraryCounts → Type 0
InLimits o = Bounded (on_success library_word o) × LibraryLimits o

pub refusal_limits : (number place : ℕ) → 1 ≤ number → number ≤ 255 → place ≤ library_bits → InLimits (refused number place)
unfolding on_success Bounded LibraryLimits
refusal_limits number place some few near = (omega arith, near)

pub drawings_limits : (functions : List ℕ) (counts : LibraryCounts) → counts.cells ≤ 64 → counts.patterns ≤ 128 → (n : ℕ) (ps : List Pattern) → n + length ps ≤ 128 → InLimits (drawings_judged functions counts n ps)
unfolding drawings_judged on_success library_word Bounded LibraryLimits
drawings_limits functions counts cells few n [] h = (omega arith, (cells, few))
drawings_limits functions counts cells few n (p ∷ ps) h = go (is_right functions p) (drawings_limits functions counts cells few (suc n) ps (omega arith))
  where
    go : (b : Bool) → InLimits (drawings_judged functions counts (suc n) ps) → InLimits (cond b (drawings_judged functions counts (suc n) ps) (refused other_number n))
    go true g = g
    go false g = refusal_limits other_number n (omega arith) (omega arith) (omega arith)
