-- The function sheet, read one field after another.
use Prim.Native.Nat.{ℕ, zero, suc, ◌^◌, ◌<◌}
use mathlib.Core.Path.{◌≡◌, sym, ap, ap₂, subst, ◌∙◌}
use mathlib.Core.Logic.{⊎_elim}
use mathlib.Core.List.{List, []}
use native.Mathlib.Nat.{eq-or-lt_of_le}
use native.Mathlib.Omega.{arith}
use lib.ListN.{length, get_or, take, get_or-append}
use lib.Seq.{get_or-take, get_or_at}
use Rattle.fields.specs.Reading.{Scan}
use Rattle.fields.specs.Reading.{times, field, free}
use Rattle.fields.proofs.Laws.{length_times, free_small}
use Rattle.functions_rules.specs.Function.{settings}
use Rattle.functions_rules.specs.FunctionSheet.{function}

-- The next field, by the pin count of the next cell.
pub function_is : (s counts : List ℕ) (cells k n : ℕ) (before : List ℕ) (c c' : Scan) → k < cells → length before ≡ k → n ≡ settings (get_or counts k 0) → c ≡ c' →
    field s n free c ≡ function s (take cells counts) before c'
unfolding function
function_is s counts cells k n before c c' h e en ec =
    ap₂ (λ (m : ℕ) (q : Scan). field s m free q) (en ∙ ap settings (sym (ap (λ (j : ℕ). get_or (take cells counts) j 0) e ∙ get_or-take cells counts k 0 h))) ec

module _ (s pins : List ℕ) (c : Scan) where
  -- The first n fields, and the scan after them.
  abbrev pub fields_to : ℕ → List ℕ × Scan
  fields_to n = times n (function s pins) c

  -- The field that follows them.
  abbrev next : ℕ → ℕ × Scan
  next n = field s (settings (get_or pins n 0)) free (fields_to n).1

  function_next : (n : ℕ) → function s pins (fields_to n).0 (fields_to n).1 ≡ next n
  unfolding function
  function_next n = ap (λ (k : ℕ). field s (settings (get_or pins k 0)) free (fields_to n).1) (length_times n (function s pins) c)

  pub scan_next : (n : ℕ) → (fields_to (suc n)).1 ≡ (next n).1
  unfolding times
  scan_next n = ap (λ (x : ℕ × Scan). x.1) (function_next n)

  -- A property that the field n has however many are read after it.
  pub each_field : (P : ℕ → ℕ → Type 0) → ((n : ℕ) → P n (next n).0) → (n k : ℕ) → k < n → P k (get_or (fields_to n).0 k 0)
  unfolding times
  each_field P h zero k g = absurd (omega arith)
  each_field P h (suc n) k g =
      let xs = (fields_to n).0 in
      let long = length_times n (function s pins) c in
      ⊎_elim
      (λ e. subst (λ (v : ℕ). P k v) (sym (get_or_at xs _ [] 0 k (long ∙ sym e))) (rw (e, function_next n) (h n)))
      (λ less. subst (λ (v : ℕ). P k v) (sym (get_or-append xs _ 0 k (omega arith))) (each_field P h n k less))
      (eq-or-lt_of_le (omega arith))

  -- Each has a bit for every setting.
  pub field_small : (n k : ℕ) → k < n → get_or (fields_to n).0 k 0 < 2 ^ settings (get_or pins k 0)
  field_small = each_field (λ k v. v < 2 ^ settings (get_or pins k 0)) (λ n. free_small s (settings (get_or pins n 0)) (fields_to n).1)
