-- What the test of all settings says of a drawing: that the first bits of its word are the field.
use Prim.Native.Nat.{ℕ, ◌+◌, ◌-◌, ◌/◌, ◌^◌, ◌≤◌, ◌<◌}
use mathlib.Core.Path.{◌≡◌, refl, sym, ap, ap₂, ◌∙◌}
use mathlib.Core.Bool.{Bool, true, false}
use mathlib.Core.List.{List}
use native.Mathlib.Omega.{arith}
use borrow.Author.Tests.{eqb-true, eq-eqb}
use lib.Dec.{eqb}
use lib.Pow.{shr_lt, pow_mono}
use lib.ListN.{length, get_or}
use Rattle.sheets_rules.specs.Model.{Shape, Pattern}
use Rattle.sheets_rules.specs.Inside.Layout.{number_at, symbols_at, pins_at}
use Rattle.functions.specs.declared.Evaluated.{Evaluated}
use Rattle.functions_rules.specs.Function.{settings, value, bit_of, computes}
use Rattle.functions_rules.specs.Report.{is_right}
use Rattle.functions.specs.Inside.Promises.{word_settings, Tabulates, EvaluatedIs, RowHolds, FieldFits}
use Rattle.functions_rules.proofs.Words.{bits_same, bit_first}
use Rattle.functions_rules.proofs.Every.{every_each, each_every}

-- Tests that pass together are the same.
together : (a b : Bool) → (a ≡ true → b ≡ true) → (b ≡ true → a ≡ true) → a ≡ b
together true b f g = sym (f refl)
together false false f g = refl
together false true f g = g refl

-- A cell of at most six pins has its settings in the first bits of a word; so a drawing computes what a field states exactly when these bits are the field.
module _ (pins field word : ℕ) (d : Shape) (few : pins ≤ 6) (small : field < 2 ^ settings pins) (values : Tabulates (λ setting. value setting d) word) where
  abbrev n : ℕ
  n = settings pins

  fits : n ≤ 64
  fits = pow_mono few

  abbrev first : ℕ
  first = word / 2 ^ (64 - n)

  first_small : first < 2 ^ n
  first_small = let e : n + (64 - n) ≡ 64 = omega (arith, fits) in shr_lt n (64 - n) (rw e values.small)

  first_bits : (k : ℕ) → k < n → bit_of n first k ≡ value k d
  first_bits k h = bit_first 64 n word k fits h ∙ values.bits k (omega (arith, fits))

  pub word_computes : eqb first field ≡ computes pins field d
  unfolding computes
  word_computes =
      together (eqb first field) (computes pins field d)
      (λ e. each_every n _ (λ k h. eq-eqb (value k d) (bit_of n field k) (sym (first_bits k h) ∙ ap (λ (x : ℕ). bit_of n x k) (eqb-true first field e))))
      (λ e. eq-eqb first field (bits_same n first field first_small small (λ k h. first_bits k h ∙ eqb-true (value k d) (bit_of n field k) (every_each n _ e k h))))

-- The same by what a pattern's row says.
pub row_computes : (row functions : List ℕ) (p : Pattern) (count : ℕ) (r : Evaluated) → RowHolds row p → FieldFits p functions → count ≡ settings (get_or row pins_at 0) → EvaluatedIs symbols_at p.drawing r →
    eqb (r.word / 2 ^ (word_settings - count)) (get_or functions (get_or row number_at 0) 0) ≡ is_right functions p
unfolding is_right
row_computes row functions p count r h fits e values =
    ap₂ (λ (n f : ℕ). eqb (r.word / 2 ^ (word_settings - n)) f) (e ∙ ap settings h.pins_are) (ap (λ (k : ℕ). get_or functions k 0) h.number_is)
    ∙ word_computes (length p.cell.pins) (get_or functions p.cell_number 0) r.word p.drawing h.few_pins fits values.values
