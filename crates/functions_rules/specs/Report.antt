-- What the judge of functions answers, from the bytes of a library and of a function sheet.
use Rattle.std.specs.Prelude.{ℕ, suc, ◌+◌, Bool, cond, List, [], ◌∷◌, length, get_or}
use Rattle.fields.specs.declared.Fault.{Fault}
use Rattle.fields.specs.Reading.{Scan}
use Rattle.fields.specs.Reading.{start}
use Rattle.fields.specs.Answer.{Answer, refused, success, said, ◌>>=◌}
use Rattle.sheets_rules.specs.Model.{Library, Pattern, patterns}
use Rattle.sheets_rules.specs.Report.{library_number, LibraryCounts, counts_of, library_said}
use Rattle.functions_rules.specs.Function.{computes}
use Rattle.functions_rules.specs.FunctionSheet.{pin_counts, function_sheet}

-- "31 for a torn function sheet and 32 for its bad tail (places as for 2 and 3)": 29 above those two. Every value of a field is sound, so no other fault is met.
abbrev pub torn_number : ℕ
torn_number = 31

abbrev pub tail_number : ℕ
tail_number = 32

unfoldable pub functions_number : Fault → ℕ
functions_number f = library_number f + 29

-- "33 for the first drawing that computes another function (place, its pattern number)."
abbrev pub other_number : ℕ
other_number = 33

-- A pattern's drawing computes the function of its cell, by the functions of all cells.
unfoldable pub is_right : List ℕ → Pattern → Bool
unfolding computes
is_right functions p = computes (length p.cell.pins) (get_or functions p.cell_number 0) p.drawing

-- The patterns from number n on: the first that computes another function is refused.
unfoldable pub drawings_judged : List ℕ → LibraryCounts → ℕ → List Pattern → Answer LibraryCounts
unfolding is_right
drawings_judged functions counts n [] = success counts
drawings_judged functions counts n (p ∷ ps) = cond (is_right functions p) (drawings_judged functions counts (suc n) ps) (refused other_number n)

-- A function sheet as it was read, for a sound library. All of it is read before a drawing is looked at.
unfoldable pub functions_judged : Library → List ℕ × Scan → Answer LibraryCounts
unfolding said ◌>>=◌ drawings_judged functions_number
functions_judged l x = do
  functions ← said functions_number x
  drawings_judged functions (counts_of l) 0 (patterns l)

-- The same by the sheet's bytes.
abbrev pub sheet_judged : List ℕ → Library → Answer LibraryCounts
sheet_judged fs l = functions_judged l (function_sheet fs (pin_counts l) start)

-- The library's refusal, or what is said of the function sheet.
unfoldable pub functions_report : (ls fs : List ℕ) → Answer LibraryCounts
functions_report ls fs = library_said ls >>= sheet_judged fs
