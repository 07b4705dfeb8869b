use native.Mathlib.Omega.{arith}
use mathlib.Core.Path.{◌≡◌, sym, subst, ◌∙◌}
use mathlib.Core.List.{List}
use lib.Seq.{length-take-le}
use Rattle.std.proofs.Common.{ℕ}
use Rattle.std.proofs.lemmas.Result.{err_from_is_err_and}
use Rattle.sheets_rules.specs.Model.{Library, patterns}
use Rattle.sheets_rules.specs.Inside.Sound.{LibraryStored}
use Rattle.sheets_rules.specs.Report.{of_library_judged, counts_of}
use Rattle.sheets_rules.proofs.Stored.{few_rows, cell_count, row_count}
use Rattle.functions_rules.specs.FunctionSheet.{pin_counts}
use Rattle.functions_rules.specs.Report.{drawings_judged}
use Rattle.functions.specs.Inside.Promises.{PinsFew, FunctionsRead, FunctionsRefused}
use Rattle.functions.proofs.Judged.{InLimits}
use Rattle.functions.proofs.Sheet.{rows_hold, own_pins, pins_few, functions_long, stated, sheet_judged_lem, sheet_limits, sheet_refused, refused_limits}
use Rattle.functions.proofs.with_library.Goals as goal

pub overflow_mul-rows : goal.overflow_mul-rows
overflow_mul-rows c = record { fits = omega (arith, few_rows c.requires.1) }

pub shared_ref_as_front-rows : goal.shared_ref_as_front-rows
shared_ref_as_front-rows c = omega (arith, few_rows c.requires.1)

pub pin_counts-pins-requires : goal.pin_counts-pins-requires
pin_counts-pins-requires c = (_, rows_hold c.requires.1)

pub slice_bounds-pins-end : goal.slice_bounds-pins-end
slice_bounds-pins-end c = let g = c.requires.1 in omega (arith, c.pin_counts-pins.ensures.0, cell_count g, g.sound.few_cells)

pub slice_bounds-read_functions-end : goal.slice_bounds-read_functions-end
slice_bounds-read_functions-end c =
    let g = c.requires.1 in
    sym (length-take-le c.args.library.now.count c.pin_counts-pins.result (omega (arith, c.pin_counts-pins.ensures.0, cell_count g, g.sound.few_cells)))

pub read_functions-requires : goal.read_functions-requires
read_functions-requires c = let p = c.requires in subst PinsFew (sym (own_pins c.pin_counts-pins.result c.pin_counts-pins.ensures.1 p.1)) (pins_few p.1.sound)

pub returns-in_err-functions : goal.returns-in_err-functions
returns-in_err-functions c =
    let p = err_from_is_err_and c.from_residual.result c.from_residual.ensures.1 in
    let s = c.args.s.now in
    let refused : (l : Library) → LibraryStored l c.args.library.now → FunctionsRefused s (pin_counts l) c.in_err-functions.field-0.0 =
    λ l g. subst (λ (pins : List ℕ). FunctionsRefused s pins c.in_err-functions.field-0.0) (own_pins c.pin_counts-pins.result c.pin_counts-pins.ensures.1 g) c.in_err-functions.ensures in
    rw (p.1, p.2) (record { sheet_judged = λ l g. sheet_refused g.sound s _ (refused l g); library_bounded = let q = c.requires in refused_limits q.1.sound s _ (refused q.0 q.1) })

pub judge_drawings-requires : goal.judge_drawings-requires
judge_drawings-requires c =
    let p = c.requires in
    let read = subst (λ (pins : List ℕ). FunctionsRead c.args.s.now pins c.in_ok-functions.functions) (own_pins c.pin_counts-pins.result c.pin_counts-pins.ensures.1 p.1) c.in_ok-functions.ensures in
    (functions_long p.1.sound c.args.s.now _ read, (p.0, rows_hold p.1))

pub returns : goal.returns
returns c =
    let s = c.args.s.now in
    let read : (l : Library) → LibraryStored l c.args.library.now → FunctionsRead s (pin_counts l) c.in_ok-functions.functions =
    λ l g. subst (λ (pins : List ℕ). FunctionsRead s pins c.in_ok-functions.functions) (own_pins c.pin_counts-pins.result c.pin_counts-pins.ensures.1 g) c.in_ok-functions.ensures in
    let judged : (l : Library) → LibraryStored l c.args.library.now → of_library_judged c.judge_drawings.result ≡ drawings_judged c.in_ok-functions.functions (counts_of l) 0 (patterns l) =
    λ l g. c.judge_drawings.ensures l (rows_hold g) (stated g.sound s _ (read l g)) (λ i. record { cells = cell_count g i; patterns = row_count g i }) in
    let p = c.requires in record {
      sheet_judged = λ l g. judged l g ∙ sheet_judged_lem g.sound s _ (read l g);
      library_bounded = subst InLimits (sym (judged p.0 p.1)) (sheet_limits p.1.sound s _ (read p.0 p.1));
    }
