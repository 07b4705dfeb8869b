use mathlib.Core.Path.{sym, subst}
use mathlib.Core.List.{List, []}
use Prim.Native.Nat.{ℕ}
use Rattle.std.specs.Prelude.{Result, Err}
use Rattle.fields.specs.declared.Flaw.{Flaw}
use Rattle.fields.specs.Reading.{start}
use Rattle.fields.specs.Inside.Promises.{Tells}
use Rattle.fields.proofs.Readers.{passed}
use Rattle.sheets_rules.specs.declared.Refusal.{Refusal}
use Rattle.sheets_rules.specs.LibrarySheet.{library}
use Rattle.sheets_rules.specs.Reach.{library_bits}
use Rattle.library.specs.declared.Contents.{Contents}
use Rattle.library.specs.Inside.Promises.{ContentsHold}
use Rattle.library.proofs.Whole.{mapped_ok, mapped_err, Judged, library_judged, judged_refused}
use Rattle.library.proofs.judge_library.Goals as goal

abbrev Told : List ℕ → List ℕ → Result Contents Flaw → Type 0
Told s l' = Tells (ContentsHold [] l') (library s start) library_bits

pub returns-in_err-read : goal.returns-in_err-read
returns-in_err-read c =
    let s = c.args.s.now in
    let m = mapped_err _ c.map_err.result c.read_sheet.result c.in_err-read.field-0.0 c.map_err.ensures.cases c.in_err-read.was in
    let j =
    passed (Judged s) _ c.from_residual.ensures.1
    (subst (λ (q : Refusal). Judged s (Err q)) (sym m.2) (judged_refused s m.0 (subst (Told s c.read_sheet.new.rows) m.1 c.read_sheet.ensures))) in
    record { result_value = j.0; library_bounded = j.1 }

pub returns : goal.returns
returns c =
    let s = c.args.s.now in
    let l' = c.read_sheet.new.rows in
    let ok = mapped_ok _ c.map_err.result c.read_sheet.result c.in_ok-read.read c.map_err.ensures.cases c.in_ok-read.was in
    let j = library_judged s [] l' c.in_ok-read.read (subst (Told s l') ok c.read_sheet.ensures) in
    record { result_value = j.0; library_bounded = j.1 }
