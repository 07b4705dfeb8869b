use mathlib.Core.Path.{sym, subst}
use mathlib.Core.List.{List}
use lib.ListN.{replicate}
use Prim.Native.Nat.{ℕ}
use Rattle.std.specs.Prelude.{Result, Err}
use Rattle.fields.specs.declared.Flaw.{Flaw}
use Rattle.fields.specs.Reading.{start}
use Rattle.fields.specs.Inside.Promises.{Tells}
use Rattle.fields.proofs.Readers.{passed}
use Rattle.sheets_rules.specs.declared.Refusal.{Refusal}
use Rattle.sheets_rules.specs.LibrarySheet.{library}
use Rattle.sheets_rules.specs.Reach.{library_bits}
use Rattle.sheets_rules.specs.Inside.Layout.{table_words}
use Rattle.sheets_rules.specs.Inside.Readers.{LibraryIs}
use Rattle.library.specs.declared.Contents.{Contents}
use Rattle.library.specs.Inside.Promises.{ContentsHold}
use Rattle.library.proofs.Whole.{mapped_ok, mapped_err, library_is, library_refused}
use Rattle.library.proofs.read_library.Goals as goal

abbrev Told : List ℕ → List ℕ → Result Contents Flaw → Type 0
Told s l' = Tells (ContentsHold (replicate table_words 0) l') (library s start) library_bits

pub returns-in_err-read : goal.returns-in_err-read
returns-in_err-read c =
    let s = c.args.s.now in
    let m = mapped_err _ c.map_err.result c.read_sheet.result c.in_err-read.field-0.0 c.map_err.ensures.cases c.in_err-read.was in
    passed (LibraryIs s) _ c.from_residual.ensures.1
    (subst (λ (q : Refusal). LibraryIs s (Err q)) (sym m.2) (library_refused s m.0 (subst (Told s c.read_sheet.new.rows) m.1 c.read_sheet.ensures)))

pub returns : goal.returns
returns c =
    let s = c.args.s.now in
    let l' = c.read_sheet.new.rows in
    let ok = mapped_ok _ c.map_err.result c.read_sheet.result c.in_ok-read.read c.map_err.ensures.cases c.in_ok-read.was in
    library_is s l' c.in_ok-read.read (subst (Told s l') ok c.read_sheet.ensures)
