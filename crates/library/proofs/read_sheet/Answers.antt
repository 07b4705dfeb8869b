use Rattle.fields.specs.Reading.{start}
use Rattle.fields.specs.Inside.Promises.{Tells}
use Rattle.fields.proofs.Readers.{passed}
use Rattle.sheets_rules.specs.LibrarySheet.{library}
use Rattle.sheets_rules.specs.Reach.{library_bits}
use Rattle.library.specs.Inside.Promises.{ContentsHold}
use Rattle.library.proofs.Whole.{bins_stop, cells_stop, sheet_told, end_flawed}
use Rattle.library.proofs.read_sheet.Goals as goal

pub returns-in_err-bins : goal.returns-in_err-bins
returns-in_err-bins c =
    let a = c.args in
    passed (Tells (ContentsHold a.rows.now a.rows.now) (library a.s.now start) library_bits) _ c.from_residual.ensures.1 (bins_stop a.s.now c.open-sheet.ensures c.in_err-bins.ensures)

pub returns-in_err-counts : goal.returns-in_err-counts
returns-in_err-counts c =
    let a = c.args in
    let r = c.read_cells.new in
    passed (Tells (ContentsHold a.rows.now r.rows) (library a.s.now start) library_bits) _ c.from_residual-in_err-counts.ensures.1
    (cells_stop a.s.now c.open-sheet.ensures c.in_ok-bins.ensures a.rows.now r.rows r.sheet c.in_err-counts.ensures)

pub returns-in_err-end : goal.returns-in_err-end
returns-in_err-end c =
    let a = c.args in
    let r = c.read_cells.new in
    passed (Tells (ContentsHold a.rows.now r.rows) (library a.s.now start) library_bits) _ c.from_residual-in_err-end.ensures.1
    (end_flawed a.s.now c.open-sheet.ensures c.in_ok-bins.ensures a.rows.now r.rows r.sheet c.in_ok-counts.ensures c.in_err-end.ensures)

pub returns : goal.returns
returns c =
    let a = c.args in
    sheet_told a.s.now c.open-sheet.ensures c.in_ok-bins.ensures a.rows.now c.read_cells.new.rows c.read_cells.new.sheet c.in_ok-counts.ensures c.in_ok-end.ensures
