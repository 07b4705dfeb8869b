use Rattle.fields.proofs.Readers.{stopped}
use Rattle.library.proofs.Laws.{head_stops, pins_stop, cell_reads}
use Rattle.library.proofs.read_cell.Goals as goal

pub returns-in_err-head : goal.returns-in_err-head
returns-in_err-head c = let a = c.args in stopped _ c.from_residual.ensures.1 (head_stops a.bins a.total c.in_err-head.ensures)

pub returns-in_err-pins : goal.returns-in_err-pins
returns-in_err-pins c = let a = c.args in stopped _ c.from_residual-in_err-pins.ensures.1 (pins_stop a.bins a.total c.in_ok-head.ensures c.in_err-pins.ensures)

pub returns : goal.returns
returns c = let a = c.args in cell_reads a.bins a.total c.in_ok-head.ensures a.number a.rows.now _ c.in_ok-pins.ensures c.read_drawings.result c.read_drawings.ensures
