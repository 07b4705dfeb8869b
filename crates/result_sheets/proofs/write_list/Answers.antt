use native.Mathlib.Omega.{arith}
use Rattle.result_sheets.proofs.Laws.{list_written}
use Rattle.result_sheets.proofs.write_list.Goals as goal

pub returns : goal.returns
returns c =
    let a = c.args in
    list_written a.points.now a.count c.clear-bytes.result a.output.now c.clear-bytes.new.output c.put.new.s c.put_points.new.output (omega arith)
    c.clear-bytes.ensures.bytes c.clear-bytes.ensures.cleared c.put.ensures c.put_points.ensures
