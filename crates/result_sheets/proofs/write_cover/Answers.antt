use native.Mathlib.Omega.{arith}
use Rattle.result_sheets.proofs.Laws.{cover_written}
use Rattle.result_sheets.proofs.write_cover.Goals as goal

pub returns : goal.returns
returns c =
    let a = c.args in
    cover_written a.cover (omega arith) c.clear-bytes.result a.output.now c.clear-bytes.new.output c.put.new.s c.put-2.new.s c.put-3.new.s c.put_matches.new.output
    c.clear-bytes.ensures.bytes c.clear-bytes.ensures.cleared c.put.ensures c.put-2.ensures c.put-3.ensures c.put_matches.ensures
