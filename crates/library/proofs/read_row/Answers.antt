use Rattle.library.proofs.Laws.{reads_as, row_is}
use Rattle.library.proofs.read_row.Goals as goal

pub returns : goal.returns
returns c =
    let a = c.args in
    let w = c.write_cell in
    reads_as (rw c.from-pins.ensures at c.in_ok-size.ensures) (λ h. row_is a.numbered _ c.in_ok-size.size a.row.now w.new.row c.read_pattern.new.symbols c.requires.1 w.ensures h)
