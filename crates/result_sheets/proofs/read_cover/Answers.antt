use native.Mathlib.Omega.{arith}
use Rattle.result_sheets.proofs.Laws.{cover_taken}
use Rattle.result_sheets.proofs.read_cover.Goals as goal

pub returns-in-Ok : goal.returns-in-Ok
returns-in-Ok c = let h = c.in-Ok.ensures in cover_taken c.read_fields.new.cover c.open-sheet.ensures h.put (omega arith) h.few.1
