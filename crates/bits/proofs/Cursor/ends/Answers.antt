use mathlib.Core.Path.{◌∙◌}
use borrow.Author.Tests.{ne_eqb}
use Rattle.bits.specs.Bits.{place_of}
use Rattle.bits.proofs.Words.{ends_other, ends_filled}
use Rattle.bits.proofs.Cursor.ends.Goals as goal

pub returns-then-s-bytes_to : goal.returns-then-s-bytes_to
returns-then-s-bytes_to c =
    let a = c.args in
    let bytes = c.bytes_to in
    c.fills.ensures ∙ ends_filled a.s.now (place_of a.self) bytes.result bytes.ensures c.if-s-bytes_to.true

pub returns-else-s-bytes_to : goal.returns-else-s-bytes_to
returns-else-s-bytes_to c =
    let a = c.args in
    let bytes = c.bytes_to in
    ne_eqb _ _ c.if-s-bytes_to.false ∙ ends_other a.s.now (place_of a.self) bytes.result bytes.ensures c.if-s-bytes_to.false
