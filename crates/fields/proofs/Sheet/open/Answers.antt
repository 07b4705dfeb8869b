use mathlib.Core.Path.{refl, ap, ◌∙◌}
use Rattle.bits.specs.Bits.{place_of}
use Rattle.bits.proofs.Laws.{place_at}
use Rattle.fields.proofs.Sheet.open.Goals as goal

pub returns : goal.returns
returns c = record { bytes_are = refl; at_start = c.new.ensures; place = ap place_of c.new.ensures ∙ place_at 0 }
