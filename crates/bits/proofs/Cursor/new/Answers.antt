use mathlib.Core.Path.{refl}
use Rattle.bits.specs.Bits.{cursor_at}
use Rattle.bits.proofs.Cursor.new.Goals as goal

pub returns : goal.returns
unfolding cursor_at
returns c = refl
