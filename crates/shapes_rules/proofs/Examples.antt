-- By computation from the definitions.
use mathlib.Core.Path.{refl}
use Rattle.bits.specs.Bits.{after, bit_at, value_at, place_of, cursor_at, field_at}
use Rattle.shapes_rules.specs.Shape.{symbols}
use Rattle.shapes_rules.specs.Drawing.{elem, code_verdict, leaf_verdict, leaf_node, driven_node, pair, branch, node, shape}
use Rattle.shapes_rules.specs.Examples.Shapes.{Examples}

pub examples : Examples
unfolding shape node branch pair leaf_node driven_node code_verdict leaf_verdict elem symbols after bit_at value_at place_of cursor_at field_at
examples = refl
