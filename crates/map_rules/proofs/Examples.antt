-- The examples of replies hold, by computation from the definitions.
use mathlib.Core.Path.{refl}
use native.Mathlib.Omega.{arith}
use Rattle.sheets_rules.specs.Report.{library_number}
use Rattle.map_rules.specs.Public.{of_reply}
use Rattle.map_rules.specs.Examples.Replies.{Replies, SomeItem}

pub replies : Replies
unfolding of_reply library_number
replies = refl

pub some_item : SomeItem
some_item h = omega arith
