use Rattle.std.proofs.Common.{rules}
use Rattle.sheets_rules.specs.LibrarySheet.{head}
use Rattle.library.proofs.Laws.{ranged_least}
use Rattle.library.proofs.read_head.Goals as goal

pub returns : goal.returns
unfolding head
returns c =
    let pins = c.in_ok-pins.ensures.takes in
    record {
      same = search rules;
      takes = record {
        at = search rules;
        holds = record { held = search rules; area = search rules; highest = search rules; pins = search rules; has_pins = (ranged_least _ 3 1 6 _ pins, pins.holds.1) };
        near = search rules;
      };
    }
