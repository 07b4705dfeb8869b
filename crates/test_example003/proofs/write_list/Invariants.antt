use Prim.Native.Nat.{◌+◌, ◌*◌, ◌≤◌}
use Rattle.bits.specs.Bits.{place_of}
use Rattle.test_example003.proofs.write_list.Given as goal

-- The widths of the count, and of an arrival and an area.
abbrev pub invariant-loop : goal.invariant-loop
invariant-loop l = place_of l.sheet.at ≤ 5 + 46 * l.counter
