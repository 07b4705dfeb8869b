use native.Mathlib.Omega.{arith}
use mathlib.Core.Path.{refl}
use Rattle.functions.proofs.read_functions.Goals as goal

pub returns-in-Ok : goal.returns-in-Ok
returns-in-Ok c = let h = c.in-Ok.ensures in record { live = h.live; functions_are = h.holds }

pub returns-in-Err : goal.returns-in-Err
returns-in-Err c =
    let h = c.in-Err.ensures in
    record { fault = c.in-Err.flaw.fault; refused_is = refl; scan_is = h.says; near = omega (arith, h.near, c.requires.few_cells) }
