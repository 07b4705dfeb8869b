use native.Mathlib.Omega.{arith}
use Rattle.result_sheets.specs.Public.{no_match}
use Rattle.result_sheets.proofs.Laws.{put_flawed, filled_none, none_here, filled_more, filled_flawed, filled_all}
use Rattle.result_sheets.proofs.read_matches.Goals as goal

pub loop-one-init : goal.loop-one-init
loop-one-init c = filled_none c.args.sheet.now c.args.matches.now c.requires.none

pub read_match-requires : goal.read_match-requires
read_match-requires c = let so = c.loop-one.invariant in (none_here so (omega arith) no_match, omega (arith, so.near, c.requires.near))

pub returns-in_err-read_match : goal.returns-in_err-read_match
returns-in_err-read_match c = put_flawed c.from_residual.result c.from_residual.ensures.1 (filled_flawed c.loop-one.invariant (omega arith) c.in_err-read_match.ensures)

pub loop-one-preserved : goal.loop-one-preserved
loop-one-preserved c = filled_more c.loop-one.invariant (omega arith) c.in_ok-read_match.ensures

pub returns : goal.returns
returns c = filled_all c.loop-one.invariant (omega arith)
