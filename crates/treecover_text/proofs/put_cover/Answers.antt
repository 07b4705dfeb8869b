use native.Mathlib.Omega.{arith}
use mathlib.Core.Path.{ap}
use lib.ListN.{length, length-append}
use Rattle.result_sheets.specs.Public.{cover_of}
use Rattle.result_sheets.proofs.Laws.{Room}
use Rattle.text.proofs.Laws.{appended_both}
use Rattle.treecover_text.specs.Printed.{cover_line}
use Rattle.treecover_text.specs.Inside.Rows.{row_lines}
use Rattle.treecover_text.proofs.Laws.{cover_text_lem}
use Rattle.treecover_text.proofs.put_cover.Goals as goal

pub put_head-requires : goal.put_head-requires
put_head-requires c =
    let a = c.args in
    let room : Room a.cover = omega arith in
    omega (arith, ap length (cover_text_lem a.cover room a.rows.now), length-append (cover_line a.cover.area a.cover.arrival a.cover.count) (row_lines a.rows.now (cover_of a.cover).placed))

pub put_matches-requires : goal.put_matches-requires
put_matches-requires c =
    let a = c.args in
    let room : Room a.cover = omega arith in
    (c.requires.1.0, omega (arith, ap length (cover_text_lem a.cover room a.rows.now), length-append (cover_line a.cover.area a.cover.arrival a.cover.count) (row_lines a.rows.now (cover_of a.cover).placed)))

pub returns : goal.returns
returns c =
    let room : Room c.args.cover = omega arith in
    rw (← cover_text_lem c.args.cover room c.args.rows.now) (appended_both c.put_head.ensures c.put_matches.ensures)
