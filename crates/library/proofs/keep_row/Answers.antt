use native.Mathlib.Omega.{arith}
use Prim.Native.Nat.{◌+◌, ◌*◌, ◌-◌}
use mathlib.Core.Path.{◌≡◌, sym}
use lib.ListN.{length}
use Rattle.std.proofs.lemmas.Grind.{common_steps}
use Rattle.sheets_rules.specs.Inside.Layout.{row_words}
use Rattle.library.specs.Inside.Promises.{row_under}
use Rattle.library.proofs.Laws.{reads_as, reads_same, no_table, table_whole, row_kept}
use Rattle.library.proofs.keep_row.Goals as goal

pub returns-then-is_empty : goal.returns-then-is_empty
returns-then-is_empty c =
    let a = c.args in
    let none : length a.rows.now ≡ 0 = grind (arith, common_steps) in
    reads_as (rw c.from.ensures at c.in_ok-read_pattern.ensures) (λ h. sym (no_table a.rows.now (row_words * a.number) (row_under a.numbered _) none))

pub returns : goal.returns
returns c =
    let a = c.args in
    let first = row_words * a.number in
    let some : length a.rows.now ≡ 0 → ⊥ = grind (arith, common_steps) in
    reads_same c.read_row.result c.read_row.ensures
    (λ x u h. row_kept a.numbered a.number (first + row_words - first) x a.rows.now c.read_row.new.row (omega arith) (omega (arith, table_whole a.rows.now c.requires.1 some)) h)
