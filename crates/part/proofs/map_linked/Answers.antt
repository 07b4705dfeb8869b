use Prim.Native.Nat.{ℕ}
use mathlib.Core.Path.{refl}
use mathlib.Core.Option.{Option}
use lib.ListN.{get_or}
use Rattle.part_rules.specs.Part.{known_tree}
use Rattle.part_link.specs.Inside.Promises.{brought}
use Rattle.part.proofs.Laws.{zeros_cleared, linked_late, early_sound, linked_early}
use Rattle.part.proofs.map_linked.Goals as goal

pub map_one-requires-clause-sheets : goal.map_one-requires-clause-sheets
map_one-requires-clause-sheets c =
    let a = c.args in
    let (l, (t, sheets)) = c.requires.sheets in
    let f : ℕ → Option ℕ = λ n. brought a.arrivals.now (get_or a.drivers.now n 0) in
    let is = c.in-Ok.ensures t f sheets.tree_sound sheets.tree_is (λ n small. refl) in
    (l, (known_tree f t, record { read = sheets.read; tree_sound = early_sound a.most l f t sheets.tree_sound is.0; tree_is = is.1 }))

pub returns-in-Ok : goal.returns-in-Ok
returns-in-Ok c =
    let a = c.args in record {
      work_after = c.map_one.ensures.work_after;
      maps_linked = λ l t f sheets brings.
          let is = c.in-Ok.ensures t f sheets.tree_sound sheets.tree_is brings in
          linked_early a.most l f t c.map_one.result sheets.tree_sound is.0
          (c.map_one.ensures.maps_one l (known_tree f t) (record { read = sheets.read; tree_sound = early_sound a.most l f t sheets.tree_sound is.0; tree_is = is.1 }));
    }

pub returns-in-Err : goal.returns-in-Err
returns-in-Err c =
    let a = c.args in record {
      work_after = zeros_cleared a.most a.work.now c.requires.zeros;
      maps_linked = λ l t f sheets brings. let is = c.in-Err.ensures t f sheets.tree_sound sheets.tree_is brings in linked_late a.most l f t c.in-Err.node is.1 is.0;
    }
