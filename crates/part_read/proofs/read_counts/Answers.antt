use native.Mathlib.Omega.{arith}
use mathlib.Core.Path.{refl, sym, ap, ◌∙◌}
use mathlib.Core.List.{List}
use Prim.Native.Nat.{ℕ}
use Rattle.fields.specs.Reading.{At, Scan, filled}
use Rattle.fields.proofs.Readers.{passed, from_start, on_same}
use Rattle.part_rules.specs.PartSheet.{Counts}
use Rattle.part_read.specs.Inside.Promises.{CountsAre}
use Rattle.part_read.proofs.Laws.{trees_stop, count_stops, counts_are}
use Rattle.part_read.proofs.read_counts.Goals as goal

pub returns-in_err-trees : goal.returns-in_err-trees
returns-in_err-trees c =
    let s = c.args.s.now in
    let f = from_start s c.open-sheet.ensures c.in_err-trees.ensures in
    passed (CountsAre s) _ c.from_residual.ensures.1 (record { says = trees_stop s f.says; near = omega (arith, f.near) })

pub returns-in_err-count : goal.returns-in_err-count
returns-in_err-count c =
    let s = c.args.s.now in
    let a = from_start s c.open-sheet.ensures c.in_ok-trees.ensures in
    let f = on_same s (c.in_ok-trees.ensures.same ∙ c.open-sheet.ensures.bytes_are) c.in_err-count.ensures in
    passed (CountsAre s) _ c.from_residual-in_err-count.ensures.1 (record { says = count_stops s a.at f.says; near = omega (arith, a.near, f.near) })

pub returns-in_err-links : goal.returns-in_err-links
returns-in_err-links c =
    let s = c.args.s.now in
    let one = c.in_ok-trees.ensures.same ∙ c.open-sheet.ensures.bytes_are in
    let a = from_start s c.open-sheet.ensures c.in_ok-trees.ensures in
    let b = on_same s one c.in_ok-count.ensures in
    let f = on_same s (c.in_ok-count.ensures.same ∙ one) c.in_err-links.ensures in
    passed (CountsAre s) _ c.from_residual-in_err-links.ensures.1 (record {
      says = ap (λ (x : Counts × Scan). x.1) (counts_are s a.at b.at a.holds.0 b.holds.0) ∙ ap (filled s) f.says;
      near = omega (arith, a.near, b.near, b.holds.1, f.near);
    })

pub returns-in_err-fill : goal.returns-in_err-fill
returns-in_err-fill c =
    let s = c.args.s.now in
    let one = c.in_ok-trees.ensures.same ∙ c.open-sheet.ensures.bytes_are in
    let two = c.in_ok-count.ensures.same ∙ one in
    let a = from_start s c.open-sheet.ensures c.in_ok-trees.ensures in
    let b = on_same s one c.in_ok-count.ensures in
    let d = on_same s two c.in_ok-links.ensures in
    let f = c.in_err-fill.ensures in
    passed (CountsAre s) _ c.from_residual-in_err-fill.ensures.1 (record {
      says = ap (λ (x : Counts × Scan). x.1) (counts_are s a.at b.at a.holds.0 b.holds.0) ∙ ap (filled s) d.at
          ∙ ap (λ (t : List ℕ). filled t (At c.read_links.new.sheet.at)) (sym (c.in_ok-links.ensures.same ∙ two)) ∙ f.0;
      near = omega (arith, a.near, b.near, b.holds.1, d.near, f.1);
    })

pub returns : goal.returns
returns c =
    let s = c.args.s.now in
    let one = c.in_ok-trees.ensures.same ∙ c.open-sheet.ensures.bytes_are in
    let two = c.in_ok-count.ensures.same ∙ one in
    let a = from_start s c.open-sheet.ensures c.in_ok-trees.ensures in
    let b = on_same s one c.in_ok-count.ensures in
    let d = on_same s two c.in_ok-links.ensures in
    let closed = ap (λ (t : List ℕ). filled t (At c.read_links.new.sheet.at)) (sym (c.in_ok-links.ensures.same ∙ two)) ∙ c.in_ok-fill.ensures in
    rw (counts_are s a.at b.at a.holds.0 b.holds.0) (record {
      at = ap (filled s) d.at ∙ closed;
      holds = record {
        trees_are = refl;
        counted = sym d.holds.many;
        links_are = d.holds.links_are;
        few = record { trees = omega (arith, a.holds.1); links = omega (arith, b.holds.1); small = d.holds.small };
      };
      near = omega (arith, a.near, b.near, b.holds.1, d.near);
    })
