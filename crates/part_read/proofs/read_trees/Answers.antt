use native.Mathlib.Omega.{arith}
use Prim.Native.Nat.{ℕ, suc, ◌+◌, ◌-◌}
use mathlib.Core.Path.{◌≡◌, sym, ap, ap₂, subst, ◌∙◌}
use mathlib.Core.List.Memᴰ
use mathlib.Core.List.{List, [], ◌∷◌, ◌++◌, map, map-append}
use lib.Dec.{eqb}
use lib.ListN.{drop, set, length-append, length-drop, length-map}
use lib.Seq.{drop-drop}
use Rattle.bits.specs.Bits.{place_of, bytes_to}
use Rattle.fields.specs.Answer.{refused_in, Bounded}
use Rattle.fields.specs.Reading.{start}
use Rattle.sheets_rules.specs.declared.TreeRecord.{TreeRecord}
use Rattle.sheets_rules.specs.Inside.Layout.{padded, tree_laid}
use Rattle.sheets_rules.specs.Inside.Readers.{TreeToIs}
use Rattle.sheets_rules.specs.Report.{tree_number}
use Rattle.sheets_rules.specs.TreeSheet.{tree_to}
use Rattle.sheets_rules.proofs.Laid.{padded_more}
use Rattle.sheets_rules.proofs.Report.{tree_room, tree_number_fits}
use Rattle.std.specs.Prelude.{Ok, Err}
use Rattle.part_rules.specs.PartSheet.{trees_most}
use Rattle.part_rules.specs.PartRead.{trees_from}
use Rattle.part_rules.proofs.Trees.{trees_from_lem}
use Rattle.part_read.specs.Inside.Decoded.{no_tree}
use Rattle.part_read.proofs.Laws.{tree_next, tree_stops, last_left, whole}
use Rattle.part_read.proofs.read_trees.Goals as goal

pub overflow_add-first : goal.overflow_add-first
overflow_add-first c =
    let s = c.args.s.now in
    let i = c.loop-k in
    let last = eqb (i.k + 1) c.args.count in
    let h = subst (λ t. TreeToIs t last (Ok (c.in-Ok.tree, c.in-Ok.after))) (whole s i.first) c.in-Ok.ensures in
    omega (arith, c.bytes_to-first.ensures, tree_room last (drop i.first s) c.in-Ok.after h.at, length-drop i.first s, i.invariant.2)

pub returns-in-Err : goal.returns-in-Err
unfolding Bounded
returns-in-Err c =
    let s = c.args.s.now in
    let i = c.loop-k in
    let e = c.in-Err.flaw in
    let last = eqb (i.k + 1) c.args.count in
    let left = c.args.count - (i.k + 1) in
    let here : c.args.count - i.k ≡ suc left = omega arith in
    let h = subst (λ t. TreeToIs t last (Err e)) (whole s i.first) c.in-Err.ensures in (
      i.invariant.4 ∙ ap (λ (n : ℕ). trees_from i.invariant.0 n (drop i.first s)) here
          ∙ tree_stops i.invariant.0 left (drop i.first s) last (last_left i.k c.args.count (omega arith)) e.fault e.place h.says
          ∙ ap (λ (k : ℕ). refused_in k (tree_number e.fault) e.place) i.invariant.1,
      (omega (arith, c.requires), (tree_number_fits e.fault).0, (tree_number_fits e.fault).1, omega (arith, h.near)),
    )

pub loop-k-preserved : goal.loop-k-preserved
loop-k-preserved c =
    let s = c.args.s.now in
    let i = c.loop-k in
    let after = c.in-Ok.after in
    let before = i.invariant.0 in
    let last = eqb (i.k + 1) c.args.count in
    let left = c.args.count - (i.k + 1) in
    let here : c.args.count - i.k ≡ suc left = omega arith in
    let h = subst (λ t. TreeToIs t last (Ok (c.in-Ok.tree, after))) (whole s i.first) c.in-Ok.ensures in
    let t = (tree_to last (drop i.first s) start).0 in (
      before ++ (t ∷ []),
      omega (arith, length-append before (t ∷ []), i.invariant.1),
      omega (arith, c.bytes_to-first.ensures, tree_room last (drop i.first s) after h.at, length-drop i.first s, i.invariant.2),
      ap₂ (λ (l : List TreeRecord) (x : TreeRecord). set l i.k x) i.invariant.3 h.holds.tree_is
          ∙ padded_more trees_most no_tree (tree_laid t) (map tree_laid before) i.k (sym (length-map before tree_laid ∙ i.invariant.1)) ∙ ap (padded trees_most no_tree) (sym (map-append tree_laid before (t ∷ []))),
      i.invariant.4 ∙ ap (λ (n : ℕ). trees_from before n (drop i.first s)) here ∙ tree_next before left (drop i.first s) last (last_left i.k c.args.count (omega arith)) after h.at
          ∙ ap (trees_from (before ++ (t ∷ [])) left) (drop-drop (bytes_to (place_of after)) i.first s ∙ ap (λ (n : ℕ). drop (i.first + n) s) (sym c.bytes_to-first.ensures)),
    )

pub returns : goal.returns
unfolding trees_from
returns c =
    let a = c.args in
    let i = c.loop-k in
    let done : a.count - i.k ≡ 0 = omega arith in
    let all = i.invariant.4 ∙ ap (λ (n : ℕ). trees_from i.invariant.0 n (drop i.first a.s.now)) done in
    (i.invariant.0, all, (record { few = omega (arith, i.invariant.1, c.requires); laid = i.invariant.3; sound = trees_from_lem [] a.count a.s.now (λ t m. absurd (Memᴰ.not-nil m)) all }, omega (arith, i.invariant.1)))
