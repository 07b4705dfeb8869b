use native.Mathlib.Omega.{arith}
use Prim.Native.Nat.{ℕ, ◌<◌}
use mathlib.Core.Path.{◌≡◌, sym, ap, ◌∙◌}
use mathlib.Core.Option.{Option}
use lib.ListN.{get_or}
use lib.Seq.{get_or-set_other}
use Rattle.sheets_rules.specs.Model.{size, Tree}
use Rattle.sheets_rules.specs.declared.TreeRecord.{TreeRecord}
use Rattle.sheets_rules.specs.Inside.Layout.{tree_laid}
use Rattle.leaves.proofs.Symbols.{symbols_small}
use Rattle.part_link.specs.Inside.Promises.{symbol_linked}
use Rattle.part_link.proofs.Trees.{linking_none, linking_late, linking_more, linking_all, tree_linked}
use Rattle.part_link.proofs.link_tree.Goals as goal

-- the nodes are as many as the tree's
below : {tree : TreeRecord} (t : Tree) {n : ℕ} → tree ≡ tree_laid t → n < tree.count → n < size t.shape
unfolding tree_laid
below t e h = omega (arith, ap (λ (r : TreeRecord). r.count) e)

whole : {tree : TreeRecord} (t : Tree) {n : ℕ} → tree ≡ tree_laid t → n ≡ tree.count → n ≡ size t.shape
unfolding tree_laid
whole t e h = h ∙ ap (λ (r : TreeRecord). r.count) e

pub loop-n-init : goal.loop-n-init
unfolding tree_laid
loop-n-init c =
    let p = c.requires.2 in
    let laid = p.2 in
    (omega (arith, ap (λ (r : TreeRecord). r.count) laid, p.1.size), λ j h. symbols_small _ p.0.shape (ap (λ (r : TreeRecord). r.symbols) laid) p.1.leaves j, λ t f sound e brings. linking_none sound _ (ap (λ (r : TreeRecord). r.symbols) e))

pub offset_bounds-symbols-n : goal.offset_bounds-symbols-n
offset_bounds-symbols-n c = omega (arith, c.loop-n.invariant.0)

pub bounds-symbols-n : goal.bounds-symbols-n
bounds-symbols-n c = omega (arith, c.loop-n.invariant.0)

pub bounds-drivers-n : goal.bounds-drivers-n
bounds-drivers-n c = omega (arith, c.loop-n.invariant.0, c.requires.0)

pub link_symbol-requires : goal.link_symbol-requires
link_symbol-requires c = let i = c.loop-n in (i.invariant.1 i.n (omega arith), c.requires.1 i.n)

pub offset_bounds-symbols-n-in-loop-n : goal.offset_bounds-symbols-n-in-loop-n
offset_bounds-symbols-n-in-loop-n c = omega (arith, c.loop-n.invariant.0)

pub returns-in_default : goal.returns-in_default
returns-in_default c t f sound e brings =
    let i = c.loop-n in
    let here : i.n < size t.shape = below t e (omega arith) in
    let call = c.link_symbol in
    (linking_late sound here (i.invariant.2 t f sound e brings) (ap (λ (o : Option ℕ). symbol_linked o (get_or i.symbols i.n 0)) (brings i.n (omega (arith, i.invariant.0))) ∙ sym call.ensures ∙ c.in_default.is), omega (arith, i.invariant.0))

pub loop-n-preserved : goal.loop-n-preserved
loop-n-preserved c =
    let i = c.loop-n in
    let call = c.link_symbol in (
      i.invariant.0,
      λ j h. rw (get_or-set_other i.symbols i.n j c.in-Some.symbol 0 (λ q. omega (arith, q, h))) (i.invariant.1 j (omega arith)),
      λ t f sound e brings. linking_more sound (below t e (omega arith)) (i.invariant.2 t f sound e brings) c.in-Some.symbol (ap (λ (o : Option ℕ). symbol_linked o (get_or i.symbols i.n 0)) (brings i.n (omega (arith, i.invariant.0))) ∙ sym call.ensures ∙ c.in-Some.is),
    )

pub returns : goal.returns
returns c t f sound e brings =
    let i = c.loop-n in
    let all = linking_all sound (whole t e (omega arith)) (i.invariant.2 t f sound e brings) in
    (all.0, tree_linked f t e all.1)
