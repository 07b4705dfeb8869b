use Prim.Native.Nat.{ℕ}
use mathlib.Core.Path.{◌≡◌, refl, ap, subst, ◌∙◌}
use mathlib.Core.List.{List}
use lib.Seq.{sets}
use Rattle.fields.specs.Reading.{At, tailed}
use Rattle.shapes_rules.specs.Shape.{symbols}
use native.Mathlib.Omega.{arith}
use Rattle.fields.proofs.Readers.{stopped, on_same}
use Rattle.shapes_rules.specs.Drawing.{leaf_node, branch, node, shape}
use Rattle.shapes_rules.proofs.Drawing.{length_symbols}
use Rattle.sheets_rules.specs.TreeSheet.{tree_rules, tail_at, tree_to}
use Rattle.tree.proofs.read_nodes.Goals as goal

pub returns-in_err-load : goal.returns-in_err-load
unfolding tree_to shape node branch leaf_node
returns-in_err-load c =
    let f = c.in_err-load.ensures in
    stopped _ c.from_residual.ensures.1 (record { same = f.same; takes = record { says = rw f.takes.says refl; near = omega (arith, f.takes.near) } })

pub returns-in_err-required : goal.returns-in_err-required
unfolding tree_to shape node branch leaf_node
returns-in_err-required c =
    let s = c.args.sheet.now.bytes.now in
    let a = c.in_ok-load.ensures in
    let b = c.in_err-required.ensures in
    let f = on_same s a.same b in
    stopped _ c.from_residual-in_err-required.ensures.1 (record { same = b.same ∙ a.same; takes = record { says = rw (a.takes.at, f.says) refl; near = omega (arith, a.takes.near, f.near) } })

pub returns : goal.returns
unfolding tree_to
returns c =
    let s = c.args.sheet.now.bytes.now in
    let a = c.in_ok-load.ensures in
    let b = c.in_ok-required.ensures in
    let d = c.in_ok-read.ensures.reads in
    let f = on_same s a.same b in
    let g = on_same s (b.same ∙ a.same) d in
    let same = d.same ∙ b.same ∙ a.same in
    let closed = subst (λ (t : List ℕ). tailed (tail_at c.args.last t) (At c.read_shape.new.sheet.at) ≡ At c.read_shape.new.sheet.at) same c.in_ok-tail.ensures in
    record {
      same = same;
      takes = record {
        at = rw (a.takes.at, f.at, g.at) closed;
        holds = rw (a.takes.at, f.at) (record {
          load_is = a.takes.holds.0;
          required_is = f.holds.0;
          counted = g.holds.size_is ∙ length_symbols _;
          laid = g.holds.symbols_are ∙ ap (λ (l : List ℕ). sets l 0 (symbols (shape s tree_rules (At c.ranged-2.new.self.at)).0)) c.requires.0;
        });
        near = omega (arith, a.takes.near, f.near, g.near);
      };
    }
