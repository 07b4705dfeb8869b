use Rattle.fields.proofs.Readers.{from_start}
use Rattle.sheets_rules.specs.Inside.Layout.{tree_laid}
use Rattle.tree.proofs.Whole.{t, sound, drawn, preorder, few}
use Rattle.tree.proofs.read_tree_to.Goals as goal

pub set_sizes-requires : goal.set_sizes-requires
set_sizes-requires c =
    let h = from_start c.args.s.now c.open-sheet.ensures c.in_ok-head.ensures in
    (preorder c.args.last c.args.s.now h, few c.args.last c.args.s.now h, few c.args.last c.args.s.now h)

pub returns : goal.returns
unfolding tree_laid
returns c =
    let s = c.args.s.now in
    let h = from_start s c.open-sheet.ensures c.in_ok-head.ensures in
    let sized = c.set_sizes.ensures (t c.args.last s h).shape (drawn c.args.last s h) in
    record {
      at = h.at;
      holds = record {
        sound = sound c.args.last s h;
        tree_is = λ i. record { load = h.holds.load_is i; required = h.holds.required_is i; count = h.holds.counted i; symbols = h.holds.laid i; sizes = sized i };
      };
      near = h.near;
    }
