-- The choice of a cover. It ends because the nodes in the subtree fall; what it lists is by the laws of `Below`.
use mathlib.Core.Path.{◌≡◌}
use lib.ListN.{length, get_or, take}
use Rattle.sheets_rules.specs.Model.{Library, Tree}
use Rattle.result_sheets.specs.Public.{appended}
use Rattle.choosing.specs.declared.Inputs.{Inputs}
use Rattle.choosing.proofs.Below.{Topmost, placed_to}
use Rattle.choosing.proofs.+choose.Given as goal

abbrev pub decreases-choose : goal.decreases-choose
decreases-choose l = get_or l.tree.now.sizes l.goal.node 0

abbrev pub invariant-loop-next : goal.invariant-loop-next
invariant-loop-next l =
    (r : Library) (t : Tree) (inputs : Inputs) → l.next-items ≡ take inputs.count inputs.goals →
    (top : Topmost l.curves.most r t l.rows l.tree.symbols l.tree.sizes (length l.initial.found) l.curves.work.now l.fn.goal.node inputs l.initial.cover.count) →
    l.cover ≡ appended l.initial.cover (placed_to top l.next-index)
