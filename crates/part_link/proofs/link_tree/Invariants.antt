use Prim.Native.Nat.{ℕ, ◌≤◌, ◌<◌}
use mathlib.Core.Path.{◌≡◌}
use mathlib.Core.Option.{Option}
use lib.ListN.{get_or}
use Rattle.sheets_rules.specs.Model.{Tree}
use Rattle.sheets_rules.specs.Inside.Sound.{SoundTree}
use Rattle.sheets_rules.specs.Inside.Layout.{tree_laid}
use Rattle.leaves.specs.Inside.Leaf.{symbol_limit}
use Rattle.part_link.specs.Inside.Promises.{brought}
use Rattle.part_link.proofs.Trees.{Linking}
use Rattle.part_link.proofs.link_tree.Given as goal

abbrev pub invariant-loop-n : goal.invariant-loop-n
invariant-loop-n l =
    (l.fn.tree.count ≤ 64) × ((j : ℕ) → l.n ≤ j → get_or l.symbols j 0 ≤ symbol_limit) × ((t : Tree) (f : ℕ → Option ℕ) → SoundTree t → l.fn.tree ≡ tree_laid t → ((m : ℕ) → m < 64 → f m ≡ brought l.arrivals (get_or l.drivers m 0)) → Linking f t l.n l.symbols)
