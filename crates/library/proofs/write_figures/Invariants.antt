use mathlib.Core.Path.{◌≡◌}
use lib.Seq.{sets}
use Rattle.sheets_rules.specs.Inside.Layout.{figures_at, figures}
use Rattle.library.proofs.write_figures.Given as goal

abbrev pub invariant-loop-p : goal.invariant-loop-p
invariant-loop-p l = l.row ≡ sets l.initial.row figures_at (figures l.cell l.p)
