use mathlib.Core.Path.{◌≡◌}
use mathlib.Core.List.{List}
use lib.ListN.{length}
use Rattle.sheets_rules.specs.Model.{Tree}
use Rattle.part_rules.specs.Part.{Link}
use Rattle.part_read.specs.Inside.Decoded.{TreesStored}
use Rattle.part_read.specs.Inside.Promises.{links_laid}
use Rattle.part_read.proofs.Links.{Reached}
use Rattle.part_read.proofs.judge_links.Given as goal

abbrev pub invariant-loop-k : goal.invariant-loop-k
invariant-loop-k l =
    (length l.drivers ≡ 1024) × ((ts : List Tree) (xs : List Link) → TreesStored ts l.trees → l.counts.links ≡ links_laid xs → l.counts.count ≡ length xs → Reached ts xs l.k l.drivers)
