use Rattle.std.specs.Prelude.{Ok}
use Prim.Native.Nat.{◌*◌}
use Rattle.fields.specs.Reading.{times}
use Rattle.fields.specs.Inside.Promises.{Reads}
use Rattle.part_rules.specs.PartSheet.{link, link_width}
use Rattle.part_read.specs.Inside.Promises.{LinksLaid}
use Rattle.part_read.proofs.read_links.Given as goal

abbrev pub invariant-loop-k : goal.invariant-loop-k
invariant-loop-k l = Reads l.fn.sheet l.sheet (λ s. times l.k (link s l.trees)) (LinksLaid l.k) (link_width * l.k) (Ok l.links)
