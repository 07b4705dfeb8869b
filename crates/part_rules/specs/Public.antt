-- The whole contract of the part operation.
use Rattle.std.specs.Prelude.{ℕ, List, length}
use Rattle.fields.specs.Answer.{Answer}
use Rattle.covers.specs.Lending.{observed}
use Rattle.map_rules.specs.Public.{Operated}
use Rattle.part_rules.specs.Outcome.{part_outcome}
use Rattle.part_rules.specs.Demands.{PartWhereSound, LinksWhereRead}

-- Its outcome, what that is worth among all legal covers, and what is said of the links.
pub record MapsPart (ls ps output output' work work' : List ℕ) (a : Answer ℕ) : Type 0 where
  pub operated : Operated (part_outcome ls ps (length output) (length work)) output output' work work' a
  pub demands : PartWhereSound ls ps (length output) (length work) (observed a output')
  pub links : LinksWhereRead ls ps (length output) (length work) (observed a output')
