-- What the functions of this crate are lent and what they promise each other.
use Rattle.std.specs.Prelude.{ℕ, ◌<◌, ◌≤◌, ◌≡◌, List, [], map, length, take, get_or, replicate, Result, IfOk, IfErr}
use Rattle.std.proofs.Math.Option.{Option}
use Rattle.fields.specs.Answer.{Answer, Bounded}
use Rattle.sheets_rules.specs.declared.LibraryRecord.{LibraryRecord}
use Rattle.sheets_rules.specs.declared.TreeRecord.{TreeRecord}
use Rattle.sheets_rules.specs.declared.Refusal.{Refusal}
use Rattle.sheets_rules.specs.Model.{Library, Tree}
use Rattle.sheets_rules.specs.Report.{refusal}
use Rattle.sheets_rules.specs.Inside.Readers.{Says}
use Rattle.sheets_rules.specs.Inside.Sound.{LibraryStored}
use Rattle.covers.specs.Capacity.{work_words, allowed}
use Rattle.covers.specs.Cover.{Cover}
use Rattle.covers.specs.Inside.Allowed.{Allowed}
use Rattle.overlay.specs.Inside.Promises.{SheetsStored}
use Rattle.result_sheets.specs.declared.CoverRecord.{CoverRecord}
use Rattle.result_sheets.specs.Public.{cover_of}
use Rattle.map_core.specs.Inside.Found.{of_mapped}
use Rattle.map_core.specs.Inside.Promises.{MappedIs}
use Rattle.map_rules.specs.Public.{Operated}
use Rattle.part_rules.specs.Part.{Part}
use Rattle.part_rules.specs.Outcome.{tree_mapped, covers_from, part_bytes, part_sheets}
use Rattle.part_read.specs.declared.PartRecord.{PartRecord}
use Rattle.part_read.specs.Inside.Decoded.{PartStored}
use Rattle.part_link.specs.Inside.Promises.{brought}

-- Enough is lent, and it allows so many trade-offs.
pub record Lent (most output work : ℕ) : Type 0 where
  pub long : part_bytes ≤ output
  pub words : work_words most ≤ work
  pub most_is : most ≡ allowed work
  pub allowed : Allowed most

-- A work area that is long enough and begins with zeros, where a node may have `most` trade-offs.
pub record Zeros (most : ℕ) (work : List ℕ) : Type 0 where
  pub allowed : Allowed most
  pub long : work_words most ≤ length work
  pub zeros : take (work_words most) work ≡ replicate (work_words most) 0

-- What stands where no cover is.
abbrev pub no_cover : CoverRecord
no_cover = record { area = 0; arrival = 0; count = 0; matches = [] }

-- Each cover of a list has so few matches that its sheet has room for it.
abbrev pub Few : List CoverRecord → Type 0
Few l = (k : ℕ) → (get_or l k no_cover).count ≤ 63

-- Some covers at the front of an array.
pub record CoversStored (count : ℕ) (cs : List Cover) (l : List CoverRecord) : Type 0 where
  pub many : length cs ≡ count
  pub covers_are : map cover_of (take count l) ≡ cs
  pub few : Few l

-- What is answered for a tree to which links bring the arrivals f.
pub record LinkedMapped (most : ℕ) (l : Library) (f : ℕ → Option ℕ) (t : Tree) (r : Result CoverRecord Refusal) : Type 0 where
  pub answer_is : of_mapped r ≡ tree_mapped most l f t
  pub few : IfOk r (λ (cover : CoverRecord). cover.count ≤ 63)
  pub fits : IfErr r (λ (q : Refusal). Bounded (refusal q))

-- The cover of whichever sound tree, by whichever library's cells, the records hold.
abbrev pub MapsOne : (most : ℕ) → LibraryRecord → TreeRecord → Result CoverRecord Refusal → Type 0
MapsOne most library tree r = (l : Library) (t : Tree) → SheetsStored l t library tree → MappedIs most l t r

-- The same with the arrivals that the drivers of the tree's nodes bring.
abbrev pub MapsLinked : (most : ℕ) → LibraryRecord → TreeRecord → (drivers arrivals : List ℕ) → Result CoverRecord Refusal → Type 0
MapsLinked most library tree drivers arrivals r =
    (l : Library) (t : Tree) (f : ℕ → Option ℕ) → SheetsStored l t library tree → ((n : ℕ) → n < 64 → f n ≡ brought arrivals (get_or drivers n 0)) → LinkedMapped most l f t r

-- The covers of the trees of whichever part, by whichever library's cells, the records hold.
abbrev pub MapsTrees : (most : ℕ) → LibraryRecord → PartRecord → Result (List CoverRecord) Refusal → Type 0
MapsTrees most library trees r = (l : Library) (p : Part) → LibraryStored l library → PartStored p trees → Says (CoversStored trees.count) (covers_from most l p.links [] p.trees) r

-- Their sheets.
abbrev pub MapsStored : LibraryRecord → PartRecord → (most : ℕ) → (output output' work work' : List ℕ) → Answer ℕ → Type 0
MapsStored library trees most output output' work work' a =
    (l : Library) (p : Part) → LibraryStored l library → PartStored p trees → Operated (part_sheets most l p) output output' work work' a
