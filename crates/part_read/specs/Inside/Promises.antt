-- What the functions of this crate promise each other.
use Rattle.std.specs.Prelude.{ℕ, ◌+◌, ◌*◌, ◌≤◌, ◌<◌, ◌≡◌, length, get_or, Result, Ok, Err, MatchResult}
use mathlib.Core.List.{List, [], map, Memᴰ}
use Rattle.std.proofs.Math.Option.{Option, none, some}
use Rattle.std.proofs.Math.ListN.{get_elem?}
use Rattle.fields.specs.declared.Flaw.{Flaw}
use Rattle.fields.specs.Answer.{Answer, success, Bounded}
use Rattle.fields.specs.Reading.{start}
use Rattle.fields.specs.Inside.Promises.{Took, Flawed}
use Rattle.sheets_rules.specs.declared.TreeRecord.{TreeRecord}
use Rattle.sheets_rules.specs.declared.Refusal.{Refusal}
use Rattle.sheets_rules.specs.Report.{refusal}
use Rattle.sheets_rules.specs.Model.{Tree}
use Rattle.sheets_rules.specs.Inside.Sound.{SoundTree}
use Rattle.sheets_rules.specs.Inside.Layout.{padded, tree_laid}
use Rattle.sheets_rules.specs.Inside.Readers.{Says}
use Rattle.part_rules.specs.Part.{Link, driver_of}
use Rattle.part_rules.specs.PartSheet.{trees_most, links_at, link_width, Counts, counts}
use Rattle.part_read.specs.declared.LinkRecord.{LinkRecord}
use Rattle.part_read.specs.declared.CountsRecord.{CountsRecord}
use Rattle.part_read.specs.declared.PartRecord.{PartRecord}
use Rattle.part_rules.specs.PartRead.{link_judged, links_judged, after_counts}
use Rattle.part_read.specs.Inside.Decoded.{no_tree, TreesStored, Marks, PartStored}
use Rattle.part_link.specs.Inside.Promises.{driver_named}

-- A link in its record, and links at the front of an array of 255.
abbrev pub link_laid : Link → LinkRecord
link_laid x = record { reading = x.reading; node = x.node; driving = x.driving }

abbrev pub no_link : LinkRecord
no_link = record { reading = 0; node = 0; driving = 0 }

abbrev pub links_laid : List Link → List LinkRecord
links_laid xs = padded 255 no_link (map link_laid xs)

-- The tree numbers of a link are below 16 and its node below 64, whatever was read.
pub record SmallLink (x : LinkRecord) : Type 0 where
  pub reading : x.reading < trees_most
  pub node : x.node < 64
  pub driving : x.driving < trees_most

abbrev pub SmallLinks : List LinkRecord → Type 0
SmallLinks l = (k : ℕ) → SmallLink (get_or l k no_link)

-- What is handed over of a link, of all links, and of the counts and the links.
pub record LinkLaid (x : Link) (r : LinkRecord) : Type 0 where
  pub link_is : r ≡ link_laid x
  pub small : SmallLink r

pub record LinksLaid (n : ℕ) (xs : List Link) (r : List LinkRecord) : Type 0 where
  pub many : length xs ≡ n
  pub links_are : r ≡ links_laid xs
  pub small : SmallLinks r

-- The counts are small, and so are the numbers of the links.
pub record CountsFew (r : CountsRecord) : Type 0 where
  pub trees : r.trees ≤ trees_most
  pub links : r.count ≤ 255
  pub small : SmallLinks r.links

pub record CountsLaid (x : Counts) (r : CountsRecord) : Type 0 where
  pub trees_are : r.trees ≡ x.trees
  pub counted : r.count ≡ length x.links
  pub links_are : r.links ≡ links_laid x.links
  pub few : CountsFew r

abbrev pub CountsAre : List ℕ → Result CountsRecord Flaw → Type 0
CountsAre s r = MatchResult r (λ x. Took CountsLaid (counts s start) (links_at + link_width * 255) x.after x) (Flawed (counts s start) (links_at + link_width * 255))

-- The record of a tree that may not be there.
abbrev pub laid_or : Option Tree → TreeRecord
laid_or none = no_tree
laid_or (some t) = tree_laid t

-- What is lent of a link after those before it: its reading tree, if it is there, itself, and its leaf's driver among those before.
pub record LinkAt (trees : List Tree) (before : List Link) (x : Link) (tree : TreeRecord) (link : LinkRecord) (driver position : ℕ) : Type 0 where
  pub sound : (t : Tree) → Memᴰ t trees → SoundTree t
  pub tree_is : tree ≡ laid_or (get_elem? trees x.reading)
  pub link_is : link ≡ link_laid x
  pub driver_is : driver_of before x.reading x.node ≡ driver_named driver
  pub position_is : position ≡ length before

-- What is said of a link: its refusal, which fits a word; or that all of it is as it should be.
abbrev pub LinkSaid : Answer (List Link) → Result (Unit {0}) Refusal → Type 0
LinkSaid o (Err r) = (o ≡ refusal r) × Bounded (refusal r)
LinkSaid o (Ok u) = (xs : List Link) × (o ≡ success xs)

-- What is said of whichever link the records hold, of all links of whichever part, and of all that stands after its counts and links.
abbrev pub JudgesLink : TreeRecord → LinkRecord → (driver position : ℕ) → Result (Unit {0}) Refusal → Type 0
JudgesLink tree link driver position r = (trees : List Tree) (before : List Link) (x : Link) → LinkAt trees before x tree link driver position → LinkSaid (link_judged trees before x) r

abbrev pub JudgesLinks : List TreeRecord → CountsRecord → Result (List ℕ) Refusal → Type 0
JudgesLinks trees counts r = (ts : List Tree) (xs : List Link) → TreesStored ts trees → counts.links ≡ links_laid xs → counts.count ≡ length xs → Says Marks (links_judged ts [] xs) r

abbrev pub ReadsRest : CountsRecord → (s : List ℕ) → Result PartRecord Refusal → Type 0
ReadsRest counts s r = (xs : List Link) → counts.links ≡ links_laid xs → counts.count ≡ length xs → Says PartStored (after_counts counts.trees xs s) r
