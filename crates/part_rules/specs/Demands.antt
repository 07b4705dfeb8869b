-- What is demanded of the links of a part, and of everything that is answered to a sound library and a sound part: what is said of a tree's cover is said among all its legal covers.
use Rattle.std.specs.Prelude.{ℕ, ◌≤◌, ◌<◌, ◌≡◌, ◌↔◌, length, take, drop}
use mathlib.Core.List.{List, [], ◌∷◌, ◌++◌, flat_map, Memᴰ}
use Rattle.std.proofs.Math.Option.{Option, none, some}
use Rattle.std.proofs.Math.ListN.{get_elem?}
use Rattle.fields.specs.Reading.{start}
use Rattle.fields.specs.Answer.{Answer, refused, refused_in, success}
use Rattle.sheets_rules.specs.Model.{Library, Tree}
use Rattle.sheets_rules.specs.Report.{library_said, tree_said}
use Rattle.covers.specs.Cover.{Cover}
use Rattle.covers.specs.CoverSheet.{cover_sheet, CoverReads}
use Rattle.covers.specs.Answer.{overfull_number, no_cover_number}
use Rattle.covers.specs.Lending.{lent, late_number}
use Rattle.covers.specs.Promise.{InTime, BestCover, HighestTooMany, NoneTooMany}
use Rattle.judge_rules.specs.Judgement.{judgement}
use Rattle.part_rules.specs.Part.{Link, Part, leaf_nodes, known, known_tree}
use Rattle.part_rules.specs.PartSheet.{leaf_field, Counts, counts}
use Rattle.part_rules.specs.PartRead.{link_number, driver_number, sheet_read, trees_from, part}
use Rattle.part_rules.specs.Outcome.{latest_linked, part_bytes}

-- ---- the links of a part

-- A link names a leaf of its reading tree.
pub record NamesLeaf (trees : List Tree) (x : Link) : Type 0 where
  pub tree : Tree
  pub tree_is : get_elem? trees x.reading ≡ some tree
  pub among : Memᴰ x.node (leaf_nodes 0 tree.shape)

-- Two links name the same leaf.
abbrev pub SameLeaf : Link → Link → Type 0
SameLeaf x y = (x.reading ≡ y.reading) × (x.node ≡ y.node)

-- Each link names a leaf, which no link before it names, and a lower-numbered tree drives it.
pub record SoundLinks (trees : List Tree) (links : List Link) : Type 0 where
  pub leaf : (x : Link) → Memᴰ x links → NamesLeaf trees x
  pub free : (j k : ℕ) (x y : Link) → j < k → get_elem? links j ≡ some x → get_elem? links k ≡ some y → SameLeaf x y → ⊥
  pub lower : (x : Link) → Memᴰ x links → x.driving < x.reading

-- What is said of the link at position k where it is at fault, with the place: 41, before 42.
pub data LinkFault (trees : List Tree) (before : List Link) (k : ℕ) (x : Link) : (number place : ℕ) → Type 0 where
  no_leaf : (NamesLeaf trees x → ⊥) → LinkFault trees before k x link_number (leaf_field k)
  leaf_taken : {y : Link} → Memᴰ y before → SameLeaf y x → LinkFault trees before k x link_number (leaf_field k)
  not_lower : NamesLeaf trees x → ((y : Link) → Memᴰ y before → SameLeaf y x → ⊥) → x.reading ≤ x.driving → LinkFault trees before k x driver_number k

-- A link is the first at fault.
pub record FirstFault (trees : List Tree) (links : List Link) (number place : ℕ) : Type 0 where
  pub position : ℕ
  pub before : SoundLinks trees (take position links)
  pub link : Link
  pub link_is : get_elem? links position ≡ some link
  pub fault : LinkFault trees (take position links) position link number place

-- The numbers that are said of links.
pub data LinkNumber : ℕ → Type 0 where
  of_leaf : LinkNumber link_number
  of_driver : LinkNumber driver_number

-- Where the counts, the fields of the links and the trees of a part sheet are sound, the part is exactly when its links are; else the answer o names the first link at fault.
pub record LinkDemands (ps : List ℕ) (head : Counts × ℕ) (trees : List Tree) (o : Answer (List ℕ)) : Type 0 where
  pub sound_exactly : (part ps ≡ success (record { trees = trees; links = head.0.links })) ↔ SoundLinks trees head.0.links
  pub refused_exactly : (number place : ℕ) → LinkNumber number → (o ≡ refused number place) ↔ FirstFault trees head.0.links number place
  pub numbered : (number place : ℕ) → FirstFault trees head.0.links number place → LinkNumber number

abbrev pub LinksWhereRead : (ls ps : List ℕ) → (output work : ℕ) → Answer (List ℕ) → Type 0
LinksWhereRead ls ps output work o = (most : ℕ) (l : Library) (head : Counts × ℕ) (trees : List Tree) → lent part_bytes output work ≡ success most → library_said ls ≡ success l → sheet_read (λ f. link_number) (counts ps start) ≡ success head → trees_from [] head.0.trees (drop head.1 ps) ≡ success trees → LinkDemands ps head trees o

-- What the links bring where these are the covers, be they those of all trees or of the first ones: to a linked leaf the arrival of its driving tree's cover, to any other node nothing.
pub record LinksBring (links : List Link) (covers : List Cover) : Type 0 where
  pub brings : (x : Link) → Memᴰ x links → x.reading ≤ length covers → (d : Cover) → get_elem? covers x.driving ≡ some d → known links (take x.reading covers) x.node ≡ some d.point.arrival
  pub brings_none : (k n : ℕ) → k ≤ length covers → ((x : Link) → Memᴰ x links → (x.reading ≡ k) → (x.node ≡ n) → ⊥) → known links (take k covers) n ≡ none

-- ---- a tree, where f says the arrivals that links bring

-- A leaf of the tree to which a link brings an arrival over 1,000,000, and the lowest-numbered such leaf.
pub record TooLate (f : ℕ → Option ℕ) (t : Tree) (n : ℕ) : Type 0 where
  pub among : Memᴰ n (leaf_nodes 0 t.shape)
  pub arrival : ℕ
  pub brought : f n ≡ some arrival
  pub late : latest_linked < arrival

pub record LowestTooLate (f : ℕ → Option ℕ) (t : Tree) (n : ℕ) : Type 0 where
  pub late : TooLate f t n
  pub none_below : (m : ℕ) → m < n → TooLate f t m → ⊥

abbrev pub NoneTooLate : (ℕ → Option ℕ) → Tree → Type 0
NoneTooLate f t = (n : ℕ) → TooLate f t n → ⊥

module _ (most : ℕ) (l : Library) where
  -- The tree is mapped: no such arrival, no node with too many trade-offs, and of all legal covers of the tree with its arrivals as then known this is the one to hand over.
  pub record IsMapped (f : ℕ → Option ℕ) (t : Tree) (c : Cover) : Type 0 where
    pub none_late : NoneTooLate f t
    pub none_overfull : NoneTooMany most l (known_tree f t)
    pub best : BestCover l (known_tree f t) c

  -- What is said where it is not, with the place: 43, before 7, before 8.
  pub data Fails (f : ℕ → Option ℕ) (t : Tree) : (number place : ℕ) → Type 0 where
    late : {n : ℕ} → LowestTooLate f t n → Fails f t late_number n
    overfull : {n : ℕ} → NoneTooLate f t → HighestTooMany most l (known_tree f t) n → Fails f t overfull_number n
    no_cover : NoneTooLate f t → NoneTooMany most l (known_tree f t) → ((c : Cover) → InTime l (known_tree f t) c → ⊥) → Fails f t no_cover_number 0

  -- ---- the trees of a part, one after another

  module _ (links : List Link) where
    -- After the covers before, the trees are mapped, each with the arrivals of all covers before it; the covers are then these.
    pub data AreMapped : (before : List Cover) → List Tree → List Cover → Type 0 where
      no_more : {before : List Cover} → AreMapped before [] before
      one_more : {before covers : List Cover} {t : Tree} {ts : List Tree} {c : Cover} → IsMapped (known links before) t c → AreMapped (before ++ (c ∷ [])) ts covers → AreMapped before (t ∷ ts) covers

    -- Tree k is the first that is not mapped: those before it are, and it fails with the arrivals of their covers.
    pub record FirstFails (trees : List Tree) (k number place : ℕ) : Type 0 where
      pub covers : List Cover
      pub before : AreMapped [] (take k trees) covers
      pub tree : Tree
      pub tree_is : get_elem? trees k ≡ some tree
      pub fails : Fails (known links covers) tree number place

-- The cover is read back from its sheet; some sheet says the tree, and for each that does the judge of covers accepts the cover's sheet, with the cover's figures.
pub record IsAccepted (ls : List ℕ) (t : Tree) (c : Cover) : Type 0 where
  pub reads : CoverReads c (cover_sheet c)
  pub some_sheet : (ts : List ℕ) × (tree_said ts ≡ success t)
  pub accepts : (ts : List ℕ) → tree_said ts ≡ success t → judgement ls ts (cover_sheet c) ≡ success c.point

-- What is demanded of the answer o to the library l, on the sheet ls, and the part p.
pub record PartDemands (most : ℕ) (ls : List ℕ) (l : Library) (p : Part) (o : Answer (List ℕ)) : Type 0 where
  -- Each link names a leaf that no other names, and a lower tree drives it; and it brings what it should, whatever the covers are.
  pub links_sound : SoundLinks p.trees p.links
  pub links_bring : (covers : List Cover) → LinksBring p.links covers
  -- Sheets are handed over exactly when every tree is mapped,
  pub sheets_exactly : ((bytes : List ℕ) × (o ≡ success bytes)) ↔ ((covers : List Cover) × AreMapped most l p.links [] p.trees covers)
  -- and a refusal exactly when some tree is not: the first such tree is named, with what is wrong there.
  pub refused_exactly : (k number place : ℕ) → (o ≡ refused_in k number place) ↔ FirstFails most l p.links p.trees k number place
  -- The bytes are the sheets of the covers in tree order, and the judge accepts each for its tree with the arrivals put in.
  pub sheets_are : (bytes : List ℕ) → o ≡ success bytes → (covers : List Cover) × AreMapped most l p.links [] p.trees covers × (bytes ≡ flat_map cover_sheet covers)
      × ((k : ℕ) (t : Tree) (c : Cover) → get_elem? p.trees k ≡ some t → get_elem? covers k ≡ some c → IsAccepted ls (known_tree (known p.links (take k covers)) t) c)

-- The demands of the library and the part on the two sheets, if enough is lent and both are sound.
abbrev pub PartWhereSound : (ls ps : List ℕ) → (output work : ℕ) → Answer (List ℕ) → Type 0
PartWhereSound ls ps output work o = (most : ℕ) (l : Library) (p : Part) → lent part_bytes output work ≡ success most → library_said ls ≡ success l → part ps ≡ success p → PartDemands most ls l p o
