-- Document 02's Paper 7 by examples: linked trees, with document 01's specimen sheet, and part sheets by their bytes.
use Rattle.std.specs.Prelude.{ℕ, zero, suc, ◌≡◌, List, [], ◌∷◌, ◌++◌, map, replicate}
use Rattle.sheets_rules.specs.Model.{plain_leaf, Shape, leaf, inv, nand, Tree}
use Rattle.covers.specs.Capacity.{capacity}
use Rattle.covers.specs.Cover.{Point, Cover}
use Rattle.covers.specs.Examples.Specimens.{specimen, tree, INV}
use Rattle.part_rules.specs.Part.{Link, Part}
use Rattle.fields.specs.Answer.{Answer, refused_in, success, ◌>>=◌, on_success}
use Rattle.part_rules.specs.PartRead.{links_judged, part}
use Rattle.part_rules.specs.Outcome.{covers_from}

-- A link by its reading tree, its leaf node and its driving tree, and a point by its area and arrival.
abbrev link : ℕ → ℕ → ℕ → Link
link r n d = record { reading = r; node = n; driving = d }

abbrev point : ℕ → ℕ → Point
point a t = record { area = a; arrival = t }

-- An inverter that arrives at 6, and one that arrives at 1,000,006.
abbrev early : Tree
early = tree INV 1 6

abbrev late : Tree
late = tree (inv (plain_leaf 1_000_000)) 1 1_000_006

-- By their required times: an inverter, whose node 1 is a leaf at 100; the same with a leaf of drive 3; a NAND, whose nodes 1 and 2 are leaves at 100 and 20.
abbrev over : ℕ → Tree
over = tree (inv (plain_leaf 100)) 1

abbrev driven : ℕ → Tree
driven = tree (inv (leaf (record { number = 100; drive = 3 }))) 1

abbrev both : ℕ → Tree
both = tree (nand (plain_leaf 100) (plain_leaf 20)) 1

-- A part by its trees and links, and the points of its trees or the refusal.
pub record Example : Type 0 where
  pub trees : List Tree
  pub links : List Link
  pub result : Answer (List Point)

abbrev row : List Tree → List Link → Answer (List Point) → Example
row ts xs r = record { trees = ts; links = xs; result = r }

-- Three inverters, and links that are refused.
abbrev faulty : List Link → ℕ → ℕ → Example
faulty xs number place = row (early ∷ over 12 ∷ over 18 ∷ []) xs (refused_in 0 number place)

abbrev pub linked : List Example
linked =
    row (early ∷ over 12 ∷ []) (link 1 1 0 ∷ []) (success (point 1 6 ∷ point 1 12 ∷ []))  -- 6 in place of 100
    ∷ row (early ∷ over 106 ∷ []) [] (success (point 1 6 ∷ point 1 106 ∷ []))  -- 100 with no link
    ∷ row (early ∷ over 11 ∷ []) (link 1 1 0 ∷ []) (success (point 1 6 ∷ point 2 11 ∷ []))  -- the earliest,
    ∷ row (early ∷ over 10 ∷ []) (link 1 1 0 ∷ []) (refused_in 1 8 0)  -- and one less: in tree 1
    ∷ row (tree INV 4 12 ∷ over 18 ∷ []) (link 1 1 0 ∷ []) (success (point 1 12 ∷ point 1 18 ∷ []))  -- the driving tree keeps its root load,
    ∷ row (early ∷ driven 15 ∷ []) (link 1 1 0 ∷ []) (success (point 1 6 ∷ point 1 15 ∷ []))  -- and the leaf its drive: 3 under a pin of load 1
    ∷ row (early ∷ over 12 ∷ over 18 ∷ []) (link 2 1 1 ∷ link 1 1 0 ∷ []) (success (point 1 6 ∷ point 1 12 ∷ point 1 18 ∷ []))  -- each tree by its own link
    ∷ row (early ∷ both 14 ∷ []) (link 1 1 0 ∷ link 1 2 0 ∷ []) (success (point 1 6 ∷ point 2 14 ∷ []))  -- one tree drives two leaves
    ∷ row (early ∷ both 28 ∷ []) (link 1 1 0 ∷ []) (success (point 1 6 ∷ point 2 28 ∷ []))  -- a leaf that is not linked stays at 20
    ∷ row (tree (plain_leaf 1_000_000) 1 1_000_000 ∷ over 1_000_006 ∷ []) (link 1 1 0 ∷ []) (success (point 0 1_000_000 ∷ point 1 1_000_006 ∷ []))  -- the latest that may be brought
    ∷ row (late ∷ over 0 ∷ []) (link 1 1 0 ∷ []) (refused_in 1 43 1)  -- over it, before 8
    ∷ row (late ∷ both 0 ∷ []) (link 1 2 0 ∷ link 1 1 0 ∷ []) (refused_in 1 43 1)  -- the lowest of two
    ∷ faulty (link 1 0 0 ∷ []) 41 17  -- a gate, at the leaf field
    ∷ faulty (link 1 1 0 ∷ link 2 0 0 ∷ []) 41 31
    ∷ faulty (link 1 2 0 ∷ []) 41 17  -- a node that the tree has not
    ∷ faulty (link 2 1 0 ∷ link 2 1 1 ∷ []) 41 31  -- a leaf already linked
    ∷ faulty (link 1 1 1 ∷ []) 42 0  -- the tree itself, at the link's position
    ∷ faulty (link 1 1 0 ∷ link 2 1 2 ∷ []) 42 1
    ∷ faulty (link 0 1 1 ∷ []) 42 0  -- a higher tree
    ∷ faulty (link 1 0 1 ∷ []) 41 17  -- 41 before 42,
    ∷ faulty (link 1 1 1 ∷ link 2 0 0 ∷ []) 42 0  -- but link by link
    ∷ []

abbrev outcome : Example → Answer (List Point)
outcome r = do
  links ← links_judged r.trees [] r.links
  on_success (map (λ (c : Cover). c.point)) (covers_from capacity specimen links [] r.trees)

abbrev pub Linked : Type 0
Linked = map outcome linked ≡ map (λ (r : Example). r.result) linked

-- ---- sheets

-- 00010 00000001, 0001 000001 0000 and five zero bits: two trees and a link, by which leaf 1 of tree 1 takes the arrival of tree 0.
abbrev pub head : List ℕ
head = 0x10 ∷ 0x08 ∷ 0x82 ∷ 0x00 ∷ []

-- The two trees of `early` and `over 12`: load, required time, the codes of INV and leaf, arrival. The second without its last byte.
abbrev pub first : List ℕ
first = 0x01 ∷ 0x00 ∷ 0x00 ∷ 0x06 ∷ 0x40 ∷ 0x00 ∷ 0x00 ∷ []

abbrev torn : List ℕ
torn = 0x01 ∷ 0x00 ∷ 0x00 ∷ 0x0c ∷ 0x40 ∷ 0x00 ∷ []

abbrev pub second : List ℕ
second = torn ++ (0x64 ∷ [])

-- A leaf, by the last two bits of its last byte.
abbrev lone : ℕ → List ℕ
lone rest = 0x01 ∷ 0x00 ∷ 0x00 ∷ 0x06 ∷ 0x00 ∷ 0x00 ∷ rest ∷ []

-- A tree of 64 nodes, the last of which is its leaf: so many inverters over a leaf at 100; and its bytes.
abbrev inverters : ℕ → Shape
inverters zero = plain_leaf 100
inverters (suc n) = inv (inverters n)

abbrev tall : List ℕ
tall = 0x01 ∷ 0x00 ∷ 0x00 ∷ 0x0c ∷ replicate 15 0x55 ++ (0x54 ∷ 0x00 ∷ 0x06 ∷ 0x40 ∷ [])

-- Bytes, and the part that they hold or the refusal.
pub record Sheet : Type 0 where
  pub bytes : List ℕ
  pub result : Answer Part

abbrev holds : List ℕ → List Tree → List Link → Sheet
holds s ts xs = record { bytes = s; result = success (record { trees = ts; links = xs }) }

abbrev refuses : List ℕ → (tree number place : ℕ) → Sheet
refuses s k number place = record { bytes = s; result = refused_in k number place }

abbrev pub sheets : List Sheet
sheets =
    holds (head ++ first ++ second) (early ∷ over 12 ∷ []) (link 1 1 0 ∷ [])
    ∷ holds (head ++ lone 0 ++ second) (tree (plain_leaf 0) 1 6 ∷ over 12 ∷ []) (link 1 1 0 ∷ [])  -- tree 1 from the next byte on
    ∷ holds (0x08 ∷ 0x00 ∷ first) (early ∷ []) []  -- one tree, no link
    ∷ holds (0x10 ∷ 0x08 ∷ 0xfe ∷ 0x00 ∷ first ++ tall) (early ∷ tree (inverters 63) 1 12 ∷ []) (link 1 63 0 ∷ [])  -- the highest leaf node
    ∷ refuses (0x00 ∷ 0x00 ∷ []) 0 41 0  -- no tree
    ∷ refuses (0x80 ∷ 0x00 ∷ []) 0 12 0  -- 16 trees, of which the first is missing,
    ∷ refuses (0x88 ∷ 0x00 ∷ []) 0 41 0  -- and 17
    ∷ refuses (0x0f ∷ 0xf8 ∷ []) 0 41 13  -- 255 links, of which the first is missing
    ∷ refuses (0x10 ∷ 0x08 ∷ 0x82 ∷ []) 0 41 23  -- torn in the driving tree
    ∷ refuses (0x10 ∷ 0x08 ∷ 0x82 ∷ 0x01 ∷ []) 0 41 27  -- a set bit after the links
    ∷ refuses (0x10 ∷ 0x09 ∷ 0x02 ∷ 0x00 ∷ []) 0 41 13  -- a reading tree 2 of two,
    ∷ refuses (0x10 ∷ 0x08 ∷ 0x82 ∷ 0x40 ∷ []) 0 41 23  -- and a driving one
    ∷ refuses head 0 12 0  -- no byte after the links
    ∷ refuses (head ++ lone 1) 0 13 54  -- a set bit after tree 0
    ∷ refuses (head ++ first ++ torn) 1 12 36  -- tree 1 torn in its leaf, by its own first bit
    ∷ refuses (head ++ first ++ second ++ (0x00 ∷ [])) 1 13 56  -- a byte after the last tree
    ∷ refuses (0x10 ∷ 0x08 ∷ 0x82 ∷ 0x20 ∷ first ++ second) 0 42 0  -- tree 1 drives itself
    ∷ []

abbrev pub Sheets : Type 0
Sheets = map (λ (x : Sheet). part x.bytes) sheets ≡ map (λ (x : Sheet). x.result) sheets
