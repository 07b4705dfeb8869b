-- What the readers of this crate promise, each by the definitions of Reading and Drawing.
use Rattle.std.specs.Prelude.{ℕ, zero, suc, ◌+◌, ◌-◌, ◌*◌, ◌≤◌, ◌<◌, ◌≡◌, List, ◌++◌, Bool, true, false, cond, ◌&&◌, leb, length, take, get_or, set, Some, None, Result, Ok, Err, MatchResult}
use Rattle.std.proofs.lemmas.List.Edits.{sets}
use Rattle.bits.specs.declared.Cursor.{Cursor}
use Rattle.bits.specs.Bits.{place_of, field_at}
use Rattle.bits.specs.Inside.Promises.{Opens, Opened}
use Rattle.shapes_rules.specs.declared.Rules.{Rules}
use Rattle.shapes.specs.declared.Source.{Source}
use Rattle.shapes.specs.declared.Progress.{Progress}
use Rattle.shapes.specs.declared.ShapeRead.{ShapeRead}
use Rattle.fields.specs.declared.Fault.{Fault}
use Rattle.fields.specs.declared.Fault.TheVariants.{Truncated, Range, Drawing}
use Rattle.fields.specs.declared.Flaw.{Flaw}
use Rattle.fields.specs.declared.Sheet.{Sheet}
use Rattle.fields.specs.Reading.{Scan, At, Refused, Verdict, Sound, Faulty, Reader, place, field, Live}
use Rattle.fields.specs.Inside.Promises.{Reads}
use Rattle.shapes_rules.specs.Shape.{Shape, drive_unit, symbols, sizes, pin_symbol}
use Rattle.shapes_rules.specs.Drawing.{elem, has_all, code_verdict, leaf_node, driven_node, pair, node, shape, plain_bits, leaf_bits, node_bits}

-- ---- what is known of the pins

-- The pins of a pattern that stand among the symbols seen.
abbrev pub Met : Rules → List Bool → List ℕ → Type 0
Met rules pins seen = rules.pattern ≡ true → (x : ℕ) → x ≤ rules.most → get_or pins x false ≡ elem (pin_symbol x) seen

-- Whether each of the first n pins is marked.
unfoldable pub all_marked : ℕ → List Bool → Bool
all_marked zero pins = true
all_marked (suc n) pins = all_marked n pins && get_or pins n false

-- A leaf's number, by its range and its mark.
abbrev pub mark_verdict : Rules → Bool → ℕ → Verdict
mark_verdict rules marked x =
    cond (leb x rules.most)
    (cond (rules.pattern && marked) (Faulty Drawing) Sound)
    (Faulty Range)

-- ---- how a reader ends

-- Where it stands it goes on, or there is the field at fault.
abbrev pub outcome : {A : Type 0} → Result A Fault → Cursor → Scan
outcome (Ok a) c = At c
outcome (Err f) c = Refused f (place_of c)

-- The scan after a run of nodes, and the number of the node that follows.
pub record Reached : Type 0 where
  pub scan : Scan
  pub next : ℕ

abbrev pub reached : {A : Type 0} → Result A Fault → Progress → Reached
reached r p = record { scan = outcome r p.at; next = p.nodes }

-- ---- what the readers ask

-- A shape starts in the first byte of an opening, and each of its fields so that a word, four bytes, from its byte on is in the opening.
abbrev pub open_reach : ℕ
open_reach = 8 * 252

-- The rules that the reader can follow. There are 13 marks for pins.
pub record Followed (rules : Rules) : Type 0 where
  pub width : rules.width ≤ plain_bits
  pub most : rules.most < drive_unit
  pub nodes : rules.nodes ≤ 64
  pub pins : rules.pattern ≡ true → rules.most ≤ 12

-- Before a field: the cursor stands in the opening, with a word from its byte on.
pub record FieldRoom (source : Source) (p : Progress) : Type 0 where
  pub opened : Opened source.opening.now source.bytes
  pub used : p.at.used < 8
  pub near : p.at.byte ≤ 252

-- What the readers are lent: an opening of some bytes, and room for every node.
pub record Room (source : Source) (p : Progress) (l : List ℕ) : Type 0 where
  pub rules_are : Followed source.rules
  pub opened : Opened source.opening.now source.bytes
  pub long : length p.pins ≡ 13
  pub symbols_long : length l ≡ 64
  pub read : p.nodes ≤ source.rules.nodes
  pub used : p.at.used < 8
  pub near : place_of p.at + node_bits * (source.rules.nodes - p.nodes) ≤ open_reach
  pub met : Met source.rules p.pins (take p.nodes l)

-- After a leaf's code: there is room for the leaf, and for its drive.
pub record LeafRoom (source : Source) (p : Progress) (l : List ℕ) : Type 0 where
  pub rules_are : Followed source.rules
  pub opened : Opened source.opening.now source.bytes
  pub long : length p.pins ≡ 13
  pub symbols_long : length l ≡ 64
  pub room : p.nodes < source.rules.nodes
  pub used : p.at.used < 8
  pub near : place_of p.at + leaf_bits ≤ open_reach
  pub met : Met source.rules p.pins (take p.nodes l)

-- ---- what was read

-- A field was found where the reader stands, or the bytes end before or inside it.
abbrev pub FieldFound : List ℕ → Cursor → ℕ → Result (ℕ × Cursor) Fault → Type 0
FieldFound s c width r = MatchResult r (λ x. Some x ≡ field_at s (place_of c) width) (λ f. (f ≡ Truncated) × (None ≡ field_at s (place_of c) width))

-- A node's code was read after n nodes, and the scan after it. There is room for the node unless the scan is refused, and then it stays where it was.
pub record Coded (s : List ℕ) (rules : Rules) (scan : Scan) (n code : ℕ) (after : Scan) : Type 0 where
  pub reads : (code, after) ≡ field s 2 (code_verdict rules n) scan
  pub near : place after ≤ place scan + 2
  pub small : code ≤ 3
  pub gate : 0 < code → Live after
  pub tree : code ≡ 3 → rules.pattern ≡ false
  pub room : Live after → n < rules.nodes
  pub stays : (Live after → ⊥) → place after ≤ place scan

abbrev pub code_of : Result ℕ Fault → ℕ
code_of (Ok code) = code
code_of (Err f) = 0

pub record CodeRead (s : List ℕ) (rules : Rules) (p p' : Progress) (r : Result ℕ Fault) : Type 0 where
  pub coded : Coded s rules (At p.at) p.nodes (code_of r) (outcome r p'.at)
  pub nodes : p'.nodes ≡ p.nodes
  pub pins : p'.pins ≡ p.pins
  pub used : p'.at.used < 8

-- A node's symbol was laid out, and the node counted.
pub record Counted (p : Progress) (symbol : ℕ) (l : List ℕ) (p' : Progress) (l' : List ℕ) : Type 0 where
  pub laid : l' ≡ set l p.nodes symbol
  pub at : p'.at ≡ p.at
  pub nodes : p'.nodes ≡ p.nodes + 1
  pub pins : p'.pins ≡ p.pins

-- Nodes from n on were laid out in l, which became l': their symbols, and nothing else.
pub record Laid (n : ℕ) (l l' : List ℕ) (r : Reached) (after : Scan) (ss : List ℕ) : Type 0 where
  pub scan : r.scan ≡ after
  pub symbols : Live r.scan → l' ≡ sets l n ss
  pub next : Live r.scan → r.next ≡ n + length ss

-- How far the reader of shapes went.
pub record Went (rules : Rules) (scan : Scan) (n : ℕ) (r : Reached) : Type 0 where
  pub from : n ≤ r.next
  pub upto : r.next ≤ rules.nodes
  pub far : place r.scan ≤ place scan + node_bits * (rules.nodes - n)
  pub near : Live r.scan → place r.scan + node_bits * (rules.nodes - r.next) ≤ place scan + node_bits * (rules.nodes - n)

module _ (s : List ℕ) (rules : Rules) (scan : Scan) (n : ℕ) (l l' : List ℕ) (r : Reached) where
  -- A leaf of at most `bits` bits after its code, a node with all below it, and a NAND's two branches, as Drawing defines them, at every depth that is enough.
  pub record LeafRead (bits : ℕ) (read : List ℕ → Reader Shape) : Type 0 where
    pub laid : let x = read (take n l) scan in Laid n l l' r x.1 (symbols x.0)
    pub went : Live r.scan → r.next ≡ suc n
    pub near : place r.scan ≤ place scan + bits
    pub from : n ≤ r.next
    pub upto : r.next ≤ suc n

  pub record NodeRead : Type 0 where
    pub laid : (depth : ℕ) → rules.nodes - n < depth →
        let x = node s rules depth (take n l) scan in Laid n l l' r x.1 (symbols x.0)
    pub went : Went rules scan n r

  pub record PairRead : Type 0 where
    pub laid : (depth : ℕ) → rules.nodes - n < depth →
        let x = pair s rules (node s rules depth) (take n l) scan in
        Laid n l l' r x.1 (symbols x.0.0 ++ symbols x.0.1)
    pub went : Went rules scan n r

-- How far it is read afterwards, if nothing was refused.
pub record After (rules : Rules) (r : Result (Unit {0}) Fault) (p : Progress) (l : List ℕ) : Type 0 where
  pub long : length p.pins ≡ 13
  pub symbols_long : length l ≡ 64
  pub used : Live (outcome r p.at) → p.at.used < 8
  pub met : Live (outcome r p.at) → Met rules p.pins (take p.nodes l)

-- How a leaf's reader ends, plain and driven, a node's and a pair's.
module _ (s : List ℕ) (rules : Rules) (p : Progress) (l : List ℕ) (p' : Progress) (l' : List ℕ) (r : Result (Unit {0}) Fault) where
  abbrev pub LeafEnd : Type 0
  LeafEnd = LeafRead s rules (At p.at) p.nodes l l' (reached r p') plain_bits (leaf_node s rules) × After rules r p' l'

  abbrev pub DrivenEnd : Type 0
  DrivenEnd = LeafRead s rules (At p.at) p.nodes l l' (reached r p') leaf_bits (driven_node s rules) × After rules r p' l'

  abbrev pub NodeEnd : Type 0
  NodeEnd = NodeRead s rules (At p.at) p.nodes l l' (reached r p') × After rules r p' l'

  abbrev pub PairEnd : Type 0
  PairEnd = PairRead s rules (At p.at) p.nodes l l' (reached r p') × After rules r p' l'

-- Of any bytes that open so, the readers read what Drawing defines.
abbrev pub Done : (List ℕ → Rules → Type 0) → Source → Type 0
Done read source = (s : List ℕ) → Opens source.opening.now s source.bytes → read s source.rules

-- A whole shape that was read, its symbols laid out in l, which became l'.
pub record Drawn (rules : Rules) (l l' : List ℕ) (x : Shape) (r : ShapeRead) : Type 0 where
  pub symbols_are : l' ≡ sets l 0 (symbols x)
  pub size_is : r.size ≡ length (symbols x)
  pub whole_is : r.whole ≡ (rules.pattern && has_all (suc rules.most) (symbols x))
  pub few : r.size ≤ rules.nodes

pub record ShapeIs (old new : Sheet) (rules : Rules) (l l' : List ℕ) (r : Result ShapeRead Flaw) : Type 0 where
  pub reads : Reads old new (λ s. shape s rules) (Drawn rules l l') (node_bits * rules.nodes) r
  pub symbols_long : length l' ≡ 64

-- The first n symbols are those of a shape.
pub record Preorder (n : ℕ) (l : List ℕ) : Type 0 where
  pub many : n ≤ length l
  pub shape : Shape
  pub laid : take n l ≡ symbols shape

-- The sizes of that shape's nodes were set in m, which became m', and nothing else.
abbrev pub SizesSet : ℕ → List ℕ → List ℕ → List ℕ → Type 0
SizesSet n l m m' = (d : Shape) → take n l ≡ symbols d → m' ≡ sets m 0 (sizes d)

-- A scan reaches places up to 2^20: farther than a sheet goes, and far below 2^32.
abbrev pub reach : ℕ
reach = 1048576
