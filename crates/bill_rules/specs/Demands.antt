-- What a printed bill is worth.
use Rattle.std.specs.Prelude.{ℕ, ◌*◌, ◌≤◌, ◌<◌, ◌≡◌, ◌↔◌, false, pos, ◌+ℤ◌, length, get_or}
use mathlib.Core.List.{List, map, Memᴰ}
use Rattle.fields.specs.Reading.{start}
use Rattle.fields.specs.Answer.{refused_in, success}
use Rattle.sheets_rules.specs.Model.{Library, cell_of, area_of, Tree}
use Rattle.sheets_rules.specs.LibrarySheet.{library}
use Rattle.sheets_rules.specs.TreeSheet.{tree}
use Rattle.sheets_rules.specs.TreeWritten.{SameTree}
use Rattle.covers.specs.Cover.{Point, Placed, Cover}
use Rattle.covers.specs.CoverSheet.{cover_read}
use Rattle.covers.specs.Promise.{RootCover, listed_area}
use Rattle.judge_rules.specs.Judgement.{judgement}
use Rattle.frame.specs.Framed.{refusal_line}
use Rattle.bill_rules.specs.Bill.{Entry, Bill, uses, amounts, counts}
use Rattle.bill_rules.specs.Billed.{bill_text, bill_shown, is_spoiled, library_part, tree_part, cover_part, longest_bill}

-- The cells that have a line, in order; and the one on line k.
abbrev pub cells_of : Bill → List ℕ
cells_of b = map (λ (e : Entry). e.cell) b.entries

abbrev pub cell_at : Bill → ℕ → ℕ
cell_at b k = get_or (cells_of b) k 0

-- What a bill of a cover says. It is fixed by this: no two bills of a cover say all of it.
pub record BillIs (l : Library) (t : Tree) (c : Cover) (b : Bill) : Type 0 where
  -- The lines ascend by cell, so that no cell has two.
  pub ascending : (j k : ℕ) → j < k → k < length b.entries → cell_at b j < cell_at b k
  -- The cells that have a line are those of the listed matches.
  pub used : (n : ℕ) → Memᴰ n (cells_of b) ↔ ((x : Placed) × Memᴰ x c.placed × (cell_of l x.pattern ≡ n))
  -- Each line has its cell's count, and count × area.
  pub counted : (e : Entry) → Memᴰ e b.entries → e.count ≡ uses l c.placed e.cell
  pub amounted : (e : Entry) → Memᴰ e b.entries → e.amount ≡ e.count * area_of l e.cell
  -- The total is the sum of the lines.
  pub total_lines : b.total ≡ amounts b.entries
  -- The margin is required time minus arrival, as an integer.
  pub margin_is : b.margin +ℤ pos c.point.arrival ≡ pos t.required

-- What a bill adds up to.
pub record BillSums (l : Library) (c : Cover) (b : Bill) : Type 0 where
  -- "The total must equal the area on the cover and the sum over its matches."
  pub total_area : b.total ≡ c.point.area
  pub total_matches : b.total ≡ listed_area l c.placed
  -- The counts add up to the match count.
  pub counts_matches : counts b.entries ≡ length c.placed

-- What is demanded of the bytes printed for three sheets: where the cover is accepted, they are the one bill of it,
-- and it is a legal cover with its true figures; else the judge's refusal.
pub record BillDemands (ls ts cs printed : List ℕ) : Type 0 where
  pub accepted : (p : Point) → judgement ls ts cs ≡ success p →
      let l = (library ls start).0 in
      let t = (tree ts start).0 in
      let c = (cover_read cs start).0 in
      (b : Bill) × (printed ≡ bill_text b) × BillIs l t c b × ((b' : Bill) → BillIs l t c b' → b' ≡ b) × BillSums l c b × RootCover l t c × (c.point ≡ p)
  pub not_accepted : (item number place : ℕ) → judgement ls ts cs ≡ refused_in item number place → printed ≡ refusal_line number place

-- The demands of the three sheets of an input, if it is not spoiled and the text has room.
abbrev pub BilledWhereWhole : (room : ℕ) (input printed : List ℕ) → Type 0
BilledWhereWhole room input printed = longest_bill ≤ room → is_spoiled input ≡ false → BillDemands (library_part input) (tree_part input) (cover_part input) printed

-- Sheets that say the same tree are billed alike, for every cover sheet.
abbrev pub BilledAlike : Type 0
BilledAlike = (ls ts ts' cs : List ℕ) → SameTree ts ts' → bill_shown ls ts cs ≡ bill_shown ls ts' cs
