-- What the sheets' definitions read from sound bytes keeps the limits of `SoundLibrary` and `SoundTree`.
use mathlib.Core.Path.{◌≡◌, refl, sym, subst}
use mathlib.Core.Bool.{Bool, true}
use mathlib.Core.Logic.{⊎_elim}
use mathlib.Core.List.Memᴰ
use mathlib.Core.List.{List, [], ◌∷◌, ◌++◌, Memᴰ}
use Prim.Native.Nat.{ℕ, zero, suc, ◌+◌, ◌-◌, ◌≤◌, ◌<◌}
use native.Mathlib.Omega.{arith}
use lib.ListN.{length, length-append}
use Rattle.bits.specs.Bits.{ends_at}
use Rattle.shapes_rules.specs.declared.Rules.{Rules}
use Rattle.fields.specs.Reading.{Scan}
use Rattle.fields.specs.Reading.{Sound}
use Rattle.fields.specs.Reading.{Reader, place, times, within, free, field, start, Live}
use Rattle.shapes_rules.specs.Shape.{symbols}
use Rattle.shapes_rules.specs.Drawing.{has_all, code_verdict, leaf_verdict, leaf_node, driven_node, pair, branch, node, shape}
use Rattle.fields.proofs.Laws.{live_sound, free_small, range_least, range_passes, length_times, tailed_live}
use Rattle.shapes_rules.proofs.Drawing.{code_room, plain_symbol, leaf_passes, length_symbols, leaves_nands, node_live}
use Rattle.shapes_rules.proofs.Pins.{fresh, fresh_few, fresh_append, fresh_leaf}
use Rattle.sheets_rules.specs.Model.{Leaf, Shape, size, leaves, Pin, Library, Tree, patterns_from, patterns}
use Rattle.sheets_rules.specs.LibrarySheet.{Head, last, bin_load, head, pin, pattern_rules, pattern, count_verdict, drawings, cell, bins, cells, library, cell_after}
use Rattle.sheets_rules.specs.TreeSheet.{tree_rules, tail_at, tree_to, tree}
use Rattle.fields.specs.Answer.{success}
use Rattle.fields.proofs.Answer.{said_read, read_said}
use Rattle.sheets_rules.specs.Report.{library_number, tree_number, library_said, tree_said}
use Rattle.sheets_rules.specs.Inside.Sound.{IsGate, SoundDrawing, SoundPin, SoundCell, SoundLibrary, SoundTree}
use Rattle.sheets_rules.proofs.LibrarySheet.{complete_live, count_passes, count_fits, length_drawn, patterns_more}

-- ---- readers

-- What the reader reads without a refusal has the property, and there was no refusal before.
abbrev Keeps : {A : Type 0} → (A → Type 0) → Reader A → Type 0
Keeps P r = (c : Scan) → Live (r c).1 → P (r c).0 × Live c

field_keeps : (s : List ℕ) (w least most : ℕ) → Keeps (λ x. (least ≤ x) × (x ≤ most)) (field s w (within least most))
field_keeps s w least most c l =
    let h = live_sound s w (within least most) c l in
    let x = (field s w (within least most) c).0 in
    ((range_least least most x h.0, range_passes least most x h.0), h.1)

-- All that is read in n turns has the property that each turn keeps.
times_all : {A : Type 0} (P : A → Type 0) (r : List A → Reader A) → ((before : List A) → Keeps P (r before)) →
    (n : ℕ) → Keeps (λ xs. (x : A) → Memᴰ x xs → P x) (times n r)
unfolding times
times_all P r h zero c l = ((λ x m. absurd (Memᴰ.not-nil m)), l)
times_all P r h (suc n) c l =
    let xs = times n r c in
    let one = h xs.0 xs.1 l in
    let all = times_all P r h n c one.1 in
    ((λ x m. ⊎_elim (all.0 x) (λ k. subst P (sym (Memᴰ.eq_of_singleton k)) one.0) (Memᴰ.append_cases xs.0 m)), all.1)

-- ---- shapes

-- A shape drawn after the nodes with these symbols. Every leaf of a pattern has a new pin, and no drive.
record Drawn (rules : Rules) (seen : List ℕ) (x : Shape) : Type 0 where
  nodes : length seen + size x ≤ rules.nodes
  numbers : (y : Leaf) → Memᴰ y (leaves x) → (y.number ≤ rules.most) × (y.drive ≤ 255) × (rules.pattern ≡ true → y.drive ≡ 0)
  pins : rules.pattern ≡ true → length (leaves x) ≤ fresh (suc rules.most) seen (symbols x)

module _ (s : List ℕ) (rules : Rules) where
  branch_live : (d : ℕ) (seen : List ℕ) (code : ℕ) (c : Scan) → Live (branch s rules (node s rules d) seen code c).1 → Live c
  unfolding branch leaf_node driven_node pair
  branch_live d seen zero c l = (live_sound s rules.width (leaf_verdict rules seen) c l).1
  branch_live d seen (suc zero) c l = node_live s rules d (seen ++ (0 ∷ [])) c l
  branch_live d seen (suc (suc zero)) c l =
      let a = node s rules d (seen ++ (1 ∷ [])) c in
      node_live s rules d (seen ++ (1 ∷ [])) c (node_live s rules d ((seen ++ (1 ∷ [])) ++ symbols a.0) a.1 l)
  branch_live d seen (suc (suc (suc k))) c l =
      (live_sound s rules.width (leaf_verdict rules seen) c (live_sound s 8 free (field s rules.width (leaf_verdict rules seen) c).1 l).1).1

  -- The depth does not run out before the nodes allowed do.
  abbrev NodesDrawn : ℕ → Type 0
  NodesDrawn d = (seen : List ℕ) (c : Scan) → length seen ≤ rules.nodes → rules.nodes < d + length seen →
      Live (node s rules d seen c).1 → Drawn rules seen (node s rules d seen c).0

  branch_drawn : (d : ℕ) → NodesDrawn d → (seen : List ℕ) (code : ℕ) (c : Scan) → length seen < rules.nodes → rules.nodes ≤ d + length seen → (rules.pattern ≡ true → code ≤ 2) →
      let x = branch s rules (node s rules d) seen code c in Live x.1 → Drawn rules seen x.0
  unfolding branch leaf_node driven_node pair size leaves symbols
  branch_drawn d below seen zero c room deep tree l =
      let x = (field s rules.width (leaf_verdict rules seen) c).0 in
      let passes = leaf_passes rules seen x (live_sound s rules.width (leaf_verdict rules seen) c l).0 in
      record {
        nodes = omega arith;
        numbers = λ y m. rw (Memᴰ.eq_of_singleton m) (passes.0, omega arith, λ p. refl);
        pins = λ p. subst (λ (v : ℕ). 1 ≤ fresh (suc rules.most) seen (v ∷ [])) (sym (plain_symbol x)) (fresh_leaf (suc rules.most) x seen (omega arith) (passes.1 p));
      }
  branch_drawn d below seen (suc zero) c room deep tree l =
      let first = seen ++ (0 ∷ []) in
      let x = symbols (node s rules d first c).0 in
      let grown = length-append seen (0 ∷ []) in
      let a = below first c (omega arith) (omega arith) l in
      record { nodes = omega (arith, a.nodes); numbers = a.numbers; pins = λ p. omega (arith, a.pins p, fresh_append (suc rules.most) seen (0 ∷ []) x) }
  branch_drawn d below seen (suc (suc zero)) c room deep tree l =
      let first = seen ++ (1 ∷ []) in
      let x = node s rules d first c in
      let second = first ++ symbols x.0 in
      let y = node s rules d second x.1 in
      let grown = length-append seen (1 ∷ []) in
      let again = length-append first (symbols x.0) in
      let counted = length_symbols x.0 in
      let a = below first c (omega arith) (omega arith) (node_live s rules d second x.1 l) in
      let b = below second x.1 (omega (arith, a.nodes)) (omega arith) l in
      record {
        nodes = omega (arith, a.nodes, b.nodes);
        numbers = λ z m. ⊎_elim (a.numbers z) (b.numbers z) (Memᴰ.append_cases (leaves x.0) m);
        pins = λ p.
            let n = suc rules.most in
            let all = fresh_append n seen (1 ∷ []) (symbols x.0 ++ symbols y.0) in
            let both = fresh_append n first (symbols x.0) (symbols y.0) in
            omega (arith, a.pins p, b.pins p, length-append (leaves x.0) (leaves y.0));
      }
  branch_drawn d below seen (suc (suc (suc k))) c room deep tree l =
      let number = field s rules.width (leaf_verdict rules seen) c in
      let passes = leaf_passes rules seen number.0 (live_sound s rules.width (leaf_verdict rules seen) c (live_sound s 8 free number.1 l).1).0 in
      record {
        nodes = omega arith;
        numbers = λ y m. rw (Memᴰ.eq_of_singleton m) (passes.0, omega (arith, free_small s 8 number.1), λ p. absurd (omega (arith, tree p)));
        pins = λ p. absurd (omega (arith, tree p));
      }

  node_drawn : (d : ℕ) → NodesDrawn d
  unfolding node
  node_drawn zero seen c h deep l = absurd (omega arith)
  node_drawn (suc d) seen c h deep l =
      let v = code_verdict rules (length seen) in
      let code = field s 2 v c in
      let room = code_room rules (length seen) code.0 (live_sound s 2 v c (branch_live d seen code.0 code.1 l)).0 in
      branch_drawn d (node_drawn d) seen code.0 code.1 room.0 (omega (arith, room.0)) room.1 l

  shape_keeps : Keeps (Drawn rules []) (shape s rules)
  unfolding shape
  shape_keeps c l = (node_drawn (suc rules.nodes) [] c (omega arith) (omega arith) l, node_live s rules (suc rules.nodes) [] c l)

-- ---- cells

bin_keeps : (s before : List ℕ) → Keeps (λ x. x ≤ 255) (bin_load s before)
unfolding bin_load
bin_keeps s before c l = let h = field_keeps s 8 (suc (last before)) 255 c l in (h.0.1, h.1)

-- A head within its limits.
abbrev SoundHead : Head → Type 0
SoundHead h = (1 ≤ h.area) × (h.area ≤ 65535) × (h.highest ≤ 255) × (1 ≤ h.pins) × (h.pins ≤ 6)

head_keeps : (s : List ℕ) → Keeps SoundHead (head s)
unfolding head
head_keeps s c l =
    let held = field s 1 (within 0 1) c in
    let area = field s 16 (within 1 65535) held.1 in
    let highest = field s 8 (within 0 255) area.1 in
    let pins-in = field_keeps s 3 1 6 highest.1 l in
    let highest-in = field_keeps s 8 0 255 area.1 pins-in.1 in
    let area_in = field_keeps s 16 1 65535 held.1 highest-in.1 in
    ((area_in.0.0, area_in.0.1, highest-in.0.1, pins-in.0.0, pins-in.0.1), (field_keeps s 1 0 1 c area_in.1).1)

pin_keeps : (s : List ℕ) (bins : ℕ) (before : List Pin) → Keeps (λ p. 1 ≤ bins → SoundPin bins p) (pin s bins before)
unfolding pin
pin_keeps s bins before c l =
    let bin = field s 2 (within 0 (bins - 1)) c in
    let intrinsic = field s 16 (within 0 65535) bin.1 in
    let drive-in = field_keeps s 8 0 255 intrinsic.1 l in
    let intrinsic-in = field_keeps s 16 0 65535 bin.1 drive-in.1 in
    let bin-in = field_keeps s 2 0 (bins - 1) c intrinsic-in.1 in
    ((λ some. (omega (arith, bin-in.0.1), intrinsic-in.0.1, drive-in.0.1)), bin-in.1)

-- A pattern does not open with a leaf.
opens_gate : (s : List ℕ) (pins : ℕ) (c : Scan) → Live (shape s (pattern_rules pins) c).1 → IsGate (shape s (pattern_rules pins) c).0
unfolding shape node branch code_verdict
opens_gate s pins c l =
    let v = code_verdict (pattern_rules pins) 0 in
    let code = field s 2 v c in
    go code.0 code.1 (live_sound s 2 v c (branch_live s (pattern_rules pins) 16 [] code.0 code.1 l)).0
  where
    go : (k : ℕ) (at : Scan) → code_verdict (pattern_rules pins) 0 k ≡ Sound → IsGate (branch s (pattern_rules pins) (node s (pattern_rules pins) 16) [] k at).0
    go zero at e = let z : ◌≡◌ {A = ℕ} 0 1 = cc in absurd (omega arith)
    go (suc zero) at e = tt
    go (suc (suc zero)) at e = tt
    go (suc (suc (suc k))) at e = absurd (omega (arith, (code_room (pattern_rules pins) 0 (suc (suc (suc k))) e).1 refl))

pattern_keeps : (s : List ℕ) (pins : ℕ) (before : List Shape) → Keeps (λ d. 1 ≤ pins → SoundDrawing pins d) (pattern s pins before)
unfolding pattern
pattern_keeps s pins before c l =
    let x = shape s (pattern_rules pins) c in
    let live = complete_live (has_all pins (symbols x.0)) (place c) x.1 l in
    let h = shape_keeps s (pattern_rules pins) c live in (
      (λ some. record {
        size = omega (arith, h.0.nodes);
        gate = opens_gate s pins c live;
        leaves = λ y m. let n = h.0.numbers y m in (omega (arith, n.0), n.2 refl);
        nands = omega (arith, leaves_nands x.0, h.0.pins refl, fresh_few (suc (pins - 1)) [] (symbols x.0));
      }),
      h.1,
    )

drawings_keep : (s : List ℕ) (pins total : ℕ) → Keeps (λ ds. (1 ≤ length ds) × ((d : Shape) → Memᴰ d ds → 1 ≤ pins → SoundDrawing pins d)) (drawings s pins total)
unfolding drawings
drawings_keep s pins total c l =
    let count = field s 3 (count_verdict total) c in
    let all = times_all (λ d. 1 ≤ pins → SoundDrawing pins d) (pattern s pins) (pattern_keeps s pins) count.0 count.1 l in
    let sound = live_sound s 3 (count_verdict total) c all.1 in
    ((omega (arith, length_times count.0 (pattern s pins) count.1, count_passes total count.0 sound.0), all.0), sound.1)

cell_keeps : (s : List ℕ) (bins total : ℕ) → Keeps (λ c. 1 ≤ bins → SoundCell bins c) (cell s bins total)
unfolding cell
cell_keeps s bins total c l =
    let h = head s c in
    let n = h.0.pins in
    let ps = times n (pin s bins) h.1 in
    let drawn-in = drawings_keep s n total ps.1 l in
    let pins-in = times_all (λ p. 1 ≤ bins → SoundPin bins p) (pin s bins) (pin_keeps s bins) n h.1 drawn-in.1 in
    let head_in = head_keeps s c pins-in.1 in
    let few = length_times n (pin s bins) h.1 in (
      (λ some. record {
        some_area = head_in.0.0;
        area = head_in.0.1;
        highest = head_in.0.2;
        some_pin = omega (arith, head_in.0.3);
        few_pins = omega (arith, head_in.0.4);
        pins = λ p m. pins-in.0 p m some;
        some_drawing = drawn-in.0.0;
        drawings = λ d m. rw few (drawn-in.0.1 d m head_in.0.3);
      }),
      head_in.1,
    )

-- ---- sheets

-- A cell's patterns fit after those of the cells before, refused or not.
cell_fits : (s : List ℕ) (bins total : ℕ) (c : Scan) → total ≤ 128 → total + length (cell s bins total c).0.drawings ≤ 128
unfolding cell drawings
cell_fits s bins total c h =
    let hd = head s c in
    let at = (times hd.0.pins (pin s bins) hd.1).1 in
    let count = field s 3 (count_verdict total) at in
    omega (arith, length_times count.0 (pattern s hd.0.pins) count.1, count_fits s total at h)

patterns_few : (s : List ℕ) (bins n : ℕ) (c : Scan) → length (patterns_from 0 (times n (cell_after s bins) c).0) ≤ 128
unfolding times patterns_from
patterns_few s bins zero c = omega arith
patterns_few s bins (suc n) c =
    let before = times n (cell_after s bins) c in
    let total = length (patterns_from 0 before.0) in
    rw (patterns_more, length-append, length_drawn) (cell_fits s bins total before.1 (patterns_few s bins n c))

pub library_limits : (s : List ℕ) → Live (library s start).1 → SoundLibrary (library s start).0
unfolding library bins cells patterns
library_limits s l =
    let count = field s 3 (within 1 4) start in
    let loads = times count.0 (bin_load s) count.1 in
    let n = length loads.0 in
    let number = field s 7 (within 1 64) loads.1 in
    let cs = times number.0 (cell_after s n) number.1 in
    let cells_in = times_all (λ c. 1 ≤ n → SoundCell n c) (cell_after s n) (λ before. cell_keeps s n (length (patterns_from 0 before))) number.0 number.1 (tailed_live (ends_at s) cs.1 l) in
    let number_in = field_keeps s 7 1 64 loads.1 cells_in.1 in
    let loads-in = times_all (λ x. x ≤ 255) (bin_load s) (bin_keeps s) count.0 count.1 number_in.1 in
    let count-in = field_keeps s 3 1 4 start loads-in.1 in
    let bins_are = length_times count.0 (bin_load s) count.1 in
    let some : 1 ≤ n = omega (arith, count-in.0.0) in
    record {
      some_bin = some;
      few_bins = omega (arith, count-in.0.1);
      loads = loads-in.0;
      few_cells = omega (arith, length_times number.0 (cell_after s n) number.1, number_in.0.1);
      few_patterns = patterns_few s n number.0 number.1;
      cells = λ c m. cells_in.0 c m some;
    }

pub tree_limits_to : (last : Bool) (s : List ℕ) → Live (tree_to last s start).1 → SoundTree (tree_to last s start).0
unfolding tree_to
tree_limits_to last s l =
    let load = field s 8 (within 0 255) start in
    let required = field s 24 (within 0 16777215) load.1 in
    let x = shape s tree_rules required.1 in
    let shape-in = shape_keeps s tree_rules required.1 (tailed_live (tail_at last s) x.1 l) in
    let required-in = field_keeps s 24 0 16777215 load.1 shape-in.1 in
    let load-in = field_keeps s 8 0 255 start required-in.1 in
    record { load = load-in.0.1; required = required-in.0.1; size = omega (arith, shape-in.0.nodes); leaves = λ y m. let n = shape-in.0.numbers y m in (n.0, n.1) }

pub tree_limits : (s : List ℕ) → Live (tree s start).1 → SoundTree (tree s start).0
tree_limits = tree_limits_to true

-- What a sheet says is sound.
pub library_sound : (s : List ℕ) {l : Library} → library_said s ≡ success l → SoundLibrary l
unfolding library_said
library_sound s e = let r = said_read library_number (library s start) e in subst SoundLibrary r.0 (library_limits s r.1)

pub tree_sound : (s : List ℕ) {t : Tree} → tree_said s ≡ success t → SoundTree t
unfolding tree_said
tree_sound s e = let r = said_read tree_number (tree s start) e in subst SoundTree r.0 (tree_limits s r.1)

-- And what was read to its end is said.
pub library_said_lem : (s : List ℕ) → Live (library s start).1 → library_said s ≡ success (library s start).0
unfolding library_said
library_said_lem s = read_said library_number (library s start)

pub tree_said_lem : (s : List ℕ) → Live (tree s start).1 → tree_said s ≡ success (tree s start).0
unfolding tree_said
tree_said_lem s = read_said tree_number (tree s start)
