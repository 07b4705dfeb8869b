-- Laws about counting cells, and about the lines that are put.
use Prim.Native.Nat.{ℕ, zero, suc, ◌+◌, ◌-◌, ◌*◌, ◌≤◌, ◌<◌}
use mathlib.Core.Path.{◌≡◌, refl, sym, ap, ap₂, subst, ◌∙◌}
use mathlib.Core.Bool.{Bool, true, false, cond}
use mathlib.Core.List.{List, [], ◌∷◌, ◌++◌, map, map-append, flat_map, append-nil, Memᴰ}
use native.Mathlib.Nat.{add-zero, zero-mul, suc-mul, mul-le-mul, le_refl}
use native.Mathlib.Numerals.{add-one}
use native.Mathlib.Decide.{ℕ_discrete}
use native.Mathlib.Omega.{arith}
use lib.Dec.{ltb}
use lib.IntN.{ℤ, pos, negsuc, ◌-ℤ◌}
use lib.ListN.{length, get_or, set, take, replicate, length-append, length-map, length-set}
use lib.Seq.{take-suc, length-take-le, get_or-set_same, get_or-set_other}
use Rattle.std.proofs.lemmas.List.{get_or-replicate}
use borrow.Author.Tests.{lt-ltb}
use mir.Syntax.{w32}
use mir.Val.{SFits, to_z, of_z}
use mir.ValLaws.{to_z-of_z, to_z_pos}
use Rattle.fields.proofs.Lists.{at_mem, at_map}
use Rattle.sheets_rules.specs.Model.{Library, cell_of, area_of}
use Rattle.sheets_rules.specs.Inside.Layout.{row_words}
use Rattle.covers.specs.Lists.{keep_if, select}
use Rattle.covers.specs.Cover.{Placed}
use Rattle.result_sheets.specs.declared.MatchRecord.{MatchRecord}
use Rattle.result_sheets.specs.Public.{placed_of, no_match}
use Rattle.text.specs.Text.{decimal, line, spaced}
use Rattle.text.specs.declared.Text.{Text}
use Rattle.text.specs.Inside.Promises.{HasRoom, Appended}
use Rattle.text.proofs.Laws.{flat_map_append, appended_none, appended_both}
use Rattle.bill_rules.specs.Bill.{uses, entry_of, entries_below, summed, amounts, margin}
use Rattle.bill_rules.specs.Billed.{entry_line}
use Rattle.bill_rules.proofs.Counting.{uses_same, uses_other, uses_few, uses_append}
use Rattle.bill_rules.proofs.Entries.{amounts_next}
use Rattle.bill_text.specs.declared.Entry.{Entry}
use Rattle.bill_text.specs.Inside.Promises.{entry_text, CellTold, Countable, entry_at, no_entry, TallyIs, Tallied, EntriesPut}

-- ---- the margin

difference_fits : (a b : ℕ) → a < 2147483648 → b < 2147483648 → SFits w32 (pos a -ℤ pos b)
difference_fits a zero h g = record { sfits = omega arith }
difference_fits a (suc k) h g = go (ltb a (suc k))
  where
    go : (b : Bool) → SFits w32 (cond b (negsuc (suc k - suc a)) (pos (a - suc k)))
    go true = record { sfits = omega arith }
    go false = record { sfits = omega arith }

-- Two times as integers of 32 bits, one less the other.
module _ (a b : ℕ) (h : a < 2147483648) (g : b < 2147483648) where
  abbrev difference : ℤ
  difference = to_z w32 a -ℤ to_z w32 b

  difference_is : difference ≡ pos a -ℤ pos b
  difference_is = ap₂ ◌-ℤ◌ (to_z_pos w32 a h) (to_z_pos w32 b g)

  pub margin_fits : SFits w32 difference
  margin_fits = subst (SFits w32) (sym difference_is) (difference_fits a b h g)

  pub margin_is : to_z w32 (of_z w32 difference) ≡ margin a b
  unfolding margin
  margin_is = to_z-of_z w32 difference margin_fits ∙ difference_is

  -- Kept in a local, it is read back from its bits.
  pub margin_kept : (z : ℤ) → z ≡ margin a b → to_z w32 (of_z w32 z) ≡ margin a b
  unfolding margin
  margin_kept z e = to_z-of_z w32 z (subst (SFits w32) (sym e) (difference_fits a b h g)) ∙ e

-- ---- counting

abbrev entry : (count amount : ℕ) → Entry
entry count amount = record { count = count; amount = amount }

module _ (l : Library) where
  pub tally_none : TallyIs l [] (replicate 64 no_entry)
  unfolding uses select
  tally_none n h = get_or-replicate 64 n no_entry no_entry h ∙ ap (entry 0) (sym (zero-mul (area_of l n)))

  -- One match more.
  module _ (ys : List Placed) (x : Placed) (c a : ℕ) (is : c ≡ cell_of l x.pattern) (area : a ≡ area_of l (cell_of l x.pattern)) where
    more_same : uses l (ys ++ (x ∷ [])) c ≡ uses l ys c + 1
    unfolding uses select
    more_same = uses_append l ys (x ∷ []) c ∙ ap (λ (k : ℕ). uses l ys c + k) (uses_same l x [] c (sym is))

    more_other : (n : ℕ) → (n ≡ c → ⊥) → uses l (ys ++ (x ∷ [])) n ≡ uses l ys n
    unfolding uses select
    more_other n e = uses_append l ys (x ∷ []) n ∙ ap (λ (k : ℕ). uses l ys n + k) (uses_other l x [] n (λ f. e (sym f ∙ sym is))) ∙ add-zero (uses l ys n)

    tally_more : (entries : List Entry) → c < length entries → TallyIs l ys entries →
        let old = get_or entries c no_entry in TallyIs l (ys ++ (x ∷ [])) (set entries c (entry (old.count + 1) (old.amount + a)))
    tally_more entries h before n small = go (ℕ_discrete n c)
      where
        old : Entry
        old = get_or entries c no_entry

        go : Dec (n ≡ c) → get_or (set entries c (entry (old.count + 1) (old.amount + a))) n no_entry ≡ entry_at l (ys ++ (x ∷ [])) n
        go (yes e) =
            rw e
            (get_or-set_same entries c (entry (old.count + 1) (old.amount + a)) no_entry h
            ∙ ap₂ entry
            (ap (λ (v : Entry). v.count + 1) (before c h) ∙ sym more_same)
            (ap₂ (λ (v : Entry) (k : ℕ). v.amount + k) (before c h) (area ∙ ap (area_of l) (sym is)) ∙ sym (ap (λ (k : ℕ). k * area_of l c) (more_same ∙ add-one (uses l ys c)) ∙ suc-mul (uses l ys c) (area_of l c))))
        go (no e) =
            get_or-set_other entries c n (entry (old.count + 1) (old.amount + a)) no_entry e
            ∙ before n (omega (arith, length-set {A = Entry}))
            ∙ ap (λ (k : ℕ). entry k (k * area_of l n)) (sym (more_other n e))

-- A match's row is there, and its cell's numbers are small.
pub record Here (rows : List ℕ) (row : ℕ) (old : Entry) : Type 0 where
  pub row_in : row + 2 < length rows
  pub cell_small : get_or rows (row + 0) 0 < 64
  pub area_small : get_or rows (row + 2) 0 ≤ 65535
  pub count_small : old.count ≤ 63
  pub amount_small : old.amount ≤ 63 * 65535

-- Match k of the list, of which the first k are counted.
module _ (l : Library) (rows : List ℕ) (ms : List MatchRecord) (countable : Countable l rows (map placed_of ms)) (k : ℕ) (h : k < length ms) {pattern : ℕ} (named : pattern ≡ (get_or ms k no_match).pattern) where
  abbrev match : Placed
  match = placed_of (get_or ms k no_match)

  abbrev row : ℕ
  row = row_words * pattern

  told : CellTold l rows match
  told =
      let long : k < length (map placed_of ms) = omega (arith, length-map ms placed_of) in
      countable.told match (subst (λ (x : Placed). Memᴰ x (map placed_of ms)) (at_map placed_of ms k no_match match h) (at_mem (map placed_of ms) k match long))

  cell_here : get_or rows (row + 0) 0 ≡ cell_of l match.pattern
  cell_here = ap (λ (p : ℕ). get_or rows (row_words * p + 0) 0) named ∙ told.cell_is

  area_here : get_or rows (row + 2) 0 ≡ area_of l (cell_of l match.pattern)
  area_here = ap (λ (p : ℕ). get_or rows (row_words * p + 2) 0) named ∙ told.area_is

  module _ (entries : List Entry) (long : length entries ≡ 64) (tally : TallyIs l (map placed_of (take k ms)) entries) where
    abbrev cell : ℕ
    cell = get_or rows (row + 0) 0

    abbrev old : Entry
    old = get_or entries cell no_entry

    pub here : Here rows row old
    here =
        let small : cell < 64 = omega (arith, cell_here, told.cell_small) in
        let kept : old ≡ entry_at l (map placed_of (take k ms)) cell = tally cell (omega arith) in
        let few : uses l (map placed_of (take k ms)) cell ≤ 63 = omega (
          arith,
          uses_few l (map placed_of (take k ms)) cell,
          length-map (take k ms) placed_of,
          length-take-le k ms (omega arith),
          countable.few,
          length-map ms placed_of,
        ) in
        let area : area_of l cell ≤ 65535 = omega (arith, told.area_small, ap (area_of l) cell_here) in
        record {
          row_in = omega (arith, told.row_in, ap (λ (p : ℕ). row_words * p) named);
          cell_small = small;
          area_small = omega (arith, area_here, told.area_small);
          count_small = omega (arith, ap (λ (v : Entry). v.count) kept);
          amount_small = omega (arith, ap (λ (v : Entry). v.amount) kept, mul-le-mul few area);
        }

    pub tally_turn : TallyIs l (map placed_of (take (k + 1) ms)) (set entries cell (entry (old.count + 1) (old.amount + get_or rows (row + 2) 0)))
    tally_turn =
        rw (add-one k, take-suc ms k no_match h, map-append placed_of (take k ms) (get_or ms k no_match ∷ []))
        (tally_more l (map placed_of (take k ms)) match cell (get_or rows (row + 2) 0) cell_here area_here entries (omega (arith, here.cell_small)) tally)

-- ---- lines

pub entry_none : (cell count amount : ℕ) → count ≡ 0 → entry_text cell count amount ≡ []
unfolding entry_text keep_if flat_map
entry_none cell count amount e = rw e

pub entry_some : (cell count amount : ℕ) → 0 < count → decimal cell ++ spaced (decimal count ∷ decimal amount ∷ []) ≡ entry_text cell count amount
unfolding entry_text entry_line line keep_if flat_map
entry_some cell count amount h = rw (lt-ltb 0 count h) (sym (append-nil (decimal cell ++ spaced (decimal count ∷ decimal amount ∷ []))))

module _ (l : Library) (xs : List Placed) where
  abbrev lines : ℕ → List ℕ
  lines n = flat_map entry_line (entries_below l xs n)

  -- The line of one cell more, and its amount.
  module _ (n : ℕ) {count amount : ℕ} (counted : count ≡ uses l xs n) (summed : amount ≡ uses l xs n * area_of l n) where
    pub lines_more : lines n ++ entry_text n count amount ≡ lines (n + 1)
    unfolding entries_below entry_of entry_text
    lines_more = rw (counted, summed, add-one n) (sym (flat_map_append entry_line (entries_below l xs n) (keep_if (ltb 0 (uses l xs n)) (entry_of l xs n) [])))

    pub total_more : amounts (entries_below l xs n) + amount ≡ amounts (entries_below l xs (n + 1))
    total_more = ap (λ (k : ℕ). amounts (entries_below l xs n) + k) summed ∙ sym (amounts_next l xs n)

  -- What comes later only adds.
  lines_rise : (n j : ℕ) → (length (lines n) ≤ length (lines (n + j))) × (amounts (entries_below l xs n) ≤ amounts (entries_below l xs (n + j)))
  lines_rise n zero = rw add-zero (le_refl (length (lines n)), le_refl (amounts (entries_below l xs n)))
  lines_rise n (suc j) =
      let before = lines_rise n j in
      let same : n + suc j ≡ n + j + 1 = omega arith in
      rw same (omega (arith, before.0, simp length-append at (ap length (lines_more (n + j) refl refl))), omega (arith, before.1, amounts_next l xs (n + j)))

  pub lines_within : (n m : ℕ) → n ≤ m → (length (lines n) ≤ length (lines m)) × (amounts (entries_below l xs n) ≤ amounts (entries_below l xs m))
  lines_within n m h = let up : n + (m - n) ≡ m = omega arith in subst (λ (k : ℕ). (length (lines n) ≤ length (lines k)) × (amounts (entries_below l xs n) ≤ amounts (entries_below l xs k))) up (lines_rise n (m - n))

-- The entries of the first n cells are put: there is room for the next, its amount can be added, and it is put after them.
module _ {l : Library} {xs : List Placed} {entries : List Entry} {first : Text} (h : Tallied l xs entries first) {n : ℕ} (below : n < length entries) {text : Text} {total : ℕ} (so : EntriesPut l xs n first text total) where
  abbrev next : Entry
  next = get_or entries n no_entry

  counted : next.count ≡ uses l xs n
  counted = ap (λ (v : Entry). v.count) (h.tally_is n below)

  totalled : next.amount ≡ uses l xs n * area_of l n
  totalled = ap (λ (v : Entry). v.amount) (h.tally_is n below)

  within : (length (lines l xs (n + 1)) ≤ length (lines l xs (length entries))) × (amounts (entries_below l xs (n + 1)) ≤ amounts (entries_below l xs (length entries)))
  within = lines_within l xs (n + 1) (length entries) (omega arith)

  pub entry_fits : HasRoom (entry_text n next.count next.amount) text
  entry_fits = omega (arith, so.lines_put.len, so.lines_put.same_room, within.0, h.room, simp length-append at (ap length (lines_more l xs n counted totalled)))

  pub sum_fits : total + next.amount < 4294967296
  sum_fits = omega (arith, so.total_is, within.1, h.small, total_more l xs n counted totalled)

  pub entry_put : {exit : Text} → Appended (entry_text n next.count next.amount) text exit → EntriesPut l xs (n + 1) first exit (total + next.amount)
  entry_put {exit} put = record {
    lines_put = subst (λ (w : List ℕ). Appended w first exit) (lines_more l xs n counted totalled) (appended_both so.lines_put put);
    total_is = ap (λ (k : ℕ). k + next.amount) so.total_is ∙ total_more l xs n counted totalled;
  }

pub entries_none : (l : Library) (xs : List Placed) (text : Text) → EntriesPut l xs 0 text text 0
unfolding entries_below flat_map summed
entries_none l xs text = record { lines_put = appended_none text; total_is = refl }
