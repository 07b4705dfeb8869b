-- Where a cover sheet is refused: at its first field that is not whole, or at its tail.
use Prim.Native.Nat.{ℕ, zero, suc, ◌+◌, ◌*◌, ◌≤◌, ◌<◌}
use mathlib.Core.Path.{◌≡◌, refl, sym, ap, subst, ◌∙◌}
use mathlib.Core.Logic.{◌⊎◌, inl, inr, ⊎_elim}
use mathlib.Core.Bool.{Bool, cond}
use mathlib.Core.List.{List, [], ◌∷◌, ◌++◌}
use native.Mathlib.Nat.{add-zero, add_assoc}
use native.Mathlib.Decide.{dec_lt}
use native.Mathlib.Omega.{arith}
use lib.ListN.{length}
use borrow.Table.Steps.{cases}
use Rattle.bits.specs.Bits.{value_at, cursor_at, field_at, ends_at}
use Rattle.bits.proofs.Laws.{place_at}
use Rattle.bits.proofs.Words.{found, none}
use Rattle.fields.specs.declared.Fault.{Fault}
use Rattle.fields.specs.declared.Fault.TheVariants.{Truncated, Tail}
use Rattle.fields.specs.Reading.{Scan}
use Rattle.fields.specs.Reading.{At, Refused}
use Rattle.fields.specs.Reading.{start, place, times, free, scanned, field, ended, Live}
use Rattle.covers.specs.CoverSheet.{area_width, arrival_width, match_count_width, node_width, pattern_width, crossing_width, placed_read, cover_read}
use Rattle.judge_rules.specs.Places.{match_widths, field_widths, first_after, TornFrom, Torn, BadTail}

module _ (cs : List ℕ) where
  abbrev all : ℕ
  all = 8 * length cs

  -- One field more, whole or torn.
  field_whole : (i w : ℕ) → i + w ≤ all → field cs w free (At (cursor_at i)) ≡ (value_at cs i w, At (cursor_at (i + w)))
  field_whole i w h = ap (λ (j : ℕ). scanned j free (field_at cs j w)) (place_at i) ∙ ap (scanned i free) (sym (found cs i w (value_at cs i w) (cursor_at (i + w)) h refl refl))

  field_torn : (i w : ℕ) → all < i + w → field cs w free (At (cursor_at i)) ≡ (0, Refused Truncated i)
  field_torn i w h = ap (λ (j : ℕ). scanned j free (field_at cs j w)) (place_at i) ∙ ap (scanned i free) (sym (none cs i w h))

  -- The scan after fields of these widths, one after another.
  unfoldable over : List ℕ → Scan → Scan
  over [] q = q
  over (w ∷ ws) q = over ws (field cs w free q).1

  over_refused : (ws : List ℕ) (f : Fault) (p : ℕ) → over ws (Refused f p) ≡ Refused f p
  unfolding over
  over_refused [] f p = refl
  over_refused (w ∷ ws) f p = over_refused ws f p

  over_append : (us ws : List ℕ) (q : Scan) → over (us ++ ws) q ≡ over ws (over us q)
  unfolding over
  over_append [] ws q = refl
  over_append (u ∷ us) ws q = over_append us ws (field cs u free q).1

  -- Fields that are there are gone over.
  over_whole : (i : ℕ) (ws : List ℕ) → i + first_after ws ≤ all → over ws (At (cursor_at i)) ≡ At (cursor_at (i + first_after ws))
  unfolding over first_after
  over_whole i [] h = ap (λ (j : ℕ). At (cursor_at j)) (sym (add-zero i))
  over_whole i (w ∷ ws) h = ap (λ (x : ℕ × Scan). over ws x.1) (field_whole i w (omega arith)) ∙ over_whole (i + w) ws (omega arith) ∙ ap (λ (j : ℕ). At (cursor_at j)) (add_assoc i w (first_after ws))

  over_torn : {i : ℕ} {ws : List ℕ} {p : ℕ} → TornFrom cs i ws p → over ws (At (cursor_at i)) ≡ Refused Truncated p
  unfolding over
  over_torn {i} {ws} {p} h =
      ap (λ (vs : List ℕ). over vs (At (cursor_at i))) h.fields ∙ over_append h.before (h.width ∷ h.later) (At (cursor_at i))
      ∙ ap (over (h.width ∷ h.later)) (over_whole i h.before (omega arith) ∙ ap (λ (j : ℕ). At (cursor_at j)) (sym h.first))
      ∙ ap (λ (x : ℕ × Scan). over h.later x.1) (field_torn p h.width h.torn) ∙ over_refused h.later Truncated p

  whole_or_torn : (i : ℕ) (ws : List ℕ) → i ≤ all → (i + first_after ws ≤ all) ⊎ ((p : ℕ) × TornFrom cs i ws p)
  unfolding first_after
  whole_or_torn i [] h = inl (omega arith)
  whole_or_torn i (w ∷ ws) h = elim (dec_lt all (i + w)) [
    | yes l ↦ inr (i, record { before = []; width = w; later = ws; fields = refl; first = omega arith; whole_before = h; torn = l })
    | no l ↦ ⊎_elim (λ g. inl (omega arith)) (λ r. inr (r.0, record { before = w ∷ r.1.before; width = r.1.width; later = r.1.later; fields = ap (λ (vs : List ℕ). w ∷ vs) r.1.fields; first = omega (arith, r.1.first); whole_before = r.1.whole_before; torn = r.1.torn })) (whole_or_torn (i + w) ws (omega arith))
  ]

  -- ---- the sheet

  matches_over : (n : ℕ) (q : Scan) → (times n (placed_read cs) q).1 ≡ over (match_widths n) q
  unfolding times placed_read over match_widths
  matches_over zero q = refl
  matches_over (suc n) q = ap (over (node_width ∷ pattern_width ∷ crossing_width ∷ [])) (matches_over n q) ∙ sym (over_append (match_widths n) (node_width ∷ pattern_width ∷ crossing_width ∷ []) q)

  abbrev counted : ℕ × Scan
  counted = field cs match_count_width free (field cs arrival_width free (field cs area_width free start).1).1

  -- The count is the number in its bits, or does not count.
  count_over : over (match_widths counted.0) counted.1 ≡ over (field_widths cs) start
  unfolding over first_after
  count_over =
      ⊎_elim
      (λ h.
      let here = over_whole 0 (area_width ∷ arrival_width ∷ []) (omega arith) in
      ap (λ (n : ℕ). over (match_widths n) counted.1) (ap (λ (q : Scan). (field cs match_count_width free q).0) here ∙ ap (λ (x : ℕ × Scan). x.0) (field_whole (area_width + arrival_width) match_count_width (omega arith))))
      (λ r.
      let stays : (n : ℕ) → over (match_widths n) counted.1 ≡ Refused Truncated r.0 = λ n. ap (over (match_widths n)) (over_torn r.1) ∙ over_refused (match_widths n) Truncated r.0 in
      stays counted.0 ∙ sym (stays (value_at cs (area_width + arrival_width) match_count_width)))
      (whole_or_torn 0 (area_width ∷ arrival_width ∷ match_count_width ∷ []) (omega arith))

  sheet_over : (cover_read cs start).1 ≡ ended cs (over (field_widths cs) start)
  unfolding cover_read
  sheet_over = ap (ended cs) (matches_over counted.0 counted.1 ∙ count_over)

  -- The end, where all fields are there.
  abbrev last : ℕ
  last = 0 + first_after (field_widths cs)

  end_of : last ≤ all → (cover_read cs start).1 ≡ cond (ends_at cs last) (At (cursor_at last)) (Refused Tail last)
  end_of h = sheet_over ∙ ap (ended cs) (over_whole 0 (field_widths cs) h) ∙ ap (λ (p : ℕ). cond (ends_at cs p) (At (cursor_at last)) (Refused Tail p)) (place_at last)

  -- Where the sheet is refused, and nowhere else.
  pub place_refused : {k : ℕ} → Torn cs k ⊎ BadTail cs k → (f : Fault) × ((cover_read cs start).1 ≡ Refused f k)
  place_refused (inl h) = (Truncated, sheet_over ∙ ap (ended cs) (over_torn h))
  place_refused {k} (inr h) =
      let same : k ≡ last = omega arith in
      (Tail, end_of (omega arith) ∙ ap (λ (b : Bool). cond b (At (cursor_at last)) (Refused Tail last)) (ap (ends_at cs) (sym same) ∙ h.bad) ∙ ap (Refused Tail) (sym same))

  pub refused_place : {f : Fault} {k : ℕ} → (cover_read cs start).1 ≡ Refused f k → Torn cs k ⊎ BadTail cs k
  refused_place {f} {k} e =
      ⊎_elim
      (λ h.
      let said : cond (ends_at cs last) (At (cursor_at last)) (Refused Tail last) ≡ Refused f k = sym (end_of h) ∙ e in
      cases (ends_at cs last) (λ g. absurd (subst Live (rw g at said) tt)) (λ g.
      let same : last ≡ k = ap place (rw g at said) in inr (record { first = omega arith; whole = omega arith; bad = rw (← same) g })))
      (λ r. inl (subst (Torn cs) (ap place (sym (sheet_over ∙ ap (ended cs) (over_torn r.1)) ∙ e)) r.1)) (whole_or_torn 0 (field_widths cs) (omega arith))
