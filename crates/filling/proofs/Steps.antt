-- One curve more of a node, from the last load down.
use mathlib.Core.Path.{◌≡◌, refl, sym, ap, fun_ext, ◌∙◌}
use mathlib.Core.List.{List, map}
use mathlib.Core.Option.{Option}
use mathlib.Core.Logic.{⊎_elim}
use Prim.Native.Nat.{ℕ, ◌+◌, ◌*◌, ◌≤◌, ◌<◌}
use native.Mathlib.Nat.{eq-or-lt_of_le}
use native.Mathlib.Omega.{arith}
use lib.ListN.{length, get_or, take, set, length-map, length-take, length-set}
use lib.Seq.{sets, take_all}
use Rattle.covers.specs.Cover.{Point}
use Rattle.covers.specs.Inside.Curve.{base, by_deadline, word_of}
use Rattle.matching.specs.declared.Hit.{Hit}
use Rattle.curves.specs.Inside.Words.{curve_at, table_of, stored, AgreeFrom, ZeroBelow, WorkArea}
use Rattle.curves.specs.Inside.Best.{SourcesSafe}
use Rattle.curves.specs.Inside.Promises.{best_before, node_points, PointsFit, CurveStored}
use Rattle.curves.proofs.Laws.{slot_within}
use Rattle.curves.proofs.Frames.{set_each, curve_other, curve_laid, hits_same, rising_same, deadline_all, deadline_few}
use Rattle.filling.specs.declared.Turn.{Turn}
use Rattle.filling.specs.Inside.Promises.{load_at, first_curve, next_curve, points_under, NodeReady, NodeFilled}

module _ (symbols work₀ rows : List ℕ) (hits : List Hit) (turn : Turn) where
  abbrev under : ℕ → List Point
  under = points_under symbols work₀ rows hits turn

  -- The curves under the loads from b on are stored.
  pub record Done (b : ℕ) (work points : List ℕ) : Type 0 where
    pub length_kept : length work ≡ length work₀
    pub curves : WorkArea turn.most work
    pub zero : ZeroBelow turn.most (first_curve turn + b) work
    pub agree : AgreeFrom turn.most (next_curve turn) work work₀
    pub many : length points ≡ 4
    pub counted : (i : ℕ) → b ≤ i → i < turn.bins.count → get_or points i 0 ≡ length (under i)
    pub stored_are : (i : ℕ) → b ≤ i → i < turn.bins.count → length (under i) ≤ turn.most → table_of turn.most work turn.node i ≡ under i

module _ {symbols work₀ rows : List ℕ} {hits : List Hit} {turn : Turn} (ready : NodeReady symbols work₀ rows hits turn) where
  abbrev most : ℕ
  most = turn.most

  abbrev wanted : ℕ → List Point
  wanted = points_under symbols work₀ rows hits turn

  abbrev DoneTo : ℕ → List ℕ → List ℕ → Type 0
  DoneTo = Done symbols work₀ rows hits turn

  pub done_start : (points : List ℕ) → length points ≡ 4 → DoneTo turn.bins.count work₀ points
  done_start points e = record {
    length_kept = refl;
    curves = ready.sources.curves;
    zero = λ j l. ready.zero j (omega (arith, ready.few_bins));
    agree = λ j l. refl;
    many = e;
    counted = λ i l m. absurd (omega arith);
    stored_are = λ i l m. absurd (omega arith);
  }

  module _ {b : ℕ} {work points : List ℕ} (d : DoneTo b work points) where
    -- What the tables say is what they said at the start.
    done_same : (load e : ℕ) → best_before most symbols work rows hits load e ≡ best_before most symbols work₀ rows hits load e
    done_same load e = hits_same most symbols work work₀ (first_curve turn + 3) (λ j l. d.agree j (omega arith)) rows hits load ready.above e

    pub same_points : (i : ℕ) → node_points most symbols work rows hits (load_at turn i) ≡ wanted i
    same_points i = ap (λ (f : ℕ → Option Point). by_deadline (most + 1) f base) (fun_ext (done_same (load_at turn i)))

    pub done_fit : (i : ℕ) → i < turn.bins.count → PointsFit most symbols work rows hits (load_at turn i)
    done_fit i h = record {
      fit = λ e p q. (ready.fit i h).fit e p (sym (done_same (load_at turn i) e) ∙ q);
      rising = rising_same most symbols work₀ work (first_curve turn + 3) (λ j l. sym (d.agree j (omega arith))) rows hits (load_at turn i) ready.above (ready.fit i h).rising;
    }

    pub done_sources : SourcesSafe most symbols work
    done_sources = record { symbols_length = ready.sources.symbols_length; symbols_small = ready.sources.symbols_small; curves = d.curves }

    -- A count is told in a byte.
    pub count_small : (i r : ℕ) → r ≡ length (node_points most symbols work rows hits (load_at turn i)) → r ≤ 255
    count_small i r e = omega (arith, deadline_few (most + 1) (best_before most symbols work rows hits (load_at turn i)) base, d.curves.bounded)

  pub done_next : (b : ℕ) {work points : List ℕ} → b < turn.bins.count → DoneTo (b + 1) work points → (work' : List ℕ) (r : ℕ) → length work' ≡ length work →
      CurveStored most symbols work rows hits (load_at turn b) (first_curve turn + b) work' r → DoneTo b work' (set points b r)
  done_next b {work} {points} hb d work' r el c =
      let at = first_curve turn + b in
      let words = map word_of (take most (wanted b)) in
      let laid : work' ≡ sets work ((most + 1) * at) words = c.laid ∙ ap (λ (q : List Point). sets work ((most + 1) * at) (map word_of (take most q))) (same_points d b) in
      let others : (j : ℕ) → (j ≡ at → ⊥) → curve_at most work' j ≡ curve_at most work j =
      λ j n. ap (λ (q : List ℕ). curve_at most q j) laid ∙ curve_other most work at j words n (omega (arith, length-map (take most (wanted b)) word_of, length-take most (wanted b))) in
      record {
        length_kept = el ∙ d.length_kept;
        curves = record { bounded = d.curves.bounded; room = omega (arith, d.curves.room); small = c.small };
        zero = λ j l k. ap (λ (q : List ℕ). get_or q k 0) (others j (λ e. absurd (omega arith))) ∙ d.zero j (omega arith) k;
        agree = λ j l. others j (λ e. absurd (omega (arith, ready.few_bins))) ∙ d.agree j l;
        many = length-set points b r ∙ d.many;
        counted = λ i l m. set_each (λ j x. x ≡ length (wanted j)) points b r (omega (arith, d.many, ready.few_bins)) (c.counted ∙ ap length (same_points d b)) i (λ n. d.counted i (omega arith) m);
        stored_are = λ i l m few. ⊎_elim
            (λ e.
            rw (← e, laid, take_all most (wanted b) (rw (← e) at few))
            (curve_laid most work at (wanted b) (d.zero at (omega arith)) (rw (← e) at few) (slot_within d.curves at (omega (arith, ready.node, ready.few_bins))).1
            (deadline_all (most + 1) (best_before most symbols work₀ rows hits (load_at turn b)) base (ready.fit b hb).fit)))
            (λ n. ap stored (others (first_curve turn + i) (λ e. absurd (omega arith))) ∙ d.stored_are i (omega arith) m few)
            (eq-or-lt_of_le l);
      }

  pub done_all : {work points : List ℕ} → DoneTo 0 work points → NodeFilled symbols work₀ rows hits turn work (record { points = points })
  done_all d = record {
    counted = λ b h. d.counted b (omega arith) h;
    stored = λ b h. d.stored_are b (omega arith) h;
    zero = λ j l. d.zero j (omega arith);
    agree = d.agree;
    small = d.curves.small;
  }
