-- A node's turn: from what is lent to what is done.
use mathlib.Core.Path.{◌≡◌, refl, ap, ◌∙◌}
use mathlib.Core.List.{List}
use Prim.Native.Nat.{ℕ, ◌+◌, ◌<◌}
use native.Mathlib.Omega.{arith}
use lib.ListN.{length, take, replicate}
use lib.Seq.{take_all}
use Rattle.sheets_rules.specs.Model.{Shape, Library, Tree}
use Rattle.covers.specs.Inside.Curve.{gates}
use Rattle.fields.proofs.Lists.{zeros_at}
use Rattle.matching.specs.declared.Hit.{Hit}
use Rattle.filling.specs.declared.Turn.{Turn}
use Rattle.filling.specs.declared.Counts.{Counts}
use Rattle.filling.specs.Inside.Promises.{load_at, curve_under, points_under, NodeReady, NodeFilled, FillReady, NodeDone}
use Rattle.filling.proofs.Node.{node_within, sources, FoundIs, hits_above, points_fit, curve_is_found}

module _ {l : Library} {t : Tree} {rows ss zs : List ℕ} {turn : Turn} {room : ℕ} {work : List ℕ} {s : Shape} (g : FillReady l t rows ss zs turn room work s) where
  pub leaf_done : gates s ≡ 0 → NodeDone l s turn work work (record { points = replicate 4 0 })
  leaf_done e = record {
    counted = λ h. absurd (omega arith);
    stored = λ h. absurd (omega arith);
    none = λ h b. zeros_at 4 b;
    zero = λ j h. g.zero j (omega arith);
    agree = λ j h. refl;
    small = g.curves.small;
  }

  -- After the matches are found.
  module _ {hits : List Hit} (f : FoundIs l turn.node s hits) (gate : 0 < gates s) where
    pub gate_ready : NodeReady ss work rows hits turn
    gate_ready = record {
      sources = sources g.ready g.curves;
      node = node_within g.ready;
      few_bins = g.few_bins;
      above = hits_above g.ready f;
      fit = λ b h. points_fit g.ready f turn.most work g.filled gate (load_at turn b) (g.light b h);
      zero = g.zero;
    }

    points_are : (b : ℕ) → b < turn.bins.count → points_under ss work rows hits turn b ≡ take (turn.most + 1) (curve_under l s turn b)
    points_are b h = curve_is_found g.ready f turn.most work g.filled gate (load_at turn b) (g.light b h)

    pub gate_done : {work' : List ℕ} {r : Counts} → NodeFilled ss work rows hits turn work' r → NodeDone l s turn work work' r
    gate_done h = record {
      counted = λ q b k. h.counted b k ∙ ap length (points_are b k);
      stored = λ q b k few.
          let whole = points_are b k ∙ take_all (turn.most + 1) (curve_under l s turn b) (omega arith) in
          h.stored b k (omega (arith, ap length whole)) ∙ whole;
      none = λ e. absurd (omega arith);
      zero = h.zero;
      agree = h.agree;
      small = h.small;
    }
