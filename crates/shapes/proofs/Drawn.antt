-- Laws about the reader of shapes: one for each way out of it.
use mathlib.Core.Path.{◌≡◌, refl, sym, ap, subst, ◌∙◌}
use mathlib.Core.List.{List, [], ◌∷◌, ◌++◌}
use Prim.Native.Nat.{ℕ, zero, suc, ◌+◌, ◌-◌, ◌≤◌, ◌<◌}
use native.Mathlib.Decide.{dec_lt}
use native.Mathlib.Omega.{arith}
use native.Mathlib.Numerals.{add-one}
use lib.ListN.{length, take, set, length-append}
use lib.Seq.{length-take-le, take-suc-set}
use Rattle.shapes_rules.specs.declared.Rules.{Rules}
use Rattle.fields.specs.Reading.{Scan}
use Rattle.fields.specs.Reading.{At, Refused}
use Rattle.fields.specs.Reading.{Reader, place, field, Live}
use Rattle.shapes_rules.specs.Shape.{Shape, symbols}
use Rattle.shapes_rules.specs.Drawing.{leaf_verdict, leaf_node, driven_node, pair, branch, node}
use Rattle.fields.proofs.Lists.{sets_append, take_sets}
use Rattle.shapes.specs.Inside.Promises.{Reached, Coded, Laid, Went, LeafRead, NodeRead, PairRead}
use Rattle.shapes_rules.proofs.Drawing.{plain_symbol, node_dead}
use Rattle.fields.proofs.Laws.{live?}

-- ---- a leaf

-- A leaf whose number was read as the value v.
pub leaf_laid : (s : List ℕ) (rules : Rules) (scan : Scan) (n v : ℕ) (l : List ℕ) (r : Reached) → r.next ≡ suc n →
    (v, r.scan) ≡ field s rules.width (leaf_verdict rules (take n l)) scan →
    let x = leaf_node s rules (take n l) scan in Laid n l (set l n (2 + v)) r x.1 (symbols x.0)
unfolding leaf_node symbols
leaf_laid s rules scan n v l r h e = rw (← e) (record { scan = refl; symbols = λ x. ap (set l n) (sym (plain_symbol v)); next = λ x. omega arith })

-- A leaf that was refused.
pub leaf_refused : (s : List ℕ) (rules : Rules) (scan : Scan) (n : ℕ) (l : List ℕ) (r : Reached) → (Live r.scan → ⊥) →
    (0, r.scan) ≡ field s rules.width (leaf_verdict rules (take n l)) scan →
    let x = leaf_node s rules (take n l) scan in Laid n l l r x.1 (symbols x.0)
unfolding leaf_node symbols
leaf_refused s rules scan n l r h e = rw (← e) (record { scan = refl; symbols = λ x. absurd (h x); next = λ x. absurd (h x) })

-- ---- a node, by its code

-- A gate before what is below it.
gate_laid : {n v : ℕ} {l l' ss : List ℕ} {r : Reached} {after : Scan} → Laid (n + 1) (set l n v) l' r after ss → Laid n l l' r after (v ∷ ss)
gate_laid {n} h = record { scan = h.scan; symbols = λ x. rw (add-one n) at (h.symbols x); next = λ x. omega (arith, h.next x) }

module _ (s : List ℕ) (rules : Rules) (scan : Scan) (n : ℕ) (l : List ℕ) (few : n ≤ rules.nodes) (long : rules.nodes ≤ length l) (code : ℕ) (after : Scan) (read : Coded s rules scan n code after) where
  -- A node is its code and what follows it, at every depth that is enough.
  deep : (l' : List ℕ) (r : Reached) →
      ((d : ℕ) → rules.nodes - n < suc d → let x = branch s rules (node s rules d) (take n l) code after in Laid n l l' r x.1 (symbols x.0)) →
      (depth : ℕ) → rules.nodes - n < depth → let x = node s rules depth (take n l) scan in Laid n l l' r x.1 (symbols x.0)
  unfolding node
  deep l' r below zero k = absurd (omega arith)
  deep l' r below (suc d) k = rw (length-take-le n l (omega arith), ← (ap (λ (x : ℕ × Scan). x.0) read.reads), ← (ap (λ (x : ℕ × Scan). x.1) read.reads)) (below d k)

  -- A code that was refused.
  pub node_refused : (Live after → ⊥) → NodeRead s rules scan n l l (record { scan = after; next = n })
  unfolding branch leaf_node
  node_refused h = record {
    laid = deep l (record { scan = after; next = n }) (λ d k. rw none (record { scan = sym (refused after h); symbols = λ x. absurd (h x); next = λ x. absurd (h x) }));
    went = record { from = omega arith; upto = few; far = omega (arith, read.stays h); near = λ x. absurd (h x) };
  }
    where
      refused : (c : Scan) → (Live c → ⊥) → (leaf_node s rules (take n l) c).1 ≡ c
      refused (At c) z = absurd (z tt)
      refused (Refused f p) z = refl

      -- a code that is not 0 was not refused
      none : code ≡ 0
      none = elim (dec_lt 0 code) [ yes g ↦ absurd (h (read.gate g)) | no g ↦ omega arith ]

  -- A leaf, driven or not, by what follows its code k.
  leaf_node_lem : (k bits : ℕ) (reads : List ℕ → Reader Shape) → ((d : ℕ) → branch s rules (node s rules d) (take n l) k after ≡ reads (take n l) after) → bits ≤ 28 →
      (l' : List ℕ) (r : Reached) → code ≡ k → Live after → LeafRead s rules after n l l' r bits reads → NodeRead s rules scan n l l' r
  leaf_node_lem k bits reads eb few_bits l' r e a h =
      let room : n < rules.nodes = read.room a in record {
        laid = deep l' r (λ d j. rw (e, eb d) h.laid);
        went = record { from = h.from; upto = omega arith; far = omega arith; near = λ z. omega (arith, h.went z) };
      }

  module _ (l' : List ℕ) (r : Reached) where
    pub node_leaf : code ≡ 0 → Live after → LeafRead s rules after n l l' r 20 (leaf_node s rules) → NodeRead s rules scan n l l' r
    unfolding branch
    node_leaf = leaf_node_lem 0 20 (leaf_node s rules) (λ d. refl) (omega arith) l' r

    pub node_driven : code ≡ 3 → Live after → LeafRead s rules after n l l' r 28 (driven_node s rules) → NodeRead s rules scan n l l' r
    unfolding branch
    node_driven = leaf_node_lem 3 28 (driven_node s rules) (λ d. refl) (omega arith) l' r

  -- A gate and what is below it, which was read from the scan after the code.
  gate_went : (r : Reached) → 0 < code → Went rules after (n + 1) r → Went rules scan n r
  gate_went r g h =
      let in_room : n < rules.nodes = read.room (read.gate g) in record { from = omega arith; upto = h.upto; far = omega arith; near = λ x. omega (arith, h.near x) }

  -- The symbols before what is below a gate.
  gate_seen : (v : ℕ) → 0 < code → take (n + 1) (set l n v) ≡ take n l ++ (v ∷ [])
  gate_seen v g = rw add-one (take-suc-set l n v (omega (arith, read.room (read.gate g))))

  module _ (l' : List ℕ) (r : Reached) where
    pub node_inv : code ≡ 1 → NodeRead s rules after (n + 1) (set l n 0) l' r → NodeRead s rules scan n l l' r
    unfolding branch symbols
    node_inv e h = record {
      laid = deep l' r (λ d k. rw e (gate_laid (rw (gate_seen 0 (omega arith)) at (h.laid d (omega (arith, read.room (read.gate (omega arith))))))));
      went = gate_went r (omega arith) h.went;
    }

    pub node_nand : code ≡ 2 → PairRead s rules after (n + 1) (set l n 1) l' r → NodeRead s rules scan n l l' r
    unfolding branch symbols
    node_nand e h = record {
      laid = deep l' r (λ d k. rw e (gate_laid (rw (gate_seen 1 (omega arith)) at (h.laid d (omega (arith, read.room (read.gate (omega arith))))))));
      went = gate_went r (omega arith) h.went;
    }

-- ---- a NAND's two branches

-- Nothing is read after a refusal.
pub dead_read : (s : List ℕ) (rules : Rules) (r : Reached) (l : List ℕ) → (Live r.scan → ⊥) → r.next ≤ rules.nodes → NodeRead s rules r.scan r.next l l r
dead_read s rules r l z h = record {
  laid = λ d k. record { scan = sym (node_dead s rules d (take r.next l) r.scan z); symbols = λ x. absurd (z x); next = λ x. absurd (z x) };
  went = record { from = omega arith; upto = h; far = omega arith; near = λ x. omega arith };
}

-- One run of nodes after another is one run.
run_laid : {n : ℕ} {l l₁ l₂ ss₁ ss₂ : List ℕ} {first r : Reached} {after₁ after₂ : Scan} → Live first.scan →
    Laid n l l₁ first after₁ ss₁ → Laid first.next l₁ l₂ r after₂ ss₂ → Laid n l l₂ r after₂ (ss₁ ++ ss₂)
run_laid {n} {l} {l₁} {l₂} {ss₁} {ss₂} z a b =
    let from = a.next z in
    record { scan = b.scan; symbols = λ x. rw (sets_append l n ss₁ ss₂, ← (a.symbols z), ← from) (b.symbols x); next = λ x. omega (arith, b.next x, length-append ss₁ ss₂) }

-- The symbols seen after a run of nodes.
pub run_seen : (n : ℕ) (l l₁ : List ℕ) (first : Reached) (after : Scan) (ss : List ℕ) → Live first.scan → first.next ≤ length l → Laid n l l₁ first after ss →
    take first.next l₁ ≡ take n l ++ ss
run_seen n l l₁ first after ss z h a = rw (a.next z, a.symbols z) (take_sets l n ss (omega (arith, a.next z)))

pub pair_read : (s : List ℕ) (rules : Rules) (scan : Scan) (n : ℕ) (l l₁ l₂ : List ℕ) (first r : Reached) → rules.nodes ≤ length l →
    NodeRead s rules scan n l l₁ first → NodeRead s rules first.scan first.next l₁ l₂ r → PairRead s rules scan n l l₂ r
unfolding pair
pair_read s rules scan n l l₁ l₂ first r long a b = record { laid = λ d k. laid d k (live? first.scan); went = went (live? first.scan) }
  where
    -- what follows a refusal is the refusal
    stays : (d : ℕ) → rules.nodes - n < d → (Live first.scan → ⊥) → r.scan ≡ first.scan
    stays d k z = (b.laid d (omega (arith, a.went.from))).scan ∙ node_dead s rules d (take first.next l₁) first.scan z

    went : Dec (Live first.scan) → Went rules scan n r
    went (yes z) = let near = a.went.near z in record { from = omega arith; upto = b.went.upto; far = omega arith; near = λ x. omega (arith, b.went.near x) }
    went (no z) =
        let e = stays (suc (rules.nodes - n)) (omega arith) z in
        record { from = omega arith; upto = b.went.upto; far = omega (arith, ap place e); near = λ x. absurd (z (rw e at x)) }

    laid : (d : ℕ) → rules.nodes - n < d → Dec (Live first.scan) →
        let x = node s rules d (take n l) scan in let y = node s rules d (take n l ++ symbols x.0) x.1 in
        Laid n l l₂ r y.1 (symbols x.0 ++ symbols y.0)
    laid d k (no z) =
        let x = node s rules d (take n l) scan in
        let r-is : r.scan ≡ x.1 = stays d k z ∙ (a.laid d k).scan in
        let dead : Live x.1 → ⊥ = λ q. z (subst Live (sym (a.laid d k).scan) q) in
        let never : Live r.scan → ⊥ = λ q. dead (subst Live r-is q) in
        record { scan = r-is ∙ sym (node_dead s rules d (take n l ++ symbols x.0) x.1 dead); symbols = λ q. absurd (never q); next = λ q. absurd (never q) }
    laid d k (yes z) =
        let x = node s rules d (take n l) scan in
        let seen = run_seen n l l₁ first x.1 (symbols x.0) z (omega (arith, a.went.upto)) (a.laid d k) in
        run_laid z (a.laid d k) (rw (seen, (a.laid d k).scan) at (b.laid d (omega (arith, a.went.from))))
