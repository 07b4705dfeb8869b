-- What a walk ends with is a legal cover, and every legal cover is walked to its end.
use Prim.Native.Nat.{ℕ, suc, ◌+◌, ◌≤◌, ◌<◌}
use mathlib.Core.Path.{◌≡◌, refl, sym, ap}
use mathlib.Core.Logic.{◌↔◌}
use mathlib.Core.List.{List, [], ◌∷◌, ◌++◌, append-nil, append_assoc, cons≢nil}
use mathlib.Core.Option.{Option, none, some, none-ne-some}
use native.Mathlib.Nat.{le_refl}
use native.Mathlib.Omega.{arith}
use lib.ListN.{length, length-append}
use Rattle.fields.specs.Answer.{Answer, refused_in, success}
use Rattle.fields.proofs.Answer.{answer_apart}
use Rattle.sheets_rules.specs.Model.{pin_of, Shape, leaf, inv, nand, size, Cell, Library, Tree}
use Rattle.covers.specs.Crossing.{redrawn}
use Rattle.covers.specs.Match.{Input, Match, IsMatch, joined, laid, matched}
use Rattle.covers.specs.Cover.{Point, Placed, Cover, IsCover, bare, matching, AreCovers, done, more, beside, late, raised, leaf_point, leaf_cover, nothing, together, delayed, topped, input_delay}
use Rattle.covers.specs.Inside.Curve.{gates}
use Rattle.covers.specs.Promise.{RootCover}
use Rattle.covers.proofs.Points.{point_path}
use Rattle.covers.proofs.Matching.{Whenever, never, holds, whenever, match_inside}
use Rattle.judge_rules.specs.Inside.Order.{Apart, last, next}
use Rattle.judge_rules.specs.Walk.{Uncovered, Walk, visited, inputs_visited, started, list_ended, onward, walk}
use Rattle.judge_rules.proofs.Order.{visit_apart, inputs_apart, Named, match_found, after, step_some, StepIs, wrong, right, step_is}

-- ---- covers of several nodes

-- A match has an input.
laid_some : (d : Shape) (n : ℕ) (s : Shape) → Whenever (λ is. 0 < length is) (laid d n s)
unfolding laid joined
laid_some (leaf x) n s = holds {is = record { pin = pin_of x; node = n; shape = s } ∷ []} (omega arith)
laid_some (inv d) n (leaf x) = never
laid_some (inv d) n (inv s) = laid_some d (suc n) s
laid_some (inv d) n (nand s t) = never
laid_some (nand d e) n (leaf x) = never
laid_some (nand d e) n (inv s) = never
laid_some (nand d e) n (nand s t) = elim (laid_some d (suc n) s) as (λ a x. Whenever (λ is. 0 < length is) (joined a (laid e (suc n + size s) t))) [
  | never ↦ never
  | holds {is} f ↦
      elim (laid e (suc n + size s) t) as (λ b. Whenever (λ is. 0 < length is) (joined (some is) b)) [ none ↦ never | some js ↦ holds {is = is ++ js} (omega (arith, length-append is js, f)) ]
]

matched_some : (d : Shape) (n : ℕ) (s : Shape) {is : List Input} → matched d n s ≡ some is → 0 < length is
unfolding matched
matched_some (leaf x) n s {is} e = absurd (none-ne-some is e)
matched_some (inv d) n s e = whenever (laid_some (inv d) n s) e
matched_some (nand d f) n s e = whenever (laid_some (nand d f) n s) e

-- These matches make up legal covers of all that is to be covered, one after another; p is the point q with theirs.
pub data Covered (l : Library) : List Uncovered → List Placed → Point → Point → Type 0 where
  none_left : {xs : List Placed} {q p : Point} → xs ≡ [] → q ≡ p → Covered l [] xs q p
  one_left : {o : Uncovered} {os : List Uncovered} {xs ys : List Placed} {q p : Point} (c : Cover) →
      IsCover l o.load o.node o.shape c → xs ≡ c.placed ++ ys → Covered l os ys (beside (late o.delay c.point) q) p → Covered l (o ∷ os) xs q p

-- More on a walk's point.
abbrev plus : Point → Walk → Walk
plus a w = record { left = w.left; point = beside a w.point }

visit_plus : (load delay n : ℕ) (s : Shape) (a : Point) (w : Walk) → visited load delay n s (plus a w) ≡ plus a (visited load delay n s w)
unfolding visited beside
visit_plus load delay n (leaf x) a w =
    let b = late delay (leaf_point x load) in
    ap (λ (q : Point). record { left = w.left; point = q }) (point_path {p = beside b (beside a w.point)} {q = beside a (beside b w.point)} (omega arith) (omega arith))
visit_plus load delay n (inv s) a w = refl
visit_plus load delay n (nand s t) a w = refl

inputs_plus : (l : Library) (cell : Cell) (load delay : ℕ) (is : List Input) (a : Point) (w : Walk) → inputs_visited l cell load delay is (plus a w) ≡ plus a (inputs_visited l cell load delay is w)
unfolding inputs_visited
inputs_plus l cell load delay [] a w = refl
inputs_plus l cell load delay (i ∷ is) a w = rw (inputs_plus l cell load delay is a w) (visit_plus _ _ _ i.shape a (inputs_visited l cell load delay is w))

-- The match at the top of a cover of an inverter or NAND.
top_of : {l : Library} {load n : ℕ} {s : Shape} {c : Cover} → 0 < gates s → IsCover l load n s c → (m : Match) × (d : Cover) × IsMatch l load n s m × AreCovers l m.pattern.cell load m.inputs d × (c ≡ topped n m d)
unfolding gates
top_of g (bare e) = absurd (omega arith)
top_of g (matching {d = d} m f h e) = (m, d, f, h, e)

module _ (l : Library) (p : Point) where
  -- The list begins with a cover of this kind, of what is reached with a delay; the rest covers what the walk has left.
  abbrev Parted : (Cover → Type 0) → ℕ → Walk → List Placed → Type 0
  Parted P delay w xs = (c : Cover) × (ys : List Placed) × P c × (xs ≡ c.placed ++ ys) × Covered l w.left ys (beside (late delay c.point) w.point) p

  -- A cover of a node that is reached, whether it is a leaf or not.
  visit_covered : {load n : ℕ} (delay : ℕ) (s : Shape) (w : Walk) {xs : List Placed} → Parted (IsCover l load n s) delay w xs → Covered l (visited load delay n s w).left xs (visited load delay n s w).point p
  unfolding visited leaf_cover gates
  visit_covered delay (leaf x) w (c, ys, bare g, e, k) = rw (e, g) (rw g at k)
  visit_covered delay (leaf x) w (c, ys, matching m f h g, e, k) = absurd (omega (arith, (match_inside f).fewer))
  visit_covered delay (inv s) w (c, ys, h, e, k) = one_left c h e k
  visit_covered delay (nand s t) w (c, ys, h, e, k) = one_left c h e k

  visit_uncovered : {load n : ℕ} (delay : ℕ) (s : Shape) (w : Walk) {xs : List Placed} → Covered l (visited load delay n s w).left xs (visited load delay n s w).point p → Parted (IsCover l load n s) delay w xs
  unfolding visited leaf_cover
  visit_uncovered {load} delay (leaf x) w {xs} k = (leaf_cover x load, xs, bare refl, refl, k)
  visit_uncovered delay (inv s) w (one_left {ys = ys} c h e k) = (c, ys, h, e, k)
  visit_uncovered delay (nand s t) w (one_left {ys = ys} c h e k) = (c, ys, h, e, k)

  module _ (cell : Cell) (load delay : ℕ) where
    abbrev inputs : List Input → Walk → Walk
    inputs = inputs_visited l cell load delay

    -- With no input the delay alone must not count.
    abbrev Counts : List Input → Walk → Type 0
    Counts is w = length is ≡ 0 → delay ≤ w.point.arrival

    -- What the first input adds.
    abbrev adds : Input → Cover → Point
    adds i c = late (input_delay cell load i + delay) c.point

    beside_first : (i : Input) (c e : Cover) (q : Point) → beside (late delay (together (delayed (input_delay cell load i) c) e).point) q ≡ beside (late delay e.point) (beside (adds i c) q)
    unfolding together delayed beside late
    beside_first i c e q = point_path (omega arith) (omega arith)

    beside_none : (w : Walk) → delay ≤ w.point.arrival → beside (late delay nothing.point) w.point ≡ w.point
    unfolding nothing beside late
    beside_none w g = point_path (omega arith) (omega arith)

    -- Covers of all inputs, which are reached at once.
    inputs_covered : (is : List Input) (w : Walk) {xs : List Placed} → Counts is w → Parted (AreCovers l cell load is) delay w xs → Covered l (inputs is w).left xs (inputs is w).point p
    unfolding inputs_visited nothing together delayed
    inputs_covered [] w g (d, ys, done e, f, k) = rw (f, e) (rw (e, beside_none w (g refl)) at k)
    inputs_covered (i ∷ is) w g (d, ys, more {d = c} {e = b} h r e, f, k) =
        let a = adds i c in
        let below = inputs_covered is (plus a w) (λ e. unfold late beside in omega arith) (b, ys, r, refl, rw (e, beside_first i c b w.point) at k) in
        visit_covered (input_delay cell load i + delay) i.shape (inputs is w) (c, b.placed ++ ys, h, rw (f, e, append_assoc), rw (inputs_plus l cell load delay is a w) at below)

    inputs_uncovered : (is : List Input) (w : Walk) {xs : List Placed} → Counts is w → Covered l (inputs is w).left xs (inputs is w).point p → Parted (AreCovers l cell load is) delay w xs
    unfolding inputs_visited nothing together delayed
    inputs_uncovered [] w {xs} g k = (nothing, xs, done refl, refl, rw (beside_none w (g refl)) k)
    inputs_uncovered (i ∷ is) w g k =
        let (c, ys, h, e, j) = visit_uncovered (input_delay cell load i + delay) i.shape (inputs is w) k in
        let a = adds i c in
        let (b, zs, r, f, below) = inputs_uncovered is (plus a w) {xs = ys} (λ e. unfold late beside in omega arith) (rw (inputs_plus l cell load delay is a w) j) in
        (together (delayed (input_delay cell load i) c) b, zs, more h r refl, cc (append_assoc c.placed b.placed zs), rw (beside_first i c b w.point) below)

-- ---- the whole walk

abbrev at : List Uncovered → Point → Walk
at os q = record { left = os; point = q }

-- After a step what is left stands in order.
pub after_apart : (l : Library) {low high : ℕ} {o : Uncovered} {os : List Uncovered} (q : Point) {m : Match} → Apart low high (o ∷ os) → IsMatch l o.load o.node o.shape m → Apart (suc o.node) high (after l o os q m).left
unfolding after
after_apart l {o = o} {os} q {m} (next a g r) f = inputs_apart l m.pattern.cell o.load o.delay m.inputs (at os (raised m.pattern.cell.area q)) (match_inside f).spread r

is_gate : {low high : ℕ} {o : Uncovered} {os : List Uncovered} → Apart low high (o ∷ os) → 0 < gates o.shape
is_gate (next a g r) = g

pub answer_none : {A : Type 0} {i n k : ℕ} {a : A} → ◌≡◌ {A = Answer A} (refused_in i n k) (success a) → ⊥
answer_none e = answer_apart (sym e)

-- A match has an input, so that its delay counts.
counts : {l : Library} {load n : ℕ} {s : Shape} {m : Match} {d a : ℕ} → IsMatch l load n s m → length m.inputs ≡ 0 → d ≤ a
counts {n} {s} {m} f e = absurd (omega (arith, matched_some (redrawn m.crossing m.pattern.drawing) n s f.fits))

beside_top : (delay n : ℕ) (m : Match) (d : Cover) (q : Point) → beside (late delay (topped n m d).point) q ≡ beside (late delay d.point) (raised m.pattern.cell.area q)
unfolding topped raised beside late
beside_top delay n m d q = point_path (omega arith) (omega arith)

module _ (l : Library) (p : Point) where
  -- A listed match after which a walk comes to its end is a legal one at the first of what is to be covered.
  stepped : {o : Uncovered} {os : List Uncovered} {q : Point} {x : Placed} {w : Option Walk} (k : ℕ) (rest : Walk → Answer Point) → StepIs l o os q x w → onward k rest w ≡ success p →
      (m : Match) × Named l x.pattern x.crossing o m × (x.node ≡ o.node) × (rest (after l o os q m) ≡ success p)
  unfolding onward
  stepped k rest wrong e = absurd (answer_none e)
  stepped k rest (right m f h) e = (m, f, h, e)

  -- What a walk ends with is covered by what it walked over.
  walk_covers : (xs : List Placed) (k : ℕ) (os : List Uncovered) (q : Point) {low high : ℕ} → Apart low high os → walk l k xs (at os q) ≡ success p → Covered l os xs q p
  unfolding walk list_ended onward topped after
  walk_covers [] k [] q r e = none_left {q = q} {p = p} refl cc
  walk_covers [] k (o ∷ os) q r e = absurd (answer_none e)
  walk_covers (x ∷ xs) k [] q r e = absurd (answer_none e)
  walk_covers (x ∷ xs) k (o ∷ os) q r e =
      let s = stepped k (walk l (suc k) xs) (step_is l r q x) e in
      let m = s.0 in
      let g = s.1 in
      let rest = walk_covers xs (suc k) (after l o os q m).left (after l o os q m).point (after_apart l q r g.legal_match) s.3 in
      let h = inputs_uncovered l p m.pattern.cell o.load o.delay m.inputs (at os (raised m.pattern.cell.area q)) (counts g.legal_match) rest in
      one_left {o = o} {os = os} {ys = h.1} {q = q} {p = p} (topped o.node m h.0) (matching m g.legal_match h.2 refl)
      (λ i. record { node = s.2 i; pattern = sym g.number_is i; crossing = sym g.crossing_is i } ∷ h.3 i) (rw (beside_top o.delay o.node m h.0 q) h.4)

  covers_walk : (xs : List Placed) (k : ℕ) (os : List Uncovered) (q : Point) {low high : ℕ} → Apart low high os → Covered l os xs q p → walk l k xs (at os q) ≡ success p
  unfolding walk list_ended onward topped gates after
  covers_walk [] k [] q r (none_left e f) = ap success f
  covers_walk [] k (o ∷ os) q r (one_left c h e j) = absurd (cons≢nil (sym (rw (top_of (is_gate r) h).4 at e)))
  covers_walk (x ∷ xs) k [] q r (none_left e f) = absurd (cons≢nil e)
  covers_walk (x ∷ xs) k (o ∷ os) q r (one_left {ys = ys} c h e j) =
      let (m, d, f, b, t) = top_of (is_gate r) h in
      let list : x ∷ xs ≡ record { node = o.node; pattern = m.number; crossing = m.crossing } ∷ (d.placed ++ ys) = rw t at e in
      let below = inputs_covered l p m.pattern.cell o.load o.delay m.inputs (at os (raised m.pattern.cell.area q)) {xs = xs} (counts f) (d, ys, b, cc, rw (t, beside_top o.delay o.node m d q) at j) in
      rw (step_some l r q x (cc) (match_found l o record { legal_match = f; number_is = cc; crossing_is = cc }))
      (covers_walk xs (suc k) (after l o os q m).left (after l o os q m).point (after_apart l q r f) below)

-- From the root: a walk ends with the figures of a legal cover, and every legal cover is walked to its end.
pub started_apart : (t : Tree) → Apart 0 (size t.shape) (started t).left
unfolding started
started_apart t = visit_apart t.load 0 0 t.shape (at [] (record { area = 0; arrival = 0 })) (le_refl 0) (last (omega arith))

pub walk_legal : (l : Library) (t : Tree) (xs : List Placed) (p : Point) → (walk l 0 xs (started t) ≡ success p) ↔ RootCover l t (record { point = p; placed = xs })
unfolding started
walk_legal l t xs p = (
  λ e. legal (visit_uncovered l p 0 t.shape none (walk_covers l p xs 0 (started t).left (started t).point (started_apart t) e)),
  λ h. covers_walk l p xs 0 (started t).left (started t).point (started_apart t) (visit_covered l p 0 t.shape none (record { point = p; placed = xs }, [], h, sym (append-nil xs), none_left refl (same p))),
)
  where
    none : Walk
    none = at [] (record { area = 0; arrival = 0 })

    same : (q : Point) → beside (late 0 q) (record { area = 0; arrival = 0 }) ≡ q
    same q = unfold beside late in point_path (omega arith) (omega arith)

    legal : Parted l p (IsCover l t.load 0 t.shape) 0 none xs → RootCover l t (record { point = p; placed = xs })
    legal (c, ys, h, e, none_left f g) = rw (e, f, append-nil, ← g, same) h
