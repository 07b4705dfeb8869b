-- Covers and choice without the count: each is its step over itself, since inputs are smaller than the subtree of their match.
use Prim.Native.Nat.{ℕ, zero, suc, ◌-◌, ◌≤◌, ◌<◌}
use mathlib.Core.Path.{◌≡◌, refl, ap, ap₂, fun_ext, ◌∙◌}
use mathlib.Core.List.{List, [], ◌∷◌, ◌++◌, map, flat_map, Memᴰ}
use mathlib.Core.Option
use mathlib.Core.Option.{Option, none, some}
use native.Mathlib.Nat.{le_refl}
use native.Mathlib.Omega.{arith}
use Rattle.sheets_rules.specs.Model.{Leaf, Shape, leaf, inv, nand, size, Pin, Cell, Library}
use Rattle.covers.specs.Match.{Input, Match, matches}
use Rattle.covers.specs.Cover.{Point, Cover, delayed, topped, feeds, input_delay}
use Rattle.covers.specs.Enumeration.{combined, deepened, throughout, input_covers, match_covers, gate_covers, under, covers_step, covers, all_below}
use Rattle.covers.specs.Choice.{least, reaches, both_chosen, chosen_inputs, with_inputs, first_reaching, gate_choice, choice_step, choice}
use Rattle.covers.proofs.Basics.{first_cases}
use Rattle.covers.specs.Inside.Curve.{gates}
use Rattle.covers.proofs.Matching.{size_pos, matches_are, input_smaller}

module _ {A : Type 0} (base : A) (step : (ℕ → ℕ → Shape → A) → ℕ → ℕ → Shape → A) where
  -- The step asks only for what is below.
  abbrev Local : Type 0
  Local = (at at' : ℕ → ℕ → Shape → A) (load n : ℕ) (s : Shape) → ((load' n' : ℕ) (t : Shape) → size t < size s → at load' n' t ≡ at' load' n' t) → step at load n s ≡ step at' load n s

  deep_enough : Local → (k j load n : ℕ) (s : Shape) → size s ≤ k → size s ≤ j → deepened base step k load n s ≡ deepened base step j load n s
  unfolding deepened
  deep_enough local zero j load n s h i = absurd (omega (arith, size_pos s))
  deep_enough local (suc k) zero load n s h i = absurd (omega (arith, size_pos s))
  deep_enough local (suc k) (suc j) load n s h i = local (deepened base step k) (deepened base step j) load n s (λ load' n' t b. deep_enough local k j load' n' t (omega arith) (omega arith))

  unroll : Local → (load n : ℕ) (s : Shape) → throughout base step load n s ≡ step (throughout base step) load n s
  unfolding throughout deepened
  unroll local load n s = deep_enough local (size s) (suc (size s)) load n s (omega arith) (omega arith) ∙ local (deepened base step (size s)) (throughout base step) load n s (λ load' n' t b. deep_enough local (size s) (size t) load' n' t (omega arith) (le_refl (size t)))

-- The same covers of every input make the same covers.
inputs_same : (of of' : Pin → Input → List Cover) (cell : Cell) (load : ℕ) (is : List Input) → ((i : Input) → Memᴰ i is → (p : Pin) → of p i ≡ of' p i) → input_covers of cell load is ≡ input_covers of' cell load is
unfolding input_covers
inputs_same of of' cell load [] h = refl
inputs_same of of' cell load (i ∷ is) h = ap₂ combined (ap (map (delayed (input_delay cell load i))) (h i (Memᴰ.head refl) (feeds cell i))) (inputs_same of of' cell load is (λ j m. h j (Memᴰ.tail m)))

gate_same : (of of' : Pin → Input → List Cover) (load n : ℕ) (ms : List Match) → ((m : Match) → Memᴰ m ms → (i : Input) → Memᴰ i m.inputs → (p : Pin) → of p i ≡ of' p i) → flat_map (match_covers of load n) ms ≡ flat_map (match_covers of' load n) ms
unfolding flat_map match_covers
gate_same of of' load n [] h = refl
gate_same of of' load n (m ∷ ms) h = ap₂ (λ a b. map (topped n m) a ++ b) (inputs_same of of' m.pattern.cell load m.inputs (h m (Memᴰ.head refl))) (gate_same of of' load n ms (λ k i. h k (Memᴰ.tail i)))

covers_local : (l : Library) → Local [] (covers_step l)
unfolding covers_step gate_covers under
covers_local l at at' load n (leaf x) h = refl
covers_local l at at' load n (inv s) h = gate_same (under l at) (under l at') load n (matches l load n (inv s)) (λ m k i j p. h _ _ _ (input_smaller (matches_are l load n (inv s) k) j))
covers_local l at at' load n (nand s t) h = gate_same (under l at) (under l at') load n (matches l load n (nand s t)) (λ m k i j p. h _ _ _ (input_smaller (matches_are l load n (nand s t) k) j))

-- Covers of a node come from covers of the inputs of its matches.
pub covers_unroll : (l : Library) (load n : ℕ) (s : Shape) → covers l load n s ≡ covers_step l (covers l) load n s
unfolding covers
covers_unroll l = unroll [] (covers_step l) (covers_local l)

-- At a gate, by its matches.
pub gate_covers_lem : (l : Library) (load n : ℕ) (s : Shape) → 0 < gates s → covers l load n s ≡ gate_covers (all_below l) l load n s
unfolding gates covers_step
gate_covers_lem l load n (leaf x) = λ h. absurd (omega arith)
gate_covers_lem l load n (inv t) = λ h. covers_unroll l load n (inv t)
gate_covers_lem l load n (nand t u) = λ h. covers_unroll l load n (nand t u)

chosen_same : (of of' : Pin → Input → ℕ → Option Cover) (cell : Cell) (load t : ℕ) (is : List Input) → ((i : Input) → Memᴰ i is → (p : Pin) → of p i ≡ of' p i) → chosen_inputs of cell load t is ≡ chosen_inputs of' cell load t is
unfolding chosen_inputs
chosen_same of of' cell load t [] h = refl
chosen_same of of' cell load t (i ∷ is) h = ap₂ (λ f d. both_chosen (Option.map (delayed (input_delay cell load i)) (f (t - input_delay cell load i))) d) (h i (Memᴰ.head refl) (feeds cell i)) (chosen_same of of' cell load t is (λ j m. h j (Memᴰ.tail m)))

gate_local : (l : Library) (at at' : ℕ → ℕ → Shape → ℕ → Option Cover) (load n : ℕ) (s : Shape) → ((load' n' : ℕ) (t : Shape) → size t < size s → at load' n' t ≡ at' load' n' t) →
    (o : Option Point) → gate_choice l at load n s o ≡ gate_choice l at' load n s o
unfolding gate_choice first_reaching with_inputs under
gate_local l at at' load n s h none = refl
gate_local l at at' load n s h (some p) =
    first_cases (λ m. reaches p (match_covers (all_below l) load n m)) (λ o. with_inputs (under l at) load n p.arrival o ≡ with_inputs (under l at') load n p.arrival o) (matches l load n s) (λ a. refl)
    (λ m k r. ap (Option.map (topped n m)) (chosen_same (under l at) (under l at') m.pattern.cell load p.arrival m.inputs (λ i j q. h _ _ _ (input_smaller (matches_are l load n s k) j))))

choice_local : (l : Library) → Local (λ time. none) (choice_step l)
unfolding choice_step
choice_local l at at' load n (leaf x) h = refl
choice_local l at at' load n (inv s) h = fun_ext (λ time. gate_local l at at' load n (inv s) h (least (suc time) (covers l load n (inv s))))
choice_local l at at' load n (nand s t) h = fun_ext (λ time. gate_local l at at' load n (nand s t) h (least (suc time) (covers l load n (nand s t))))

-- The chosen cover of a node comes from the chosen covers of the inputs of its match.
pub choice_unroll : (l : Library) (load n : ℕ) (s : Shape) → choice l load n s ≡ choice_step l (choice l) load n s
unfolding choice
choice_unroll l = unroll (λ time. none) (choice_step l) (choice_local l)

pub gate_choice_lem : (l : Library) (load n : ℕ) (s : Shape) (time : ℕ) → 0 < gates s → choice l load n s time ≡ gate_choice l (choice l) load n s (least (suc time) (covers l load n s))
unfolding gates choice_step
gate_choice_lem l load n (leaf x) time = λ h. absurd (omega arith)
gate_choice_lem l load n (inv t) time = λ h. rw (choice_unroll l load n (inv t))
gate_choice_lem l load n (nand t u) time = λ h. rw (choice_unroll l load n (nand t u))

-- What holds of a shape if it holds of all smaller ones holds of every shape.
pub by_size : (P : Shape → Type 0) → ((s : Shape) → ((t : Shape) → size t < size s → P t) → P s) → (s : Shape) → P s
by_size P step s = go (size s) s (le_refl (size s))
  where
    go : (k : ℕ) (t : Shape) → size t ≤ k → P t
    go zero t h = absurd (omega (arith, size_pos t))
    go (suc k) t h = step t (λ u b. go k u (omega arith))

-- The same, with leaves apart from inverters and NANDs.
pub by_gate : (P : Shape → Type 0) → ((x : Leaf) → P (leaf x)) → ((s : Shape) → 0 < gates s → ((t : Shape) → size t < size s → P t) → P s) → (s : Shape) → P s
unfolding gates
by_gate P bare gate = by_size P (λ s. elim s as (λ u. ((t : Shape) → size t < size u → P t) → P u) [ leaf x ↦ λ below. bare x | inv t ↦ gate (inv t) (omega arith) | nand t u ↦ gate (nand t u) (omega arith) ])
