-- Laws about the sizes of a shape's nodes: each is made of the node's symbol and the sizes after it.
use mathlib.Core.Path.{◌≡◌, refl, sym, ap, ◌∙◌}
use mathlib.Core.List.{List, [], ◌∷◌, ◌++◌, append_assoc, append-nil}
use Prim.Native.Nat.{ℕ, zero, suc, ◌+◌, ◌≤◌, ◌<◌}
use native.Mathlib.Omega.{arith}
use native.Mathlib.Nat.{add-zero, zero-add}
use native.Mathlib.Numerals.{add-one}
use lib.ListN.{length, get_or, take, drop, set, length-append, length-drop}
use lib.Seq.{sets, drop-cons, drop-length, get_or-append-add, get_or-take, length-take-le}
use Rattle.fields.proofs.Lists.{set_sets, in_sets}
use Rattle.shapes_rules.specs.Shape.{Shape, leaf, inv, nand, size, symbols, sizes}
use Rattle.shapes_rules.proofs.Drawing.{length_symbols, length_sizes}

-- A node with symbol x has size z, where the sizes of the nodes after it stand in m from i up to e.
pub record Sized (x i e : ℕ) (m : List ℕ) (z : ℕ) : Type 0 where
  pub leaf : 2 ≤ x → z ≡ 1
  pub gate : x < 2 → (i < e) × (get_or m i 0 < z)
  pub inv : x ≡ 0 → z ≡ 1 + get_or m i 0
  pub nand : x ≡ 1 → (i + get_or m i 0 < e) × (z ≡ 1 + get_or m i 0 + get_or m (i + get_or m i 0) 0)
  pub few : i + z ≤ 1 + e

-- So it is with every node of a run.
abbrev AllSized : List ℕ → List ℕ → Type 0
AllSized [] zs = Unit {0}
AllSized (x ∷ xs) [] = ⊥
AllSized (x ∷ xs) (z ∷ zs) = Sized x 0 (length zs) zs z × AllSized xs zs

-- A shape's sizes begin with its own, and are as many.
first_size : (a : Shape) (zs : List ℕ) → (get_or (sizes a ++ zs) 0 0 ≡ size a) × (0 < size a) × (length (sizes a ++ zs) ≡ size a + length zs)
unfolding sizes size
first_size (leaf x) zs = (refl, omega arith, rw (length-append, length_sizes))
first_size (inv b) zs = (refl, omega arith, rw (length-append, length_sizes))
first_size (nand b c) zs = (refl, omega arith, rw (length-append, length_sizes))

all_sized : (d : Shape) (xs zs : List ℕ) → AllSized xs zs → AllSized (symbols d ++ xs) (sizes d ++ zs)
unfolding symbols sizes size
all_sized (leaf x) xs zs h = (omega arith, h)
all_sized (inv a) xs zs h = let f = first_size a zs in (omega arith, all_sized a xs zs h)
all_sized (nand a b) xs zs h =
    let f = first_size a (sizes b ++ zs) in
    let g = first_size b zs in
    let to : 0 + size a ≡ length (sizes a) + 0 = omega (arith, length_sizes a) in
    let second : get_or (sizes a ++ (sizes b ++ zs)) (0 + size a) 0 ≡ size b = rw to (get_or-append-add (sizes a) (sizes b ++ zs) 0 0 ∙ g.0) in
    rw (append_assoc (symbols a) (symbols b) xs, append_assoc (sizes a) (sizes b) zs) (
      record { leaf = λ q. omega arith; gate = λ q. omega arith; inv = λ q. omega arith; nand = λ q. rw f.0 (omega arith); few = omega arith },
      all_sized a (symbols b ++ xs) (sizes b ++ zs) (all_sized b xs zs h),
    )

sized_at : (k : ℕ) (xs zs : List ℕ) → AllSized xs zs → k < length xs → Sized (get_or xs k 0) 0 (length (drop (suc k) zs)) (drop (suc k) zs) (get_or zs k 0)
sized_at k [] zs h g = absurd (omega arith)
sized_at zero (x ∷ xs) [] h g = elim h [ ]
sized_at (suc k) (x ∷ xs) [] h g = elim h [ ]
sized_at zero (x ∷ xs) (z ∷ zs) h g = h.0
sized_at (suc k) (x ∷ xs) (z ∷ zs) h g = sized_at k xs zs h.1 (omega arith)

-- The same where the sizes after the node are a run in m.
sized_in : (x i z : ℕ) (ys m : List ℕ) → Sized x 0 (length ys) ys z → ((j : ℕ) → j < length ys → get_or m (i + j) 0 ≡ get_or ys j 0) → Sized x i (i + length ys) m z
sized_in x i z ys m s h =
    let first : x < 2 → get_or m i 0 ≡ get_or ys 0 0 = λ q. rw add-zero at (h 0 (s.gate q).0) in
    record {
      leaf = s.leaf;
      gate = λ q. rw (first q) (omega (arith, s.gate q));
      inv = λ q. rw (first (omega arith)) (s.inv q);
      nand = λ q. let n = simp zero-add at (s.nand q) in rw (first (omega arith)) (omega (arith, h (get_or ys 0 0) n.0));
      few = omega (arith, s.few);
    }

-- The sizes of a shape, whose symbols are the first n of l, are set in m from the last to the first.
module _ (n : ℕ) (l m : List ℕ) (many : n ≤ length l) (room : n ≤ length m) (d : Shape) (laid : take n l ≡ symbols d) where
  abbrev from : ℕ → List ℕ
  from k = sets m k (drop k (sizes d))

  count : length (sizes d) ≡ n
  count = length_sizes d ∙ sym (length_symbols d) ∙ ap length (sym laid) ∙ length-take-le n l many

  pub none_set : m ≡ from n
  none_set = rw (← count, drop-length (sizes d))

  -- Node k, where those after it are set in m'.
  pub one_set : (k : ℕ) (m' : List ℕ) → k < n → m' ≡ from (k + 1) → let z = get_or (sizes d) k 0 in Sized (get_or l k 0) (k + 1) n m' z × (set m' k z ≡ from k)
  one_set k m' g e =
      let z = get_or (sizes d) k 0 in
      let ys = drop (suc k) (sizes d) in
      let end : n ≡ suc k + length ys = omega (arith, length-drop (suc k) (sizes d), count) in
      let here : get_or l k 0 ≡ get_or (symbols d) k 0 = rw (← laid, get_or-take n l k 0 g) in
      let all : AllSized (symbols d) (sizes d) = simp append-nil at (all_sized d [] [] tt) in
      let run = drop-cons (sizes d) k 0 (omega (arith, count)) in
      rw (e, add-one k) (
        rw (here, end)
            (sized_in (get_or (symbols d) k 0) (suc k) z ys (sets m (suc k) ys) (sized_at k (symbols d) (sizes d) all (omega (arith, length_symbols d, length_sizes d, count)))
            (λ j q. in_sets m (suc k) ys j 0 (omega arith) q)),
        set_sets m (suc k) k z ys (omega arith) ∙ ap (sets m k) (sym run),
      )
