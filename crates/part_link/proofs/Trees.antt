-- A tree with the arrivals that links bring, from its symbols: node by node, in their order.
use Prim.Native.Nat.{ℕ, zero, suc, ◌+◌, ◌-◌, ◌≤◌, ◌<◌, ◌/◌}
use mathlib.Core.Path.{◌≡◌, refl, sym, ap, ap₂, ◌∙◌}
use mathlib.Core.Bool.{Bool, true, false, cond}
use mathlib.Core.List.Memᴰ
use mathlib.Core.List.{List, [], ◌∷◌, ◌++◌, append-nil}
use mathlib.Core.Option
use mathlib.Core.Option.{Option, none, some}
use native.Mathlib.Omega.{arith}
use lib.Dec.{ltb}
use lib.ListN.{length, get_or, set, drop, replicate, length-append, length-replicate}
use lib.Seq.{append_snoc, sets-eq, get_or_at, set_at}
use borrow.Author.Tests.{lt-ltb, le-ltb}
use Rattle.shapes_rules.specs.Shape.{drive_unit, leaf_symbol, symbols, sizes}
use Rattle.shapes_rules.proofs.Drawing.{length_symbols}
use Rattle.sheets_rules.specs.declared.TreeRecord.{TreeRecord}
use Rattle.sheets_rules.specs.Model.{Shape, leaf, inv, nand, size, leaves, Tree}
use Rattle.sheets_rules.specs.Inside.Sound.{SoundTree}
use Rattle.sheets_rules.specs.Inside.Layout.{padded, tree_laid}
use Rattle.leaves.specs.Inside.Leaf.{leaf_of}
use Rattle.leaves.proofs.Symbols.{SoundLeaves}
use Rattle.covers.specs.Lists.{first_such}
use Rattle.part_rules.specs.Part.{leaf_nodes, put_in, known_tree}
use Rattle.part_rules.specs.Outcome.{latest_linked, is_late, late_leaf}
use Rattle.part_rules.proofs.Known.{put_size}
use Rattle.std.specs.Prelude as Prelude
use Rattle.std.specs.Prelude.{Some as Is, None as Late}
use Rattle.part_link.specs.Inside.Promises.{brought, symbol_linked}

-- ---- what a driver brings

pub brought_none : (arrivals : List ℕ) (driver : ℕ) → driver ≡ 0 → brought arrivals driver ≡ none
brought_none arrivals driver e = ap (brought arrivals) e

pub brought_some : (arrivals : List ℕ) (driver : ℕ) → (driver ≡ 0 → ⊥) → brought arrivals driver ≡ some (get_or arrivals (driver - 1) 0)
brought_some arrivals zero h = absurd (h refl)
brought_some arrivals (suc d) h = ap (λ (n : ℕ). some (get_or arrivals n 0)) (omega arith)

-- ---- one symbol

-- A symbol with an arrival put in, and whether it is that of a leaf to which a late one is brought.
abbrev relinked : Option ℕ → ℕ → ℕ
relinked none x = x
relinked (some a) x = cond (ltb x 2) x (leaf_symbol (record { number = a; drive = (leaf_of x).drive }))

abbrev late_at : Option ℕ → ℕ → Bool
late_at o x = cond (ltb x 2) false (is_late o)

late_is : {y : ℕ} → ◌≡◌ {A = Prelude.Option ℕ} Late (Is y) → ⊥
late_is e = let z : ◌≡◌ {A = ℕ} 0 1 = cc in omega arith

-- What the code finds of it.
pub symbol_late : (o : Option ℕ) (x : ℕ) → symbol_linked o x ≡ Late → late_at o x ≡ true
unfolding symbol_linked is_late
symbol_late none x e = absurd (late_is (sym e))
symbol_late (some a) x e = go (ltb x 2) (ltb latest_linked a) e
  where
    go : (b c : Bool) → cond b (Is x) (cond c Late (Is (leaf_symbol (record { number = a; drive = (leaf_of x).drive })))) ≡ Late → cond b false c ≡ true
    go true c f = absurd (late_is (sym f))
    go false true f = refl
    go false false f = absurd (late_is (sym f))

pub symbol_is : (o : Option ℕ) (x y : ℕ) → symbol_linked o x ≡ Is y → (y ≡ relinked o x) × (late_at o x ≡ false)
unfolding symbol_linked is_late
symbol_is none x y e = (cc, go (ltb x 2))
  where
    go : (b : Bool) → cond b false false ≡ false
    go true = refl
    go false = refl
symbol_is (some a) x y e = go (ltb x 2) (ltb latest_linked a) e
  where
    go : (b c : Bool) → cond b (Is x) (cond c Late (Is (leaf_symbol (record { number = a; drive = (leaf_of x).drive })))) ≡ Is y → (y ≡ cond b x (leaf_symbol (record { number = a; drive = (leaf_of x).drive }))) × (cond b false c ≡ false)
    go true c f = (cc, refl)
    go false true f = absurd (late_is f)
    go false false f = (cc, refl)

-- ---- all symbols

abbrev relinked_from : (ℕ → Option ℕ) → ℕ → List ℕ → List ℕ
relinked_from f n [] = []
relinked_from f n (x ∷ xs) = relinked (f n) x ∷ relinked_from f (suc n) xs

abbrev late_from : (ℕ → Option ℕ) → ℕ → List ℕ → Option ℕ
late_from f n [] = none
late_from f n (x ∷ xs) = cond (late_at (f n) x) (some n) (late_from f (suc n) xs)

abbrev or_else : Option ℕ → Option ℕ → Option ℕ
or_else none o = o
or_else (some n) o = some n

relinked_append : (f : ℕ → Option ℕ) (n m : ℕ) (xs ys : List ℕ) → m ≡ n + length xs → relinked_from f n (xs ++ ys) ≡ relinked_from f n xs ++ relinked_from f m ys
relinked_append f n m [] ys e = ap (λ (k : ℕ). relinked_from f k ys) (omega arith)
relinked_append f n m (x ∷ xs) ys e = ap (λ (l : List ℕ). relinked (f n) x ∷ l) (relinked_append f (suc n) m xs ys (omega arith))

relinked_length : (f : ℕ → Option ℕ) (n : ℕ) (xs : List ℕ) → length (relinked_from f n xs) ≡ length xs
relinked_length f n [] = refl
relinked_length f n (x ∷ xs) = ap suc (relinked_length f (suc n) xs)

late_append : (f : ℕ → Option ℕ) (n m : ℕ) (xs ys : List ℕ) → m ≡ n + length xs → late_from f n (xs ++ ys) ≡ or_else (late_from f n xs) (late_from f m ys)
late_append f n m [] ys e = ap (λ (k : ℕ). late_from f k ys) (omega arith)
late_append f n m (x ∷ xs) ys e = go (late_at (f n) x) (late_append f (suc n) m xs ys (omega arith))
  where
    go : (b : Bool) → late_from f (suc n) (xs ++ ys) ≡ or_else (late_from f (suc n) xs) (late_from f m ys) → cond b (some n) (late_from f (suc n) (xs ++ ys)) ≡ or_else (cond b (some n) (late_from f (suc n) xs)) (late_from f m ys)
    go true k = refl
    go false k = k

first_append : (test : ℕ → Bool) (xs ys : List ℕ) → first_such test (xs ++ ys) ≡ or_else (first_such test xs) (first_such test ys)
unfolding first_such
first_append test [] ys = refl
first_append test (x ∷ xs) ys = go (test x) (first_append test xs ys)
  where
    go : (b : Bool) → first_such test (xs ++ ys) ≡ or_else (first_such test xs) (first_such test ys) → cond b (some x) (first_such test (xs ++ ys)) ≡ or_else (cond b (some x) (first_such test xs)) (first_such test ys)
    go true k = refl
    go false k = k

-- A gate stays what it is.
gate_kept : (o : Option ℕ) (x : ℕ) → x < 2 → x ≡ relinked o x
gate_kept none x h = refl
gate_kept (some a) x h = sym (rw (lt-ltb x 2 h) refl)

-- Arrivals put in, and the lowest late leaf, by the symbols.
put_symbols : (f : ℕ → Option ℕ) (n : ℕ) (s : Shape) → SoundLeaves s → symbols (put_in f n s) ≡ relinked_from f n (symbols s)
unfolding put_in symbols leaves leaf_of
put_symbols f n (leaf x) h = go (f n)
  where
    go : (o : Option ℕ) → leaf_symbol (record { number = Option.get_or o x.number; drive = x.drive }) ∷ [] ≡ relinked o (leaf_symbol x) ∷ []
    go none = refl
    go (some a) =
        let drive : (leaf_symbol x - 2) / drive_unit ≡ x.drive = omega (arith, h x (Memᴰ.head refl)) in
        sym (rw (le-ltb (leaf_symbol x) 2 (omega arith), drive) refl)
put_symbols f n (inv a) h = ap₂ ◌∷◌ (gate_kept (f n) 0 (omega arith)) (put_symbols f (suc n) a h)
put_symbols f n (nand a b) h =
    ap₂ ◌∷◌ (gate_kept (f n) 1 (omega arith))
    (ap₂ ◌++◌ (put_symbols f (suc n) a (λ x m. h x (Memᴰ.append_left (leaves b) m))) (put_symbols f (suc n + size a) b (λ x m. h x (Memᴰ.append_right (leaves a) m)))
    ∙ sym (relinked_append f (suc n) (suc n + size a) (symbols a) (symbols b) (ap (λ (k : ℕ). suc n + k) (sym (length_symbols a)))))

put_sizes : (f : ℕ → Option ℕ) (n : ℕ) (s : Shape) → sizes (put_in f n s) ≡ sizes s
unfolding put_in sizes
put_sizes f n (leaf x) = refl
put_sizes f n (inv a) = ap₂ ◌∷◌ (put_size f n (inv a)) (put_sizes f (suc n) a)
put_sizes f n (nand a b) = ap₂ ◌∷◌ (put_size f n (nand a b)) (ap₂ ◌++◌ (put_sizes f (suc n) a) (put_sizes f (suc n + size a) b))

late_symbols : (f : ℕ → Option ℕ) (n : ℕ) (s : Shape) → first_such (λ m. is_late (f m)) (leaf_nodes n s) ≡ late_from f n (symbols s)
unfolding first_such leaf_nodes symbols
late_symbols f n (leaf x) = sym (rw (le-ltb (leaf_symbol x) 2 (omega arith)) refl)
late_symbols f n (inv a) = late_symbols f (suc n) a
late_symbols f n (nand a b) =
    first_append (λ m. is_late (f m)) (leaf_nodes (suc n) a) (leaf_nodes (suc n + size a) b) ∙ ap₂ or_else (late_symbols f (suc n) a) (late_symbols f (suc n + size a) b)
    ∙ sym (late_append f (suc n) (suc n + size a) (symbols a) (symbols b) (ap (λ (k : ℕ). suc n + k) (sym (length_symbols a))))

-- ---- the nodes gone through so far

-- What stands after the symbols of a tree in its array.
abbrev blanks : ℕ → List ℕ
blanks n = drop (0 + n) (replicate 64 0)

laid_out : (xs : List ℕ) → length xs ≤ 64 → padded 64 0 xs ≡ xs ++ blanks (length xs)
laid_out xs h = sets-eq xs (replicate 64 0) 0 (omega (arith, length-replicate {A = ℕ} 64 0))

-- The first n nodes have their arrivals, and none of them is late.
pub record Linking (f : ℕ → Option ℕ) (t : Tree) (n : ℕ) (l : List ℕ) : Type 0 where
  pub done : List ℕ
  pub rest : List ℕ
  pub all : symbols t.shape ≡ done ++ rest
  pub many : length done ≡ n
  pub laid : l ≡ relinked_from f 0 done ++ (rest ++ blanks (size t.shape))
  pub late : late_leaf f t ≡ late_from f n rest

module _ {f : ℕ → Option ℕ} {t : Tree} (sound : SoundTree t) where
  pub linking_none : (l : List ℕ) → l ≡ padded 64 0 (symbols t.shape) → Linking f t 0 l
  unfolding late_leaf
  linking_none l e = record {
    done = [];
    rest = symbols t.shape;
    all = refl;
    many = refl;
    laid = e ∙ laid_out (symbols t.shape) (omega (arith, length_symbols t.shape, sound.size)) ∙ ap (λ (n : ℕ). symbols t.shape ++ blanks n) (length_symbols t.shape);
    late = late_symbols f 0 t.shape;
  }

  -- The next node.
  module _ {n : ℕ} {l : List ℕ} (here : n < size t.shape) (h : Linking f t n l) where
    pub next : (x : ℕ) × (more : List ℕ) × (h.rest ≡ x ∷ more) × (get_or l n 0 ≡ x)
    next = go h.rest refl
      where
        go : (r : List ℕ) → h.rest ≡ r → (x : ℕ) × (more : List ℕ) × (h.rest ≡ x ∷ more) × (get_or l n 0 ≡ x)
        go [] e = absurd (omega (arith, ap length (h.all ∙ ap (λ (r : List ℕ). h.done ++ r) e), length-append h.done [], h.many, length_symbols t.shape))
        go (x ∷ more) e =
            (x, more, e, ap (λ (q : List ℕ). get_or q n 0) (h.laid ∙ ap (λ (r : List ℕ). relinked_from f 0 h.done ++ (r ++ blanks (size t.shape))) e) ∙ get_or_at (relinked_from f 0 h.done) x (more ++ blanks (size t.shape)) 0 n (relinked_length f 0 h.done ∙ h.many))

    pub linking_late : symbol_linked (f n) (get_or l n 0) ≡ Late → late_leaf f t ≡ some n
    linking_late e =
        let r = next in
        h.late ∙ ap (late_from f n) r.2 ∙ ap (λ (b : Bool). cond b (some n) (late_from f (suc n) r.1)) (symbol_late (f n) r.0 (ap (symbol_linked (f n)) (sym r.3) ∙ e))

    pub linking_more : (y : ℕ) → symbol_linked (f n) (get_or l n 0) ≡ Is y → Linking f t (n + 1) (set l n y)
    linking_more y e =
        let r = next in
        let x = r.0 in
        let is = symbol_is (f n) x y (ap (symbol_linked (f n)) (sym r.3) ∙ e) in
        let before = relinked_from f 0 h.done in
        let long : length before ≡ n = relinked_length f 0 h.done ∙ h.many in
        let after = r.1 ++ blanks (size t.shape) in
        let one : n + 1 ≡ suc n = omega arith in
        record {
          done = h.done ++ (x ∷ []);
          rest = r.1;
          all = h.all ∙ ap (λ (q : List ℕ). h.done ++ q) r.2 ∙ sym (append_snoc h.done x r.1);
          many = length-append h.done (x ∷ []) ∙ ap (λ (k : ℕ). k + 1) h.many;
          laid = ap (λ (q : List ℕ). set q n y) (h.laid ∙ ap (λ (q : List ℕ). before ++ (q ++ blanks (size t.shape))) r.2) ∙ set_at before x after y n long ∙ ap (λ (v : ℕ). before ++ (v ∷ after)) is.0
              ∙ sym (append_snoc before (relinked (f n) x) after) ∙ ap (λ (q : List ℕ). q ++ after) (sym (relinked_append f 0 n h.done (x ∷ []) (omega (arith, h.many))));
          late = h.late ∙ ap (late_from f n) r.2 ∙ ap (λ (b : Bool). cond b (some n) (late_from f (suc n) r.1)) is.1 ∙ ap (λ (k : ℕ). late_from f k r.1) (sym one);
        }

  -- All of them.
  pub linking_all : {n : ℕ} {l : List ℕ} → n ≡ size t.shape → Linking f t n l → (late_leaf f t ≡ none) × (l ≡ padded 64 0 (symbols (put_in f 0 t.shape)))
  linking_all {n} {l} e h =
      let none_left : h.rest ≡ [] = no_more h.rest (omega (arith, ap length h.all, length-append h.done h.rest, h.many, length_symbols t.shape)) in
      let whole : symbols t.shape ≡ h.done = h.all ∙ ap (λ (r : List ℕ). h.done ++ r) none_left ∙ append-nil h.done in
      let put = put_symbols f 0 t.shape sound.leaves in
      let long : length (symbols (put_in f 0 t.shape)) ≡ size t.shape = length_symbols (put_in f 0 t.shape) ∙ put_size f 0 t.shape in (
        h.late ∙ ap (late_from f n) none_left,
        h.laid ∙ ap (λ (r : List ℕ). relinked_from f 0 h.done ++ (r ++ blanks (size t.shape))) none_left ∙ ap (λ (q : List ℕ). relinked_from f 0 q ++ blanks (size t.shape)) (sym whole)
            ∙ ap₂ ◌++◌ (sym put) (ap blanks (sym long)) ∙ sym (laid_out (symbols (put_in f 0 t.shape)) (omega (arith, long, sound.size))),
      )
    where
      no_more : (xs : List ℕ) → length xs ≡ 0 → xs ≡ []
      no_more [] z = refl
      no_more (x ∷ xs) z = absurd (omega (arith, z))

-- The record is then that of the tree with the arrivals put in.
pub tree_linked : (f : ℕ → Option ℕ) (t : Tree) {tree : TreeRecord} {l : List ℕ} → tree ≡ tree_laid t → l ≡ padded 64 0 (symbols (put_in f 0 t.shape)) → record { load = tree.load; required = tree.required; count = tree.count; symbols = l; sizes = tree.sizes } ≡ tree_laid (known_tree f t)
unfolding tree_laid known_tree
tree_linked f t {tree} {l} e k =
    let load = ap (λ (r : TreeRecord). r.load) e in
    let required = ap (λ (r : TreeRecord). r.required) e in
    let count = ap (λ (r : TreeRecord). r.count) e ∙ sym (put_size f 0 t.shape) in
    let sized = ap (λ (r : TreeRecord). r.sizes) e ∙ ap (padded 64 0) (sym (put_sizes f 0 t.shape)) in
    λ i. record { load = load i; required = required i; count = count i; symbols = k i; sizes = sized i }
