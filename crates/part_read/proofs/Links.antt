-- Links against trees: which nodes are leaves, what is said of a link, and the drivers that links name.
use Prim.Native.Nat.{ℕ, zero, suc, ◌+◌, ◌*◌, ◌-◌, ◌≤◌, ◌<◌}
use mathlib.Core.Path.{◌≡◌, refl, sym, ap, ap₂, subst, ◌∙◌}
use mathlib.Core.Bool.{Bool, true, false, cond, ◌&&◌, ◌||◌, or-false, or_assoc, and-false}
use mathlib.Core.List.{List, [], ◌∷◌, ◌++◌, map, map-append, Memᴰ}
use mathlib.Core.Option.{Option, none, some, none-ne-some}
use native.Mathlib.Omega.{arith}
use native.Mathlib.Decide.{ℕ_discrete, dec_lt}
use lib.Dec.{eqb, ltb, leb}
use lib.ListN.{length, get_or, set, replicate, get_elem?, length-append, length-replicate, length-set, length-map, get_or-append, get_or-eq_default}
use lib.Seq.{append_snoc, get_or-append-add, get_or_at, get_or-set_same, get_or-set_other, length-sets}
use borrow.Author.Tests.{le-leb, lt-leb, lt-ltb, le-ltb, eq-eqb, ne_eqb}
use Rattle.fields.specs.Answer.{Answer, refused, refused_in, success, ◌>>=◌, Bounded, numbers, places}
use Rattle.shapes_rules.specs.Shape.{leaf_symbol, symbols}
use Rattle.shapes_rules.proofs.Drawing.{length_symbols}
use Rattle.sheets_rules.specs.Model.{Shape, leaf, inv, nand, size, Tree}
use Rattle.sheets_rules.specs.declared.TreeRecord.{TreeRecord}
use Rattle.sheets_rules.specs.Inside.Sound.{SoundTree}
use Rattle.sheets_rules.specs.Inside.Layout.{tree_laid}
use Rattle.sheets_rules.proofs.Laid.{padded_whole, padded_at}
use Rattle.fields.proofs.Lists.{zeros_at}
use Rattle.covers.specs.Lists.{any}
use Rattle.covers.proofs.Basics.{at_in}
use Rattle.part_read.specs.declared.LinkRecord.{LinkRecord}
use Rattle.std.specs.Prelude.{Ok, Err}
use Rattle.fields.proofs.Answer.{answer_apart, after_refused}
use Rattle.sheets_rules.specs.declared.Reason.{Reason}
use Rattle.sheets_rules.specs.declared.Refusal.{Refusal}
use Rattle.sheets_rules.specs.Report.{number_of}
use Rattle.sheets_rules.specs.Inside.Readers.{Says}
use Rattle.part_read.specs.Inside.Decoded.{no_tree, TreesStored, Marks}
use Rattle.part_link.specs.Inside.Promises.{driver_named}
use Rattle.part_read.specs.Inside.Promises.{link_laid, no_link, links_laid, SmallLink, laid_or, LinkAt, LinkSaid, JudgesLink}
use Rattle.part_rules.specs.Part.{Link, leaf_nodes, driver_of}
use Rattle.part_rules.specs.PartSheet.{trees_most, leaf_field}
use Rattle.part_rules.specs.PartRead.{link_number, driver_number, is_leaf_of, is_free, link_judged, links_judged}

-- ---- which nodes are leaves

any_append : {A : Type 0} (test : A → Bool) (xs ys : List A) → any test (xs ++ ys) ≡ any test xs || any test ys
unfolding any
any_append test [] ys = refl
any_append test (x ∷ xs) ys = ap (λ (b : Bool). test x || b) (any_append test xs ys) ∙ sym (or_assoc (test x) (any test xs) (any test ys))

-- No leaf has a lower number than the root.
leaf_below : (m n : ℕ) (s : Shape) → n < m → any (eqb n) (leaf_nodes m s) ≡ false
unfolding any leaf_nodes
leaf_below m n (leaf x) h = rw (ne_eqb n m (λ e. omega (arith, e))) refl
leaf_below m n (inv a) h = leaf_below (suc m) n a (omega arith)
leaf_below m n (nand a b) h = any_append (eqb n) (leaf_nodes (suc m) a) (leaf_nodes (suc m + size a) b) ∙ ap₂ ◌||◌ (leaf_below (suc m) n a (omega arith)) (leaf_below (suc m + size a) n b (omega arith))

-- A node is a leaf exactly if its symbol is a leaf's.
leaf_at : (m n i : ℕ) (s : Shape) → i ≡ m + n → any (eqb i) (leaf_nodes m s) ≡ leb 2 (get_or (symbols s) n 0)
unfolding any leaf_nodes symbols
leaf_at m zero i (leaf x) e = rw (eq-eqb i m (omega arith), le-leb 2 (leaf_symbol x) (omega arith)) refl
leaf_at m (suc n) i (leaf x) e = rw (ne_eqb i m (λ q. omega (arith, q, e))) refl
leaf_at m zero i (inv a) e = leaf_below (suc m) i a (omega arith)
leaf_at m (suc n) i (inv a) e = leaf_at (suc m) n i a (omega arith)
leaf_at m zero i (nand a b) e = any_append (eqb i) (leaf_nodes (suc m) a) (leaf_nodes (suc m + size a) b) ∙ ap₂ ◌||◌ (leaf_below (suc m) i a (omega arith)) (leaf_below (suc m + size a) i b (omega arith))
leaf_at m (suc n) i (nand a b) e =
    any_append (eqb i) (leaf_nodes (suc m) a) (leaf_nodes (suc m + size a) b) ∙ ap (λ (q : Bool). q || any (eqb i) (leaf_nodes (suc m + size a) b)) (leaf_at (suc m) n i a (omega arith)) ∙ go (dec_lt n (size a)) (λ j e. leaf_at (suc m + size a) j i b e)
  where
    go : Dec (n < size a) → ((j : ℕ) → i ≡ suc m + size a + j → any (eqb i) (leaf_nodes (suc m + size a) b) ≡ leb 2 (get_or (symbols b) j 0)) → leb 2 (get_or (symbols a) n 0) || any (eqb i) (leaf_nodes (suc m + size a) b) ≡ leb 2 (get_or (symbols a ++ symbols b) n 0)
    go (yes h) second = ap (λ (q : Bool). leb 2 (get_or (symbols a) n 0) || q) (leaf_below (suc m + size a) i b (omega arith)) ∙ or-false (leb 2 (get_or (symbols a) n 0))
        ∙ ap (leb 2) (sym (get_or-append (symbols a) (symbols b) 0 n (omega (arith, length_symbols a))))
    go (no h) second =
        let there : n ≡ length (symbols a) + (n - size a) = omega (arith, length_symbols a) in
        ap (λ (k : ℕ). leb 2 k || any (eqb i) (leaf_nodes (suc m + size a) b)) (get_or-eq_default (symbols a) 0 (omega (arith, length_symbols a)))
        ∙ second (n - size a) (omega arith) ∙ ap (leb 2) (sym (ap (λ (k : ℕ). get_or (symbols a ++ symbols b) k 0) there ∙ get_or-append-add (symbols a) (symbols b) (n - size a) 0))

-- So it is told from the record of its tree, whether the tree is there or not.
leaf_by_symbol : (trees : List Tree) (k n : ℕ) → ((t : Tree) → Memᴰ t trees → SoundTree t) → is_leaf_of (get_elem? trees k) n ≡ leb 2 (get_or (laid_or (get_elem? trees k)).symbols n 0)
unfolding is_leaf_of tree_laid
leaf_by_symbol trees k n h = go (get_elem? trees k) refl
  where
    go : (o : Option Tree) → get_elem? trees k ≡ o → is_leaf_of o n ≡ leb 2 (get_or (laid_or o).symbols n 0)
    go none e = sym (ap (leb 2) (zeros_at 64 n))
    go (some t) e = leaf_at 0 n n t.shape (omega arith) ∙ ap (leb 2) (sym (padded_at 64 (symbols t.shape) n (omega (arith, length_symbols t.shape, (h t (at_in trees k e)).size))))

-- ---- what is said of a link

-- By whether its leaf field is as it should be, and whether its driver is lower.
abbrev pub said : List Link → Link → (free lower : Bool) → Answer (List Link)
said before x free lower = cond free (cond lower (success (before ++ (x ∷ []))) (refused driver_number (length before))) (refused link_number (leaf_field (length before)))

module _ {trees : List Tree} {before : List Link} {x : Link} {tree : TreeRecord} {link : LinkRecord} {driver position : ℕ} (h : LinkAt trees before x tree link driver position) where
  says : (a b c : Bool) → leb 2 (get_or tree.symbols link.node 0) ≡ a → is_free (driver_named driver) ≡ b → ltb link.driving link.reading ≡ c → link_judged trees before x ≡ said before x (a && b) c
  unfolding link_judged
  says a b c ea eb ec =
      let names : is_leaf_of (get_elem? trees x.reading) x.node ≡ a =
      leaf_by_symbol trees x.reading x.node h.sound ∙ ap (λ (r : TreeRecord). leb 2 (get_or r.symbols x.node 0)) (sym h.tree_is) ∙ ap (λ (k : LinkRecord). leb 2 (get_or tree.symbols k.node 0)) (sym h.link_is) ∙ ea in
      let free : is_free (driver_of before x.reading x.node) ≡ b = ap is_free h.driver_is ∙ eb in
      let lower : ltb x.driving x.reading ≡ c = ap (λ (k : LinkRecord). ltb k.driving k.reading) (sym h.link_is) ∙ ec in
      rw (names, free, lower) refl

  pub not_leaf : get_or tree.symbols link.node 0 < 2 → link_judged trees before x ≡ refused link_number (leaf_field position)
  not_leaf l = rw h.position_is (says false (is_free (driver_named driver)) (ltb link.driving link.reading) (lt-leb 2 (get_or tree.symbols link.node 0) l) refl refl)

  pub leaf_taken : 2 ≤ get_or tree.symbols link.node 0 → (driver ≡ 0 → ⊥) → link_judged trees before x ≡ refused link_number (leaf_field position)
  unfolding is_free
  leaf_taken l d = rw h.position_is (says true false (ltb link.driving link.reading) (le-leb 2 (get_or tree.symbols link.node 0) l) (go driver d) refl)
    where
      go : (n : ℕ) → (n ≡ 0 → ⊥) → is_free (driver_named n) ≡ false
      go zero e = absurd (e refl)
      go (suc n) e = refl

  pub not_lower : 2 ≤ get_or tree.symbols link.node 0 → driver ≡ 0 → link.reading ≤ link.driving → link_judged trees before x ≡ refused driver_number position
  unfolding is_free
  not_lower l d g = rw h.position_is (says true true false (le-leb 2 (get_or tree.symbols link.node 0) l) (rw d refl) (le-ltb link.driving link.reading g))

  pub right : 2 ≤ get_or tree.symbols link.node 0 → driver ≡ 0 → link.driving < link.reading → link_judged trees before x ≡ success (before ++ (x ∷ []))
  unfolding is_free
  right l d g = says true true true (le-leb 2 (get_or tree.symbols link.node 0) l) (rw d refl) (lt-ltb link.driving link.reading g)

-- A refusal about no tree, said of a link.
pub link_refused : {o : Answer (List Link)} {q : Refusal} (reason : Reason) {place : ℕ} → q ≡ record { item = 0; reason = reason; place = place } →
    o ≡ refused (number_of reason) place → (1 ≤ number_of reason) × (number_of reason < numbers) → place < places → LinkSaid o (Err q)
unfolding Bounded
link_refused {o} reason e is fits near = subst (λ (r : Refusal). LinkSaid o (Err r)) (sym e) (is, (omega arith, fits.0, fits.1, near))

-- ---- one link after another

-- What was said of a link decides how it goes on: its leaf had no driver, and what follows is judged after it; or all is refused as it is.
module _ (trees : List Tree) (before : List Link) (x : Link) (rest : List Link) where
  pub link_next : {xs : List Link} → link_judged trees before x ≡ success xs → (links_judged trees before (x ∷ rest) ≡ links_judged trees (before ++ (x ∷ [])) rest) × (driver_of before x.reading x.node ≡ none)
  unfolding link_judged links_judged
  link_next {xs} e = go (is_leaf_of (get_elem? trees x.reading) x.node) (driver_of before x.reading x.node) (ltb x.driving x.reading) e
    where
      go : (names : Bool) (o : Option ℕ) (lower : Bool) → said before x (names && is_free o) lower ≡ success xs → (((said before x (names && is_free o) lower) >>= (λ links. links_judged trees links rest)) ≡ links_judged trees (before ++ (x ∷ [])) rest) × (o ≡ none)
      go false o lower f = absurd (answer_apart (sym f))
      go true (some d) lower f = absurd (answer_apart (sym f))
      go true none false f = absurd (answer_apart (sym f))
      go true none true f = (refl, refl)

  pub link_stops : {item number place : ℕ} → link_judged trees before x ≡ refused_in item number place → links_judged trees before (x ∷ rest) ≡ refused_in item number place
  unfolding links_judged
  link_stops e = after_refused (λ links. links_judged trees links rest) e

-- ---- the drivers that links name

-- One link more: it names its leaf's driver where none was named before, and changes nothing elsewhere.
driver_same : (before : List Link) (x : Link) → driver_of before x.reading x.node ≡ none → driver_of (before ++ (x ∷ [])) x.reading x.node ≡ some x.driving
unfolding driver_of
driver_same [] x e = rw (eq-eqb x.reading x.reading refl, eq-eqb x.node x.node refl) refl
driver_same (y ∷ ys) x e = go (eqb y.reading x.reading && eqb y.node x.node) e (driver_same ys x)
  where
    go : (b : Bool) → cond b (some y.driving) (driver_of ys x.reading x.node) ≡ none → (driver_of ys x.reading x.node ≡ none → driver_of (ys ++ (x ∷ [])) x.reading x.node ≡ some x.driving) →
        cond b (some y.driving) (driver_of (ys ++ (x ∷ [])) x.reading x.node) ≡ some x.driving
    go true f rest = absurd (none-ne-some y.driving (sym f))
    go false f rest = rest f

driver_other : (before : List Link) (x : Link) (k n : ℕ) → eqb x.reading k && eqb x.node n ≡ false → driver_of (before ++ (x ∷ [])) k n ≡ driver_of before k n
unfolding driver_of
driver_other [] x k n e = rw e refl
driver_other (y ∷ ys) x k n e = ap (cond (eqb y.reading k && eqb y.node n) (some y.driving)) (driver_other ys x k n e)

-- Nothing is named at first.
pub marks_none : Marks [] (replicate (64 * trees_most) 0)
unfolding driver_of
marks_none = record { long = length-replicate {A = ℕ} (64 * trees_most) 0; named = λ k n h g. sym (ap driver_named (zeros_at (64 * trees_most) (64 * k + n))); small = λ j. omega (arith, zeros_at (64 * trees_most) j) }

pub marks_more : (before : List Link) (x : Link) (l : List ℕ) → x.reading < trees_most → x.node < 64 → x.driving < trees_most → driver_of before x.reading x.node ≡ none → Marks before l → Marks (before ++ (x ∷ [])) (set l (64 * x.reading + x.node) (x.driving + 1))
marks_more before x l hr hn hd e h = record {
  long = length-set l at (x.driving + 1) ∙ h.long;
  named = λ k n hk hm. go k n hk hm (ℕ_discrete x.reading k) (ℕ_discrete x.node n);
  small = λ j. few j (ℕ_discrete j at);
}
  where
    at : ℕ
    at = 64 * x.reading + x.node

    kept : (k n : ℕ) → k < trees_most → n < 64 → (64 * k + n ≡ at → ⊥) → driver_of before k n ≡ driver_named (get_or (set l at (x.driving + 1)) (64 * k + n) 0)
    kept k n hk hm d = h.named k n hk hm ∙ ap driver_named (sym (get_or-set_other l at (64 * k + n) (x.driving + 1) 0 d))

    go : (k n : ℕ) → k < trees_most → n < 64 → Dec (x.reading ≡ k) → Dec (x.node ≡ n) → driver_of (before ++ (x ∷ [])) k n ≡ driver_named (get_or (set l at (x.driving + 1)) (64 * k + n) 0)
    go k n hk hm (yes p) (yes q) =
        let there : 64 * k + n ≡ at = omega (arith, p, q) in
        let one : x.driving + 1 ≡ suc x.driving = omega arith in
        ap₂ (driver_of (before ++ (x ∷ []))) (sym p) (sym q) ∙ driver_same before x e ∙ sym (ap driver_named (ap (λ (i : ℕ). get_or (set l at (x.driving + 1)) i 0) there ∙ get_or-set_same l at (x.driving + 1) 0 (omega (arith, h.long)) ∙ one))
    go k n hk hm (yes p) (no q) = driver_other before x k n (rw (ne_eqb x.node n q) (and-false (eqb x.reading k))) ∙ kept k n hk hm (λ i. q (omega (arith, p, i)))
    go k n hk hm (no p) d = driver_other before x k n (rw (ne_eqb x.reading k p) refl) ∙ kept k n hk hm (λ i. p (omega (arith, i)))

    few : (j : ℕ) → Dec (j ≡ at) → get_or (set l at (x.driving + 1)) j 0 ≤ trees_most
    few j (yes p) = omega (arith, ap (λ (i : ℕ). get_or (set l at (x.driving + 1)) i 0) p, get_or-set_same l at (x.driving + 1) 0 (omega (arith, h.long)))
    few j (no p) = rw (get_or-set_other l at j (x.driving + 1) 0 p) (h.small j)

-- ---- the links judged so far

-- The first k links are judged, and the drivers are those that they name.
pub record Reached (ts : List Tree) (xs : List Link) (k : ℕ) (drivers : List ℕ) : Type 0 where
  pub before : List Link
  pub rest : List Link
  pub all : xs ≡ before ++ rest
  pub many : length before ≡ k
  pub judged : links_judged ts [] xs ≡ links_judged ts before rest
  pub marks : Marks before drivers

default_none : {A : Type 0} (l : List A) (k : ℕ) (d e : A) → k < length l → get_or l k d ≡ get_or l k e
default_none [] k d e h = absurd (omega arith)
default_none (x ∷ l) zero d e h = refl
default_none (x ∷ l) (suc k) d e h = default_none l k d e (omega arith)

tree_at : (ts : List Tree) (k : ℕ) → get_or (map tree_laid ts) k no_tree ≡ laid_or (get_elem? ts k)
tree_at [] k = refl
tree_at (t ∷ ts) zero = refl
tree_at (t ∷ ts) (suc k) = tree_at ts k

module _ {ts : List Tree} {xs : List Link} {trees : List TreeRecord} {links : List LinkRecord} {drivers : List ℕ} {k : ℕ} (d : TreeRecord) (stored : TreesStored ts trees) (laid : links ≡ links_laid xs) (few : length xs ≤ 255) (here : k < length xs) (small : SmallLink (get_or links k no_link)) (h : Reached ts xs k drivers) where
  abbrev link : LinkRecord
  link = get_or links k no_link

  abbrev at : ℕ
  at = 64 * link.reading + link.node

  -- The next link, and what is lent of it.
  pub next : (x : Link) × (more : List Link) × (h.rest ≡ x ∷ more) × (link ≡ link_laid x) × LinkAt ts h.before x (get_or trees link.reading d) link (get_or drivers at 0) k
  next = go h.rest refl
    where
      go : (rest : List Link) → h.rest ≡ rest → (x : Link) × (more : List Link) × (h.rest ≡ x ∷ more) × (link ≡ link_laid x) × LinkAt ts h.before x (get_or trees link.reading d) link (get_or drivers at 0) k
      go [] e = absurd (omega (arith, ap length (h.all ∙ ap (λ (r : List Link). h.before ++ r) e), length-append h.before [], h.many))
      go (x ∷ more) e =
          let is : link ≡ link_laid x =
          ap (λ (l : List LinkRecord). get_or l k no_link) laid ∙ padded_whole 255 no_link (map link_laid xs) k (omega (arith, length-map xs link_laid))
          ∙ ap (λ (l : List Link). get_or (map link_laid l) k no_link) (h.all ∙ ap (λ (r : List Link). h.before ++ r) e) ∙ ap (λ (l : List LinkRecord). get_or l k no_link) (map-append link_laid h.before (x ∷ more))
          ∙ get_or_at (map link_laid h.before) (link_laid x) (map link_laid more) no_link k (length-map h.before link_laid ∙ h.many) in
          let reading : link.reading ≡ x.reading = ap (λ (r : LinkRecord). r.reading) is in
          let node : link.node ≡ x.node = ap (λ (r : LinkRecord). r.node) is in (
            x,
            more,
            e,
            is,
            record {
              sound = stored.sound;
              tree_is = default_none trees link.reading d no_tree (omega (arith, ap length stored.laid, length-sets (replicate trees_most no_tree) 0 (map tree_laid ts), length-replicate trees_most no_tree, small.reading)) ∙ ap (λ (l : List TreeRecord). get_or l link.reading no_tree) stored.laid ∙ padded_whole trees_most no_tree (map tree_laid ts) link.reading (omega (arith, length-map ts tree_laid, stored.few)) ∙ tree_at ts link.reading ∙ ap (λ (n : ℕ). laid_or (get_elem? ts n)) reading;
              link_is = is;
              driver_is = ap₂ (driver_of h.before) (sym reading) (sym node) ∙ h.marks.named link.reading link.node small.reading small.node;
              position_is = sym h.many;
            },
          )

  -- It is judged and marked; or all is refused as it is.
  pub reached_more : JudgesLink (get_or trees link.reading d) link (get_or drivers at 0) k (Ok tt) → Reached ts xs (k + 1) (set drivers at (link.driving + 1))
  reached_more f =
      let n = next in
      let x = n.0 in
      let on = link_next ts h.before x n.1 (f ts h.before x n.4).1 in
      let marked = marks_more h.before x drivers (omega (arith, ap (λ (r : LinkRecord). r.reading) n.3, small.reading)) (omega (arith, ap (λ (r : LinkRecord). r.node) n.3, small.node)) (omega (arith, ap (λ (r : LinkRecord). r.driving) n.3, small.driving)) on.1 h.marks in
      record {
        before = h.before ++ (x ∷ []);
        rest = n.1;
        all = h.all ∙ ap (λ (r : List Link). h.before ++ r) n.2 ∙ sym (append_snoc h.before x n.1);
        many = length-append h.before (x ∷ []) ∙ ap (λ (m : ℕ). m + 1) h.many;
        judged = h.judged ∙ ap (links_judged ts h.before) n.2 ∙ on.0;
        marks = subst (λ (r : LinkRecord). Marks (h.before ++ (x ∷ [])) (set drivers (64 * r.reading + r.node) (r.driving + 1))) (sym n.3) marked;
      }

  pub reached_stops : (r : Refusal) → JudgesLink (get_or trees link.reading d) link (get_or drivers at 0) k (Err r) → Says Marks (links_judged ts [] xs) (Err r)
  reached_stops r f =
      let n = next in
      let said = f ts h.before n.0 n.4 in
      (h.judged ∙ ap (links_judged ts h.before) n.2 ∙ link_stops ts h.before n.0 n.1 said.0, said.1)
