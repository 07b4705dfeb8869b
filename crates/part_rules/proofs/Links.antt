-- The links of a part, judged one after another: all are sound, or the first at fault is named. And what sound links bring.
use Prim.Native.Nat.{ℕ, zero, suc, ◌<◌}
use mathlib.Core.Path.{◌≡◌, refl, sym, ap, subst, ◌∙◌}
use mathlib.Core.Logic.{◌↔◌, ⊎_elim}
use mathlib.Core.Bool.{true, cond, true≢false, false≢true}
use mathlib.Core.List.Memᴰ
use mathlib.Core.List.{List, [], ◌∷◌, ◌++◌, map, append-nil, Memᴰ}
use mathlib.Core.Option
use mathlib.Core.Option.{Option, none, some, none-ne-some, some-injective}
use native.Mathlib.Omega.{arith}
use lib.Dec.{eqb, ltb}
use lib.ListN.{length, take, drop, get_or, get_elem?, length-take, length-append, get_or-map}
use lib.Seq.{append_snoc, take-take, take-append_seam, get_or-take, length-take-le}
use borrow.Table.Steps.{cases}
use borrow.Author.Tests.{ltb-true, ltb-false, eqb-true, eqb-false, eq-eqb}
use Rattle.fields.specs.Reading.{start}
use Rattle.fields.specs.Answer.{Answer, refused, success, refused_in, ◌>>=◌}
use Rattle.fields.proofs.Answer.{answer_apart}
use Rattle.sheets_rules.specs.Model.{Tree}
use Rattle.covers.specs.Cover.{Cover, nothing}
use Rattle.covers.proofs.Basics.{lt_or_le, option_cases, each, at_in, at_below, at_value, any_true, true_any}
use Rattle.part_rules.specs.Part.{Link, Part, leaf_nodes, driver_of, linked_arrival}
use Rattle.part_rules.specs.PartSheet.{leaf_field, Counts, counts}
use Rattle.part_rules.specs.PartRead.{link_number, driver_number, sheet_read, trees_from, is_leaf_of, is_free, link_judged, links_judged, after_counts, part}
use Rattle.part_rules.specs.Demands.{NamesLeaf, SameLeaf, SoundLinks, LinkFault, no_leaf, leaf_taken, not_lower, FirstFault, LinksBring}
use Rattle.part_rules.proofs.Trees.{each_more, part_from}

-- ---- lists

module _ {A : Type 0} where
  -- Every entry stands somewhere, and there in a longer list too.
  in_at : {a : A} {l : List A} → Memᴰ a l → (k : ℕ) × (get_elem? l k ≡ some a)
  in_at (Memᴰ.head e) = (0, ap some (sym e))
  in_at (Memᴰ.tail m) = let r = in_at m in (suc r.0, r.1)

  at_take : (l : List A) (n k : ℕ) → k < n → get_elem? (take n l) k ≡ get_elem? l k
  at_take l zero k h = absurd (omega arith)
  at_take [] (suc n) k h = refl
  at_take (a ∷ l) (suc n) zero h = refl
  at_take (a ∷ l) (suc n) (suc k) h = at_take l n k (omega arith)

  at_front : (xs ys : List A) (k : ℕ) → k < length xs → get_elem? (xs ++ ys) k ≡ get_elem? xs k
  at_front xs ys k h = sym (at_take (xs ++ ys) (length xs) k h) ∙ ap (λ (l : List A). get_elem? l k) (take-append_seam xs ys)

  at_seam : (xs : List A) (x : A) (ys : List A) → get_elem? (xs ++ x ∷ ys) (length xs) ≡ some x
  at_seam [] x ys = refl
  at_seam (a ∷ xs) x ys = at_seam xs x ys

-- ---- one link

-- A link names a node of a tree.
abbrev Names : (tree node : ℕ) → Link → Type 0
Names k n x = (x.reading ≡ k) × (x.node ≡ n)

-- What the driver that is found of a node is: none where no link names the node, else that of a link that does.
data DriverIs (links : List Link) (k n : ℕ) : Option ℕ → Type 0 where
  undriven : ((x : Link) → Memᴰ x links → Names k n x → ⊥) → DriverIs links k n none
  driven : {x : Link} → Memᴰ x links → Names k n x → DriverIs links k n (some x.driving)

later : {x : Link} {xs : List Link} {k n : ℕ} {o : Option ℕ} → (Names k n x → ⊥) → DriverIs xs k n o → DriverIs (x ∷ xs) k n o
later {k = k} {n} not (undriven h) = undriven (each {P = λ y. Names k n y → ⊥} not h)
later not (driven m s) = driven (Memᴰ.tail m) s

driver_of_lem : (links : List Link) (k n : ℕ) → DriverIs links k n (driver_of links k n)
unfolding driver_of
driver_of_lem [] k n = undriven (λ x m. absurd (Memᴰ.not-nil m))
driver_of_lem (x ∷ xs) k n = cases (eqb x.reading k)
    (λ e. cases (eqb x.node n) (λ f. rw (e, f) (driven (Memᴰ.head refl) (eqb-true x.reading k e, eqb-true x.node n f))) (λ f. rw (e, f) (later (λ s. eqb-false x.node n f s.1) (driver_of_lem xs k n))))
    (λ e. rw e (later (λ s. eqb-false x.reading k e s.0) (driver_of_lem xs k n)))

module _ (trees : List Tree) where
  -- The test of a leaf says that it is one.
  leaf_exactly : (x : Link) → (is_leaf_of (get_elem? trees x.reading) x.node ≡ true) ↔ NamesLeaf trees x
  unfolding is_leaf_of
  leaf_exactly x = (
    λ h. option_cases (get_elem? trees x.reading) (λ e. absurd (false≢true (rw e at h)))
        (λ t e. let r = any_true (eqb x.node) (leaf_nodes 0 t.shape) (rw e at h) in record { tree = t; tree_is = e; among = Memᴰ.cast (eqb-true x.node r.0 r.2) r.1 }),
    λ h. rw h.tree_is (true_any (eqb x.node) (leaf_nodes 0 h.tree.shape) h.among (eq-eqb x.node x.node refl)),
  )

  -- No link before takes the leaf.
  abbrev Untaken : List Link → Link → Type 0
  Untaken before x = (y : Link) → Memᴰ y before → SameLeaf y x → ⊥

  -- What an answer to a link says.
  data LinkPromise (before : List Link) (x : Link) : Answer (List Link) → Type 0 where
    sound : NamesLeaf trees x → Untaken before x → x.driving < x.reading → LinkPromise before x (success (before ++ (x ∷ [])))
    at_fault : {number place : ℕ} → LinkFault trees before (length before) x number place → LinkPromise before x (refused number place)

  link_promise : (before : List Link) (x : Link) → LinkPromise before x (link_judged trees before x)
  unfolding link_judged is_free
  link_promise before x = cases (is_leaf_of (get_elem? trees x.reading) x.node)
      (λ e. rw e (elim (driver_of_lem before x.reading x.node) as (λ o y.
      LinkPromise before x (cond (is_free o) (cond (ltb x.driving x.reading) (success (before ++ (x ∷ []))) (refused driver_number (length before))) (refused link_number (leaf_field (length before))))) [
        | driven m s ↦ at_fault (leaf_taken m s)
        | undriven h ↦ cases (ltb x.driving x.reading)
            (λ f. rw f (sound ((leaf_exactly x).0 e) h (ltb-true x.driving x.reading f))) (λ f. rw f (at_fault (not_lower ((leaf_exactly x).0 e) h (ltb-false x.driving x.reading f))))
      ]))
      (λ e. rw e (at_fault (no_leaf (λ h. true≢false (sym ((leaf_exactly x).1 h) ∙ e)))))

  -- ---- all links

  -- Sound links and one more that is sound after them.
  sound_more : {before : List Link} {x : Link} → SoundLinks trees before → NamesLeaf trees x → Untaken before x → x.driving < x.reading → SoundLinks trees (before ++ (x ∷ []))
  sound_more {before} {x} h leaf free lower = record {
    leaf = each_more {P = NamesLeaf trees} before h.leaf leaf;
    free = λ j k y z lt at_j at-k.
        let in-j : get_elem? before j ≡ some y = sym (at_front before (x ∷ []) j (omega (arith, at_below (before ++ (x ∷ [])) k at-k, length-append before (x ∷ [])))) ∙ at_j in
        ⊎_elim (λ in_front. h.free j k y z lt in-j (sym (at_front before (x ∷ []) k in_front) ∙ at-k))
        (λ last.
        let here : length before ≡ k = omega (arith, at_below (before ++ (x ∷ [])) k at-k, length-append before (x ∷ [])) in
        let same : x ≡ z = some-injective x z (sym (at_seam before x []) ∙ ap (get_elem? (before ++ (x ∷ []))) here ∙ at-k) in
        rw (← same) (free y (at_in before j in-j))) (lt_or_le k (length before));
    lower = each_more {P = λ y. y.driving < y.reading} before h.lower lower;
  }

  -- What an answer to all links says: all are sound, or the first at fault is named.
  data LinksPromise (links : List Link) : Answer (List Link) → Type 0 where
    all_sound : SoundLinks trees links → LinksPromise links (success links)
    first_fault : {number place : ℕ} → FirstFault trees links number place → LinksPromise links (refused_in 0 number place)

  from : (before xs : List Link) → SoundLinks trees before → LinksPromise (before ++ xs) (links_judged trees before xs)
  unfolding links_judged
  from before [] h = rw (append-nil before) (all_sound h)
  from before (x ∷ xs) h = elim (link_promise before x) as (λ a y. LinksPromise (before ++ x ∷ xs) (a >>= (λ links. links_judged trees links xs))) [
    | sound leaf free lower ↦ rw (append_snoc before x xs) at (from (before ++ (x ∷ [])) xs (sound_more h leaf free lower))
    | at_fault {number} {place} f ↦
        let front = sym (take-append_seam before (x ∷ xs)) in
        let fault = subst (λ (l : List Link). LinkFault trees l (length before) x number place) front f in
        first_fault (record { position = length before; before = rw front at h; link = x; link_is = at_seam before x xs; fault = fault })
  ]

  links_promise : (links : List Link) → LinksPromise links (links_judged trees [] links)
  links_promise links = from [] links (record { leaf = λ x m. absurd (Memᴰ.not-nil m); free = λ j k x y lt e. absurd (none-ne-some x e); lower = λ x m. absurd (Memᴰ.not-nil m) })

-- ---- only one answer

-- A link is at fault in one way.
fault_same : {trees : List Tree} {before : List Link} {k : ℕ} {x : Link} {number number' place place' : ℕ} → LinkFault trees before k x number place → LinkFault trees before k x number' place' → (number ≡ number') × (place ≡ place')
fault_same (no_leaf a) (no_leaf b) = (refl, refl)
fault_same (no_leaf a) (leaf_taken m s) = (refl, refl)
fault_same (no_leaf a) (not_lower n f le) = absurd (a n)
fault_same (leaf_taken m s) (no_leaf b) = (refl, refl)
fault_same (leaf_taken m s) (leaf_taken m' s') = (refl, refl)
fault_same (leaf_taken {y = y} m s) (not_lower n f le) = absurd (f y m s)
fault_same (not_lower n f le) (no_leaf b) = absurd (b n)
fault_same (not_lower n f le) (leaf_taken {y = y} m s) = absurd (f y m s)
fault_same (not_lower n f le) (not_lower n' f' le') = (refl, refl)

module _ {trees : List Tree} where
  not_at_fault : {links : List Link} {position : ℕ} {link : Link} {number place : ℕ} → SoundLinks trees links → get_elem? links position ≡ some link → LinkFault trees (take position links) position link number place → ⊥
  not_at_fault {links} {position} {link} h is (no_leaf n) = n (h.leaf link (at_in links position is))
  not_at_fault {links} {position} {link} h is (leaf_taken {y = y} m s) =
      let (k, e) = in_at m in
      let below : k < position = omega (arith, at_below (take position links) k e, length-take position links) in
      h.free k position y link below (sym (at_take links position k below) ∙ e) is s
  not_at_fault {links} {position} {link} h is (not_lower n a le) = omega (arith, h.lower link (at_in links position is))

  -- Links are not sound and at fault.
  pub sound_or_fault : {links : List Link} {number place : ℕ} → SoundLinks trees links → FirstFault trees links number place → ⊥
  sound_or_fault h f = not_at_fault h f.link_is f.fault

  -- The first at fault is so too where only some links after it are there. So no other is the first.
  among_first : {links : List Link} {number place : ℕ} (k : ℕ) (f : FirstFault trees links number place) → f.position < k → FirstFault trees (take k links) number place
  among_first {links} {number} {place} k f lt = let front = sym (take-take f.position k links (omega arith)) in record {
    position = f.position;
    before = subst (SoundLinks trees) front f.before;
    link = f.link;
    link_is = at_take links k f.position lt ∙ f.link_is;
    fault = subst (λ (l : List Link). LinkFault trees l f.position f.link number place) front f.fault;
  }

  pub first_same : {links : List Link} {number number' place place' : ℕ} → FirstFault trees links number place → FirstFault trees links number' place' → (number ≡ number') × (place ≡ place')
  first_same {links} g h =
      let a : g.position < h.position → ⊥ = λ lt. sound_or_fault h.before (among_first h.position g lt) in
      let b : h.position < g.position → ⊥ = λ lt. sound_or_fault g.before (among_first g.position h lt) in
      let here : g.position ≡ h.position = omega arith in
      let same : g.link ≡ h.link = some-injective g.link h.link (sym g.link_is ∙ ap (get_elem? links) here ∙ h.link_is) in
      fault_same (rw (here, same) at g.fault) h.fault

-- ---- the demands

-- The links of a part that was read are sound.
pub part_links : (s : List ℕ) (p : Part) → part s ≡ success p → SoundLinks p.trees p.links
part_links s p e = let r = part_from s p e in (elim (links_promise p.trees r.0.0.links) as (λ a x. a ≡ success p.links → SoundLinks p.trees p.links)
    [ all_sound h ↦ λ e. let same : r.0.0.links ≡ p.links = cc in rw same at h | first_fault f ↦ λ e. absurd (answer_apart (sym e)) ]) r.2

-- Where all before them is sound, the part is read exactly when its links are sound; else the first link at fault is refused.
pub data LinksRead (ps : List ℕ) (head : Counts × ℕ) (trees : List Tree) : Type 0 where
  all_read : SoundLinks trees head.0.links → part ps ≡ success (record { trees = trees; links = head.0.links }) → LinksRead ps head trees
  one_refused : {number place : ℕ} → FirstFault trees head.0.links number place → part ps ≡ refused number place → LinksRead ps head trees

pub links_read : (ps : List ℕ) (head : Counts × ℕ) (trees : List Tree) → sheet_read (λ f. link_number) (counts ps start) ≡ success head → trees_from [] head.0.trees (drop head.1 ps) ≡ success trees → LinksRead ps head trees
unfolding part after_counts
links_read ps head trees e e' = (elim (links_promise trees head.0.links) as (λ a x. part ps ≡ (a >>= (λ links. success (record { trees = trees; links = links }))) → LinksRead ps head trees)
    [ all_sound h ↦ λ is. all_read h is | first_fault f ↦ λ is. one_refused f is ]) (rw (e, e'))

-- ---- what sound links bring

module _ {trees : List Tree} {links : List Link} (h : SoundLinks trees links) where
  -- No two links name the same leaf.
  same_link : {x y : Link} → Memᴰ x links → Memᴰ y links → SameLeaf x y → x ≡ y
  same_link {x} {y} m k s =
      let (i, at_i) = in_at m in
      let (j, at_j) = in_at k in
      let a : i < j → ⊥ = λ lt. h.free i j x y lt at_i at_j s in
      let b : j < i → ⊥ = λ lt. h.free j i y x lt at_j at_i (sym s.0, sym s.1) in
      let here : i ≡ j = omega arith in
      some-injective x y (sym at_i ∙ ap (get_elem? links) here ∙ at_j)

  pub links_bring : (covers : List Cover) → LinksBring links covers
  unfolding linked_arrival nothing
  links_bring covers = record {
    brings = λ x m le d has. rw (length-take-le x.reading covers le) (elim (driver_of_lem links x.reading x.node) as (λ o y. Option.map (λ k. get_or (map arrival (take x.reading covers)) k 0) o ≡ some (arrival d)) [
      | undriven not ↦ absurd (not x m (refl, refl))
      | driven k s ↦ rw (same_link k m s)
          (ap some (get_or-map arrival (take x.reading covers) x.driving nothing ∙ ap arrival (get_or-take x.reading covers x.driving nothing (h.lower x m) ∙ at_value covers x.driving nothing has)))
    ]);
    brings_none = λ k n le not. rw (length-take-le k covers le) (elim (driver_of_lem links k n) as (λ o y. Option.map (λ d. get_or (map arrival (take k covers)) d 0) o ≡ none)
        [ undriven a ↦ refl | driven {x = x} m s ↦ absurd (not x m s.0 s.1) ]);
  }
    where
      arrival : Cover → ℕ
      arrival c = c.point.arrival
