-- The trees of a part mapped so far.
use Prim.Native.Nat.{ℕ, zero, suc, ◌+◌, ◌*◌, ◌≤◌, ◌<◌}
use mathlib.Core.Path.{◌≡◌, refl, sym, ap, ap₂, subst, ◌∙◌}
use mathlib.Core.List.Memᴰ
use mathlib.Core.List.{List, [], ◌∷◌, ◌++◌, map, map-append}
use mathlib.Core.Option
use mathlib.Core.Option.{Option}
use native.Mathlib.Omega.{arith}
use native.Mathlib.Decide.{dec_lt, ℕ_discrete}
use lib.ListN.{length, get_or, set, take, drop, replicate, length-append, length-map, get_or-eq_default, length-take}
use lib.Seq.{get_or-set_same, get_or-set_other, set_out, append_snoc, get_or_at, get_or-take, get_or-drop, take-suc-set}
use Rattle.std.specs.Prelude.{Result, Ok, Err}
use Rattle.fields.specs.Answer.{Answer, refused_in, success, in_item, ◌>>=◌}
use Rattle.sheets_rules.specs.declared.LibraryRecord.{LibraryRecord}
use Rattle.sheets_rules.specs.declared.Refusal.{Refusal}
use Rattle.sheets_rules.specs.Report.{number_of}
use Rattle.sheets_rules.specs.declared.TreeRecord.{TreeRecord}
use Rattle.sheets_rules.specs.Model.{Library, Tree}
use Rattle.sheets_rules.specs.Inside.Sound.{SoundTree, LibraryStored}
use Rattle.sheets_rules.specs.Inside.Layout.{padded, tree_laid}
use Rattle.sheets_rules.proofs.Laid.{in_padded, padded_at, padded_more}
use Rattle.covers.specs.Cover.{Cover}
use Rattle.result_sheets.specs.declared.CoverRecord.{CoverRecord}
use Rattle.result_sheets.specs.Public.{bare_cover, cover_of}
use Rattle.part_rules.specs.Part.{Part, driver_of, linked_arrival, known}
use Rattle.part_rules.specs.PartSheet.{trees_most}
use Rattle.part_rules.specs.Outcome.{covers_from}
use Rattle.part_read.specs.declared.PartRecord.{PartRecord}
use Rattle.part_read.specs.Inside.Decoded.{no_tree, PartStored}
use Rattle.part_link.specs.Inside.Promises.{driver_named, brought}
use Rattle.part.specs.Inside.Promises.{no_cover, Few, LinkedMapped, MapsLinked}

-- The first k trees are mapped: their covers and arrivals are at hand, and the rest is still to be mapped.
pub record Going (most : ℕ) (l : Library) (p : Part) (k : ℕ) (covers : List CoverRecord) (arrivals : List ℕ) : Type 0 where
  pub done : List Tree
  pub rest : List Tree
  pub cs : List Cover
  pub all : p.trees ≡ done ++ rest
  pub many : length done ≡ k
  pub mapped : length cs ≡ k
  pub run : covers_from most l p.links [] p.trees ≡ covers_from most l p.links cs rest
  pub covers_are : map cover_of (take k covers) ≡ cs
  pub arrivals_are : arrivals ≡ padded trees_most 0 (map (λ (c : Cover). c.point.arrival) cs)

pub going_none : (most : ℕ) (l : Library) (p : Part) (covers : List CoverRecord) → Going most l p 0 covers (replicate trees_most 0)
going_none most l p covers = record { done = []; rest = p.trees; cs = []; all = refl; many = refl; mapped = refl; run = refl; covers_are = refl; arrivals_are = refl }

-- A sheet has room for each cover.
blank_few : (n : ℕ) → Few (replicate n (bare_cover 0 0))
blank_few zero k = omega arith
blank_few (suc n) zero = omega arith
blank_few (suc n) (suc k) = blank_few n k

pub few_none : (c : CoverRecord) → c ≡ bare_cover 0 0 → Few (replicate trees_most c)
few_none c e = subst (λ (x : CoverRecord). Few (replicate trees_most x)) (sym e) (blank_few trees_most)

pub few_more : (l : List CoverRecord) (k : ℕ) (c : CoverRecord) → Few l → c.count ≤ 63 → Few (set l k c)
few_more l k c h g j = go (ℕ_discrete j k) (dec_lt k (length l))
  where
    go : Dec (j ≡ k) → Dec (k < length l) → (get_or (set l k c) j no_cover).count ≤ 63
    go (no d) e = rw (get_or-set_other l k j c no_cover d) (h j)
    go (yes d) (yes e) = rw (d, get_or-set_same l k c no_cover e) g
    go (yes d) (no e) = rw (set_out l k c (omega arith)) (h j)

pub few_front : (l : List CoverRecord) (n : ℕ) → Few l → Few (take n l)
few_front l n h k = go (dec_lt k n)
  where
    go : Dec (k < n) → (get_or (take n l) k no_cover).count ≤ 63
    go (yes e) = rw (get_or-take n l k no_cover e) (h k)
    go (no e) = rw (get_or-eq_default (take n l) no_cover {n = k} (omega (arith, length-take n l))) (omega arith)

-- The drivers of a tree, as a part of all, name no tree beyond those that there are.
pub drivers_small : (links : List ℕ) (k m : ℕ) → ((j : ℕ) → get_or links j 0 ≤ trees_most) → (j : ℕ) → get_or (take m (drop k links)) j 0 ≤ trees_most
drivers_small links k m h j = go (dec_lt j m)
  where
    go : Dec (j < m) → get_or (take m (drop k links)) j 0 ≤ trees_most
    go (yes e) = rw (get_or-take m (drop k links) j 0 e, get_or-drop k links j 0) (h (k + j))
    go (no e) = rw (get_or-eq_default (take m (drop k links)) 0 {n = j} (omega (arith, length-take m (drop k links)))) (omega arith)

module _ {most : ℕ} {l : Library} {p : Part} {part : PartRecord} {k : ℕ} {covers : List CoverRecord} {arrivals : List ℕ} (stored : PartStored p part) (here : k < length p.trees) (h : Going most l p k covers arrivals) where
  -- The next tree.
  pub next : (d : TreeRecord) → (t : Tree) × (more : List Tree) × (h.rest ≡ t ∷ more) × SoundTree t × (get_or part.trees k d ≡ tree_laid t)
  next d = go h.rest refl
    where
      go : (r : List Tree) → h.rest ≡ r → (t : Tree) × (more : List Tree) × (h.rest ≡ t ∷ more) × SoundTree t × (get_or part.trees k d ≡ tree_laid t)
      go [] e = absurd (omega (arith, ap length (h.all ∙ ap (λ (r : List Tree). h.done ++ r) e), length-append h.done [], h.many))
      go (t ∷ more) e =
          let split : p.trees ≡ h.done ++ (t ∷ more) = h.all ∙ ap (λ (r : List Tree). h.done ++ r) e in (
            t,
            more,
            e,
            stored.trees_are.sound t (rw split (Memᴰ.append_right h.done (Memᴰ.head refl))),
            ap (λ (q : List TreeRecord). get_or q k d) stored.trees_are.laid ∙ in_padded trees_most no_tree d (map tree_laid p.trees) k (omega (arith, length-map p.trees tree_laid, stored.trees_are.few)) (omega (arith, length-map p.trees tree_laid))
                ∙ ap (λ (q : List Tree). get_or (map tree_laid q) k d) split ∙ ap (λ (q : List TreeRecord). get_or q k d) (map-append tree_laid h.done (t ∷ more)) ∙ get_or_at (map tree_laid h.done) (tree_laid t) (map tree_laid more) d k (length-map h.done tree_laid ∙ h.many),
          )

  -- What its links bring is what the drivers bring from the arrivals at hand.
  pub brings : (m : ℕ) → m ≡ 64 → (n : ℕ) → n < 64 → known p.links h.cs n ≡ brought arrivals (get_or (take m (drop (64 * k) part.drivers)) n 0)
  unfolding linked_arrival
  brings m e n small =
      let small-tree : k < trees_most = omega (arith, stored.trees_are.few) in
      let at : get_or (take m (drop (64 * k) part.drivers)) n 0 ≡ get_or part.drivers (64 * k + n) 0 = get_or-take m (drop (64 * k) part.drivers) n 0 (omega arith) ∙ get_or-drop (64 * k) part.drivers n 0 in
      let driver : driver_of p.links (length h.cs) n ≡ driver_named (get_or (take m (drop (64 * k) part.drivers)) n 0) =
      ap (λ (i : ℕ). driver_of p.links i n) h.mapped ∙ stored.drivers_are.named k n small-tree small ∙ ap driver_named (sym at) in
      let when : ◌≡◌ {A = ℕ → ℕ} (λ d. get_or (map (λ (c : Cover). c.point.arrival) h.cs) d 0) (λ d. get_or arrivals d 0) =
      λ i d. sym (ap (λ (q : List ℕ). get_or q d 0) h.arrivals_are ∙ padded_at trees_most (map (λ (c : Cover). c.point.arrival) h.cs) d (omega (arith, length-map h.cs (λ (c : Cover). c.point.arrival), h.mapped))) i in
      ap₂ (λ (g : ℕ → ℕ) (o : Option ℕ). Option.map g o) when driver

  -- So it is mapped with them.
  pub linked : (d : TreeRecord) {library : LibraryRecord} {r : Result CoverRecord Refusal} {m : ℕ} → LibraryStored l library → MapsLinked most library (get_or part.trees k d) (take m (drop (64 * k) part.drivers)) arrivals r → m ≡ 64 →
      LinkedMapped most l (known p.links h.cs) (next d).0 r
  linked d {m = m} read maps e = let (t, more, split, sound, is) = next d in maps l t (known p.links h.cs) (record { read = read; tree_sound = sound; tree_is = is }) (brings m e)

  module _ (d : TreeRecord) where
    -- It is mapped.
    pub going_more : {cover : CoverRecord} → LinkedMapped most l (known p.links h.cs) (next d).0 (Ok cover) → k < length covers → Going most l p (k + 1) (set covers k cover) (set arrivals k cover.arrival)
    unfolding covers_from
    going_more {cover} m inside =
        let t = (next d).0 in
        let more = (next d).1 in
        let c = cover_of cover in
        let one : k + 1 ≡ suc k = omega arith in
        record {
          done = h.done ++ (t ∷ []);
          rest = more;
          cs = h.cs ++ (c ∷ []);
          all = h.all ∙ ap (λ (q : List Tree). h.done ++ q) (next d).2 ∙ sym (append_snoc h.done t more);
          many = length-append h.done (t ∷ []) ∙ ap (λ (n : ℕ). n + 1) h.many;
          mapped = length-append h.cs (c ∷ []) ∙ ap (λ (n : ℕ). n + 1) h.mapped;
          run = h.run ∙ ap (covers_from most l p.links h.cs) (next d).2 ∙ ap (λ (a : Answer Cover). in_item (length h.cs) a >>= (λ x. covers_from most l p.links (h.cs ++ (x ∷ [])) more)) (sym m.answer_is);
          covers_are = ap (λ (n : ℕ). map cover_of (take n (set covers k cover))) one ∙ ap (map cover_of) (take-suc-set covers k cover inside) ∙ map-append cover_of (take k covers) (cover ∷ []) ∙ ap (λ (q : List Cover). q ++ (c ∷ [])) h.covers_are;
          arrivals_are = ap (λ (q : List ℕ). set q k cover.arrival) h.arrivals_are ∙ padded_more trees_most 0 cover.arrival (map (λ (x : Cover). x.point.arrival) h.cs) k (sym (length-map h.cs (λ (x : Cover). x.point.arrival) ∙ h.mapped))
              ∙ ap (padded trees_most 0) (sym (map-append (λ (x : Cover). x.point.arrival) h.cs (c ∷ [])));
        }

    -- It is refused, and so is the part.
    pub going_stops : {q : Refusal} → LinkedMapped most l (known p.links h.cs) (next d).0 (Err q) → covers_from most l p.links [] p.trees ≡ refused_in k (number_of q.reason) q.place
    unfolding covers_from
    going_stops {q} m =
        h.run ∙ ap (covers_from most l p.links h.cs) (next d).2 ∙ ap (λ (a : Answer Cover). in_item (length h.cs) a >>= (λ x. covers_from most l p.links (h.cs ++ (x ∷ [])) (next d).1)) (sym m.answer_is)
        ∙ ap (λ (i : ℕ). refused_in i (number_of q.reason) q.place) h.mapped

-- All of them.
pub going_all : {most : ℕ} {l : Library} {p : Part} {k : ℕ} {covers : List CoverRecord} {arrivals : List ℕ} → k ≡ length p.trees → (h : Going most l p k covers arrivals) → covers_from most l p.links [] p.trees ≡ success h.cs
unfolding covers_from
going_all {most} {l} {p} e h = h.run ∙ ap (covers_from most l p.links h.cs) (no_more h.rest (omega (arith, ap length h.all, length-append h.done h.rest, h.many)))
  where
    no_more : (xs : List Tree) → length xs ≡ 0 → xs ≡ []
    no_more [] z = refl
    no_more (x ∷ xs) z = absurd (omega (arith, z))
