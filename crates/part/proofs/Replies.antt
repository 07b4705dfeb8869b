-- From what was found to the reply, the output and the work area.
use Prim.Native.Nat.{ℕ, zero, suc, ◌≤◌}
use mathlib.Core.Path.{◌≡◌, refl, sym, ap, subst, ◌∙◌}
use mathlib.Core.Option.{Option}
use mathlib.Core.Bool.{Bool, true, false, ◌&&◌}
use mathlib.Core.List.{List, [], ◌∷◌, ◌++◌, flat_map}
use native.Mathlib.Omega.{arith}
use lib.Dec.{eqb, ltb}
use lib.ListN.{length, drop, get_elem?}
use Rattle.fields.specs.declared.Fault.{Fault}
use Rattle.std.specs.Prelude.{Result, Ok, Err}
use Rattle.fields.specs.Reading.{Scan}
use Rattle.fields.specs.Reading.{At, Refused}
use Rattle.fields.specs.Reading.{start}
use Rattle.fields.specs.Answer.{Answer, refused_in, success, in_item, ◌>>=◌, on_success, Bounded}
use Rattle.sheets_rules.specs.declared.LibraryRecord.{LibraryRecord}
use Rattle.sheets_rules.specs.declared.Refusal.{Refusal}
use Rattle.sheets_rules.specs.Model.{Library, Tree}
use Rattle.sheets_rules.specs.TreeSheet.{tree_to}
use Rattle.sheets_rules.specs.Report.{tree_number, refusal}
use Rattle.sheets_rules.specs.Inside.Readers.{Says, LibraryIs}
use Rattle.covers.specs.Cover.{Cover}
use Rattle.covers.specs.CoverSheet.{cover_sheet}
use Rattle.covers.specs.Capacity.{work_words, allowed}
use Rattle.covers.specs.Lending.{lent, told, output_after, cleared, work_cleared, leaves_zero, work_after}
use Rattle.covers.specs.Inside.Allowed.{Allowed}
use Rattle.covers.proofs.Lent.{allowed_is, allowed_fits, enough_lent}
use Rattle.result_sheets.specs.Public.{Written}
use Rattle.map_rules.specs.Public.{Operated}
use Rattle.map_rules.proofs.Laws.{Spares, Sparing, sparing_both, sparing_item, tree_spares, sparing_lent, sparing_library, stopped, followed}
use Rattle.part_rules.specs.Part.{Link, Part, driver_of}
use Rattle.part_rules.specs.PartSheet.{counts}
use Rattle.part_rules.specs.PartRead.{link_number, sheet_read, trees_from, is_leaf_of, is_free, link_judged, links_judged, after_counts, part}
use Rattle.part_rules.specs.Outcome.{covers_from, part_bytes, part_sheets, part_outcome}
use Rattle.part_rules.specs.Demands.{Fails, late, overfull, no_cover}
use Rattle.part_rules.proofs.Running.{CoversPromise, first_fails, covers_promise}
use Rattle.part_read.proofs.Links.{said}
use Rattle.part_read.specs.declared.PartRecord.{PartRecord}
use Rattle.part_read.specs.Inside.Decoded.{PartStored}
use Rattle.part.specs.Inside.Promises.{Lent, MapsStored}

-- ---- what is lent

-- How many trade-offs it allows, as it was answered.
abbrev pub Lends : (output work : ℕ) → Result ℕ Refusal → Type 0
Lends output work = Says (λ (m n : ℕ). m ≡ n) (lent part_bytes output work)

pub lent_known : (output work : ℕ) {most : ℕ} → Lends output work (Ok most) → Lent most output work
lent_known output work {most} (m, e, same) =
    let h = enough_lent part_bytes output work e in
    let is : most ≡ allowed work = sym same ∙ h.2 in
    record { long = h.0; words = subst (λ (n : ℕ). work_words n ≤ work) (sym is) (allowed_fits work h.1); most_is = is; allowed = subst Allowed (sym is) (allowed_is work) }

-- ---- which refusals leave the work area zero: those of the trees' mapping,

mapped_zeroed : (most : ℕ) (l : Library) (p : Part) {k n place : ℕ} → covers_from most l p.links [] p.trees ≡ refused_in k n place → leaves_zero n ≡ true
unfolding leaves_zero
mapped_zeroed most l p {k} {n} {place} e = go (subst (CoversPromise most l p.links p.trees) e (covers_promise most l p.links p.trees))
  where
    said : {m q : ℕ} {f : ℕ → Option ℕ} {t : Tree} → Fails most l f t m q → leaves_zero m ≡ true
    said (late h) = refl
    said (overfull e h) = refl
    said (no_cover e a h) = refl

    go : CoversPromise most l p.links p.trees (refused_in k n place) → leaves_zero n ≡ true
    go (first_fails h) = said h.fails

-- and not those of the sheet.
sparing_read : {A : Type 0} (number : Fault → ℕ) (x : A × Scan) → ((f : Fault) → Spares (number f)) → Sparing (sheet_read number x)
unfolding sheet_read
sparing_read number (a, At c) h = tt
sparing_read number (a, Refused f p) h = h f

sparing_trees : (before : List Tree) (n : ℕ) (s : List ℕ) → Sparing (trees_from before n s)
unfolding trees_from
sparing_trees before zero s = tt
sparing_trees before (suc left) s =
    sparing_both (in_item (length before) (sheet_read tree_number (tree_to (eqb left 0) s start))) (λ x. trees_from (before ++ (x.0 ∷ [])) left (drop x.1 s))
    (sparing_item (length before) (sheet_read tree_number (tree_to (eqb left 0) s start)) (sparing_read tree_number (tree_to (eqb left 0) s start) tree_spares)) (λ x. sparing_trees (before ++ (x.0 ∷ [])) left (drop x.1 s))

sparing_link : (trees : List Tree) (before : List Link) (x : Link) → Sparing (link_judged trees before x)
unfolding link_judged leaves_zero
sparing_link trees before x = go (is_leaf_of (get_elem? trees x.reading) x.node && is_free (driver_of before x.reading x.node)) (ltb x.driving x.reading)
  where
    go : (b c : Bool) → Sparing (said before x b c)
    go true true = tt
    go true false = refl
    go false c = refl

sparing_links : (trees : List Tree) (before xs : List Link) → Sparing (links_judged trees before xs)
unfolding links_judged
sparing_links trees before [] = tt
sparing_links trees before (x ∷ xs) = sparing_both (link_judged trees before x) (λ links. links_judged trees links xs) (sparing_link trees before x) (λ links. sparing_links trees links xs)

sparing_after : (count : ℕ) (links : List Link) (s : List ℕ) → Sparing (after_counts count links s)
unfolding after_counts
sparing_after count links s =
    sparing_both (trees_from [] count s) (λ trees. links_judged trees [] links >>= (λ judged. success (record { trees = trees; links = judged }))) (sparing_trees [] count s)
    (λ trees. sparing_both (links_judged trees [] links) (λ judged. success (record { trees = trees; links = judged })) (sparing_links trees [] links) (λ judged. tt))

pub sparing_part : (s : List ℕ) → Sparing (part s)
unfolding part leaves_zero
sparing_part s =
    sparing_both (sheet_read (λ f. link_number) (counts s start)) (λ head. after_counts head.0.trees head.0.links (drop head.1 s))
    (sparing_read (λ f. link_number) (counts s start) (λ f. refl)) (λ head. sparing_after head.0.trees head.0.links (drop head.1 s))

-- ---- a sound part

worked : (most : ℕ) (work : List ℕ) {work' : List ℕ} → most ≡ allowed (length work) → work' ≡ cleared (work_words most) work → work' ≡ work_cleared work
unfolding work_cleared
worked most work is done = done ∙ ap (λ (n : ℕ). cleared (work_words n) work) is

module _ (most : ℕ) (l : Library) (p : Part) {output work work' : List ℕ} (is : most ≡ allowed (length work)) (done : work' ≡ cleared (work_words most) work) where
  -- A tree is refused.
  pub trees_refused : (q : Refusal) → covers_from most l p.links [] p.trees ≡ refusal q → Bounded (refusal q) → Operated (part_sheets most l p) output output work work' (refusal q)
  unfolding part_sheets on_success told output_after work_after
  trees_refused q e fits =
      subst (λ (r : Answer (List Cover)). Operated (on_success (flat_map cover_sheet) r) output output work work' (refusal q)) (sym e)
      (record { told_is = refl; output_is = refl; work_is = rw (mapped_zeroed most l p e) (worked most work is done); bounded = fits })

  -- All are mapped.
  pub trees_found : {output' : List ℕ} {covers : List Cover} {n : ℕ} → covers_from most l p.links [] p.trees ≡ success covers → Written (flat_map cover_sheet covers) output output' n → n ≤ part_bytes → Operated (part_sheets most l p) output output' work work' (success n)
  unfolding part_sheets on_success told output_after work_after Bounded
  trees_found {output'} {covers} {n} e w few =
      subst (λ (r : Answer (List Cover)). Operated (on_success (flat_map cover_sheet) r) output output' work work' (success n)) (sym e)
      (record { told_is = ap success w.bytes; output_is = w.output; work_is = worked most work is done; bounded = omega arith })

-- ---- the whole outcome

module _ (ls ps output work : List ℕ) where
  abbrev Outcome : (output' work' : List ℕ) → Answer ℕ → Type 0
  Outcome output' work' = Operated (part_outcome ls ps (length output) (length work)) output output' work work'

  -- Too little is lent.
  pub lent_little : (q : Refusal) → Lends (length output) (length work) (Err q) → Outcome output work (refusal q)
  unfolding part_outcome
  lent_little q (e, fits) = stopped _ q output work (sparing_lent part_bytes (length output) (length work)) e fits

  module _ {most : ℕ} (lends : Lends (length output) (length work) (Ok most)) where
    lent_is : lent part_bytes (length output) (length work) ≡ success most
    lent_is = lends.1 ∙ ap success lends.2

    -- The library is refused.
    pub library_refused : (q : Refusal) → LibraryIs ls (Err q) → Outcome output work (refusal q)
    unfolding part_outcome
    library_refused q h = followed _ lent_is (stopped _ q output work (sparing_library ls) h.said.0 h.said.1)

    module _ {library : LibraryRecord} (reads : LibraryIs ls (Ok library)) where
      -- The part is.
      pub part_refused : (q : Refusal) → Says PartStored (part ps) (Err q) → Outcome output work (refusal q)
      unfolding part_outcome
      part_refused q h = followed _ lent_is (followed _ reads.said.1 (stopped _ q output work (sparing_part ps) h.0 h.1))

      -- Neither is.
      pub operated : {trees : PartRecord} {output' work' : List ℕ} {a : Answer ℕ} → Says PartStored (part ps) (Ok trees) → MapsStored library trees most output output' work work' a → Outcome output' work' a
      unfolding part_outcome
      operated h r = followed _ lent_is (followed _ reads.said.1 (followed _ h.1 (r reads.said.0 h.0 reads.said.2 h.2)))
