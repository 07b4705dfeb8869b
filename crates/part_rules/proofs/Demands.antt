-- The part operation meets the demands, from the bytes of a library and a part sheet.
use Prim.Native.Nat.{ℕ, ◌≤◌}
use mathlib.Core.Path.{◌≡◌, refl, sym, ap, ap₂, ◌∙◌}
use mathlib.Core.List.{List, [], flat_map, Memᴰ}
use mathlib.Core.Option.{Option}
use native.Mathlib.Omega.{arith}
use lib.ListN.{length, take}
use Rattle.fields.specs.Answer.{Answer, refused, success, ◌>>=◌, on_success}
use Rattle.fields.proofs.Answer.{answer_apart, after_success, after_refused}
use Rattle.sheets_rules.specs.Model.{Library, Tree}
use Rattle.sheets_rules.specs.Report.{library_said}
use Rattle.covers.specs.Cover.{Cover}
use Rattle.covers.specs.CoverSheet.{cover_sheet}
use Rattle.covers.specs.Lending.{lent}
use Rattle.covers.proofs.Basics.{at_in}
use Rattle.map_rules.specs.Public.{Operated}
use Rattle.map_rules.proofs.Laws.{seen}
use Rattle.part_rules.specs.Part.{Link, Part, known, known_tree}
use Rattle.part_rules.specs.PartRead.{part}
use Rattle.part_rules.specs.Outcome.{covers_from, part_bytes, part_sheets, part_outcome}
use Rattle.part_rules.specs.Demands.{LinkFault, no_leaf, leaf_taken, not_lower, LinkNumber, of_leaf, of_driver, SoundLinks, IsMapped, late, overfull, no_cover, IsAccepted, PartDemands, PartWhereSound, LinksWhereRead}
use Rattle.part_rules.specs.Public.{MapsPart}
use Rattle.part_rules.proofs.Trees.{trees_sound}
use Rattle.part_rules.proofs.Links.{sound_or_fault, first_same, all_read, one_refused, links_read, part_links, links_bring}
use Rattle.part_rules.proofs.Running.{all_answered, first_refused, mapped_at, all_mapped, first_fails, covers_promise}
use Rattle.part_rules.proofs.Accepted.{is_accepted}

-- ---- what follows a sound library

-- It is the answer, if what is lent is enough.
opened : (ls ps : List ℕ) (output work : ℕ) {most : ℕ} {l : Library} → lent part_bytes output work ≡ success most → library_said ls ≡ success l → part_outcome ls ps output work ≡ (part ps >>= part_sheets most l)
unfolding part_outcome
opened ls ps output work {most} h e = after_success (λ most. library_said ls >>= (λ l. part ps >>= part_sheets most l)) h ∙ after_success (λ l. part ps >>= part_sheets most l) e

-- ---- the demands

-- Where the links are sound and each mapped tree's cover is accepted, the demands are met.
meets : (most : ℕ) (ls : List ℕ) (l : Library) (p : Part) → SoundLinks p.trees p.links → ((f : ℕ → Option ℕ) (t : Tree) (c : Cover) → Memᴰ t p.trees → IsMapped most l f t c → IsAccepted ls (known_tree f t) c) →
    PartDemands most ls l p (part_sheets most l p)
unfolding part_sheets on_success
meets most ls l p sound accepted = (elim (covers_promise most l p.links p.trees) as (λ r x. covers_from most l p.links [] p.trees ≡ r → PartDemands most ls l p (on_success (flat_map cover_sheet) r)) [
  | all_mapped {covers} m ↦ λ e. record {
    links_sound = sound;
    links_bring = links_bring sound;
    sheets_exactly = (λ x. (covers, m), λ x. (flat_map cover_sheet covers, refl));
    refused_exactly = λ k number place. (λ x. absurd (answer_apart x), λ h. absurd (answer_apart (sym e ∙ first_refused h)));
    sheets_are = λ bytes x. (covers, m, sym (cc), λ k t c is has. accepted (known p.links (take k covers)) t c (at_in p.trees k is) (mapped_at m k k (omega arith) is has));
  }
  | first_fails {k} {number} {place} h ↦ λ e. record {
    links_sound = sound;
    links_bring = links_bring sound;
    sheets_exactly = (λ x. absurd (answer_apart (sym x.1)), λ x. absurd (answer_apart (sym (all_answered x.1).1 ∙ e)));
    refused_exactly = λ k' number' place'. (λ x. let i : k ≡ k' = cc in let n : number ≡ number' = cc in let q : place ≡ place' = cc in rw (← i, ← n, ← q) h, λ g. ap (on_success (flat_map cover_sheet)) (sym e ∙ first_refused g));
    sheets_are = λ bytes x. absurd (answer_apart (sym x));
  }
]) refl

-- The outcome meets the demands.
pub part_demands : (ls ps : List ℕ) (output work : ℕ) → PartWhereSound ls ps output work (part_outcome ls ps output work)
part_demands ls ps output work most l p h e e' =
    rw (opened ls ps output work h e ∙ after_success (part_sheets most l) e') (meets most ls l p (part_links ps p e') (λ f t d m. is_accepted ls e (trees_sound ps p e' t m)))

-- ---- the links

-- No tree is refused in its mapping with a number of links.
not_links : (most : ℕ) (l : Library) (p : Part) {number place : ℕ} → LinkNumber number → part_sheets most l p ≡ refused number place → ⊥
unfolding part_sheets on_success
not_links most l p {number} {place} n e =
    let said = elim n as (λ m x. (41 ≤ m) × (m ≤ 42)) [ of_leaf ↦ omega arith | of_driver ↦ omega arith ] in
    (elim (covers_promise most l p.links p.trees) as (λ r x. on_success (flat_map cover_sheet) r ≡ refused number place → ⊥) [
      | all_mapped m ↦ λ e. answer_apart e
      | first_fails {number = m} h ↦ λ e.
          let same : m ≡ number = cc in
          (elim h.fails as (λ m q x. (41 ≤ m) × (m ≤ 42) → ⊥) [ late h ↦ λ a. omega arith | overfull h k ↦ λ a. omega arith | no_cover h k i ↦ λ a. omega arith ]) (rw same said)
    ]) e

link_number_lem : {trees : List Tree} {before : List Link} {k : ℕ} {x : Link} {number place : ℕ} → LinkFault trees before k x number place → LinkNumber number
link_number_lem (no_leaf h) = of_leaf
link_number_lem (leaf_taken m h) = of_leaf
link_number_lem (not_lower h g f) = of_driver

pub links_demands : (ls ps : List ℕ) (output work : ℕ) → LinksWhereRead ls ps output work (part_outcome ls ps output work)
links_demands ls ps output work most l head trees h e e' e'' = rw (opened ls ps output work h e) (elim (links_read ps head trees e' e'') [
  | all_read sound is ↦ record {
    sound_exactly = (λ x. sound, λ x. is);
    numbered = λ number place f. link_number_lem f.fault;
    refused_exactly = λ number place n. (λ x. absurd (not_links most l (record { trees = trees; links = head.0.links }) n (sym (after_success (part_sheets most l) is) ∙ x)), λ f. absurd (sound_or_fault sound f));
  }
  | one_refused {number = number} {place = place} f is ↦ record {
    sound_exactly = (λ x. absurd (answer_apart (sym x ∙ is)), λ sound. absurd (sound_or_fault sound f));
    numbered = λ number place f. link_number_lem f.fault;
    refused_exactly = λ number' place' n.
        let said = after_refused (part_sheets most l) is in
        (λ x. let both = sym said ∙ x in let i : number ≡ number' = cc in let q : place ≡ place' = cc in rw (← i, ← q) f, λ k. let same = first_same f k in said ∙ ap₂ (λ (a b : ℕ). refused a b) same.0 same.1);
  }
])

-- ---- the contract

pub maps_part : (ls ps output : List ℕ) {output' : List ℕ} (work : List ℕ) {work' : List ℕ} {a : Answer ℕ} → Operated (part_outcome ls ps (length output) (length work)) output output' work work' a → MapsPart ls ps output output' work work' a
maps_part ls ps output work h = record { operated = h; demands = rw (seen h) (part_demands ls ps (length output) (length work)); links = rw (seen h) (links_demands ls ps (length output) (length work)) }
