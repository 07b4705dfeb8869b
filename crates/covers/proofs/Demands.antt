-- Map and list meet the demands, from the bytes of the two sheets.
use Prim.Native.Nat.{ℕ, ◌≤◌, ◌<◌}
use mathlib.Core.Path.{◌≡◌, refl, ap, subst, ◌∙◌}
use mathlib.Core.Logic.{⊎_elim}
use mathlib.Core.List.Memᴰ
use mathlib.Core.List.{List}
use native.Mathlib.Omega.{arith}
use lib.ListN.{length, drop}
use lib.Seq.{take_at}
use Rattle.fields.specs.Answer.{Answer, refused, refused_in, success, ◌>>=◌, on_success}
use Rattle.fields.proofs.Answer.{both_succeed, after_success}
use Rattle.sheets_rules.specs.Model.{Library, Tree}
use Rattle.sheets_rules.specs.Report.{library_said, tree_said}
use Rattle.sheets_rules.proofs.Sound.{library_sound, tree_sound}
use Rattle.covers.specs.Cover.{Point, Cover}
use Rattle.covers.specs.Tradeoff.{considered}
use Rattle.covers.specs.CoverSheet.{cover_sheet, list_sheet, CoverReads, ListReads}
use Rattle.covers.specs.Answer.{overfull_number, map_answer, list_answer}
use Rattle.covers.specs.Lending.{lent, told, output_after, observed}
use Rattle.covers.specs.Outcome.{operation, map_bytes, list_bytes, map_outcome, list_outcome}
use Rattle.covers.specs.Promise.{HighestTooMany, NoneTooMany, RootTradeoffs}
use Rattle.covers.specs.Demands.{Demands, MapDemands, ListDemands, WhereSound}
use Rattle.covers.proofs.Basics.{lt_or_le}
use Rattle.covers.proofs.Lent.{allowed_is, enough_lent}
use Rattle.covers.proofs.Nodes.{root_in}
use Rattle.covers.proofs.ReadBack.{cover_reads, list_reads}
use Rattle.covers.proofs.FromSheets.{cover_fits, list_fits}
use Rattle.covers.proofs.Promises.{Promise, too_many_lem, none_wanted, right, map_promise, list_promise}

-- Answers with different numbers differ; a success's is 0.
number : {A : Type 0} → Answer A → ℕ
number (refused_in i n k) = n
number (success a) = 0

module _ {most : ℕ} {l : Library} {t : Tree} where
  -- Only one node is the highest with too many, and then some node has.
  pub highest_same : {j k : ℕ} → HighestTooMany most l t j → HighestTooMany most l t k → j ≡ k
  highest_same {j} {k} g h = let a : j < k → ⊥ = clash g h in let b : k < j → ⊥ = clash h g in omega arith
    where
      clash : {i i' : ℕ} → HighestTooMany most l t i → HighestTooMany most l t i' → i < i' → ⊥
      clash u v lt = u.none_above v.node v.among (rw v.number lt) v.too_many

  not_both : {k : ℕ} → NoneTooMany most l t → HighestTooMany most l t k → ⊥
  not_both a h = a h.node h.among h.too_many

  -- An answer that keeps its promise, put on its sheet, meets the demands; what is right shows that there is a wanted cover.
  meets : {A : Type 0} {Wanted : Cover → Type 0} {Right : A → Type 0} (on : A → List ℕ) (Says : A → List ℕ → Type 0) → ((a : A) → Right a → (c : Cover) × Wanted c) → ((a : A) → NoneTooMany most l t → Right a → Says a (on a)) → {r : Answer A} → Promise Wanted Right most l t r → Demands Wanted Right on Says most l t (on_success on r)
  unfolding on_success number
  meets on Says wanted says (too_many_lem {k = k} h) = record {
    overfull_exactly = (λ e. (h.node, h.among, h.too_many), λ x. (k, refl));
    overfull_place = λ j. (λ e. subst (HighestTooMany most l t) (cc) h, λ g. ap (refused overfull_number) (highest_same h g));
    none_exactly = (λ e. absurd (omega (arith, ap number e)), λ n. absurd (not_both n.0 h));
    sheet_exactly = (λ e. absurd (omega (arith, ap number e.1)), λ n. absurd (not_both n.0 h));
    sheet_is = λ bytes e. absurd (omega (arith, ap number e));
  }
  meets on Says wanted says (none_wanted a n) = record {
    overfull_exactly = (λ e. absurd (omega (arith, ap number e.1)), λ x. absurd (a x.0 x.1 x.2));
    overfull_place = λ j. (λ e. absurd (omega (arith, ap number e)), λ g. absurd (not_both a g));
    none_exactly = (λ e. (a, n), λ x. refl);
    sheet_exactly = (λ e. absurd (omega (arith, ap number e.1)), λ x. absurd (n x.1.0 x.1.1));
    sheet_is = λ bytes e. absurd (omega (arith, ap number e));
  }
  meets on Says wanted says (right {a = x} a r) = record {
    overfull_exactly = (λ e. absurd (omega (arith, ap number e.1)), λ y. absurd (a y.0 y.1 y.2));
    overfull_place = λ j. (λ e. absurd (omega (arith, ap number e)), λ g. absurd (not_both a g));
    none_exactly = (λ e. absurd (omega (arith, ap number e)), λ n. let w = wanted x r in absurd (n.1 w.0 w.1));
    sheet_exactly = (λ e. (a, wanted x r), λ n. (on x, refl));
    sheet_is = λ bytes e. let same : bytes ≡ on x = cc in (x, same, rw same (says x a r), r);
  }

-- With no node overfull the root has at most as many trade-offs as a node may have.
few : {most : ℕ} {l : Library} {t : Tree} {ps : List Point} → NoneTooMany most l t → RootTradeoffs l t ps → length ps ≤ most
unfolding considered
few {most} {l} {t} {ps} n r = ⊎_elim (λ h. absurd (n (record { number = 0; shape = t.shape }) (root_in 0 t.shape) record { load = t.load; among = Memᴰ.head refl; points = ps; apart = r.earliest_first; each = λ p. (r.all p).0; exceeds = h })) (λ h. h) (lt_or_le most (length ps))

-- The caller sees the outcome.
pub observed_is : (o : Answer (List ℕ)) (output : List ℕ) → observed (told o) (output_after o output) ≡ o
unfolding observed told output_after on_success
observed_is (refused_in i n p) output = refl
observed_is (success s) output = ap success (take_at s (drop (length s) output) (length s) refl)

-- A sound library and a sound tree are answered, if what is lent is enough.
pub answers : {A : Type 0} (least : ℕ) (f : ℕ → Library → Tree → Answer A) (ls ts : List ℕ) (output work : ℕ) {most : ℕ} {l : Library} {t : Tree} → lent least output work ≡ success most → library_said ls ≡ success l → tree_said ts ≡ success t → operation least f ls ts output work ≡ f most l t
unfolding operation
answers least f ls ts output work {most} {l} {t} h e e' =
    after_success (λ most. library_said ls >>= (λ l. tree_said ts >>= (λ t. f most l t))) h ∙ after_success (λ l. tree_said ts >>= (λ t. f most l t)) e ∙ after_success (λ t. f most l t) e'

-- Sheets that say the same tree are answered alike.
pub operation_alike : {A : Type 0} (least : ℕ) (f : ℕ → Library → Tree → Answer A) (ls ts ts' : List ℕ) (output work : ℕ) → tree_said ts ≡ tree_said ts' → operation least f ls ts output work ≡ operation least f ls ts' output work
unfolding operation
operation_alike least f ls ts ts' output work e = ap (λ (o : Answer Tree). lent least output work >>= (λ most. library_said ls >>= (λ l. o >>= (λ t. f most l t)))) e

pub map_demands : (ls ts : List ℕ) (output work : ℕ) → WhereSound MapDemands map_bytes ls ts output work (map_outcome ls ts output work)
unfolding map_outcome map_answer
map_demands ls ts output work most l t h e e' = rw (answers map_bytes map_answer ls ts output work h e e') (meets cover_sheet CoverReads (λ c r. (c, (r.best.legal, r.best.intime))) (λ c n r. cover_reads (cover_fits (library_sound ls e) (tree_sound ts e') r.best.legal)) (map_promise most l t))

-- What map handed over was lent enough.
pub map_lent : (ls ts : List ℕ) (output work : ℕ) {bytes : List ℕ} → map_outcome ls ts output work ≡ success bytes → (most : ℕ) × (lent map_bytes output work ≡ success most)
unfolding map_outcome operation
map_lent ls ts output work e =
    let h = both_succeed (lent map_bytes output work) (λ most. library_said ls >>= (λ l. tree_said ts >>= (λ t. map_answer most l t))) e in (h.0, h.1)

pub list_demands : (ls ts : List ℕ) (output work : ℕ) → WhereSound ListDemands list_bytes ls ts output work (list_outcome ls ts output work)
unfolding list_outcome list_answer
list_demands ls ts output work most l t h e e' = rw (answers list_bytes list_answer ls ts output work h e e') (meets list_sheet ListReads (λ ps r. let p = (r.all r.one.0).0 r.one.1 in (p.cover, p.among)) (λ ps n r. list_reads (list_fits (library_sound ls e) (tree_sound ts e') (omega (arith, few n r, (enough_lent list_bytes output work h).2, (allowed_is work).listed)) (λ p. (r.all p).0))) (list_promise most l t))
