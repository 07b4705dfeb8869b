-- Laws about what is replied: that it fits a word, what is left in the work area, what follows a success and what a refusal leaves.
use mathlib.Core.Path.{◌≡◌, refl, sym, ap, ap₂, subst, ◌∙◌}
use mathlib.Core.Bool.{false, ◌&&◌}
use mathlib.Core.List.{List, ◌++◌}
use mathlib.Core.Option.{Option, none, some}
use Prim.Native.Nat.{ℕ, ◌-◌, ◌≤◌, ◌<◌}
use native.Mathlib.Omega.{arith}
use borrow.Table.Steps.{cases}
use lib.Dec.{leb}
use lib.ListN.{length, take, drop, replicate, length-replicate}
use lib.Seq.{length-take-le, take-append_seam, drop-append_seam}
use borrow.Rule.Slice.PartMut.{mid_of, put_mid, mid_len, drop_put}
use Rattle.fields.specs.declared.Fault.{Fault}
use Rattle.fields.specs.declared.Fault.TheVariants.{Truncated, Tail, Range, Drawing, Size}
use Rattle.fields.specs.Reading.{Scan}
use Rattle.fields.specs.Reading.{At, Refused}
use Rattle.fields.specs.Reading.{start}
use Rattle.fields.specs.Answer.{Answer, refused_in, success, said, in_item, ◌>>=◌, on_success, Bounded}
use Rattle.fields.proofs.Answer.{after_success, after_refused}
use Rattle.sheets_rules.specs.Model.{Library, Tree}
use Rattle.sheets_rules.specs.LibrarySheet.{library}
use Rattle.sheets_rules.specs.TreeSheet.{tree}
use Rattle.sheets_rules.specs.declared.Refusal.{Refusal}
use Rattle.sheets_rules.specs.Report.{library_number, tree_number, number_of, refusal, library_said, tree_said}
use Rattle.sheets_rules.specs.Inside.Sound.{SoundTree}
use Rattle.covers.specs.Tradeoff.{nodes, tradeoffs, overfull, overfull_node}
use Rattle.covers.specs.Choice.{choice}
use Rattle.covers.specs.CoverSheet.{cover_sheet, list_sheet}
use Rattle.covers.specs.Capacity.{capacity, work_words}
use Rattle.covers.specs.Answer.{short_number, answered, mapped, nonempty, listed, map_answer, list_answer}
use Rattle.covers.specs.Lending.{lent, told, output_after, observed, cleared, work_cleared, leaves_zero, work_after}
use Rattle.covers.specs.Outcome.{operation, map_bytes, list_bytes, map_outcome, list_outcome}
use Rattle.covers.proofs.Ascending.{ascending_range}
use Rattle.covers.proofs.Overfull.{LastOf, at, nodes_ascend, overfull_named}
use Rattle.covers.proofs.Demands.{observed_is, map_demands, list_demands}
use Rattle.map_rules.specs.Public.{Operated, Refuses, AboutNone, Maps, Lists}

-- ---- the work area

-- The first n words of a work area that was cleared are zero.
pub cleared_zeros : (n : ℕ) (work work' : List ℕ) → work' ≡ cleared n work → take n work' ≡ replicate n 0
unfolding cleared
cleared_zeros n work work' e = ap (take n) e ∙ subst (λ (k : ℕ). take k (replicate n 0 ++ drop n work) ≡ replicate n 0) (length-replicate {A = ℕ} n 0) (take-append_seam (replicate n 0) (drop n work))

-- Cleared a second time, after the words in front were lent: those beyond are as they were.
pub cleared_again : (n k : ℕ) (work before part after : List ℕ) → k ≡ n - 0 → before ≡ cleared n work → length part ≡ length (mid_of 0 k before) → n ≤ length before → after ≡ cleared n (put_mid 0 k before part) → after ≡ cleared n work
unfolding cleared
cleared_again n k work before part after same e len long f =
    f ∙ ap (λ (q : List ℕ). replicate n 0 ++ q) (ap (λ (j : ℕ). drop n (put_mid 0 j before part)) same ∙ drop_put 0 n before part (omega arith) long (len ∙ ap (λ (j : ℕ). length (mid_of 0 j before)) same ∙ mid_len 0 n before long) ∙ ap (drop n) e ∙ beyond)
  where
    beyond : drop n (replicate n 0 ++ drop n work) ≡ drop n work
    beyond = subst (λ (k : ℕ). drop k (replicate n 0 ++ drop n work) ≡ drop n work) (length-replicate {A = ℕ} n 0) (drop-append_seam (replicate n 0) (drop n work))

-- The same where the words in front were lent as the front of it.
pub cleared_front : (n k : ℕ) (work before part after : List ℕ) → k ≡ n → before ≡ cleared n work → length part ≡ length (take k before) → n ≤ length before → after ≡ cleared n (part ++ drop k before) → after ≡ cleared n work
unfolding cleared
cleared_front n k work before part after same e len long f =
    let lent : length part ≡ n = len ∙ ap (λ (j : ℕ). length (take j before)) same ∙ length-take-le n before long in
    let kept : drop n (part ++ drop k before) ≡ drop k before = ap (λ (j : ℕ). drop j (part ++ drop k before)) (sym lent) ∙ drop-append_seam part (drop k before) in
    let beyond : drop n (replicate n 0 ++ drop n work) ≡ drop n work = subst (λ (j : ℕ). drop j (replicate n 0 ++ drop n work) ≡ drop n work) (length-replicate {A = ℕ} n 0) (drop-append_seam (replicate n 0) (drop n work)) in
    f ∙ ap (λ (q : List ℕ). replicate n 0 ++ q) (kept ∙ ap (λ (j : ℕ). drop j before) same ∙ ap (drop n) e ∙ beyond)

-- ---- what the core refuses

-- A node is numbered below the tree's size.
pub node_small : (most : ℕ) (l : Library) {t : Tree} {n : ℕ} → SoundTree t → overfull_node most l t ≡ some n → n < 64
node_small most l {t} {n} g e = go (subst (LastOf (overfull most l t) (nodes 0 t.shape)) e (overfull_named most l t))
  where
    go : LastOf (overfull most l t) (nodes 0 t.shape) (some n) → n < 64
    go (at h) = omega (arith, ascending_range (nodes_ascend 0 t.shape) h.among, h.number, g.size)

-- It fits a word.
pub refused_bounded : {A : Type 0} (o : Option ℕ) (a : Option A) {i n p : ℕ} → ((k : ℕ) → o ≡ some k → k < 64) → answered o a ≡ refused_in i n p → Bounded (refused_in i n p)
unfolding answered Bounded
refused_bounded (some k) a {i} {n} {p} h e = let ei : i ≡ 0 = sym (cc) in let en : n ≡ 7 = sym (cc) in let ep : p ≡ k = sym (cc) in (omega arith, omega arith, omega arith, omega (arith, h k refl))
refused_bounded none none {i} {n} {p} h e = let ei : i ≡ 0 = sym (cc) in let en : n ≡ 8 = sym (cc) in let ep : p ≡ 0 = sym (cc) in (omega arith, omega arith, omega arith, omega arith)
refused_bounded none (some a) h e = let z : ◌≡◌ {A = ℕ} 0 1 = cc in absurd (omega arith)

pub mapped_fits : (most : ℕ) (l : Library) (t : Tree) {i n p : ℕ} → SoundTree t → mapped most l t ≡ refused_in i n p → Bounded (refused_in i n p)
unfolding mapped
mapped_fits most l t g = refused_bounded (overfull_node most l t) (choice l t.load 0 t.shape t.required) (λ j f. node_small most l g f)

-- And the work area is cleared after the core, whatever it answered.
pub worked : {A : Type 0} (f : A → List ℕ) (o : Option ℕ) (a : Option A) (work : List ℕ) → work_after (on_success f (answered o a)) work ≡ work_cleared work
unfolding work_after leaves_zero on_success answered
worked f (some n) a work = refl
worked f none none work = refl
worked f none (some a) work = refl

-- ---- what all refusals of an answer have

module _ (P : ℕ → ℕ → Type 0) where
  refuses_both : {A B : Type 0} (r : Answer A) (f : A → Answer B) → Refuses P r → ((a : A) → Refuses P (f a)) → Refuses P (r >>= f)
  unfolding ◌>>=◌
  refuses_both (refused_in i n p) f h g = h
  refuses_both (success a) f h g = g a

  -- Those of a sheet, and of too little lent.
  refuses_said : {A : Type 0} (number : Fault → ℕ) (x : A × Scan) → ((f : Fault) → P 0 (number f)) → Refuses P (said number x)
  unfolding said
  refuses_said number (a, At c) h = tt
  refuses_said number (a, Refused f p) h = h f

  refuses_lent : (least output work : ℕ) → P 0 short_number → Refuses P (lent least output work)
  unfolding lent
  refuses_lent least output work h = cases (leb least output && leb (work_words capacity) work) (λ e. rw e tt) (λ e. rw e h)

-- ---- refusals that spare the work area

abbrev pub Spares : ℕ → Type 0
Spares n = leaves_zero n ≡ false

abbrev pub Sparing : {A : Type 0} → Answer A → Type 0
Sparing = Refuses (λ i n. Spares n)

pub sparing_both : {A B : Type 0} (r : Answer A) (f : A → Answer B) → Sparing r → ((a : A) → Sparing (f a)) → Sparing (r >>= f)
sparing_both = refuses_both (λ i n. Spares n)

pub sparing_item : {A : Type 0} (k : ℕ) (r : Answer A) → Sparing r → Sparing (in_item k r)
unfolding in_item
sparing_item k (refused_in i n p) h = h
sparing_item k (success a) h = tt

pub library_spares : (f : Fault) → Spares (library_number f)
unfolding leaves_zero library_number
library_spares Truncated = refl
library_spares Tail = refl
library_spares Range = refl
library_spares Drawing = refl
library_spares Size = refl

pub tree_spares : (f : Fault) → Spares (tree_number f)
unfolding leaves_zero tree_number library_number
tree_spares Truncated = refl
tree_spares Tail = refl
tree_spares Range = refl
tree_spares Drawing = refl
tree_spares Size = refl

pub sparing_library : (ls : List ℕ) → Sparing (library_said ls)
unfolding library_said
sparing_library ls = refuses_said (λ i n. Spares n) library_number (library ls start) library_spares

pub sparing_tree : (ts : List ℕ) → Sparing (tree_said ts)
unfolding tree_said
sparing_tree ts = refuses_said (λ i n. Spares n) tree_number (tree ts start) tree_spares

-- Too little lent.
pub sparing_lent : (least output work : ℕ) → Sparing (lent least output work)
unfolding leaves_zero
sparing_lent least output work = refuses_lent (λ i n. Spares n) least output work refl

-- ---- what follows, or not

-- After a success, what follows is the outcome.
pub followed : {A : Type 0} (f : A → Answer (List ℕ)) {r : Answer A} {x : A} {output output' work work' : List ℕ} {a : Answer ℕ} → r ≡ success x → Operated (f x) output output' work work' a → Operated (r >>= f) output output' work work' a
followed f {output = output} {output'} {work} {work'} {a} e = subst (λ (o : Answer (List ℕ)). Operated o output output' work work' a) (sym (after_success f e))

-- A refusal that spares the work area leaves all as it was.
pub stopped : {A : Type 0} (f : A → Answer (List ℕ)) {r : Answer A} (q : Refusal) (output work : List ℕ) → Sparing r → r ≡ refusal q → Bounded (refusal q) → Operated (r >>= f) output output work work (refusal q)
unfolding told on_success output_after work_after
stopped f q output work spared e fits =
    let spares : Spares (number_of q.reason) = subst Sparing e spared in
    subst (λ (o : Answer (List ℕ)). Operated o output output work work (refusal q)) (sym (after_refused f e)) (record { told_is = refl; output_is = refl; work_is = rw spares refl; bounded = fits })

-- ---- what it is worth

-- The caller sees the outcome, and so what is demanded of it.
pub seen : {o : Answer (List ℕ)} {output output' work work' : List ℕ} {a : Answer ℕ} → Operated o output output' work work' a → observed a output' ≡ o
seen {o} {output} h = ap₂ observed h.told_is h.output_is ∙ observed_is o output

-- It is about no item.
none_told : (o : Answer (List ℕ)) → AboutNone o → AboutNone (told o)
unfolding told on_success
none_told (refused_in i n p) h = h
none_told (success s) h = tt

none_answered : {A B : Type 0} (f : A → B) (o : Option ℕ) (a : Option A) → AboutNone (on_success f (answered o a))
unfolding on_success answered
none_answered f (some n) a = refl
none_answered f none none = refl
none_answered f none (some a) = tt

none_operation : {A : Type 0} (least : ℕ) (f : ℕ → Library → Tree → Answer A) (ls ts : List ℕ) (output work : ℕ) → ((most : ℕ) (l : Library) (t : Tree) → AboutNone (f most l t)) → AboutNone (operation least f ls ts output work)
unfolding operation library_said tree_said
none_operation least f ls ts output work h =
    let none : ℕ → ℕ → Type 0 = λ i n. i ≡ 0 in
    refuses_both none (lent least output work) _ (refuses_lent none least output work refl) (λ most.
    refuses_both none (library_said ls) _ (refuses_said none library_number (library ls start) (λ g. refl)) (λ l.
    refuses_both none (tree_said ts) _ (refuses_said none tree_number (tree ts start) (λ g. refl)) (h most l)))

none_mapped : (ls ts : List ℕ) (output work : ℕ) → AboutNone (map_outcome ls ts output work)
unfolding map_outcome map_answer mapped
none_mapped ls ts output work = none_operation map_bytes map_answer ls ts output work (λ most l t. none_answered cover_sheet (overfull_node most l t) (choice l t.load 0 t.shape t.required))

none_listed : (ls ts : List ℕ) (output work : ℕ) → AboutNone (list_outcome ls ts output work)
unfolding list_outcome list_answer listed
none_listed ls ts output work = none_operation list_bytes list_answer ls ts output work (λ most l t. none_answered list_sheet (overfull_node most l t) (nonempty (tradeoffs l t.load 0 t.shape)))

module _ (ls ts output : List ℕ) {output' : List ℕ} (work : List ℕ) {work' : List ℕ} {a : Answer ℕ} where
  pub maps : Operated (map_outcome ls ts (length output) (length work)) output output' work work' a → Maps ls ts output output' work work' a
  maps h = record { operated = h; about_none = rw h.told_is (none_told _ (none_mapped ls ts (length output) (length work))); demands = rw (seen h) (map_demands ls ts (length output) (length work)) }

  pub lists : Operated (list_outcome ls ts (length output) (length work)) output output' work work' a → Lists ls ts output output' work work' a
  lists h = record { operated = h; about_none = rw h.told_is (none_told _ (none_listed ls ts (length output) (length work))); demands = rw (seen h) (list_demands ls ts (length output) (length work)) }
