-- The outcome of map as text: what its reply says, and what is put after it.
use Prim.Native.Nat.{ℕ, ◌≤◌}
use mathlib.Core.Path.{◌≡◌, refl, sym, ap, subst, ◌∙◌}
use mathlib.Core.Bool.{false}
use mathlib.Core.List.{List}
use native.Mathlib.Omega.{arith}
use lib.ListN.{length, take, drop, length-append}
use lib.Seq.{take_at}
use Rattle.fields.specs.Reading.{Scan}
use Rattle.fields.specs.Reading.{At, Refused}
use Rattle.fields.specs.Reading.{Live, start}
use Rattle.fields.specs.Answer.{Answer, refused, refused_in, success, said, ◌>>=◌, on_success}
use Rattle.fields.proofs.Answer.{read_said}
use Rattle.sheets_rules.specs.Model.{Library, Tree}
use Rattle.sheets_rules.specs.LibrarySheet.{library as library_of}
use Rattle.sheets_rules.specs.TreeSheet.{tree as tree_of}
use Rattle.sheets_rules.specs.Inside.Layout.{library_laid}
use Rattle.sheets_rules.specs.Report.{library_number, tree_number, library_said, tree_said}
use Rattle.sheets_rules.proofs.Sound.{library_limits, tree_limits}
use Rattle.covers.specs.Capacity.{capacity, allowed}
use Rattle.covers.specs.Cover.{Cover}
use Rattle.covers.specs.CoverSheet.{cover_sheet, cover_read, CoverReads}
use Rattle.covers.specs.Promise.{RootCover, BestCover}
use Rattle.covers.specs.Answer.{overfull_number, no_cover_number, map_answer}
use Rattle.covers.specs.Lending.{lent, told, output_after}
use Rattle.covers.specs.Outcome.{operation, map_bytes, map_outcome}
use Rattle.covers.proofs.ReadBack.{cover_reads}
use Rattle.covers.proofs.FromSheets.{cover_fits}
use Rattle.covers.proofs.Promises.{MapPromise, too_many_lem, none_wanted, right, map_promise}
use Rattle.sheets_rules.proofs.TreeWritten.{same_said}
use Rattle.covers.proofs.Demands.{operation_alike}
use Rattle.map_rules.specs.Public.{Operated}
use Rattle.result_sheets.specs.Public.{Written}
use Rattle.text.specs.declared.Text.{Text}
use Rattle.text.specs.Inside.Promises.{Appended}
use Rattle.frame.specs.Framed as Framed
use Rattle.frame.specs.Framed.{spoiled, rest, refusal_line, outcome_text}
use Rattle.frame.proofs.Laws.{text_within, text_whole, at_front, front_is}
use Rattle.treecover_text.specs.Printed.{cover_text, text_answer, words_lent, map_shown, ShownAlike, longest_text, printed, printed_within}
use Rattle.treecover_text.specs.Demands.{TextDemands, PrintedWhereWhole}
use Rattle.treecover_text.specs.Inside.Rows.{cover_in, row_text, HaveRows}
use Rattle.treecover_text.proofs.Reading.{cover_rows, cover_read_lem, cover_short}

-- A sheet that reads as the text, which is short, after a library with this scan.
pub record Readable (l : Library) (q : Scan) (bytes text : List ℕ) : Type 0 where
  pub live : Live q
  pub read : Live (cover_read bytes start).1
  pub rows : HaveRows (library_laid l).rows (cover_in bytes).placed
  pub text_is : row_text (library_laid l).rows (cover_in bytes) ≡ text
  pub short : length text ≤ longest_text

-- An outcome, and its text.
data Shown (l : Library) (t : Tree) (q w : Scan) : Answer (List ℕ) → List ℕ → Type 0 where
  refusal : (n p : ℕ) → Shown l t q w (refused n p) (refusal_line n p)
  sheet : {c : Cover} → Live q → Live w → BestCover l t c → Shown l t q w (success (cover_sheet c)) (cover_text l c)

answer_shown : {l : Library} {t : Tree} {q w : Scan} {a : Answer Cover} → Live q → Live w → MapPromise capacity l t a → Shown l t q w (on_success cover_sheet a) (outcome_text (on_success (cover_text l) a))
unfolding on_success outcome_text
answer_shown live tree (too_many_lem {k = k} h) = refusal overfull_number k
answer_shown live tree (none_wanted a b) = refusal no_cover_number 0
answer_shown live tree (right a h) = sheet live tree h

-- The answer to two sheets as they were read.
abbrev with_sheets : (Library → Tree → Answer (List ℕ)) → Library × Scan → Tree × Scan → Answer (List ℕ)
with_sheets f x y = said library_number x >>= (λ l. said tree_number y >>= (λ t. f l t))

sheets_shown : (l : Library) (t : Tree) (q w : Scan) → Shown l t q w (with_sheets (map_answer capacity) (l, q) (t, w)) (outcome_text (with_sheets (text_answer capacity) (l, q) (t, w)))
unfolding said ◌>>=◌ map_answer text_answer outcome_text
sheets_shown l t (At c) (At d) = answer_shown tt tt (map_promise capacity l t)
sheets_shown l t (At c) (Refused e p) = refusal (tree_number e) p
sheets_shown l t (Refused e p) w = refusal (library_number e) p

-- What an answer that is told, and the output after it, say of the text.
abbrev pub Says : Library → Scan → List ℕ → Answer ℕ → List ℕ → Type 0
Says l q text (refused_in i n p) output = text ≡ refusal_line n p
Says l q text (success n) output = (n ≤ length output) × Readable l q (take n output) text

module _ (ls ts : List ℕ) where
  abbrev l : Library
  l = (library_of ls start).0

  abbrev t : Tree
  t = (tree_of ts start).0

  abbrev q : Scan
  q = (library_of ls start).1

  abbrev w : Scan
  w = (tree_of ts start).1

  back : {c : Cover} → Live q → Live w → RootCover l t c → CoverReads c (cover_sheet c)
  back live tree legal = cover_reads (cover_fits (library_limits ls live) (tree_limits ts tree) legal)

  readable : {c : Cover} → Live q → Live w → RootCover l t c → Readable l q (cover_sheet c) (cover_text l c)
  readable {c} live tree legal =
      let sound = library_limits ls live in
      let same : cover_in (cover_sheet c) ≡ c = ap (λ r. r.0) (back live tree legal).reads in
      record {
        live = live;
        read = subst (λ r. Live r.1) (sym (back live tree legal).reads) tt;
        rows = subst (λ (d : Cover). HaveRows (library_laid l).rows d.placed) (sym same) (cover_rows sound (tree_limits ts tree) legal);
        text_is = ap (row_text (library_laid l).rows) same ∙ cover_read_lem sound (tree_limits ts tree) legal;
        short = cover_short sound (tree_limits ts tree) legal;
      }

  told_says : {o : Answer (List ℕ)} {text : List ℕ} (output : List ℕ) → Shown l t q w o text → Says l q text (told o) (output_after o output)
  unfolding told on_success output_after
  told_says output (refusal n p) = refl
  told_says output (sheet {c = c} live tree h) =
      let b = cover_sheet c in
      (omega (arith, length-append b (drop (length b) output)), subst (λ (s : List ℕ). Readable l q s (cover_text l c)) (sym (take_at b (drop (length b) output) (length b) refl)) (readable live tree h.best.legal))

  abbrev outcome : Answer (List ℕ)
  outcome = map_outcome ls ts map_bytes words_lent

  shown : Shown l t q w outcome (outcome_text (map_shown ls ts))
  unfolding map_outcome map_shown operation lent allowed library_said tree_said ◌>>=◌
  shown = sheets_shown l t q w

  -- The same of map's reply.
  abbrev pub Replied : Answer ℕ → List ℕ → Type 0
  Replied = Says l q (outcome_text (map_shown ls ts))

  pub replied : {output output' work work' : List ℕ} {a : Answer ℕ} → Operated outcome output output' work work' a → Replied a output'
  replied {output} {output'} h =
      subst (λ (b : Answer ℕ). Replied b output') (sym h.told_is) (subst (λ (x : List ℕ). Replied (told outcome) x) (sym h.output_is) (told_says output shown))

  -- What the text is worth.
  demands : {o : Answer (List ℕ)} {text : List ℕ} → Shown l t q w o text → o ≡ outcome → TextDemands ls ts text
  demands (refusal n p) is = record {
    handed = λ bytes e. let z : ◌≡◌ {A = ℕ} 0 1 = cc in absurd (omega arith);
    not_handed = λ item number place e. let n-is : n ≡ number = cc in let p-is : p ≡ place = cc in rw (n-is, p-is);
  }
  demands (sheet {c = c} live tree h) is = record {
    handed = λ bytes e.
        let same : bytes ≡ cover_sheet c = cc in
        (l, t, c, (unfold library_said in read_said library_number (library_of ls start) live), (unfold tree_said in read_said tree_number (tree_of ts start) tree), refl, same, rw same (back live tree h.best.legal), h);
    not_handed = λ item number place e. let z : ◌≡◌ {A = ℕ} 0 1 = cc in absurd (omega arith);
  }

  pub text_demands : (text : List ℕ) → text ≡ outcome_text (map_shown ls ts) → TextDemands ls ts text
  text_demands text e = rw e (demands shown refl)

-- What is put into a text that was empty, in a slice with room, is what is to be written.
pub front_written : (room : ℕ) (input : List ℕ) {before after : List ℕ} {entry exit : Text} → longest_text ≤ room → entry.bytes.now ≡ before → entry.len ≡ 0 → Appended (printed input) entry exit → after ≡ exit.bytes.now → Written (printed_within room input) before after exit.len
unfolding printed_within
front_written room input h is none put left = rw (text_within longest_text room (printed input) h) (at_front is none put left)

-- What is written at the front of a text is worth what is demanded.
pub text_worth : (room : ℕ) (input : List ℕ) {entry exit : List ℕ} {r : ℕ} → Written (printed_within room input) entry exit r → PrintedWhereWhole room input (take r exit)
unfolding printed_within printed
text_worth room input h long whole = text_demands (Framed.sheet input 1 0) (rest input 1) _ (front_is h ∙ text_whole longest_text room (spoiled input 1 false) (map_shown (Framed.sheet input 1 0) (rest input 1)) long whole)

pub shown_alike : ShownAlike
unfolding map_shown
shown_alike ls ts ts' s = operation_alike map_bytes text_answer ls ts ts' map_bytes words_lent (same_said s)
