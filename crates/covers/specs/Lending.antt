-- What an operation is lent, an output and a work area, and what an outcome leaves in them.
use Rattle.std.specs.Prelude.{ℕ, Bool, cond, ◌&&◌, List, [], ◌∷◌, ◌++◌, leb, eqb, length, take, drop, replicate}
use Rattle.fields.specs.Answer.{Answer, refused, refused_in, success, on_success}
use Rattle.covers.specs.Lists.{any}
use Rattle.covers.specs.Capacity.{capacity, work_words, allowed}
use Rattle.covers.specs.Answer.{short_number, overfull_number, no_cover_number}

-- How many trade-offs a node may have. Lent too little (document 01's "short tray") is said at 0, before everything else.
unfoldable pub lent : (least output work : ℕ) → Answer ℕ
lent least output work = cond (leb least output && leb (work_words capacity) work) (success (allowed work)) (refused short_number 0)

-- What the caller is told of an outcome: a refusal, or how many bytes are handed over.
unfoldable pub told : Answer (List ℕ) → Answer ℕ
unfolding on_success
told = on_success length

-- The output after an outcome: what is handed over in its first bytes and later bytes as they were; a refusal leaves it as it was.
unfoldable pub output_after : Answer (List ℕ) → List ℕ → List ℕ
output_after (refused_in item number place) output = output
output_after (success s) output = s ++ drop (length s) output

-- The outcome as the caller sees it: what it is told, and the first bytes of the output.
unfoldable pub observed : Answer ℕ → List ℕ → Answer (List ℕ)
unfolding on_success
observed a output = on_success (λ n. take n output) a

-- The first n words are zero, and those beyond are as they were.
unfoldable pub cleared : ℕ → List ℕ → List ℕ
cleared n work = replicate n 0 ++ drop n work

-- The same of the words that the capacity takes which the work area allows.
unfoldable pub work_cleared : List ℕ → List ℕ
unfolding cleared
work_cleared work = cleared (work_words (allowed (length work))) work

-- Document 02: "43 is said for a linked arrival over 1,000,000", in mapping a tree of a part.
abbrev pub late_number : ℕ
late_number = 43

-- The refusals after which these words are zero: those that are said in mapping a tree.
unfoldable pub leaves_zero : ℕ → Bool
unfolding any
leaves_zero number = any (eqb number) (overfull_number ∷ no_cover_number ∷ late_number ∷ [])

-- The work area after an outcome: cleared after a success and after those refusals; others leave it as it was.
unfoldable pub work_after : Answer (List ℕ) → List ℕ → List ℕ
unfolding work_cleared leaves_zero
work_after (refused_in item number place) work = cond (leaves_zero number) (work_cleared work) work
work_after (success s) work = work_cleared work
