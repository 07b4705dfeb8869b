-- Laws about inputs and the texts that answer them.
use Prim.Native.Nat.{ℕ, zero, suc, ◌+◌, ◌-◌, ◌*◌, ◌≤◌, ◌<◌, ◌^◌}
use mathlib.Core.Path.{◌≡◌, refl, sym, ap, ap₂, ◌∙◌}
use mathlib.Core.Bool.{Bool, true, false, ◌&&◌, ◌||◌}
use mathlib.Core.List.{List, [], ◌∷◌, ◌++◌}
use native.Mathlib.Nat.{add-zero, add-suc, le_refl}
use native.Mathlib.Numerals.{add-one}
use native.Mathlib.Omega.{arith}
use lib.Dec.{ltb}
use lib.ListN.{take-append-drop, length, take, drop, get_or, length-append, length-drop}
use lib.Seq.{take_at, length-take-le, get_or-take, get_or-drop, drop-drop}
use borrow.Author.Tests.{le-leb, lt-leb, lt-ltb, le-ltb}
use Rattle.io.specs.Counts.{IsPrefixLen}
use Rattle.fields.specs.Answer.{Answer}
use Rattle.result_sheets.specs.Public.{Written}
use Rattle.text.specs.declared.Text.{Text}
use Rattle.text.specs.Text.{decimal, spaced}
use Rattle.text.specs.Inside.Promises.{Appended}
use Rattle.text.proofs.Laws.{length_line, length_last, decimal_fits}
use Rattle.frame.specs.declared.Sheets.{Sheets}
use Rattle.frame.specs.Inside.Promises.{IsSpoiled, Taken}
use Rattle.frame.specs.Framed.{input_limit, stated_length, sheet_at, sheet, rest, spoiled, refused_word, refusal_line, outcome_text, framed, within}

-- ---- lines

pub refusal_length : (n p : ℕ) → length (refusal_line n p) ≡ 7 + length (spaced (decimal n ∷ decimal p ∷ []))
unfolding refusal_line
refusal_length n p = length_line refused_word (decimal n ∷ decimal p ∷ [])

-- Any number of 32 bits and any place of 64 take no more than this.
pub refusal_short : (n p : ℕ) → n < 2 ^ 32 → p < 2 ^ 64 → length (refusal_line n p) ≤ 40
refusal_short n p h g = omega (arith, refusal_length n p, length_last (decimal n) (decimal p), decimal_fits 9 n (omega arith), decimal_fits 19 p (omega arith))

-- ---- an input

module _ (input : List ℕ) (lengths : ℕ) where
  abbrev end : ℕ
  end = sheet_at input lengths lengths

  places_rise : (k j : ℕ) → sheet_at input lengths k ≤ sheet_at input lengths (k + j)
  unfolding sheet_at
  places_rise k zero = rw add-zero (le_refl (sheet_at input lengths k))
  places_rise k (suc j) = rw add-suc (omega (arith, places_rise k j))

  -- An input that lacks lengths, is too long, or ends before its sheets do.
  pub spoiled_lacking : length input < 2 * lengths → IsSpoiled input lengths
  unfolding spoiled
  spoiled_lacking h exact = rw (lt-ltb (length input) (2 * lengths) h)

  pub spoiled_long : input_limit < length input → IsSpoiled input lengths
  unfolding spoiled
  spoiled_long h exact = rw (lt-ltb input_limit (length input) h) (go (ltb (length input) (2 * lengths)))
    where
      go : (a : Bool) → (a || true || ltb (length input) end || (exact && ltb end (length input))) ≡ true
      go true = refl
      go false = refl

  pub spoiled_short : length input < end → IsSpoiled input lengths
  unfolding spoiled
  spoiled_short h exact = rw (lt-ltb (length input) end h) (go (ltb (length input) (2 * lengths)) (ltb input_limit (length input)))
    where
      go : (a b : Bool) → (a || b || true || (exact && ltb end (length input))) ≡ true
      go true b = refl
      go false true = refl
      go false false = refl

  -- No sheet is taken yet.
  pub taken_none : {r : Sheets} → 2 * lengths ≤ length input → length input ≤ input_limit → r.lengths.now ≡ take (2 * lengths) input → r.bytes.now ≡ drop (2 * lengths) input → Taken input lengths 0 r
  unfolding sheet_at
  taken_none h g e f = record { lengths_in = h; in_limit = g; sheets_in = h; lengths_left = e; bytes_left = f }

  module _ {k : ℕ} {left : Sheets} (below : k < lengths) (h : Taken input lengths k left) where
    -- The next length, at the front of those that are left.
    pub length_next : (pair : List ℕ) → pair ≡ take 2 left.lengths.now → 256 * get_or pair 0 0 + get_or pair 1 0 ≡ stated_length input k
    unfolding stated_length
    length_next pair e = ap₂ (λ (a b : ℕ). 256 * a + b) (rw add-zero at (at 0 (omega arith))) (at 1 (omega arith))
      where
        at : (j : ℕ) → j < 2 → get_or pair j 0 ≡ get_or input (2 * k + j) 0
        at j l =
            ap (λ (s : List ℕ). get_or s j 0) (e ∙ ap (take 2) h.lengths_left)
            ∙ get_or-take 2 (drop (2 * k) (take (2 * lengths) input)) j 0 l
            ∙ get_or-drop (2 * k) (take (2 * lengths) input) j 0
            ∙ get_or-take (2 * lengths) input (2 * k + j) 0 (omega arith)

    module _ {n : ℕ} (e : n ≡ stated_length input k) where
      pub sheet_missing : length left.bytes.now < n → IsSpoiled input lengths
      unfolding sheet_at
      sheet_missing less =
          let up : suc k + (lengths - suc k) ≡ lengths = omega arith in
          spoiled_short (omega (arith, less, e, h.sheets_in, ap length h.bytes_left, length-drop (sheet_at input lengths k) input, places_rise (suc k) (lengths - suc k), ap (sheet_at input lengths) up))

      pub sheet_is : take n left.bytes.now ≡ sheet input lengths k
      unfolding sheet
      sheet_is = ap₂ take e h.bytes_left

      pub taken_more : {r : Sheets} → n ≤ length left.bytes.now → r.lengths.now ≡ drop 2 left.lengths.now → r.bytes.now ≡ drop n left.bytes.now → Taken input lengths (k + 1) r
      unfolding sheet_at
      taken_more l f g =
          let next : sheet_at input lengths (k + 1) ≡ sheet_at input lengths k + n = rw (add-one, e) in
          record {
            lengths_in = h.lengths_in;
            in_limit = h.in_limit;
            sheets_in = omega (arith, next, l, h.sheets_in, ap length h.bytes_left, length-drop (sheet_at input lengths k) input);
            lengths_left = f ∙ ap (drop 2) h.lengths_left ∙ drop-drop 2 (2 * k) (take (2 * lengths) input) ∙ ap (λ (i : ℕ). drop i (take (2 * lengths) input)) (omega arith);
            bytes_left = g ∙ ap (drop n) h.bytes_left ∙ drop-drop n (sheet_at input lengths k) input ∙ ap (λ (i : ℕ). drop i input) (sym next);
          }

  -- All sheets are taken: the input is spoiled only by bytes that are left over and may not be.
  module _ {left : Sheets} (h : Taken input lengths lengths left) where
    pub rest_is : left.bytes.now ≡ rest input lengths
    unfolding rest
    rest_is = h.bytes_left

    spoiled_by_rest : (exact : Bool) → spoiled input lengths exact ≡ (exact && ltb end (length input))
    unfolding spoiled
    spoiled_by_rest exact = rw (le-ltb (length input) (2 * lengths) h.lengths_in, le-ltb input_limit (length input) h.in_limit, le-ltb (length input) end h.sheets_in)

    pub not_spoiled : spoiled input lengths false ≡ false
    not_spoiled = spoiled_by_rest false

    pub not_spoiled_exact : length left.bytes.now ≡ 0 → spoiled input lengths true ≡ false
    not_spoiled_exact e = spoiled_by_rest true ∙ le-ltb end (length input) (omega (arith, ap length h.bytes_left, length-drop end input))

    pub left_over : 0 < length left.bytes.now → spoiled input lengths true ≡ true
    left_over l = spoiled_by_rest true ∙ lt-ltb end (length input) (omega (arith, ap length h.bytes_left, length-drop end input))

-- ---- the text for an input

-- What is put into a text that is lent `room` bytes.
pub text_within : (longest room : ℕ) (text : List ℕ) → longest ≤ room → within longest room text ≡ text
unfolding within
text_within longest room text h = rw (le-leb longest room h)

module _ (longest room : ℕ) (is_spoiled : Bool) (answer : Answer (List ℕ)) where
  pub text_none : room < longest → within longest room (framed is_spoiled answer) ≡ []
  unfolding within
  text_none h = rw (lt-leb longest room h)

  pub text_whole : longest ≤ room → is_spoiled ≡ false → within longest room (framed is_spoiled answer) ≡ outcome_text answer
  unfolding within framed
  text_whole h e = rw (le-leb longest room h, e)

-- What is put into a text that was empty stands at the front of its slice, which is lent with `before` in it and is left with `after`; and its front can be lent.
pub at_front : {words before after : List ℕ} {entry exit : Text} → entry.bytes.now ≡ before → entry.len ≡ 0 → Appended words entry exit → after ≡ exit.bytes.now → Written words before after exit.len
at_front {words} {before} {after} {entry} {exit} is none h left =
    let long : exit.len ≡ length words = omega (arith, h.len) in
    record {
      bytes = long;
      output = left ∙ sym (take-append-drop exit.len exit.bytes.now) ∙ ap₂ (λ (a b : List ℕ). a ++ b) (h.text ∙ ap (λ (k : ℕ). take k entry.bytes.now ++ words) none) (h.rest ∙ ap₂ drop long is);
    }

pub counted : {words entry exit : List ℕ} {r : ℕ} → Written words entry exit r → Written words entry exit r × IsPrefixLen r exit
counted {words} {entry} {exit} {r} h =
    let fits : r ≤ length exit = omega (arith, h.bytes, ap length h.output, length-append words (drop (length words) entry)) in
    (h, (fits, sym (length-take-le r exit fits)))

pub front_is : {words entry exit : List ℕ} {r : ℕ} → Written words entry exit r → take r exit ≡ words
front_is {words} {entry} {r = r} h = ap (take r) h.output ∙ take_at words (drop (length words) entry) r (sym h.bytes)
