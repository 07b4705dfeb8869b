-- Whole outcomes of parts as examples, from the bytes of both sheets and what is lent: sheets handed over, which refusal is said first, and what the work area is then.
use Rattle.std.specs.Prelude.{ℕ, ◌≡◌, List, [], ◌∷◌, ◌++◌, map, replicate}
use Rattle.fields.specs.Answer.{Answer, refused, refused_in, success}
use Rattle.covers.specs.Lending.{work_after}
use Rattle.covers.specs.Examples.Reached.{library_sheet}
use Rattle.part_rules.specs.Examples.Linked.{head, first, second}
use Rattle.part_rules.specs.Outcome.{part_outcome}
use Rattle.part_rules.specs.DriveZero.{IsHead}

-- Inverters under root load 1, in time: required time 16,777,215. By the codes, arrivals and drives of their leaves: plain at 0, plain at 1,000,000, plain at 100, driven at 100 with drive 0.
abbrev inverter : List ℕ → List ℕ
inverter rest = 0x01 ∷ 0xff ∷ 0xff ∷ 0xff ∷ rest

abbrev prompt : List ℕ
prompt = inverter (0x40 ∷ 0x00 ∷ 0x00 ∷ [])

abbrev latest : List ℕ
latest = inverter (0x4f ∷ 0x42 ∷ 0x40 ∷ [])

abbrev plain : List ℕ
plain = inverter (0x40 ∷ 0x00 ∷ 0x64 ∷ [])

abbrev undriven : List ℕ
undriven = inverter (0x70 ∷ 0x00 ∷ 0x64 ∷ 0x00 ∷ [])

-- The cover sheets of two: area 65,535, arrivals 65,790 and 131,580, one match, of pattern 0 at node 0.
abbrev sheets : List ℕ
sheets =
    0x03 ∷ 0xff ∷ 0xfc ∷ 0x04 ∷ 0x03 ∷ 0xf8 ∷ 0x10 ∷ 0x00 ∷ 0x00
    ∷ 0x03 ∷ 0xff ∷ 0xfc ∷ 0x08 ∷ 0x07 ∷ 0xf0 ∷ 0x10 ∷ 0x00 ∷ 0x00
    ∷ []

-- Two sheets, how many bytes and words are lent, and the outcome.
pub record Example : Type 0 where
  pub library : List ℕ
  pub part : List ℕ
  pub output : ℕ
  pub work : ℕ
  pub result : Answer (List ℕ)

abbrev row : (ls ps : List ℕ) → (output work : ℕ) → Answer (List ℕ) → Example
row ls ps output work r = record { library = ls; part = ps; output = output; work = work; result = r }

abbrev pub outcomes : List Example
outcomes =
    row [] [] 2_383 8_192 (refused 1 0)  -- a short output, before the library,
    ∷ row [] [] 2_384 8_191 (refused 1 0)  -- a short work area,
    ∷ row [] [] 2_384 8_192 (refused 2 0)  -- and neither: the library, before the part
    ∷ row library_sheet [] 2_383 8_192 (refused 1 0)
    ∷ row library_sheet [] 2_384 8_192 (refused 41 0)
    ∷ row library_sheet (head ++ prompt ++ plain) 2_384 8_192 (success sheets)  -- tree 1 from 65,790 on, in place of 100
    ∷ row library_sheet (head ++ prompt ++ undriven) 2_384 8_192 (success sheets)  -- the same with drive 0
    ∷ row library_sheet (head ++ first ++ second) 2_384 8_192 (refused_in 0 8 0)  -- no cover of tree 0 is in time
    ∷ row library_sheet (head ++ latest ++ second) 2_384 8_192 (refused_in 1 43 1)  -- tree 0 brings tree 1 an arrival over 1,000,000
    ∷ []

abbrev outcome : Example → Answer (List ℕ)
outcome r = part_outcome r.library r.part r.output r.work

abbrev pub Outcomes : Type 0
Outcomes = map outcome outcomes ≡ map (λ (r : Example). r.result) outcomes

-- A part, and what its outcome leaves in a work area of a word more than is needed, all of whose words are 1.
abbrev ones : List ℕ
ones = replicate 8_193 1

abbrev after : List ℕ → List ℕ
after ps = work_after (part_outcome library_sheet ps 2_384 8_193) ones

pub record Leaves : Type 0 where
  -- 43 "too leaves the first 8,192 work words zero", as 8 does;
  pub after_43 : after (head ++ latest ++ second) ≡ replicate 8_192 0 ++ (1 ∷ [])
  pub after_8 : after (head ++ first ++ second) ≡ replicate 8_192 0 ++ (1 ∷ [])
  -- a refusal of the part sheet leaves them as they were.
  pub after_41 : after [] ≡ ones

-- The bytes of counts and links that precede trees here.
abbrev pub Heads : Type 0
Heads = IsHead head 2
