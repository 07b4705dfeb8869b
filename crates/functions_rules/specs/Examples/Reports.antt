-- What the judge of functions answers, as examples: each number with its place, and a sound sheet.
use Rattle.std.specs.Prelude.{ℕ, ◌≡◌, List, [], ◌∷◌, ◌++◌, map}
use Rattle.fields.specs.Answer.{refused, success}
use Rattle.sheets_rules.specs.Report.{LibraryCounts}
use Rattle.sheets_rules.specs.Examples.Reports.{Row, pin_leaf, INV, NAND, cell, library_of}
use Rattle.functions_rules.specs.Report.{functions_report}

-- Cell 0: an inverter, drawn as one and as three. Cell 1: a NAND of three. Their fields are 10 and 11111110.
abbrev sheet : List ℕ
sheet = library_of 2 (cell 1 2 (INV ++ pin_leaf 0 ++ INV ++ INV ++ INV ++ pin_leaf 0) ++ cell 3 1 (NAND ++ pin_leaf 0 ++ INV ++ NAND ++ pin_leaf 1 ++ pin_leaf 2))

abbrev faulty : List ℕ → (number place : ℕ) → Row LibraryCounts
faulty s number place = record { sheet = s; answer = refused number place }

abbrev pub rows : List (Row LibraryCounts)
rows =
    record { sheet = 0xbf ∷ 0x80 ∷ []; answer = success (record { cells = 2; patterns = 3 }) }
    ∷ faulty [] 31 0  -- no byte
    ∷ faulty (0xbf ∷ []) 31 2  -- ends inside cell 1's field
    ∷ faulty (0xbf ∷ 0x81 ∷ []) 32 10  -- a set bit in the last byte's rest,
    ∷ faulty (0xbf ∷ 0x80 ∷ 0x00 ∷ []) 32 10  -- and a byte more
    ∷ faulty (0x3f ∷ 0x80 ∷ []) 33 0  -- an inverter's field 00: the first of two drawings
    ∷ faulty (0xbf ∷ 0xc0 ∷ []) 33 2  -- a NAND's field all ones: pattern 2, of cell 1
    ∷ faulty (0x00 ∷ []) 31 2  -- the whole sheet before any drawing
    ∷ faulty (0x00 ∷ 0x01 ∷ []) 32 10
    ∷ []

abbrev pub Reports : Type 0
Reports = map (λ r. functions_report sheet r.sheet) rows ≡ map (λ r. r.answer) rows
