-- How many trade-offs a node may have under a load, and the work words that this takes. Nothing else says either number.
use Rattle.std.specs.Prelude.{ℕ, ◌+◌, ◌*◌}

-- The least that is allowed; more are too many: document 01's "crowded".
abbrev pub capacity : ℕ
capacity = 31

-- For each of 64 nodes under each of 4 loads as many points, and a word after them: 8,192 words for 31.
abbrev pub work_words : ℕ → ℕ
work_words most = 256 * (most + 1)

-- What a work area of so many words allows.
unfoldable pub allowed : (work : ℕ) → ℕ
allowed work = capacity
