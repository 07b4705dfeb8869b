-- How the matches of a node are kept: a hit for each, in the order of pattern numbers and then of crossing numbers.
use Rattle.std.specs.Prelude.{ℕ, replicate}
use Rattle.covers.specs.Match.{Match}
use Rattle.overlay.specs.Inside.Promises.{blank_input, inputs_of}
use Rattle.matching.specs.declared.Hit.{Hit}

-- A node may have a match for each of 32 crossings of 128 patterns.
abbrev pub match_most : ℕ
match_most = 4096

-- What stands where there is no hit.
abbrev pub no_hit : Hit
no_hit = record { pattern = 0; crossing = 0; inputs = record { count = 0; list = replicate 6 blank_input } }

-- The hit of a match. All else is read from the pattern's row.
unfoldable pub hit_of : Match → Hit
hit_of m = record { pattern = m.number; crossing = m.crossing; inputs = inputs_of m.inputs }
