-- What the core found, as an answer.
use Rattle.std.specs.Prelude.{ℕ, List, Result, Ok, Err}
use Rattle.fields.specs.Answer.{Answer, success}
use Rattle.sheets_rules.specs.declared.Reason.TheVariants.{Overfull, NoCover}
use Rattle.sheets_rules.specs.declared.Refusal.{Refusal}
use Rattle.sheets_rules.specs.Report.{refusal}
use Rattle.covers.specs.Cover.{Point, Cover}
use Rattle.result_sheets.specs.declared.CoverRecord.{CoverRecord}
use Rattle.result_sheets.specs.Public.{cover_of}
use Rattle.result_sheets.specs.Inside.Promises.{points_of}

-- Each case of the result: what was found, or the refusal.
abbrev pub of_mapped : Result CoverRecord Refusal → Answer Cover
of_mapped (Ok cover) = success (cover_of cover)
of_mapped (Err q) = refusal q

-- The points are in the work area.
abbrev pub of_listed : List ℕ → Result ℕ Refusal → Answer (List Point)
of_listed work (Ok count) = success (points_of count work)
of_listed work (Err q) = refusal q

-- The core's two refusals: a node with too many trade-offs, and no cover.
abbrev pub overfull_at : ℕ → Refusal
overfull_at n = record { item = 0; reason = Overfull; place = n }

abbrev pub no_cover : Refusal
no_cover = record { item = 0; reason = NoCover; place = 0 }
