-- The whole answer of map and of list for a sound library and a sound tree.
use Rattle.std.specs.Prelude.{ℕ, List, [], ◌∷◌}
use Rattle.std.proofs.Math.Option.{Option, none, some}
use Rattle.fields.specs.Answer.{Answer, refused, success, on_success}
use Rattle.sheets_rules.specs.Model.{Library, Tree}
use Rattle.covers.specs.Cover.{Point, Cover}
use Rattle.covers.specs.Tradeoff.{tradeoffs, overfull_node}
use Rattle.covers.specs.Choice.{choice}
use Rattle.covers.specs.CoverSheet.{cover_sheet, list_sheet}

-- Document 01's numbers that are not a sheet's: "short tray", "crowded" and "no cover".
abbrev pub short_number : ℕ
short_number = 1

abbrev pub overfull_number : ℕ
overfull_number = 7

abbrev pub no_cover_number : ℕ
no_cover_number = 8

-- Overfull, at the node, comes before no cover, at 0.
unfoldable pub answered : {A : Type 0} → Option ℕ → Option A → Answer A
answered (some n) a = refused overfull_number n
answered none none = refused no_cover_number 0
answered none (some a) = success a

-- The cover that map hands over, where a node may have `most` trade-offs under a load.
unfoldable pub mapped : ℕ → Library → Tree → Answer Cover
unfolding answered overfull_node choice
mapped most l t = answered (overfull_node most l t) (choice l t.load 0 t.shape t.required)

-- A list with something in it.
unfoldable pub nonempty : {A : Type 0} → List A → Option (List A)
nonempty [] = none
nonempty (a ∷ rest) = some (a ∷ rest)

-- The root's trade-offs, earliest first, whatever the required time.
unfoldable pub listed : ℕ → Library → Tree → Answer (List Point)
unfolding answered overfull_node tradeoffs nonempty
listed most l t = answered (overfull_node most l t) (nonempty (tradeoffs l t.load 0 t.shape))

-- Map's answer with the cover sheet's bytes.
unfoldable pub map_answer : ℕ → Library → Tree → Answer (List ℕ)
unfolding on_success mapped cover_sheet
map_answer most l t = on_success cover_sheet (mapped most l t)

-- List's answer with the list sheet's bytes.
unfoldable pub list_answer : ℕ → Library → Tree → Answer (List ℕ)
unfolding on_success listed list_sheet
list_answer most l t = on_success list_sheet (listed most l t)
