-- What replies say, as examples: a refusal in a tree of a part, one that is about no tree, and sheets.
use Rattle.std.specs.Prelude.{ℕ, ◌≡◌, List, [], ◌∷◌, map, Result, Ok, Err}
use Rattle.fields.specs.Answer.{refused_in, refused, success}
use Rattle.fields.specs.declared.Fault.TheVariants.{Truncated}
use Rattle.sheets_rules.specs.declared.Reason.TheVariants.{Library, Overfull}
use Rattle.sheets_rules.specs.declared.Refusal.{Refusal}
use Rattle.map_rules.specs.Public.{of_reply, AboutNone}

abbrev replies : List (Result ℕ Refusal)
replies = Err (record { item = 3; reason = Overfull; place = 12 }) ∷ Err (record { item = 0; reason = Library Truncated; place = 88 }) ∷ Ok 149 ∷ []

abbrev pub Replies : Type 0
Replies = map of_reply replies ≡ refused_in 3 7 12 ∷ refused 2 88 ∷ success 149 ∷ []

-- The first is about an item.
abbrev pub SomeItem : Type 0
SomeItem = AboutNone {A = ℕ} (refused_in 3 7 12) → ⊥
