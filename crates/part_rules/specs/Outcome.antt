-- The whole outcome of mapping a part, from the bytes of a library and a part sheet and the lengths of what is lent.
use Rattle.std.specs.Prelude.{ℕ, ◌*◌, Bool, false, ltb, length}
use mathlib.Core.List.{List, [], ◌∷◌, ◌++◌, flat_map}
use Rattle.std.proofs.Math.Option.{Option, none, some}
use Rattle.fields.specs.Answer.{Answer, refused, success, in_item, ◌>>=◌, on_success}
use Rattle.sheets_rules.specs.Model.{Library, Tree}
use Rattle.sheets_rules.specs.Report.{library_said}
use Rattle.covers.specs.Lists.{first_such}
use Rattle.covers.specs.Cover.{Cover}
use Rattle.covers.specs.CoverSheet.{cover_sheet}
use Rattle.covers.specs.Answer.{mapped}
use Rattle.covers.specs.Lending.{lent, late_number}
use Rattle.covers.specs.Outcome.{map_bytes}
use Rattle.part_rules.specs.Part.{Link, Part, leaf_nodes, linked_arrival, known, known_tree}
use Rattle.part_rules.specs.PartSheet.{trees_most}
use Rattle.part_rules.specs.PartRead.{part}

-- "43 is said for a linked arrival over 1,000,000".
abbrev pub latest_linked : ℕ
latest_linked = 1000000

unfoldable pub is_late : Option ℕ → Bool
is_late none = false
is_late (some arrival) = ltb latest_linked arrival

-- "The lowest such leaf", where f says the arrivals that links bring.
unfoldable pub late_leaf : (ℕ → Option ℕ) → Tree → Option ℕ
unfolding first_such is_late leaf_nodes
late_leaf f t = first_such (λ n. is_late (f n)) (leaf_nodes 0 t.shape)

-- It is said "before its 7".
unfoldable pub after_late : {A : Type 0} → Option ℕ → Answer A → Answer A
after_late none a = a
after_late (some n) a = refused late_number n

-- A tree mapped with the arrivals that links bring.
unfoldable pub tree_mapped : ℕ → Library → (ℕ → Option ℕ) → Tree → Answer Cover
unfolding after_late late_leaf mapped known_tree
tree_mapped most l f t = after_late (late_leaf f t) (mapped most l (known_tree f t))

-- "Trees are mapped in number order": after the covers of the trees before, the number of the next tree is how many they are.
unfoldable pub covers_from : ℕ → Library → List Link → (before : List Cover) → List Tree → Answer (List Cover)
unfolding in_item tree_mapped linked_arrival ◌>>=◌
covers_from most l links before [] = success before
covers_from most l links before (t ∷ ts) = do
  c ← in_item (length before) (tree_mapped most l (known links before) t)
  covers_from most l links (before ++ (c ∷ [])) ts

-- "1 means a tray under 2,384 bytes or a short work area": room for the longest cover sheet of each of 16 trees.
abbrev pub part_bytes : ℕ
part_bytes = trees_most * map_bytes

-- "The tray receives the cover sheets in tree order, each filled to its byte, and only when every tree has been mapped."
unfoldable pub part_sheets : (most : ℕ) → Library → Part → Answer (List ℕ)
unfolding covers_from flat_map cover_sheet
part_sheets most l p = on_success (flat_map cover_sheet) (covers_from most l p.links [] p.trees)

-- In the paper's order.
unfoldable pub part_outcome : (ls ps : List ℕ) → (output work : ℕ) → Answer (List ℕ)
part_outcome ls ps output work = do
  most ← lent part_bytes output work
  l ← library_said ls
  p ← part ps
  part_sheets most l p
