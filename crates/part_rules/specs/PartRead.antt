-- A whole part sheet: the counts and links, then the trees in order, then the links against the trees.
use Rattle.std.specs.Prelude.{ℕ, zero, suc, Bool, true, false, cond, ◌&&◌, List, [], ◌∷◌, ◌++◌, eqb, ltb, length, drop}
use Rattle.std.proofs.Math.Option.{Option, none, some}
use Rattle.std.proofs.Math.ListN.{get_elem?}
use Rattle.bits.specs.Bits.{place_of, bytes_to}
use Rattle.fields.specs.declared.Fault.{Fault}
use Rattle.fields.specs.Reading.{Scan}
use Rattle.fields.specs.Reading.{At, Refused}
use Rattle.fields.specs.Reading.{start}
use Rattle.fields.specs.Answer.{Answer, refused, success, in_item, ◌>>=◌}
use Rattle.sheets_rules.specs.Model.{Tree}
use Rattle.sheets_rules.specs.TreeSheet.{tree_to}
use Rattle.sheets_rules.specs.Report.{tree_number}
use Rattle.covers.specs.Lists.{any}
use Rattle.part_rules.specs.Part.{Link, Part, leaf_nodes, driver_of}
use Rattle.part_rules.specs.PartSheet.{leaf_field, counts}

-- "41 for a torn, out-of-range or loose field of the counts and links", and "for a leaf field that names no leaf or a leaf already linked"; "42 for a driver that is not lower".
abbrev pub link_number : ℕ
link_number = 41

abbrev pub driver_number : ℕ
driver_number = 42

-- What was read and how many bytes it takes up, or the number and the place of its fault.
unfoldable pub sheet_read : {A : Type 0} → (Fault → ℕ) → A × Scan → Answer (A × ℕ)
sheet_read number (a, At c) = success (a, bytes_to (place_of c))
sheet_read number (a, Refused f p) = refused (number f) p

-- "The trees follow in order, each sheet ended by its own tail": after those before, `count` of them, each from its own first byte on.
unfoldable pub trees_from : (before : List Tree) → ℕ → List ℕ → Answer (List Tree)
unfolding in_item sheet_read ◌>>=◌
trees_from before zero s = success before
trees_from before (suc left) s = do
  x ← in_item (length before) (sheet_read tree_number (tree_to (eqb left 0) s start))
  trees_from (before ++ (x.0 ∷ [])) left (drop x.1 s)

-- A node is a leaf of its tree, and none of the links before takes it.
unfoldable pub is_leaf_of : Option Tree → ℕ → Bool
unfolding any leaf_nodes
is_leaf_of none n = false
is_leaf_of (some t) n = any (eqb n) (leaf_nodes 0 t.shape)

unfoldable pub is_free : Option ℕ → Bool
is_free none = true
is_free (some driver) = false

-- One link, after those before it: its leaf field, then its driver.
unfoldable pub link_judged : List Tree → (before : List Link) → Link → Answer (List Link)
unfolding is_leaf_of is_free driver_of
link_judged trees before x =
    cond (is_leaf_of (get_elem? trees x.reading) x.node && is_free (driver_of before x.reading x.node))
    (cond (ltb x.driving x.reading) (success (before ++ (x ∷ []))) (refused driver_number (length before)))
    (refused link_number (leaf_field (length before)))

-- "Link by link".
unfoldable pub links_judged : List Tree → (before : List Link) → List Link → Answer (List Link)
unfolding link_judged ◌>>=◌
links_judged trees before [] = success before
links_judged trees before (x ∷ xs) = do
  links ← (link_judged trees before x)
  links_judged trees links xs

-- What follows the counts and the links: `count` trees, and then these links against them.
unfoldable pub after_counts : ℕ → List Link → List ℕ → Answer Part
unfolding trees_from links_judged ◌>>=◌
after_counts count links s = do
  trees ← trees_from [] count s
  judged ← links_judged trees [] links
  success (record { trees = trees; links = judged })

-- The whole sheet.
unfoldable pub part : List ℕ → Answer Part
unfolding sheet_read after_counts ◌>>=◌
part s = do
  head ← (sheet_read (λ f. link_number) (counts s start))
  after_counts head.0.trees head.0.links (drop head.1 s)
