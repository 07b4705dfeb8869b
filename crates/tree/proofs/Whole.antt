-- The tree sheet as it is read, and what the judge of trees says.
use mathlib.Core.Path.{◌≡◌, refl, sym, ap, subst, ◌∙◌}
use mathlib.Core.List.{List}
use Prim.Native.Nat.{ℕ, ◌≤◌}
use native.Mathlib.Nat.{zero-add}
use native.Mathlib.Omega.{arith}
use lib.ListN.{length, take, replicate, length-replicate}
use lib.Seq.{length-sets}
use mathlib.Core.Bool.{Bool, true}
use Rattle.std.specs.Prelude.{Result, Ok, Err}
use Rattle.bits.specs.declared.Cursor.{Cursor}
use Rattle.fields.specs.declared.Flaw.{Flaw}
use Rattle.fields.specs.Answer.{success, on_success, said, Bounded}
use Rattle.fields.specs.Reading.{Scan, At, Refused, start, Live}
use Rattle.fields.specs.Inside.Promises.{Took, Flawed}
use Rattle.fields.proofs.Lists.{take_sets}
use Rattle.fields.proofs.Readers.{Keeps}
use Rattle.shapes.specs.Inside.Promises.{Preorder}
use Rattle.shapes_rules.specs.Shape.{symbols}
use Rattle.shapes_rules.specs.Drawing.{leaf_node, branch, node, shape}
use Rattle.shapes_rules.proofs.Drawing.{length_symbols}
use Rattle.sheets_rules.specs.TreeSheet.{tree_rules, tree_to, tree}
use Rattle.sheets_rules.specs.Reach.{tree_bits}
use Rattle.sheets_rules.specs.Report.{TreeLimits, tree_number, tree_said, tree_report, of_tree_judged}
use Rattle.sheets_rules.specs.declared.Reason.TheVariants.{Tree as TreeFault}
use Rattle.sheets_rules.specs.declared.Refusal.{Refusal}
use Rattle.sheets_rules.specs.Inside.Readers.{TreeIs}
use Rattle.sheets_rules.specs.Inside.Sound.{SoundTree, TreeStored}
use Rattle.sheets_rules.specs.Model.{Tree, size}
use Rattle.tree.specs.declared.TreeHead.{TreeHead}
use Rattle.tree.specs.Inside.Promises.{HeadIs}
use Rattle.sheets_rules.proofs.Report.{number_bounds, tree_number_fits, tree_refusal}
use Rattle.sheets_rules.proofs.Results.{refused_says}
use Rattle.sheets_rules.proofs.Sound.{tree_limits_to}

-- A refused scan stays refused through the nodes.
pub shape_keeps : (s : List ℕ) → Keeps (shape s tree_rules)
unfolding shape node branch leaf_node
shape_keeps s f p = refl

-- A tree that was read is sound, and its symbols are those of a shape.
module _ (last : Bool) (s : List ℕ) {after : Cursor} {l' : List ℕ} {r : TreeHead} (h : Took (HeadIs l') (tree_to last s start) tree_bits after r) where
  abbrev pub t : Tree
  t = (tree_to last s start).0

  pub sound : SoundTree t
  sound = tree_limits_to last s (subst Live (sym h.at) tt)

  pub few : r.count ≤ 64
  few = omega (arith, h.holds.counted, sound.size)

  pub drawn : take r.count l' ≡ symbols t.shape
  drawn =
      let many : r.count ≡ length (symbols t.shape) = h.holds.counted ∙ sym (length_symbols t.shape) in
      rw (many, h.holds.laid) (rw zero-add at (take_sets (replicate 64 0) 0 (symbols t.shape) (omega (arith, many, few, length-replicate {A = ℕ} 64 0))))

  pub preorder : Preorder r.count l'
  preorder = record { many = omega (arith, few, ap length h.holds.laid, length-sets (replicate 64 0) 0 (symbols t.shape), length-replicate {A = ℕ} 64 0); shape = t.shape; laid = drawn }

-- ---- what the judge says

abbrev pub Judged : List ℕ → Result ℕ Refusal → Type 0
Judged s j = (of_tree_judged j ≡ tree_report s) × (Bounded (of_tree_judged j) × TreeLimits (of_tree_judged j))

-- A tree's refusal.
abbrev pub refused_with : Flaw → Refusal
refused_with e = record { item = 0; reason = TreeFault e.fault; place = e.place }

module _ (s : List ℕ) where
  report : (q : Scan) → (tree s start).1 ≡ q → on_success (λ (t : Tree). size t.shape) (said tree_number ((tree s start).0, q)) ≡ tree_report s
  unfolding tree_report tree_said
  report q e = ap (λ (z : Scan). on_success (λ (t : Tree). size t.shape) (said tree_number ((tree s start).0, z))) (sym e)

  pub tree_judged : {after : Cursor} {l' : List ℕ} {r : TreeHead} → Took (HeadIs l') (tree s start) tree_bits after r → Judged s (Ok r.count)
  unfolding of_tree_judged Bounded TreeLimits on_success said
  tree_judged {after} h = (ap success h.holds.counted ∙ report (At after) h.at, (omega (arith, few true s h), few true s h))

  pub tree_flawed : {e : Flaw} → Flawed (tree s start) tree_bits e → Judged s (Err (refused_with e))
  unfolding of_tree_judged tree_number Bounded TreeLimits on_success said
  tree_flawed {e} h = (report (Refused e.fault e.place) h.says, (omega (arith, h.near, number_bounds e.fault), (tree_refusal s true h.says, omega (arith, h.near))))

  pub tree_refused : {e : Flaw} → Flawed (tree s start) tree_bits e → TreeIs s (Err (refused_with e))
  unfolding tree_said
  tree_refused {e} h = refused_says TreeStored tree_number (tree s start) (refused_with e) h.says refl refl (tree_number_fits e.fault) (omega (arith, h.near))
