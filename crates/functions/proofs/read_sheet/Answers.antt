use native.Mathlib.Omega.{arith}
use mathlib.Core.Path.{sym, ap, subst, ◌∙◌}
use mathlib.Core.List.{List}
use Prim.Native.Nat.{ℕ, ◌*◌}
use lib.ListN.{length}
use Rattle.fields.specs.Reading.{At, Live, start, ended}
use Rattle.fields.specs.Inside.Promises.{Tells}
use Rattle.fields.proofs.Readers.{passed, from_start}
use Rattle.functions_rules.specs.FunctionSheet.{function_sheet}
use Rattle.functions.specs.Inside.Promises.{FieldsLaid}
use Rattle.functions.proofs.read_sheet.Goals as goal

pub returns-in_err-functions : goal.returns-in_err-functions
unfolding function_sheet
returns-in_err-functions c =
    let h = from_start c.args.s.now c.open-sheet.ensures c.in_err-functions.ensures in
    passed (Tells FieldsLaid (function_sheet c.args.s.now c.args.pins.now start) (64 * length c.args.pins.now)) _ c.from_residual.ensures.1 (record { says = ap (ended c.args.s.now) h.says; near = h.near })

pub returns-in_err-end : goal.returns-in_err-end
unfolding function_sheet
returns-in_err-end c =
    let s = c.args.s.now in
    let h = from_start s c.open-sheet.ensures c.in_ok-functions.ensures in
    let same = c.in_ok-functions.ensures.same ∙ c.open-sheet.ensures.bytes_are in
    let e = c.in_err-end.ensures in
    passed (Tells FieldsLaid (function_sheet s c.args.pins.now start) (64 * length c.args.pins.now)) _ c.from_residual-in_err-end.ensures.1 (record { says = ap (ended s) h.at ∙ ap (λ (t : List ℕ). ended t (At c.read_fields.new.sheet.at)) (sym same) ∙ e.0; near = omega (arith, e.1, h.near) })

pub returns : goal.returns
unfolding function_sheet
returns c =
    let s = c.args.s.now in
    let h = from_start s c.open-sheet.ensures c.in_ok-functions.ensures in
    let same = c.in_ok-functions.ensures.same ∙ c.open-sheet.ensures.bytes_are in
    record { live = subst Live (sym (ap (ended s) h.at ∙ ap (λ (t : List ℕ). ended t (At c.read_fields.new.sheet.at)) (sym same) ∙ c.in_ok-end.ensures)) tt; holds = h.holds }
