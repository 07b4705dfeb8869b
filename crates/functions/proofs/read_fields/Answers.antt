use native.Mathlib.Omega.{arith}
use Prim.Native.Nat.{ℕ, ◌^◌, ◌-◌, ◌*◌}
use mathlib.Core.Path.{◌≡◌, refl, sym, ap, subst, ◌∙◌}
use mathlib.Core.List.{List, [], ◌∷◌}
use lib.ListN.{get_or, set, length, length-append}
use Rattle.std.specs.Prelude.{Result, Ok}
use Rattle.fields.specs.declared.Flaw.{Flaw}
use Rattle.fields.specs.declared.Sheet.{Sheet}
use Rattle.fields.specs.Reading.{At, field, free, times}
use Rattle.fields.specs.Inside.Promises.{Reads, UpTo}
use Rattle.fields.proofs.Laws.{length_times}
use Rattle.fields.proofs.Readers.{stopped, none_yet, one_more, one_stops}
use Rattle.sheets_rules.proofs.Laid.{padded_more}
use Rattle.functions_rules.specs.Function.{settings}
use Rattle.functions_rules.specs.FunctionSheet.{function}
use Rattle.functions.specs.Inside.Promises.{FieldsLaid}
use Rattle.functions.proofs.read_fields.Goals as goal

-- The next cell's field, whose width its pin count gives.
function_read : (pins : List ℕ) (k w count : ℕ) (old : Sheet) {mid new : Sheet} {r : Result ℕ Flaw} → w ≡ settings count → count ≡ get_or pins k 0 →
    Reads mid new (λ s. field s w free) (UpTo (2 ^ w - 1)) w r →
    Reads mid new (λ s. function s pins (times k (function old.bytes.now pins) (At old.at)).0) (UpTo (2 ^ w - 1)) w r
unfolding function
function_read pins k w count old {mid} {new} {r} e f h =
    let width : w ≡ settings (get_or pins (length (times k (function old.bytes.now pins) (At old.at)).0) 0) =
    e ∙ ap settings (f ∙ ap (λ (j : ℕ). get_or pins j 0) (sym (length_times k (function old.bytes.now pins) (At old.at)))) in
    subst (λ (n : ℕ). Reads mid new (λ s. field s n free) (UpTo (2 ^ w - 1)) w r) width h

pub loop-k-init : goal.loop-k-init
loop-k-init c = none_yet (λ s. function s c.args.pins.now) c.args.sheet.now (refl, refl)

pub raw_wide-requires : goal.raw_wide-requires
raw_wide-requires c = omega (arith, c.loop-k.invariant.takes.near, c.requires.0.few_cells, c.requires.1)

pub returns-in_err-functions : goal.returns-in_err-functions
unfolding function
returns-in_err-functions c =
    let i = c.loop-k in
    stopped _ c.from_residual.ensures.1
    (one_stops (λ s. function s c.args.pins.now) i.k i.invariant (function_read c.args.pins.now i.k c.settings.result _ c.args.sheet.now c.settings.ensures.0 c.from.ensures c.in_err-functions.ensures) (omega arith) (omega (arith, c.settings.ensures.2)) (λ s xs f p. refl))

pub loop-k-preserved : goal.loop-k-preserved
unfolding function
loop-k-preserved c =
    let i = c.loop-k in
    one_more (λ s. function s c.args.pins.now) i.k i.invariant (function_read c.args.pins.now i.k c.settings.result _ c.args.sheet.now c.settings.ensures.0 c.from.ensures c.in_ok-functions.ensures) (omega (arith, c.settings.ensures.2))
    (λ xs x h g. (
      omega (arith, length-append xs (x ∷ []), h.0),
      ap (λ (q : ℕ). set i.functions i.k q) g.0 ∙ ap (λ (l : List ℕ). set l i.k x) h.1 ∙ padded_more 64 0 x xs i.k (sym h.0),
    ))

pub returns : goal.returns
returns c =
    let i = c.loop-k in
    let h = i.invariant in
    let done : i.k ≡ length c.args.pins.now = omega arith in
    subst (λ (n : ℕ). Reads c.args.sheet.now i.sheet (λ s. times n (function s c.args.pins.now)) FieldsLaid (64 * n) (Ok i.functions)) done
    (record { same = h.same; takes = record { at = h.takes.at; holds = h.takes.holds.1; near = h.takes.near } })
