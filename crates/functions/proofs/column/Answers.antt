-- The table's rule, by one test over all of it.
use borrow.Author.Rules.{rules}
use borrow.Author.Tests.{ltb-true, eqb-true}
use Prim.Native.Nat.{ℕ, ◌^◌}
use mathlib.Core.Path.{◌≡◌, refl}
use mathlib.Core.Bool.{Bool, true, ◌&&◌}
use mathlib.Core.List.{List, [], ◌∷◌}
use lib.Dec.{ltb, eqb}
use lib.ListN.{get_or}
use Rattle.functions_rules.specs.Function.{pin_in, bit_of, every}
use Rattle.functions.specs.Inside.Promises.{word_settings}
use Rattle.functions_rules.proofs.Every.{both, every_each}
use Rattle.functions.proofs.column.Goals as goal

abbrev columns : List ℕ
columns = 0x5555_5555_5555_5555 ∷ 0x3333_3333_3333_3333 ∷ 0x0f0f_0f0f_0f0f_0f0f ∷ 0x00ff_00ff_00ff_00ff ∷ 0x0000_ffff_0000_ffff ∷ 0x0000_0000_ffff_ffff ∷ []

-- A column is a word, and in each setting it has its pin.
abbrev right : ℕ → ℕ → Bool
right pin word = ltb word (2 ^ word_settings) && every word_settings (λ k. eqb (bit_of word_settings word k) (pin_in k pin))

rule : every 6 (λ pin. right pin (get_or columns pin 0)) ≡ true
unfolding every bit_of pin_in
rule = refl

pub returns : goal.returns
returns c =
    let word = get_or columns c.args.pin 0 in
    let r = both (ltb word (2 ^ word_settings)) _ (every_each 6 (λ pin. right pin (get_or columns pin 0)) rule c.args.pin (search rules)) in
    record { small = ltb-true word (2 ^ word_settings) r.0; bits = λ k h. eqb-true (bit_of word_settings word k) (pin_in k c.args.pin) (every_each word_settings _ r.1 k h) }
