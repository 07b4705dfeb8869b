use native.Mathlib.Omega.{arith}
use Prim.Native.Nat.{◌+◌, ◌<◌}
use Rattle.bits.proofs.Words.{value_word}
use Rattle.bits.proofs.word.Goals as goal

pub returns : goal.returns
returns c =
    let s = c.args in
    let x₀ = c.from in
    let x₁ = c.from-2 in
    let x₂ = c.from-3 in
    let x₃ = c.from-4 in
    let byte = c.type_inv.s in
    let l₀ : x₀.result < 256 = omega (arith, byte s.at) in
    let l₁ : x₁.result < 256 = omega (arith, byte (s.at + 1)) in
    let l₂ : x₂.result < 256 = omega (arith, byte (s.at + 2)) in
    let l₃ : x₃.result < 256 = omega (arith, byte (s.at + 3)) in (
      value_word s.s.now s.at x₀.result x₁.result x₂.result x₃.result l₀ l₁ l₂ l₃ x₀.ensures x₁.ensures x₂.ensures x₃.ensures,
      omega arith,
    )
