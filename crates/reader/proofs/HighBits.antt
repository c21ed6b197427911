-- A number whose highest bits are off is as small as the others allow. Assumes nothing.
use Prim.Native.Nat.{ℕ, zero, suc, ◌+◌, ◌/◌, ◌%◌, ◌^◌, ◌≤◌, ◌<◌}
use native.Mathlib.Nat.{add-suc, add-zero, div-lt_iff_lt-mul, one-mul, pow-succ'}
use native.Mathlib.Omega.{arith}
use mathlib.Core.Bool.{true}
use mathlib.Core.Path.{◌≡◌}
use lib.Pow.{pow_pos}
use borrow.Author.Tests.{eq-eqb}
use Rattle.plan.specs.Colours.{has_bit}

-- one bit
top_off : (number index : ℕ) → number < 2 ^ suc index → (has_bit number index ≡ true → ⊥) → number < 2 ^ index
unfolding has_bit
top_off number index small off =
    let top = number / 2 ^ index in
    let below : top < 2 = (div-lt_iff_lt-mul {x = number} {y = 2} (pow_pos index)).1 (rw (← pow-succ' 2 index) small) in
    let even : top % 2 ≡ 1 → ⊥ = λ odd. off (eq-eqb (top % 2) 1 odd) in
    let none : top < 1 = omega arith in
    rw (← one-mul (2 ^ index)) ((div-lt_iff_lt-mul {x = number} {y = 1} (pow_pos index)).0 none)

-- several bits, from the highest down
pub high_off : (gap number low : ℕ) → number < 2 ^ (low + gap)
    → ((index : ℕ) → low ≤ index → index < low + gap → has_bit number index ≡ true → ⊥) → number < 2 ^ low
high_off zero number low small off = rw (← add-zero low) small
high_off (suc gap) number low small off =
    high_off gap number low (top_off number (low + gap) (rw (add-suc low gap) at small) (off (low + gap) (omega arith) (omega arith)))
    (λ index from below. off index from (omega arith))
