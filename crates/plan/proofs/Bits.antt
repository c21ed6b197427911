-- The bits of a mask: those of a run of ones, and none past a number's highest. Assumes nothing.
use mathlib.Core.Path.{◌≡◌, refl, sym, ap, ◌∙◌}
use mathlib.Core.Bool.{Bool, true, false}
use Prim.Native.Nat.{ℕ, suc, ◌+◌, ◌*◌, ◌-◌, ◌/◌, ◌%◌, ◌^◌, ◌≤◌, ◌<◌}
use native.Mathlib.Nat.{add-zero, div-eq_of_lt, lt_of_lt_of_le, mul_assoc, one-mul}
use native.Mathlib.Omega.{arith}
use lib.Bits.{shifted_even}
use lib.Count.{ones, ones_cat, ones-ones}
use lib.Dec.{ltb}
use lib.Pow.{ones_lt, pow-add, pow_mono, pow_pos, shl_exact, shl_lt, shl-shr}
use borrow.Author.Tests.{eqb-true, ltb-false, ltb-true}
use Rattle.plan.specs.Colours.{has_bit, mask_from}
use Rattle.plan.specs.Limits.{domain_colours}

-- a number has no bit at or past its width
pub no_high_bit : (number width index : ℕ) → number < 2 ^ width → width ≤ index → has_bit number index ≡ true → ⊥
unfolding has_bit
no_high_bit number width index small past has =
    let gone : number / 2 ^ index ≡ 0 = div-eq_of_lt (lt_of_lt_of_le small (pow_mono past)) in
    let none : number / 2 ^ index % 2 ≡ 0 = ap (λ (n : ℕ). n % 2) gone in
    let one : number / 2 ^ index % 2 ≡ 1 = eqb-true _ _ has in
    omega arith

-- 0 has no bit
pub zero_no_bit : (index : ℕ) → has_bit 0 index ≡ true → ⊥
zero_no_bit index has = no_high_bit 0 0 index (omega arith) (omega arith) has

-- a shifted number has no bit below the shift
pub no_low_bit : (number shift index : ℕ) → index < shift → has_bit (number * 2 ^ shift) index ≡ true → ⊥
unfolding has_bit
no_low_bit number shift index below has =
    let rest = shift - suc index in
    let shape : shift ≡ suc rest + index = omega arith in
    let split : number * 2 ^ shift ≡ number * 2 ^ suc rest * 2 ^ index =
    ap (λ (n : ℕ). number * 2 ^ n) shape ∙ ap (λ (n : ℕ). number * n) (pow-add 2 (suc rest) index) ∙ sym (mul_assoc number (2 ^ suc rest) (2 ^ index)) in
    let even : number * 2 ^ shift / 2 ^ index % 2 ≡ 0 =
    ap (λ (n : ℕ). n / 2 ^ index % 2) split ∙ ap (λ (n : ℕ). n % 2) (shl-shr (number * 2 ^ suc rest) index) ∙ shifted_even number rest in
    let one : number * 2 ^ shift / 2 ^ index % 2 ≡ 1 = eqb-true _ _ has in
    omega arith

-- the bits of adjacent colours from a first one on
pub mask_bits : (first count index : ℕ) → has_bit (mask_from first count) index ≡ true → (first ≤ index) × (index < first + count)
unfolding mask_from
mask_bits first count index has = (low (ltb index first) refl, high (ltb index (first + count)) refl)
  where
    low : (b : Bool) → ltb index first ≡ b → first ≤ index
    low true e = absurd (no_low_bit (2 ^ count - 1) first index (ltb-true index first e) has)
    low false e = ltb-false index first e

    small : (2 ^ count - 1) * 2 ^ first < 2 ^ (count + first)
    small = shl_lt count first (ones_lt count)

    high : (b : Bool) → ltb index (first + count) ≡ b → index < first + count
    high true e = ltb-true index (first + count) e
    high false e =
        let past : first + count ≤ index = ltb-false index (first + count) e in
        absurd (no_high_bit _ (count + first) index small (omega arith) has)

-- as many ones as colours
pub mask_ones : (first count : ℕ) → ones (mask_from first count) ≡ count
unfolding mask_from ones
mask_ones first count =
    ap ones (sym (add-zero ((2 ^ count - 1) * 2 ^ first)))
    ∙ ones_cat first (2 ^ count - 1) 0 (pow_pos first)
    ∙ ap (λ (n : ℕ). n + ones 0) (ones-ones count)
    ∙ add-zero count

-- a mask of at most 15 colours, as it is computed at 32 bits
pub one_shifted : (count : ℕ) → count ≤ domain_colours → 1 * 2 ^ count % 2 ^ 32 ≡ 2 ^ count
one_shifted count small = shl_exact 1 count 32 (omega arith) (omega arith) ∙ one-mul (2 ^ count)

pub mask_shifted : (first count : ℕ) → first + count ≤ domain_colours → (1 * 2 ^ count % 2 ^ 32 - 1) * 2 ^ first % 2 ^ 32 ≡ mask_from first count
unfolding mask_from
mask_shifted first count small =
    ap (λ (n : ℕ). (n - 1) * 2 ^ first % 2 ^ 32) (one_shifted count (omega arith))
    ∙ shl_exact count first 32 (ones_lt count) (omega arith)

pub mask_fits : (first count : ℕ) → first + count ≤ domain_colours → mask_from first count < 2 ^ 16
unfolding mask_from
mask_fits first count small = lt_of_lt_of_le (shl_lt count first (ones_lt count)) (pow_mono {i = count + first} {j = 16} (omega arith))
