-- When tests pass: joined tests, and tests chosen by another. Assumes nothing.
use mathlib.Core.Bool.{Bool, true, false, cond, ◌&&◌, ◌||◌, and-eq-true_iff, false≢true}
use mathlib.Core.Path.{◌≡◌, refl}

pub both_pass : (one other : Bool) → one ≡ true → other ≡ true → (one && other) ≡ true
both_pass one other left right = (and-eq-true_iff one other).1 (left, right)

-- both halves of a test that passes
pub both : (one other : Bool) → (one && other) ≡ true → (one ≡ true) × (other ≡ true)
both one other passed = (and-eq-true_iff one other).0 passed

pub first_passes : (one other : Bool) → one ≡ true → (one || other) ≡ true
first_passes true other left = refl
first_passes false other left = absurd (false≢true left)

pub second_passes : (one other : Bool) → other ≡ true → (one || other) ≡ true
second_passes true other right = refl
second_passes false other right = right

-- neither of two tests passes where the joined test fails
pub neither : (one other : Bool) → (one || other) ≡ false → (one ≡ false) × (other ≡ false)
neither true true none = (none, none)
neither true false none = (none, refl)
neither false other none = (refl, none)

-- the test that is chosen passes
pub choice_passes : (test one other : Bool) → (test ≡ true → one ≡ true) → (test ≡ false → other ≡ true)
    → cond test one other ≡ true
choice_passes true one other left right = left refl
choice_passes false one other left right = right refl

-- the same of a choice that is written by cases
pub cases_pass : (test one other : Bool) → (test ≡ true → one ≡ true) → (test ≡ false → other ≡ true)
    → ◌≡◌ {A = Bool} (elim test [ true ↦ one | false ↦ other ]) true
cases_pass true one other left right = left refl
cases_pass false one other left right = right refl
