-- An array that is filled index by index: its first indices, and zeros in the others. Assumes nothing.
use Prim.Native.Nat.{ℕ, zero, suc, ◌+◌, ◌≤◌, ◌<◌}
use native.Mathlib.Numerals.{add-one}
use native.Mathlib.Omega.{arith}
use mathlib.Core.List.{List, [], ◌∷◌}
use mathlib.Core.Path.{◌≡◌, refl, sym, ap, ap₂}
use lib.ListN.{get_or, length, replicate, set}

unfoldable pub first_entries : ℕ → List ℕ → List ℕ
first_entries zero [] = []
first_entries zero (number ∷ array) = 0 ∷ first_entries zero array
first_entries (suc count) [] = []
first_entries (suc count) (number ∷ array) = number ∷ first_entries count array

-- before the first index is filled
pub filled_none : (array : List ℕ) → first_entries 0 array ≡ replicate (length array) 0
unfolding first_entries
filled_none [] = refl
filled_none (number ∷ array) = ap (λ (rest : List ℕ). 0 ∷ rest) (filled_none array)

-- one index more
more : (count : ℕ) (array : List ℕ) → set (first_entries count array) count (get_or array count 0) ≡ first_entries (suc count) array
unfolding first_entries
more zero [] = refl
more zero (number ∷ array) = refl
more (suc count) [] = refl
more (suc count) (number ∷ array) = ap (λ (rest : List ℕ). number ∷ rest) (more count array)

pub filled_more : (count : ℕ) (array : List ℕ) → set (first_entries count array) count (get_or array count 0) ≡ first_entries (count + 1) array
filled_more count array = rw add-one (more count array)

-- once only zeros are left
pub filled_all : (count : ℕ) (array : List ℕ) → ((index : ℕ) → count ≤ index → index < length array → get_or array index 0 ≡ 0) → first_entries count array ≡ array
unfolding first_entries
filled_all zero [] none = refl
filled_all zero (number ∷ array) none =
    let first : number ≡ 0 = none 0 (omega arith) (omega arith) in
    ap₂ (λ (one : ℕ) (rest : List ℕ). one ∷ rest) (sym first)
    (filled_all zero array (λ index past within. none (suc index) (omega arith) (omega arith)))
filled_all (suc count) [] none = refl
filled_all (suc count) (number ∷ array) none =
    ap (λ (rest : List ℕ). number ∷ rest) (filled_all count array (λ index past within. none (suc index) (omega arith) (omega arith)))

-- a run of zeros fills nothing
pub filled_through :
    (count last : ℕ) (array : List ℕ)
    → count ≤ last
    → ((index : ℕ) → count ≤ index → index < last → get_or array index 0 ≡ 0)
    → first_entries count array ≡ first_entries last array
unfolding first_entries
filled_through zero zero array within none = refl
filled_through zero (suc last) [] within none = refl
filled_through zero (suc last) (number ∷ array) within none =
    let first : number ≡ 0 = none 0 (omega arith) (omega arith) in
    ap₂ (λ (one : ℕ) (rest : List ℕ). one ∷ rest) (sym first)
    (filled_through zero last array (omega arith) (λ index past below. none (suc index) (omega arith) (omega arith)))
filled_through (suc count) zero array within none = absurd (omega arith)
filled_through (suc count) (suc last) [] within none = refl
filled_through (suc count) (suc last) (number ∷ array) within none =
    ap (λ (rest : List ℕ). number ∷ rest)
    (filled_through count last array (omega arith) (λ index past below. none (suc index) (omega arith) (omega arith)))
