-- Runs of numbers, taken from a list or stored in one, one number at a time. Assumes nothing.
use mathlib.Core.Path.{◌≡◌, refl, sym, ap, ◌∙◌}
use mathlib.Core.List.{List, [], ◌∷◌, ◌++◌}
use Prim.Native.Nat.{ℕ, zero, suc, ◌+◌, ◌≤◌, ◌<◌}
use native.Mathlib.Nat.{add-zero, not-suc-le-zero}
use native.Mathlib.Numerals.{add-one}
use native.Mathlib.Omega.{arith}
use lib.ListN.{get_or, length, set, take, length-append}
use lib.Seq.{length-sets, length-take-le, sets, sets-eq, take_all, take_at, take-suc-set}
use Rattle.pirkvezo.specs.Numbers.{numbers_from}

-- a run has as many numbers as are asked for
pub run_length : (list : List ℕ) (first count : ℕ) → length (numbers_from list first count) ≡ count
unfolding numbers_from
run_length list first zero = refl
run_length list first (suc count) = ap suc (run_length list (first + 1) count)

-- a run that is one number longer has that number last
run_last :
    (list : List ℕ) (first count : ℕ)
    → numbers_from list first (suc count) ≡ numbers_from list first count ++ (get_or list (first + count) 0 ∷ [])
unfolding numbers_from
run_last list first zero = rw add-zero
run_last list first (suc count) =
    let index : first + 1 + count ≡ first + suc count = omega arith in
    ap (λ (rest : List ℕ). get_or list first 0 ∷ rest)
    (run_last list (first + 1) count ∙ ap (λ (k : ℕ). numbers_from list (first + 1) count ++ (get_or list k 0 ∷ [])) index)

-- the numbers of a run are the list's, from its first index on
pub run_at :
    (list : List ℕ) (first count index : ℕ)
    → index < count
    → get_or (numbers_from list first count) index 0 ≡ get_or list (first + index) 0
unfolding numbers_from
run_at list first zero index below = absurd (not-suc-le-zero below)
run_at list first (suc count) zero below = rw add-zero
run_at list first (suc count) (suc index) below =
    let further : first + 1 + index ≡ first + suc index = omega arith in
    run_at list (first + 1) count index (omega arith) ∙ ap (λ (k : ℕ). get_or list k 0) further

-- ---- taking a run into an array

-- one number more is taken
pub taken_more :
    (list taken : List ℕ) (first i : ℕ)
    → i < length taken
    → take i taken ≡ numbers_from list first i
    → take (i + 1) (set taken i (get_or list (first + i) 0)) ≡ numbers_from list first (i + 1)
taken_more list taken first i below so_far =
    rw (add-one i) (take-suc-set taken i _ below ∙ rw so_far (sym (run_last list first i)))

-- all are taken
pub taken_all :
    (list taken : List ℕ) (first i count : ℕ)
    → length taken ≡ count
    → i ≡ count
    → take i taken ≡ numbers_from list first i
    → taken ≡ numbers_from list first count
taken_all list taken first i count long ended so_far =
    sym (take_all count taken (omega arith)) ∙ (rw (sym ended) so_far)

-- ---- a table that is written from its front

-- what is written so far goes on with what is stored behind it
pub front_more :
    (table values done : List ℕ) (first : ℕ)
    → first + length values ≤ length table
    → take first table ≡ done
    → take (first + length values) (sets table first values) ≡ done ++ values
front_more table values done first fits so_far =
    let seam : length (take first table ++ values) ≡ first + length values = rw (length-append, length-take-le first table (omega arith)) refl in
    rw (sets-eq values table first fits) (take_at (take first table ++ values) _ _ seam ∙ rw so_far refl)

-- the same of a run
pub front_run :
    (table list done : List ℕ) (first count : ℕ)
    → first + count ≤ length table
    → take first table ≡ done
    → take (first + count) (sets table first (numbers_from list 0 count)) ≡ done ++ numbers_from list 0 count
front_run table list done first count fits so_far =
    let long = run_length list 0 count in
    ap (λ (n : ℕ). take (first + n) (sets table first (numbers_from list 0 count))) (sym long)
    ∙ front_more table (numbers_from list 0 count) done first (rw long fits) so_far

-- a table that is written from end to end holds what was written
pub whole_stored : (table values : List ℕ) → length table ≡ length values → sets table 0 values ≡ values
whole_stored table values long =
    let all : length (sets table 0 values) ≤ 0 + length values = omega (arith, length-sets table 0 values) in
    sym (take_all (0 + length values) (sets table 0 values) all) ∙ front_more table values [] 0 (omega arith) refl
