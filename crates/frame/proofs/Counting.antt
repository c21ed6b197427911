-- Laws on how many indices below a number pass a test, and on sums beside it. Assumes nothing.
use Prim.Native.Nat.{ℕ, zero, suc, ◌+◌, ◌≤◌, ◌<◌, zero-le}
use mathlib.Core.Bool.{Bool, true, false, cond}
use mathlib.Core.Path.{◌≡◌, refl, ap, ◌∙◌}
use native.Mathlib.Nat.{not-suc-le-zero}
use native.Mathlib.Omega.{arith}
use mathlib.Core.List.{List}
use lib.Dec.{ltb}
use lib.ListN.{get_or}
use borrow.Author.Tests.{lt-ltb}
use Rattle.plan.specs.Limits.{most_domains}
use Rattle.plan.specs.Sums.{sum_to}
use Rattle.plan.proofs.Sums.{last-or-earlier, sum_mono, sum_most, sum_same, sum_under}
use Rattle.frame.specs.Quotas.{count_below}

-- ---- sums

-- each term is at most the sum
pub term_most : (f : ℕ → ℕ) (count index : ℕ) → index < count → f index ≤ sum_to f count
unfolding sum_to
term_most f zero index below = absurd (not-suc-le-zero below)
term_most f (suc count) index below =
    last-or-earlier (λ (n : ℕ). f n ≤ sum_to f count + f count) count index (omega arith)
    (λ small. let before = term_most f count index small in omega arith) below

-- ---- counting

-- at most every index
pub count_most : (test : ℕ → Bool) (count : ℕ) → count_below test count ≤ count
unfolding count_below
count_most test count =
    let most = sum_most (λ index. cond (test index) 1 0) 1 count (λ index below. one_at_most (test index)) in omega arith
  where
    one_at_most : (b : Bool) → cond b 1 0 ≤ 1
    one_at_most true = omega arith
    one_at_most false = omega arith

-- over more indices no fewer
pub count_mono :
    (test : ℕ → Bool) (count more : ℕ)
    → count ≤ more
    → count_below test count ≤ count_below test more
unfolding count_below
count_mono test = sum_mono (λ index. cond (test index) 1 0)

-- equal tests count alike
pub count_same :
    (one other : ℕ → Bool) (count : ℕ)
    → ((index : ℕ) → index < count → one index ≡ other index)
    → count_below one count ≡ count_below other count
unfolding count_below
count_same one other count same =
    sum_same _ _ count (λ index below. ap (λ (b : Bool). cond b 1 0) (same index below))

-- a test that passes wherever another does counts no fewer
pub count_more :
    (one other : ℕ → Bool) (count : ℕ)
    → ((index : ℕ) → index < count → one index ≡ true → other index ≡ true)
    → count_below one count ≤ count_below other count
unfolding count_below
count_more one other count implies =
    sum_under _ _ count (λ index below. go index below (one index) refl)
  where
    go :
        (index : ℕ)
        → index < count
        → (b : Bool)
        → one index ≡ b
        → cond b 1 0 ≤ cond (other index) 1 0
    go index below true e = rw (implies index below e) (omega arith)
    go index below false e = zero-le

-- and more where it also passes at an index at which the other fails
pub count_strict :
    (one other : ℕ → Bool) (count at : ℕ)
    → ((index : ℕ) → index < count → one index ≡ true → other index ≡ true)
    → at < count
    → one at ≡ false
    → other at ≡ true
    → count_below one count < count_below other count
unfolding count_below sum_to
count_strict one other zero at implies below fails passes = absurd (not-suc-le-zero below)
count_strict one other (suc count) at implies below fails passes =
    last-or-earlier
    (λ (index : ℕ). one index ≡ false → other index ≡ true → count_below one (suc count) < count_below other (suc count))
    count at here (λ small no-pass pass. step (one count) refl (count_strict one other count at narrower small no-pass pass))
    below fails passes
  where
    narrower : (index : ℕ) → index < count → one index ≡ true → other index ≡ true
    narrower index small = implies index (omega arith)

    here :
        one count ≡ false
        → other count ≡ true
        → count_below one (suc count) < count_below other (suc count)
    here no-pass pass = let fewer = count_more one other count narrower in rw (no-pass, pass) (omega arith)

    step : (b : Bool) → one count ≡ b → count_below one count < count_below other count
        → count_below one count + cond b 1 0 < count_below other count + cond (other count) 1 0
    step true e less = rw (implies count (omega arith) e) (omega arith)
    step false e less = omega arith

-- a sum of terms with one more wherever a test passes
pub sum_and_count :
    (f : ℕ → ℕ) (test : ℕ → Bool) (count : ℕ)
    → sum_to (λ index. f index + cond (test index) 1 0) count ≡ sum_to f count + count_below test count
unfolding sum_to count_below
sum_and_count f test zero = refl
sum_and_count f test (suc count) = let before = sum_and_count f test count in omega arith

-- ---- an array of eight that is filled by a rule

pub filled_all :
    (rule : ℕ → ℕ) (array : List ℕ) (count : ℕ)
    → ((index : ℕ) → index < most_domains → get_or array index 0 ≡ cond (ltb index count) (rule index) 0)
    → count ≡ most_domains
    → (index : ℕ)
    → index < most_domains
    → get_or array index 0 ≡ rule index
filled_all rule array count filled ended index below =
    filled index below ∙ ap (λ (b : Bool). cond b (rule index) 0) (lt-ltb index count (omega arith))
