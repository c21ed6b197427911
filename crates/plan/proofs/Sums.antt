-- Sums and tests over the first entries of an array: entry by entry, and monotone. Assumes nothing.
use mathlib.Core.Path.{◌≡◌, refl, sym, ap, ap₂, ◌∙◌}
use mathlib.Core.Bool.{Bool, true, false, false≢true, cond, not, ◌&&◌, and-eq-true_iff}
use Prim.Native.Nat.{ℕ, zero, suc, ◌+◌, ◌*◌, ◌-◌, ◌≤◌, ◌<◌, zero-le}
use native.Mathlib.Nat.{mul-suc, not-suc-le-zero}
use native.Mathlib.Omega.{arith}
use mathlib.Core.List.{List}
use native.Mathlib.Numerals.{add-one}
use lib.Dec.{eqb, leb-suc-zero, ltb}
use lib.ListN.{get_or, get_or-replicate, length, replicate, set, take}
use lib.Seq.{get_or-set_other, get_or-set_same}
use borrow.Author.Tests.{eqb-true, eqb-false, le-ltb, lt-ltb, ltb-false, ltb-true}
use Rattle.std.specs.Int.{from_bool}
use Rattle.std.specs.List.{list_all, range_with_len, sum, sum_by}
use Rattle.std.proofs.lemmas.List.{take_all}
use Rattle.std.proofs.lemmas.List.Folds.{list_all_more}
use Rattle.std.proofs.lemmas.List.FromFn.{get_or-range_with_len, length-range_with_len}
use Rattle.std.proofs.lemmas.List.Sums.{sum_by_more}
use Rattle.plan.specs.Sums.{sum_to, all_below}
use Rattle.plan.specs.Limits.{most_domains}

-- an index below count + 1 is the last one or an earlier one
pub last-or-earlier {ℓ} : (P : ℕ → Type ℓ) (count index : ℕ) → P count → (index < count → P index) → index < suc count → P index
last-or-earlier P count index here earlier below = go (eqb index count) refl
  where
    go : (b : Bool) → eqb index count ≡ b → P index
    go true e = rw (eqb-true index count e) here
    go false e = let differs : (index ≡ count → ⊥) = eqb-false index count e in earlier (omega arith)

-- a test that passes at every index passes at each
pub all_below_lem : (test : ℕ → Bool) (count index : ℕ) → all_below test count ≡ true → index < count → test index ≡ true
unfolding all_below
all_below_lem test zero index all below = absurd (not-suc-le-zero below)
all_below_lem test (suc count) index all below =
    let parts = (and-eq-true_iff (all_below test count) (test count)).0 all in
    last-or-earlier (λ n. test n ≡ true) count index parts.1 (all_below_lem test count index parts.0) below

-- a test that passes at each index passes at every index
pub below_all : (test : ℕ → Bool) (count : ℕ) → ((index : ℕ) → index < count → test index ≡ true) → all_below test count ≡ true
unfolding all_below
below_all test zero each = refl
below_all test (suc count) each =
    (and-eq-true_iff (all_below test count) (test count)).1
    (below_all test count (λ index below. each index (omega arith)), each count (omega arith))

-- a sum over more indices is no smaller
pub sum_mono : (f : ℕ → ℕ) (count more : ℕ) → count ≤ more → sum_to f count ≤ sum_to f more
unfolding sum_to
sum_mono f count zero within = rw (zero_of count within) (omega arith)
  where
    zero_of : (n : ℕ) → n ≤ 0 → n ≡ 0
    zero_of n h = omega arith
sum_mono f count (suc more) within = go (eqb count (suc more)) refl (sum_mono f count more)
  where
    go : (b : Bool) → eqb count (suc more) ≡ b → (count ≤ more → sum_to f count ≤ sum_to f more) → sum_to f count ≤ sum_to f (suc more)
    go true e earlier = rw (eqb-true count (suc more) e) (omega arith)
    go false e earlier =
        let differs : (count ≡ suc more → ⊥) = eqb-false count (suc more) e in
        let less : sum_to f count ≤ sum_to f more = earlier (omega arith) in
        omega arith

-- equal indices give equal sums
pub sum_same : (f g : ℕ → ℕ) (count : ℕ) → ((index : ℕ) → index < count → f index ≡ g index) → sum_to f count ≡ sum_to g count
unfolding sum_to
sum_same f g zero same = refl
sum_same f g (suc count) same =
    ap₂ (λ (a b : ℕ). a + b) (sum_same f g count (λ index below. same index (omega arith))) (same count (omega arith))

-- a sum of no greater terms is no greater
pub sum_under :
    (f g : ℕ → ℕ) (count : ℕ)
    → ((index : ℕ) → index < count → f index ≤ g index)
    → sum_to f count ≤ sum_to g count
unfolding sum_to
sum_under f g zero each = zero-le
sum_under f g (suc count) each =
    let before = sum_under f g count (λ index below. each index (omega arith)) in
    let here = each count (omega arith) in
    omega arith

-- a sum in which one number is larger by some is larger by as much
pub sum_larger :
    (f g : ℕ → ℕ) (index more count : ℕ)
    → index < count
    → ((other : ℕ) → (other ≡ index → ⊥) → g other ≡ f other)
    → g index ≡ f index + more
    → sum_to g count ≡ sum_to f count + more
unfolding sum_to
sum_larger f g index more zero below others here = absurd (omega arith)
sum_larger f g index more (suc count) below others here =
    go (eqb index count) refl (λ earlier. sum_larger f g index more count earlier others here)
  where
    go :
        (last : Bool)
        → eqb index count ≡ last
        → (index < count → sum_to g count ≡ sum_to f count + more)
        → sum_to g count + g count ≡ sum_to f count + f count + more
    go true test rest =
        let same : index ≡ count = eqb-true index count test in
        let before : sum_to g count ≡ sum_to f count = sum_same g f count (λ other less. others other (λ is. omega arith)) in
        let grown : g count ≡ f count + more = rw (sym same) here in
        omega arith
    go false test rest =
        let differs : (index ≡ count → ⊥) = eqb-false index count test in
        let before : sum_to g count ≡ sum_to f count + more = rest (omega arith) in
        let kept : g count ≡ f count = others count (λ is. differs (sym is)) in
        omega arith

-- a bound on each index bounds the sum
pub sum_most : (f : ℕ → ℕ) (most count : ℕ) → ((index : ℕ) → index < count → f index ≤ most) → sum_to f count ≤ most * count
unfolding sum_to
sum_most f most zero each = zero-le
sum_most f most (suc count) each =
    let before : sum_to f count ≤ most * count = sum_most f most count (λ index below. each index (omega arith)) in
    let here : f count ≤ most = each count (omega arith) in
    rw mul-suc (omega arith)

-- one index more
pub sum_more : (f : ℕ → ℕ) (total count : ℕ) → total ≡ sum_to f count → total + f count ≡ sum_to f (count + 1)
unfolding sum_to
sum_more f total count so_far = rw (so_far, add-one)

-- an array of eight zeros is filled by any rule up to index 0
pub filled_none : (rule : ℕ → ℕ) (index : ℕ) → index < most_domains → get_or (replicate most_domains 0) index 0 ≡ cond (ltb index 0) (rule index) 0
filled_none rule index below = get_or-replicate most_domains index 0 0 below ∙ sym (ap (λ (b : Bool). cond b (rule index) 0) (leb-suc-zero index))

-- an array of eight, filled by a rule up to an index, filled one index further
pub filled_more :
    (rule : ℕ → ℕ) (array : List ℕ) (count : ℕ)
    → length array ≡ most_domains
    → count < most_domains
    → ((index : ℕ) → index < most_domains → get_or array index 0 ≡ cond (ltb index count) (rule index) 0)
    → (index : ℕ)
    → index < most_domains
    → get_or (set array count (rule count)) index 0 ≡ cond (ltb index (count + 1)) (rule index) 0
filled_more rule array count long below filled index within = go (eqb index count) refl
  where
    go : (b : Bool) → eqb index count ≡ b → get_or (set array count (rule count)) index 0 ≡ cond (ltb index (count + 1)) (rule index) 0
    go true e =
        let same : index ≡ count = eqb-true index count e in
        rw (same, lt-ltb count (count + 1) (omega arith)) (get_or-set_same array count (rule count) 0 (omega arith))
    go false e =
        let differs : (index ≡ count → ⊥) = eqb-false index count e in
        get_or-set_other array count index (rule count) 0 differs ∙ filled index within ∙ ap (λ (b : Bool). cond b (rule index) 0) (tests (ltb index count) refl)
      where
        tests : (b : Bool) → ltb index count ≡ b → b ≡ ltb index (count + 1)
        tests true l = let less : index < count = ltb-true index count l in sym (lt-ltb index (count + 1) (omega arith))
        tests false l =
            let past : count ≤ index = ltb-false index count l in
            let differs : (index ≡ count → ⊥) = eqb-false index count e in
            sym (le-ltb index (count + 1) (omega arith))

-- a test that fails at an index fails over any number of indices that has it
pub all_below_fails : (test : ℕ → Bool) (count index : ℕ) → index < count → test index ≡ false → false ≡ all_below test count
all_below_fails test count index below fails = go (all_below test count) refl
  where
    go : (b : Bool) → all_below test count ≡ b → false ≡ all_below test count
    go true e = absurd (false≢true (sym fails ∙ all_below_lem test count index e below))
    go false e = sym e

-- one index more
pub all_below_more : (test : ℕ → Bool) (count : ℕ) → all_below test count ≡ true → test count ≡ true → all_below test (count + 1) ≡ true
unfolding all_below
all_below_more test count before here = rw add-one ((and-eq-true_iff (all_below test count) (test count)).1 (before, here))

-- the test at one index more, whatever it says
pub all_below_next :
    (test : ℕ → Bool) (count : ℕ) (so_far here : Bool)
    → so_far ≡ all_below test count
    → here ≡ test count
    → so_far && here ≡ all_below test (count + 1)
unfolding all_below
all_below_next test count so_far here before is = rw (before, is, add-one)

-- a test that passes at the first `count` indices, and over the block of `more` indices behind them
pub all_below_block :
    (test : ℕ → Bool) (count more : ℕ)
    → all_below test count ≡ true
    → all_below (λ index. test (count + index)) more ≡ true
    → all_below test (count + more) ≡ true
all_below_block test count more before block =
    below_all test (count + more) (λ index below. go index below (ltb index count) refl)
  where
    go : (index : ℕ) → index < count + more → (earlier : Bool) → ltb index count ≡ earlier
        → test index ≡ true
    go index below true e = all_below_lem test count index before (ltb-true index count e)
    go index below false e =
        let past : count ≤ index = ltb-false index count e in
        let same_index : count + (index - count) ≡ index = omega arith in
        ap test (sym same_index)
        ∙ all_below_lem (λ k. test (count + k)) more (index - count) block (omega arith)

-- a test that fails over a block fails over any number of indices that has the block
pub all_below_block_fails :
    (test : ℕ → Bool) (total count more : ℕ)
    → count + more ≤ total
    → all_below (λ index. test (count + index)) more ≡ false
    → false ≡ all_below test total
all_below_block_fails test total count more within fails = go (all_below test total) refl
  where
    go : (all : Bool) → all_below test total ≡ all → false ≡ all_below test total
    go true e =
        let each : (k : ℕ) → k < more → test (count + k) ≡ true =
        λ k below. all_below_lem test total (count + k) e (omega arith) in
        absurd (false≢true (sym fails ∙ below_all (λ k. test (count + k)) more each))
    go false e = sym e

-- ---- std's words for a list, index by index, and for a test as a number

-- 1 for true, 0 for false
pub number_of : (test : Bool) → from_bool test ≡ cond test 1 0
number_of true = refl
number_of false = refl

-- and the other way round
pub number_of_not : (test : Bool) → from_bool (not test) ≡ cond test 0 1
number_of_not true = refl
number_of_not false = refl

-- a sum over the front of a list
pub sum_front : (f : ℕ → ℕ) (list : List ℕ) (count : ℕ) → count ≤ length list → sum_by f (take count list) ≡ sum_to (λ index. f (get_or list index 0)) count
unfolding sum_to
sum_front f list zero within = refl
sum_front f list (suc count) within =
    let more : sum_by f (take (count + 1) list) ≡ sum_by f (take count list) + f (get_or list count 0) = sum_by_more f list count 0 (omega arith) in
    (rw add-one at more) ∙ ap (λ (total : ℕ). total + f (get_or list count 0)) (sum_front f list count (omega arith))

-- the sum of a whole list
pub sum_entries : (list : List ℕ) (count : ℕ) → length list ≡ count → sum list ≡ sum_to (λ index. get_or list index 0) count
sum_entries list count long =
    ap sum (sym (take_all count list (omega arith))) ∙ sum_front (λ entry. entry) list count (omega arith)

all_front : (test : ℕ → Bool) (list : List ℕ) (count : ℕ) → count ≤ length list → list_all test (take count list) ≡ all_below (λ index. test (get_or list index 0)) count
unfolding all_below
all_front test list zero within = refl
all_front test list (suc count) within =
    let more : list_all test (take (count + 1) list) ≡ list_all test (take count list) && test (get_or list count 0) = list_all_more test list count 0 (omega arith) in
    (rw add-one at more) ∙ ap (λ (before : Bool). before && test (get_or list count 0)) (all_front test list count (omega arith))

-- a test of every entry of a list
pub all_entries :
    (test : ℕ → Bool) (list : List ℕ) (count : ℕ)
    → length list ≡ count
    → list_all test list ≡ all_below (λ index. test (get_or list index 0)) count
all_entries test list count long =
    ap (list_all test) (sym (take_all count list (omega arith))) ∙ all_front test list count (omega arith)

-- the first indices as a list, one by one
index_at : (count index : ℕ) → index < count → get_or (range_with_len 0 count) index 0 ≡ index
index_at count index below =
    let itself : 0 + index ≡ index = omega arith in
    get_or-range_with_len 0 count index 0 below ∙ itself

-- a sum over them
pub sum_range : (f : ℕ → ℕ) (count : ℕ) → sum_by f (range_with_len 0 count) ≡ sum_to f count
sum_range f count =
    let indices = range_with_len 0 count in
    let long : length indices ≡ count = length-range_with_len 0 count in
    ap (sum_by f) (sym (take_all count indices (omega arith)))
    ∙ sum_front f indices count (omega arith)
    ∙ sum_same _ f count (λ index below. ap f (index_at count index below))

-- a test of each
pub all_range : (test : ℕ → Bool) (count : ℕ) → list_all test (range_with_len 0 count) ≡ all_below test count
unfolding all_below
all_range test count =
    all_entries test (range_with_len 0 count) count (length-range_with_len 0 count) ∙ same count (omega arith)
  where
    same : (passed : ℕ) → passed ≤ count
        → all_below (λ index. test (get_or (range_with_len 0 count) index 0)) passed ≡ all_below test passed
    same zero within = refl
    same (suc passed) within =
        ap₂ (λ (a b : Bool). a && b) (same passed (omega arith))
        (ap test (index_at count passed (omega arith)))
