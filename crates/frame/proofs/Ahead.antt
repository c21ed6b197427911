-- The order in which leftover windows are given out: it is strict, of two domains one is always ahead,
-- and whoever is ahead has fewer domains ahead of it. Assumes nothing.
use Prim.Native.Nat.{ℕ, ◌≤◌, ◌<◌}
use mathlib.Core.Bool.{Bool, true, false, false≢true, ◌&&◌, ◌||◌}
use mathlib.Core.Path.{◌≡◌, refl, sym, ap, ◌∙◌}
use native.Mathlib.Omega.{arith}
use lib.Dec.{eqb, ltb}
use borrow.Author.Tests.{eq-eqb, eqb-true, lt-ltb, ltb-false, ltb-true}
use Rattle.plan.specs.Limits.{most_domains}
use Rattle.frame.specs.Quotas.{ahead_of, is_ahead, rank}
use Rattle.frame.proofs.Counting.{count_more}
use Rattle.frame.proofs.Ranks.{StrictOrder}

-- ---- what the test says

record Ahead (remainders : ℕ → ℕ) (domain other : ℕ) : Type 0 where
  not_smaller : remainders other ≤ remainders domain
  lower_if_equal : remainders other ≡ remainders domain → domain < other

ahead_says :
    (remainders : ℕ → ℕ) (domain other : ℕ)
    → is_ahead remainders domain other ≡ true
    → Ahead remainders domain other
ahead_says remainders domain other front =
    go (ltb (remainders other) (remainders domain)) refl (eqb (remainders domain) (remainders other)) refl front
  where
    go : (larger : Bool) → ltb (remainders other) (remainders domain) ≡ larger
        → (equal : Bool) → eqb (remainders domain) (remainders other) ≡ equal
        → (larger || (equal && ltb domain other)) ≡ true
        → Ahead remainders domain other
    go true l equal e front =
        let larger : remainders other < remainders domain = ltb-true _ _ l in record { not_smaller = omega arith; lower_if_equal = λ same. omega arith }
    go false l true e front =
        let equal : remainders domain ≡ remainders other = eqb-true _ _ e in
        record { not_smaller = omega arith; lower_if_equal = λ same. ltb-true _ _ front }
    go false l false e front = absurd (false≢true front)

ahead_is :
    (remainders : ℕ → ℕ) (domain other : ℕ)
    → Ahead remainders domain other
    → is_ahead remainders domain other ≡ true
ahead_is remainders domain other facts =
    go (ltb (remainders other) (remainders domain)) refl
  where
    go : (larger : Bool) → ltb (remainders other) (remainders domain) ≡ larger
        → (larger || (eqb (remainders domain) (remainders other) && ltb domain other)) ≡ true
    go true l = refl
    go false l =
        let past : remainders domain ≤ remainders other = ltb-false _ _ l in
        let least = facts.not_smaller in
        let equal : remainders domain ≡ remainders other = omega arith in
        rw (eq-eqb _ _ equal) (lt-ltb _ _ (facts.lower_if_equal (sym equal)))

-- it is a strict order in which of two domains one is always ahead
pub ahead_order : (remainders : ℕ → ℕ) → StrictOrder (is_ahead remainders)
ahead_order remainders =
    record {
      irreflexive = λ index. none index (is_ahead remainders index index) refl;
      transitive = λ one two three front behind.
          let first = ahead_says remainders one two front in
          let second = ahead_says remainders two three behind in
          let a = first.not_smaller in
          let b = second.not_smaller in
          ahead_is remainders one three (record {
            not_smaller = omega arith;
            lower_if_equal = λ same.
                let c : one < two = first.lower_if_equal (omega arith) in
                let d : two < three = second.lower_if_equal (omega arith) in
                omega arith;
          });
      total = λ one other differ behind. other_way one other differ behind;
    }
  where
    none : (index : ℕ) (b : Bool) → is_ahead remainders index index ≡ b → b ≡ false
    none index true e = let below = (ahead_says remainders index index e).lower_if_equal refl in absurd (omega arith)
    none index false e = refl

    other_way :
        (one other : ℕ)
        → (one ≡ other → ⊥)
        → is_ahead remainders one other ≡ false
        → is_ahead remainders other one ≡ true
    other_way one other differ behind = ahead_is remainders other one (record { not_smaller = least; lower_if_equal = lower })
      where
        refuted : Ahead remainders one other → ⊥
        refuted facts = false≢true (sym behind ∙ ahead_is remainders one other facts)

        least : remainders one ≤ remainders other
        least = go (ltb (remainders other) (remainders one)) refl
          where
            go :
                (b : Bool)
                → ltb (remainders other) (remainders one) ≡ b
                → remainders one ≤ remainders other
            go true e = let larger : remainders other < remainders one = ltb-true _ _ e in
                absurd (refuted (record { not_smaller = omega arith; lower_if_equal = λ same. omega arith }))
            go false e = ltb-false _ _ e

        lower : remainders one ≡ remainders other → other < one
        lower same = go (ltb other one) refl
          where
            go : (b : Bool) → ltb other one ≡ b → other < one
            go true e = ltb-true _ _ e
            go false e = let past : one ≤ other = ltb-false _ _ e in
                absurd (refuted (record { not_smaller = omega arith; lower_if_equal = λ equal. (let d = differ in omega arith) }))

-- ---- how many are ahead

-- whoever is ahead has no more domains ahead of it
ahead_fewer : (remainders : ℕ → ℕ) (domain other : ℕ)
    → is_ahead remainders domain other ≡ true
    → ahead_of remainders domain ≤ ahead_of remainders other
unfolding rank
ahead_fewer remainders domain other front =
    count_more _ _ most_domains (λ third below first. (ahead_order remainders).transitive third domain other first front)

-- whoever has fewer domains ahead is ahead
pub fewer_ahead : (remainders : ℕ → ℕ) (domain other : ℕ)
    → ahead_of remainders domain < ahead_of remainders other
    → is_ahead remainders domain other ≡ true
fewer_ahead remainders domain other fewer = go (is_ahead remainders domain other) refl
  where
    apart : domain ≡ other → ⊥
    apart same = let equal : ahead_of remainders domain ≡ ahead_of remainders other = ap (ahead_of remainders) same in omega arith

    go : (b : Bool) → is_ahead remainders domain other ≡ b → b ≡ true
    go true e = refl
    go false e =
        let back = ahead_fewer remainders other domain ((ahead_order remainders).total domain other apart e) in
        absurd (omega arith)
