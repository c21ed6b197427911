-- A strict order in which of two different indices one is always ahead of the other: of the indices below
-- any number, just k have fewer than k others ahead of them. Assumes nothing.
use Prim.Native.Nat.{ℕ, zero, suc, ◌+◌, ◌-◌, ◌≤◌, ◌<◌, min}
use mathlib.Core.Bool.{Bool, true, false, false≢true}
use mathlib.Core.Path.{◌≡◌, refl, sym, ◌∙◌}
use native.Mathlib.Nat.{min-zero}
use native.Mathlib.Omega.{arith}
use lib.Dec.{ltb}
use borrow.Author.Tests.{le-ltb, lt-ltb, ltb-false, ltb-true}
use Rattle.plan.specs.Sums.{sum_to}
use Rattle.frame.specs.Quotas.{count_below, rank}
use Rattle.frame.proofs.Counting.{count_more, count_most, count_same, count_strict}

pub record StrictOrder (ahead : ℕ → ℕ → Bool) : Type 0 where
  pub irreflexive : (index : ℕ) → ahead index index ≡ false
  pub transitive :
      (one two three : ℕ)
      → ahead one two ≡ true
      → ahead two three ≡ true
      → ahead one three ≡ true
  pub total : (one other : ℕ) → (one ≡ other → ⊥) → ahead one other ≡ false → ahead other one ≡ true

module _ (ahead : ℕ → ℕ → Bool) (order : StrictOrder ahead) where
  pub asymmetric : (one other : ℕ) → ahead one other ≡ true → ahead other one ≡ false
  asymmetric one other front = go (ahead other one) refl
    where
      go : (b : Bool) → ahead other one ≡ b → b ≡ false
      go true e = absurd (false≢true (sym (order.irreflexive one) ∙ order.transitive one other one front e))
      go false e = refl

  -- the ranks among one index more, from those among the indices below it
  ahead_kept :
      (count index : ℕ)
      → ahead index count ≡ true
      → rank ahead (suc count) index ≡ rank ahead count index
  unfolding rank count_below sum_to
  ahead_kept count index front = rw (asymmetric index count front) (omega arith)

  behind_raised :
      (count index : ℕ)
      → ahead count index ≡ true
      → rank ahead (suc count) index ≡ rank ahead count index + 1
  unfolding rank count_below sum_to
  behind_raised count index front = rw front

  own_rank : (count : ℕ) → rank ahead (suc count) count ≡ rank ahead count count
  unfolding rank count_below sum_to
  own_rank count = rw (order.irreflexive count) (omega arith)

  -- whoever is ahead of the new index has a lower rank, and whoever is behind it none lower
  ahead_lower :
      (count index : ℕ)
      → index < count
      → ahead index count ≡ true
      → rank ahead count index < rank ahead count count
  unfolding rank
  ahead_lower count index below front =
      count_strict (λ other. ahead other index) (λ other. ahead other count) count index
      (λ other small further. order.transitive other index count further front)
      below (order.irreflexive index) front

  behind_higher :
      (count index : ℕ)
      → ahead count index ≡ true
      → rank ahead count count ≤ rank ahead count index
  unfolding rank
  behind_higher count index front =
      count_more (λ other. ahead other count) (λ other. ahead other index) count
      (λ other small further. order.transitive other count index further front)

  own_low : (count : ℕ) → rank ahead count count ≤ count
  unfolding rank
  own_low count = count_most (λ other. ahead other count) count

  -- where the new index is not among the first ones, the others are as before
  late :
      (count first index : ℕ)
      → first ≤ rank ahead count count
      → index < count
      → (front : Bool)
      → ahead index count ≡ front
      → ltb (rank ahead (suc count) index) first ≡ ltb (rank ahead count index) first
  late count first index past below true e = rw (ahead_kept count index e)
  late count first index past below false e =
      let behind : ahead count index ≡ true = order.total index count (λ same. omega arith) e in
      let high = behind_higher count index behind in
      let raised = behind_raised count index behind in
      le-ltb (rank ahead (suc count) index) first (omega arith) ∙ sym (le-ltb (rank ahead count index) first (omega arith))

  -- where it is, one fewer of the others are
  early :
      (count first index : ℕ)
      → rank ahead count count < first
      → index < count
      → (front : Bool)
      → ahead index count ≡ front
      → ltb (rank ahead (suc count) index) first ≡ ltb (rank ahead count index) (first - 1)
  early count first index within below true e =
      let lower = ahead_lower count index below e in
      let kept = ahead_kept count index e in
      lt-ltb (rank ahead (suc count) index) first (omega arith)
      ∙ sym (lt-ltb (rank ahead count index) (first - 1) (omega arith))
  early count first index within below false e =
      let behind : ahead count index ≡ true = order.total index count (λ same. omega arith) e in
      rw (behind_raised count index behind) (less (rank ahead count index) (ltb (rank ahead count index) (first - 1)) refl)
    where
      less : (n : ℕ) (b : Bool) → ltb n (first - 1) ≡ b → ltb (n + 1) first ≡ b
      less n true h = let small = ltb-true n (first - 1) h in lt-ltb (n + 1) first (omega arith)
      less n false h = let large = ltb-false n (first - 1) h in le-ltb (n + 1) first (omega arith)

  -- the indices below `count` that fewer than `first` are ahead of
  chosen_more :
      (count first : ℕ)
      → ((fewer : ℕ) → count_below (λ index. ltb (rank ahead count index) fewer) count ≡ min fewer count)
      → (b : Bool)
      → ltb (rank ahead count count) first ≡ b
      → count_below (λ index. ltb (rank ahead (suc count) index) first) (suc count) ≡ min first (suc count)
  unfolding count_below sum_to
  chosen_more count first chosen-below true e =
      let within : rank ahead count count < first = ltb-true _ _ e in
      let before : count_below (λ index. ltb (rank ahead (suc count) index) first) count ≡ min (first - 1) count =
      count_same _ _ count (λ index below. early count first index within below (ahead index count) refl)
      ∙ chosen-below (first - 1) in
      rw (own_rank count, e, before) (omega arith)
  chosen_more count first chosen-below false e =
      let past : first ≤ rank ahead count count = ltb-false _ _ e in
      let before : count_below (λ index. ltb (rank ahead (suc count) index) first) count ≡ min first count =
      count_same _ _ count (λ index below. late count first index past below (ahead index count) refl)
      ∙ chosen-below first in
      let low = own_low count in
      rw (own_rank count, e, before) (omega arith)

  pub chosen :
      (count first : ℕ)
      → count_below (λ index. ltb (rank ahead count index) first) count ≡ min first count
  unfolding count_below sum_to
  chosen zero first = sym (min-zero first)
  chosen (suc count) first = chosen_more count first (chosen count) (ltb (rank ahead count count) first) refl
