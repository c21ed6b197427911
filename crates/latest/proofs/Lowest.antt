-- A search from index 0 upwards over any test: one index at a time, and what the index is that it ends at. Assumes nothing.
use Prim.Native.Nat.{ℕ, zero, suc, ◌+◌, ◌-◌, ◌≤◌, ◌<◌}
use mathlib.Core.Bool.{Bool, true, false, false≢true}
use mathlib.Core.Path.{◌≡◌, refl, sym, ap, ◌∙◌}
use native.Mathlib.Decide.{dec_lt, ℕ_discrete}
use native.Mathlib.Omega.{arith}
use Rattle.latest.specs.Lowest.{lowest_below, lowest_from}

-- no index before this one passes: the search from here on gives the whole answer
abbrev pub Searched : (ℕ → Bool) → ℕ → ℕ → Type 0
Searched test count index = lowest_from test (count - index) index ≡ lowest_below test count

-- before the first index there is none
pub lowest_begun : (test : ℕ → Bool) (count : ℕ) → Searched test count 0
lowest_begun test count = let all : count - 0 ≡ count = omega arith in rw all refl

module _ (test : ℕ → Bool) (count index : ℕ) (searched : Searched test count index) where
  -- the test passes here
  pub lowest_here : index < count → test index ≡ true → index ≡ lowest_below test count
  unfolding lowest_from
  lowest_here below passes =
      let left : count - index ≡ suc (count - index - 1) = omega arith in
      let here : lowest_from test (count - index) index ≡ index = rw (left, lowest_from, passes) refl in
      sym here ∙ searched

  -- it fails here, and the search goes on
  pub lowest_next : index < count → test index ≡ false → Searched test count (index + 1)
  unfolding lowest_from
  lowest_next below fails =
      let left : count - index ≡ suc (count - (index + 1)) = omega arith in
      let next : lowest_from test (count - index) index ≡ lowest_from test (count - (index + 1)) (index + 1) =
      rw (left, lowest_from, fails) refl in
      sym next ∙ searched

  -- nothing is left to search
  pub lowest_end : count ≤ index → index ≡ lowest_below test count
  unfolding lowest_from
  lowest_end past =
      let none : count - index ≡ 0 = omega arith in
      let end : lowest_from test (count - index) index ≡ index = rw none refl in
      sym end ∙ searched

-- ---- what the index is that a search ends at

-- it is within the indices searched or right past them; the test passes there where it is one of them, and nowhere before it
record Lowest (test : ℕ → Bool) (left index lowest : ℕ) : Type 0 where
  pub from : index ≤ lowest
  pub most : lowest ≤ index + left
  pub passes : lowest < index + left → test lowest ≡ true
  pub none_before : (other : ℕ) → index ≤ other → other < lowest → test other ≡ false

module _ (test : ℕ → Bool) where
  lowest_is : (left index : ℕ) → Lowest test left index (lowest_from test left index)
  unfolding lowest_from
  lowest_is zero index =
      record {
        from = omega arith;
        most = omega arith;
        passes = λ found. absurd (omega arith);
        none_before = λ other past earlier. absurd (omega arith);
      }
  lowest_is (suc left) index = go (test index) refl (lowest_is left (index + 1))
    where
      go : (here : Bool) → test index ≡ here → Lowest test left (index + 1) (lowest_from test left (index + 1))
          → Lowest test (suc left) index (elim here [ true ↦ index | false ↦ lowest_from test left (index + 1) ])
      go true is rest =
          record {
            from = omega arith;
            most = omega arith;
            passes = λ found. is;
            none_before = λ other past earlier. absurd (omega arith);
          }
      go false is rest =
          record {
            from = omega (arith, rest.from);
            most = omega (arith, rest.most);
            passes = λ found. rest.passes (omega arith);
            none_before = λ other past earlier. fails other past earlier (ℕ_discrete other index);
          }
        where
          fails : (other : ℕ) → index ≤ other → other < lowest_from test left (index + 1) → Dec (other ≡ index) → test other ≡ false
          fails other past earlier (yes same) = ap test same ∙ is
          fails other past earlier (no differs) = rest.none_before other (omega arith) earlier

  module _ (count : ℕ) where
    pub lowest_most : lowest_below test count ≤ count
    lowest_most = omega (arith, (lowest_is count 0).most)

    pub lowest_passes : lowest_below test count < count → test (lowest_below test count) ≡ true
    lowest_passes found = (lowest_is count 0).passes (omega arith)

    pub none_before : (other : ℕ) → other < lowest_below test count → test other ≡ false
    none_before other earlier = (lowest_is count 0).none_before other (omega arith) earlier

    -- where the test passes at an index, the search finds one
    pub lowest_found : (index : ℕ) → index < count → test index ≡ true → lowest_below test count < count
    lowest_found index below passes = go (dec_lt (lowest_below test count) count)
      where
        go : Dec (lowest_below test count < count) → lowest_below test count < count
        go (yes found) = found
        go (no past) = absurd (false≢true (sym (none_before index (omega arith)) ∙ passes))
