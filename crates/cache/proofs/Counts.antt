-- Counting the numbers of a part that pass a test, one after the other from its front. Assumes nothing.
use Prim.Native.Nat.{ℕ, suc, ◌+◌, ◌-◌, ◌<◌, ◌≤◌}
use mathlib.Core.Path.{◌≡◌, refl, ap, ◌∙◌}
use mathlib.Core.Bool.{Bool, true, false, cond}
use mathlib.Core.List.{List, [], ◌∷◌, ◌++◌}
use native.Mathlib.Numerals.{add-one}
use native.Mathlib.Omega.{arith}
use lib.ListN.{drop, get_or, length, take, length-drop}
use lib.Seq.{get_or-drop, take_all, take-suc}
use mir.Val.{bool_byte as from_bool}
use Rattle.lists.specs.Part.{part}
use Rattle.cache.specs.Flush.{count_where}

-- a part that is one number longer has that number last
part_last :
    (first count : ℕ) (table : List ℕ)
    → first + count < length table
    → part first (suc count) table ≡ part first count table ++ (get_or table (first + count) 0 ∷ [])
unfolding part
part_last first count table within =
    let below : count < length (drop first table) = simp length-drop (omega arith) in
    take-suc (drop first table) count 0 below
    ∙ ap (λ (last : ℕ). take count (drop first table) ++ (last ∷ [])) (get_or-drop first table count 0)

module _ (test : ℕ → Bool) where
  -- a number behind others is counted after them
  count_last :
      (entries : List ℕ) (entry : ℕ)
      → count_where test (entries ++ (entry ∷ [])) ≡ count_where test entries + cond (test entry) 1 0
  unfolding count_where
  count_last [] entry = omega arith
  count_last (first ∷ rest) entry = omega (arith, count_last rest entry)

  -- before the first number
  pub count_none : (at : ℕ) (table : List ℕ) → 0 ≡ count_where test (part at 0 table)
  unfolding count_where part
  count_none at table = refl

  -- one number more
  pub count_more :
      (at walked count one : ℕ) (table : List ℕ)
      → at + walked < length table
      → count ≡ count_where test (part at walked table)
      → one ≡ cond (test (get_or table (at + walked) 0)) 1 0
      → count + one ≡ count_where test (part at (walked + 1) table)
  count_more at walked count one table within so_far is =
      rw (add-one walked, part_last at walked table within, count_last, so_far, is)

  -- one number more of those that are lent, where what its test gives is cast to a number
  pub count_next :
      (walked count one : ℕ) (numbers : List ℕ)
      → walked < length numbers
      → count ≡ count_where test (take walked numbers)
      → one ≡ from_bool (test (get_or numbers walked 0))
      → count + one ≡ count_where test (take (walked + 1) numbers)
  unfolding part
  count_next walked count one numbers within so_far is =
      let here : 0 + walked ≡ walked = omega arith in
      count_more 0 walked count one numbers (omega arith) so_far (rw here (is ∙ cast _))
    where
      cast : (passes : Bool) → from_bool passes ≡ cond passes 1 0
      cast true = refl
      cast false = refl

  -- the count of a part that is lent by the index behind its last number, walked to its end
  pub count_lent :
      (at left walked count : ℕ) (table : List ℕ)
      → length (take (at + left - at) (drop at table)) ≤ walked
      → count ≡ count_where test (take walked (take (at + left - at) (drop at table)))
      → count ≡ count_where test (part at left table)
  unfolding part
  count_lent at left walked count table whole counted =
      let many : at + left - at ≡ left = omega arith in
      counted
      ∙ rw (take_all walked (take (at + left - at) (drop at table)) whole, many)
