-- Laws of an L2 set of any number of ways: search from the front, and the set once a number was used. Assumes nothing.
use Prim.Native.Nat.{ℕ, zero, suc, ◌+◌, ◌≤◌, ◌<◌}
use mathlib.Core.Path.{◌≡◌, refl, sym, ap, ◌∙◌}
use mathlib.Core.Bool.{Bool, true, false, ◌||◌, or_assoc}
use mathlib.Core.List.{List, [], ◌∷◌, ◌++◌, append-nil}
use native.Mathlib.Nat.{le_of_suc-le-suc, not-suc-le-zero}
use native.Mathlib.Numerals.{add-one}
use native.Mathlib.Omega.{arith}
use lib.Dec.{eqb}
use lib.ListN.{drop, get_or, length, set, take, length-append, length-drop, length-take}
use lib.Seq.{drop-length, take_all, take-length, take-suc}
use borrow.Author.Tests.{eq-eqb, ne_eqb}
use Rattle.lists.proofs.Tests.{neither, second_passes}
use Rattle.cache.specs.Sets.{has, move_to_front, without}

-- The ways behind the entry in one pass, as the code's loop leaves them: all but the entry, or all but the last where
-- the set lacks it.
unfoldable pub behind : ℕ → List ℕ → List ℕ
behind entry [] = []
behind entry (way ∷ []) = []
behind entry (way ∷ (next ∷ ways)) =
    elim (eqb way entry) [ true ↦ next ∷ ways | false ↦ way ∷ behind entry (next ∷ ways) ]

behind_is : (entry way : ℕ) (ways : List ℕ)
    → behind entry (way ∷ ways) ≡ take (length ways) (without entry (way ∷ ways))
unfolding behind without
behind_is entry way [] = refl
behind_is entry way (next ∷ ways) = go (eqb way entry) (behind_is entry next ways)
  where
    go :
        (here : Bool)
        → behind entry (next ∷ ways) ≡ take (length ways) (without entry (next ∷ ways))
        → ◌≡◌ {A = List ℕ} (elim here [ true ↦ next ∷ ways | false ↦ way ∷ behind entry (next ∷ ways) ])
        (take (length (next ∷ ways)) (elim here [ true ↦ next ∷ ways | false ↦ way ∷ without entry (next ∷ ways) ]))
    go true rest = sym (take-length (next ∷ ways))
    go false rest = ap (λ (left : List ℕ). way ∷ left) rest

-- the definition is that one pass
pub moved : (entry way : ℕ) (ways : List ℕ) → move_to_front entry (way ∷ ways) ≡ entry ∷ behind entry (way ∷ ways)
unfolding move_to_front
moved entry way ways = ap (λ (left : List ℕ). entry ∷ left) (sym (behind_is entry way ways))

has_append : (entry : ℕ) (front back : List ℕ) → has entry (front ++ back) ≡ has entry front || has entry back
unfolding has
has_append entry [] back = refl
has_append entry (way ∷ front) back =
    rw (has_append entry front back) (sym (or_assoc (eqb way entry) (has entry front) (has entry back)))

-- a way passed in a search: the ways so far lack the number, and so does this one
pub search_next :
    (entry index : ℕ) (set : List ℕ)
    → index < length set
    → has entry (take index set) ≡ false
    → (get_or set index 0 ≡ entry → ⊥)
    → has entry (take (index + 1) set) ≡ false
unfolding has
search_next entry index set within lacks other =
    rw (add-one, take-suc set index 0 within, has_append, lacks, ne_eqb (get_or set index 0) entry other)

-- the ways behind, of one way and one way on
behind_one : (entry way : ℕ) → behind entry (way ∷ []) ≡ []
unfolding behind
behind_one entry way = refl

behind_here : (entry way next : ℕ) (ways : List ℕ) → eqb way entry ≡ true
    → behind entry (way ∷ (next ∷ ways)) ≡ next ∷ ways
unfolding behind
behind_here entry way next ways here = rw (here, behind)

behind_past :
    (entry way next : ℕ) (ways : List ℕ)
    → eqb way entry ≡ false
    → behind entry (way ∷ (next ∷ ways)) ≡ way ∷ behind entry (next ∷ ways)
unfolding behind
behind_past entry way next ways past = rw (past, behind)

-- a number that stands in front already changes nothing
pub front_stays : (entry : ℕ) (ways : List ℕ) → get_or ways 0 0 ≡ entry → move_to_front entry ways ≡ ways
unfolding move_to_front behind
front_stays entry [] front = refl
front_stays entry (way ∷ []) front =
    moved entry way [] ∙ ap (λ (first : ℕ). first ∷ []) (sym front)
front_stays entry (way ∷ (next ∷ ways)) front =
    moved entry way (next ∷ ways)
    ∙ ap (λ (left : List ℕ). entry ∷ left) (behind_here entry way next ways (eq-eqb way entry front))
    ∙ ap (λ (first : ℕ). first ∷ (next ∷ ways)) (sym front)

-- found at a index: that one goes, and the others stay as they were
behind_found :
    (entry index : ℕ) (set : List ℕ)
    → index < length set
    → has entry (take index set) ≡ false
    → get_or set index 0 ≡ entry
    → behind entry set ≡ take index set ++ drop (suc index) set
unfolding has
behind_found entry index [] within lacks found = absurd (not-suc-le-zero within)
behind_found entry zero (way ∷ []) within lacks found = behind_one entry way
behind_found entry (suc index) (way ∷ []) within lacks found = absurd (not-suc-le-zero (le_of_suc-le-suc within))
behind_found entry zero (way ∷ (next ∷ ways)) within lacks found =
    behind_here entry way next ways (eq-eqb way entry found)
behind_found entry (suc index) (way ∷ (next ∷ ways)) within lacks found =
    let none = neither (eqb way entry) (has entry (take index (next ∷ ways))) lacks in
    behind_past entry way next ways none.0
    ∙ ap (λ (rest : List ℕ). way ∷ rest)
    (behind_found entry index (next ∷ ways) (le_of_suc-le-suc within) none.1 found)

-- not found: all others are the set itself
without_lacks : (entry : ℕ) (ways : List ℕ) → has entry ways ≡ false → without entry ways ≡ ways
unfolding has without
without_lacks entry [] lacks = refl
without_lacks entry (way ∷ ways) lacks =
    let none = neither (eqb way entry) (has entry ways) lacks in
    rw (none.0, without) (ap (λ (rest : List ℕ). way ∷ rest) (without_lacks entry ways none.1))

has_found : (entry index : ℕ) (set : List ℕ) → index < length set → get_or set index 0 ≡ entry → has entry set ≡ true
unfolding has
has_found entry index [] within found = absurd (not-suc-le-zero within)
has_found entry zero (way ∷ ways) within found = rw (eq-eqb way entry found)
has_found entry (suc index) (way ∷ ways) within found =
    second_passes (eqb way entry) (has entry ways) (has_found entry index ways (le_of_suc-le-suc within) found)

-- what a number found at a index leaves: it moves to the front of the ways up to its index
pub use_found :
    (entry index : ℕ) (set : List ℕ)
    → index < length set
    → has entry (take index set) ≡ false
    → get_or set index 0 ≡ entry
    → (true ≡ has entry set) × (take (index + 1) (entry ∷ set) ++ drop (index + 1) set ≡ move_to_front entry set)
use_found entry index [] within lacks found = absurd (not-suc-le-zero within)
use_found entry index (way ∷ ways) within lacks found = (
  sym (has_found entry index (way ∷ ways) within found),
  rw add-one
      (sym (moved entry way ways ∙ ap (λ (rest : List ℕ). entry ∷ rest) (behind_found entry index (way ∷ ways) within lacks found))),
)

moved_lacks :
    (entry : ℕ) (set : List ℕ)
    → has entry set ≡ false
    → take (length set) (entry ∷ set) ++ drop (length set) set ≡ move_to_front entry set
unfolding move_to_front
moved_lacks entry set lacks =
    rw (drop-length set, append-nil, without_lacks entry set lacks)

-- what a number that a whole search did not find leaves: it goes in front of all ways, and the last is dropped
pub use_lacks :
    (entry index : ℕ) (set : List ℕ)
    → length set ≤ index
    → has entry (take index set) ≡ false
    → (false ≡ has entry set) × (take (length set) (entry ∷ set) ++ drop (length set) set ≡ move_to_front entry set)
use_lacks entry index set whole lacks =
    let none : has entry set ≡ false = rw (take_all index set whole) at lacks in (sym none, moved_lacks entry set none)

without_length : (entry : ℕ) (ways : List ℕ) → length ways ≤ suc (length (without entry ways))
unfolding without
without_length entry [] = omega arith
without_length entry (way ∷ ways) = go (eqb way entry) (without_length entry ways)
  where
    go :
        (here : Bool)
        → length ways ≤ suc (length (without entry ways))
        → suc (length ways) ≤ suc (length {A = ℕ} (elim here [ true ↦ ways | false ↦ way ∷ without entry ways ]))
    go true rest = omega arith
    go false rest = omega arith

-- the number of ways is kept
pub moved_length : (entry : ℕ) (set : List ℕ) → length (move_to_front entry set) ≡ length set
unfolding move_to_front
moved_length entry set = simp length-take (omega (arith, without_length entry set))

-- The loop moves each way on by one, from the front: up to an index the set holds the entry and the ways that stood there
-- but the last, which is carried; from the index on it is as it was.
abbrev pub shifted : ℕ → ℕ → List ℕ → List ℕ
shifted entry index ways = take index (entry ∷ ways) ++ drop index ways

pub shifted_length : (entry index : ℕ) (ways : List ℕ) → index ≤ length ways
    → length (shifted entry index ways) ≡ length ways
shifted_length entry index ways within = simp (length-append, length-take, length-drop) (omega arith)

-- what a turn stores
shifted_suc :
    (entry index : ℕ) (ways : List ℕ)
    → index < length ways
    → set (shifted entry index ways) index (get_or (entry ∷ ways) index 0) ≡ shifted entry (suc index) ways
shifted_suc entry index [] within = absurd (not-suc-le-zero within)
shifted_suc entry zero (way ∷ ways) within = refl
shifted_suc entry (suc index) (way ∷ ways) within =
    ap (λ (rest : List ℕ). entry ∷ rest) (shifted_suc way index ways (le_of_suc-le-suc within))

pub shifted_next :
    (entry index : ℕ) (ways : List ℕ)
    → index < length ways
    → set (shifted entry index ways) index (get_or (entry ∷ ways) index 0) ≡ shifted entry (index + 1) ways
shifted_next entry index ways within = rw (add-one index) (shifted_suc entry index ways within)

-- what a turn carries on
pub shifted_here :
    (entry index : ℕ) (ways : List ℕ)
    → index < length ways
    → get_or (shifted entry index ways) index 0 ≡ get_or ways index 0
shifted_here entry index [] within = absurd (not-suc-le-zero within)
shifted_here entry zero (way ∷ ways) within = refl
shifted_here entry (suc index) (way ∷ ways) within = shifted_here way index ways (le_of_suc-le-suc within)

pub shifted_read :
    (entry index : ℕ) (ways : List ℕ)
    → index < length ways
    → get_or (shifted entry index ways) index 0 ≡ get_or (entry ∷ ways) (index + 1) 0
shifted_read entry index ways within = rw (add-one index) (shifted_here entry index ways within)
