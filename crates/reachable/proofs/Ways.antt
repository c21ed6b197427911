-- An L2 set of any number of ways stays sound when a line of it is used: lines of this set, none twice, and no empty
-- before a line. Assumes nothing.
use Prim.Native.Nat.{ℕ, ◌≤◌}
use mathlib.Core.Bool.{Bool, true, false, cond, not, ◌&&◌, and-eq-true_iff, false≢true}
use mathlib.Core.List.{List, [], ◌∷◌}
use mathlib.Core.Logic.{◌⊎◌, inl, inr, ⊎_elim}
use mathlib.Core.Path.{◌≡◌, refl, sym, ap, subst, ◌∙◌}
use native.Mathlib.Omega.{arith}
use lib.Dec.{eqb}
use borrow.Author.Tests.{eq-eqb, eqb-true, le-leb, ne_eqb, not-true}
use Rattle.cache.specs.Lines.{clean_entry, most_line, set_of}
use Rattle.cache.specs.Sets.{has, move_to_front}
use Rattle.cache.proofs.Ways.{behind, moved}
use Rattle.state.specs.TableValidity.{all_empty, entry_line, stands_for_line, ways_valid}
use Rattle.state.proofs.Empties.{empty_first, empty_valid}
use Rattle.lists.proofs.Tests.{both_pass, neither}

-- ---- the first way of a sound set is empty and so are the others, or it is a line that the others lack

record FirstLine (set way : ℕ) (ways : List ℕ) : Type 0 where
  some : eqb way 0 ≡ false
  line : (stands_for_line way && eqb (set_of (entry_line way)) set) ≡ true
  once : has way ways ≡ false
  rest : ways_valid set ways ≡ true

abbrev FirstCase : ℕ → ℕ → List ℕ → Type 0
FirstCase set way ways = ((eqb way 0 ≡ true) × (all_empty ways ≡ true)) ⊎ FirstLine set way ways

first_case : (set way : ℕ) (ways : List ℕ) → ways_valid set (way ∷ ways) ≡ true → FirstCase set way ways
unfolding ways_valid
first_case set way ways sound = go (eqb way 0) refl sound
  where
    go : (empty : Bool) → eqb way 0 ≡ empty
        → cond empty (all_empty ways)
        (stands_for_line way && eqb (set_of (entry_line way)) set && not (has way ways) && ways_valid set ways) ≡ true
        → ((eqb way 0 ≡ true) × (all_empty ways ≡ true)) ⊎ FirstLine set way ways
    go true test passed = inl (test, passed)
    go false test passed =
        let line = stands_for_line way && eqb (set_of (entry_line way)) set in
        let parts = (and-eq-true_iff (line && not (has way ways)) (ways_valid set ways)).0 passed in
        let firsts = (and-eq-true_iff line (not (has way ways))).0 parts.0 in
        inr (record { some = test; line = firsts.0; once = not-true _ firsts.1; rest = parts.1 })

first_empty : (set way : ℕ) (ways : List ℕ) → eqb way 0 ≡ true → all_empty ways ≡ true
    → ways_valid set (way ∷ ways) ≡ true
unfolding ways_valid
first_empty set way ways test empty = rw (test, ways_valid) empty

first_line : (set way : ℕ) (ways : List ℕ) → FirstLine set way ways → ways_valid set (way ∷ ways) ≡ true
unfolding ways_valid
first_line set way ways first =
    rw (first.some, ways_valid) (both_pass _ _ (both_pass _ _ first.line (ap not first.once)) first.rest)

-- the ways behind the first of a sound set are sound
rest_valid : (set way : ℕ) (ways : List ℕ) → ways_valid set (way ∷ ways) ≡ true → ways_valid set ways ≡ true
rest_valid set way ways sound =
    ⊎_elim (λ empty. empty_valid set ways empty.1) (λ line. line.rest) (first_case set way ways sound)

-- ---- the ways that stay behind a number

-- what stays behind, by whether the first way is that number
behind_case : (Holds : List ℕ → Type 0) (entry way next : ℕ) (ways : List ℕ)
    → (eqb way entry ≡ true → Holds (next ∷ ways))
    → (eqb way entry ≡ false → Holds (way ∷ behind entry (next ∷ ways)))
    → Holds (behind entry (way ∷ next ∷ ways))
unfolding behind
behind_case Holds entry way next ways found passed = go (eqb way entry) refl
  where
    go : (same : Bool) → eqb way entry ≡ same
        → Holds (elim same [ true ↦ next ∷ ways | false ↦ way ∷ behind entry (next ∷ ways) ])
    go true test = found test
    go false test = passed test

-- they have nothing that the set lacks
has_none : (entry way : ℕ) (ways : List ℕ) → has entry (way ∷ ways) ≡ false
    → (eqb way entry ≡ false) × (has entry ways ≡ false)
unfolding has
has_none entry way ways none = neither (eqb way entry) (has entry ways) none

none_has : (entry way : ℕ) (ways : List ℕ) → eqb way entry ≡ false → has entry ways ≡ false
    → has entry (way ∷ ways) ≡ false
unfolding has
none_has entry way ways first rest = rw (first, has) rest

behind_lacks : (number entry : ℕ) (ways : List ℕ) → has number ways ≡ false → has number (behind entry ways) ≡ false
unfolding behind has
behind_lacks number entry [] none = refl
behind_lacks number entry (way ∷ []) none = refl
behind_lacks number entry (way ∷ next ∷ ways) none =
    let parts = has_none number way (next ∷ ways) none in
    let rest = behind_lacks number entry (next ∷ ways) parts.1 in
    behind_case (λ left. has number left ≡ false) entry way next ways (λ found. parts.1)
    (λ passed. none_has number way (behind entry (next ∷ ways)) parts.0 rest)

behind_empty : (entry : ℕ) (ways : List ℕ) → all_empty ways ≡ true → all_empty (behind entry ways) ≡ true
unfolding behind all_empty
behind_empty entry [] empty = refl
behind_empty entry (way ∷ []) empty = refl
behind_empty entry (way ∷ next ∷ ways) empty =
    let parts = empty_first way (next ∷ ways) empty in
    let rest = behind_empty entry (next ∷ ways) parts.1 in
    behind_case (λ left. all_empty left ≡ true) entry way next ways (λ found. parts.1)
    (λ passed. both_pass (eqb way 0) _ parts.0 rest)

module _ (set entry : ℕ) (some : eqb entry 0 ≡ false) where
  -- the number itself does not stay behind: a sound set has it once
  behind_once : (ways : List ℕ) → ways_valid set ways ≡ true → has entry (behind entry ways) ≡ false
  unfolding behind has
  behind_once [] sound = refl
  behind_once (way ∷ []) sound = refl
  behind_once (way ∷ next ∷ ways) sound =
      let rest = behind_once (next ∷ ways) (rest_valid set way (next ∷ ways) sound) in
      behind_case (λ left. has entry left ≡ false) entry way next ways
      (λ found.
      let same = eqb-true way entry found in
      ⊎_elim (λ empty. absurd (false≢true (sym some ∙ ap (λ n. eqb n 0) (sym same) ∙ empty.0)))
      (λ line. subst (λ n. has n (next ∷ ways) ≡ false) same line.once)
      (first_case set way (next ∷ ways) sound))
      (λ passed. none_has entry way (behind entry (next ∷ ways)) passed rest)

  behind_valid : (ways : List ℕ) → ways_valid set ways ≡ true → ways_valid set (behind entry ways) ≡ true
  unfolding behind ways_valid
  behind_valid [] sound = refl
  behind_valid (way ∷ []) sound = refl
  behind_valid (way ∷ next ∷ ways) sound =
      let after = rest_valid set way (next ∷ ways) sound in
      let rest = behind_valid (next ∷ ways) after in
      behind_case (λ left. ways_valid set left ≡ true) entry way next ways (λ found. after)
      (λ passed.
      ⊎_elim
      (λ empty.
      first_empty set way (behind entry (next ∷ ways)) empty.0 (behind_empty entry (next ∷ ways) empty.1))
      (λ line.
      first_line set way (behind entry (next ∷ ways))
      (record {
        some = line.some;
        line = line.line;
        once = behind_lacks way entry (next ∷ ways) line.once;
        rest = rest;
      }))
      (first_case set way (next ∷ ways) sound))

-- a number that stands for a line
pub line_stands : (line : ℕ) → line ≤ most_line → stands_for_line (clean_entry line) ≡ true
line_stands line small =
    both_pass _ _ (le-leb 1 (clean_entry line) (omega arith))
    (le-leb (clean_entry line) (clean_entry most_line) (omega arith))

-- a sound set of any number of ways is sound once a line of it is in front
pub moved_valid : (line : ℕ) (ways : List ℕ) → line ≤ most_line → ways_valid (set_of line) ways ≡ true
    → ways_valid (set_of line) (move_to_front (clean_entry line) ways) ≡ true
unfolding move_to_front
moved_valid line [] small sound = sound
moved_valid line (way ∷ ways) small sound =
    let some : eqb (clean_entry line) 0 ≡ false = ne_eqb (clean_entry line) 0 (omega arith) in
    let same : entry_line (clean_entry line) ≡ line = omega arith in
    rw (moved (clean_entry line) way ways)
    (first_line (set_of line) (clean_entry line) (behind (clean_entry line) (way ∷ ways))
    (record {
      some = some;
      line = both_pass _ _ (line_stands line small) (eq-eqb _ _ (ap set_of same));
      once = behind_once (set_of line) (clean_entry line) some (way ∷ ways) sound;
      rest = behind_valid (set_of line) (clean_entry line) some (way ∷ ways) sound;
    }))
