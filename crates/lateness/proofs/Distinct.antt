-- A valid set holds no line twice. So of lines that are all of boxes that a domain may use it holds no more than there are such boxes.
-- Assumes nothing.
use Prim.Native.Nat.{ℕ, suc, ◌+◌, ◌≤◌, ◌<◌}
use mathlib.Core.Bool.{Bool, true, false, cond, false≢true, not, ◌&&◌, ◌||◌}
use mathlib.Core.List.{List, [], ◌∷◌}
use mathlib.Core.Path.{◌≡◌, refl, subst}
use native.Mathlib.Decide.{ℕ_discrete}
use native.Mathlib.Omega.{arith}
use lib.Dec.{eqb}
use lib.ListN.{get_or, length}
use borrow.Author.Tests.{eq-eqb, eqb-false, eqb-true, lt-ltb, ne_eqb}
use Rattle.lists.proofs.Tests.{both}
use Rattle.plan.specs.declared.Plan.{Plan}
use Rattle.plan.specs.Sums.{sum_to}
use Rattle.plan.proofs.Sums.{sum_larger, sum_under}
use Rattle.cache.specs.Flush.{count_where}
use Rattle.cache.specs.Lines.{clean_entry, is_valid, set_of}
use Rattle.cache.specs.Sets.{has}
use Rattle.state.specs.TableValidity.{all_empty, entry_line, stands_for_line, way_valid, ways_valid}
use Rattle.latest.specs.Reach.{box_count}
use Rattle.latest.specs.Script.{all_messages}
use Rattle.lateness.proofs.Counting.{one}
use Rattle.lateness.proofs.Places.{UsableEntry, all_boxes, place_line, place_usable}

-- empty numbers are not valid
none_valid : (ways : List ℕ) → all_empty ways ≡ true → count_where is_valid ways ≡ 0
unfolding all_empty count_where
none_valid [] empty = refl
none_valid (way ∷ ways) empty =
    let parts = both (eqb way 0) (all_empty ways) empty in
    let rest = none_valid ways parts.1 in
    rw (eqb-true way 0 parts.0) (omega arith)

module _ (plan : Plan) (domain : ℕ) where
  -- each valid one of these numbers is that of a box that the domain may use
  abbrev pub AllUsable : List ℕ → Type 0
  AllUsable ways = (index : ℕ) → index < length ways → is_valid (get_or ways index 0) ≡ true → UsableEntry plan domain (get_or ways index 0)

  -- a place whose box the domain may use, and whose line is among these
  abbrev here : List ℕ → ℕ → ℕ
  here ways place = one (place_usable plan domain place && has (clean_entry (place_line domain place)) ways)

  -- one place raised by one
  abbrev raised : List ℕ → ℕ → ℕ → ℕ
  raised ways at place = here ways place + one (eqb place at)

  -- a way in front of others that do not repeat it: its place is new among them
  module _ (way : ℕ) (ways : List ℕ) (usable : UsableEntry plan domain way) (new : has way ways ≡ false) where
    abbrev at : ℕ
    at = usable.place

    line_new : has (clean_entry (place_line domain at)) ways ≡ false
    line_new = subst (λ entry. has entry ways ≡ false) usable.is new

    raised_under : (place : ℕ) → raised ways at place ≤ here (way ∷ ways) place
    unfolding has
    raised_under place = go (ℕ_discrete place at)
      where
        more : (may first rest : Bool) → one (may && rest) + 0 ≤ one (may && (first || rest))
        more true true true = omega arith
        more true true false = omega arith
        more true false rest = omega arith
        more false first rest = omega arith

        go : Dec (place ≡ at) → raised ways at place ≤ here (way ∷ ways) place
        go (yes same) =
            let front : eqb way (clean_entry (place_line domain at)) ≡ true = eq-eqb way (clean_entry (place_line domain at)) usable.is in
            rw (same, usable.may, line_new, front, eq-eqb at at refl) (omega arith)
        go (no differs) =
            let line = clean_entry (place_line domain place) in
            rw (ne_eqb place at differs) (more (place_usable plan domain place) (eqb way line) (has line ways))

    one_more_lem : sum_to (here ways) all_messages + 1 ≤ sum_to (here (way ∷ ways)) all_messages
    one_more_lem =
        let larger : sum_to (raised ways at) all_messages ≡ sum_to (here ways) all_messages + 1 =
        sum_larger (here ways) (raised ways at) at 1 all_messages usable.below
        (λ other differs. rw (ne_eqb other at differs) (omega arith)) (rw (eq-eqb at at refl) refl) in
        omega (arith, sum_under (raised ways at) (here (way ∷ ways)) all_messages (λ place below. raised_under place))

  distinct : (set : ℕ) (ways : List ℕ) → ways_valid set ways ≡ true → AllUsable ways
      → count_where is_valid ways ≤ sum_to (here ways) all_messages
  unfolding ways_valid count_where
  distinct set [] valid usable = omega arith
  distinct set (way ∷ ways) valid usable =
      go (eqb way 0) refl valid (λ rest. distinct set ways rest (λ index below. usable (suc index) (omega arith)))
    where
      go : (empty : Bool) → eqb way 0 ≡ empty
          → cond empty (all_empty ways) (way_valid set way ways && ways_valid set ways) ≡ true
          → (ways_valid set ways ≡ true → count_where is_valid ways ≤ sum_to (here ways) all_messages)
          → cond (is_valid way) 1 0 + count_where is_valid ways ≤ sum_to (here (way ∷ ways)) all_messages
      go true test ok rest = rw (none_valid ways ok, eqb-true way 0 test) (omega arith)
      go false test ok rest =
          let parts = both (way_valid set way ways) (ways_valid set ways) ok in
          let lines = both (stands_for_line way && eqb (set_of (entry_line way)) set) (not (has way ways)) parts.0 in
          let differs : (way ≡ 0 → ⊥) = eqb-false way 0 test in
          let is : is_valid way ≡ true = lt-ltb 0 way (omega arith) in
          rw is (omega (arith, one_more_lem way ways (usable 0 (omega arith) is) (fails (has way ways) lines.1), rest parts.1))
        where
          fails : (test : Bool) → not test ≡ true → test ≡ false
          fails true passed = absurd (false≢true passed)
          fails false passed = refl

  pub distinct_most : (set : ℕ) (ways : List ℕ) → ways_valid set ways ≡ true → AllUsable ways
      → count_where is_valid ways ≤ box_count plan domain
  distinct_most set ways valid usable =
      omega (
        arith,
        distinct set ways valid usable,
        all_boxes plan domain,
        sum_under (here ways) (λ place. one (place_usable plan domain place)) all_messages
            (λ place below. under (place_usable plan domain place) (has (clean_entry (place_line domain place)) ways)),
      )
    where
      under : (may holds : Bool) → one (may && holds) ≤ one may
      under true true = omega arith
      under true false = omega arith
      under false holds = omega arith
