-- Laws of the walk over a text from an offset: one turn, and the end; and of a run whose every byte
-- passes a test. Assumes nothing.
use Prim.Native.Nat.{ℕ, zero, suc, ◌+◌, ◌≤◌, ◌<◌}
use native.Mathlib.Numerals.{add-one}
use native.Mathlib.Omega.{arith}
use mathlib.Core.Bool.{Bool, true, false, and-eq-true_iff}
use mathlib.Core.List.{List, [], ◌∷◌}
use mathlib.Core.Path.{◌≡◌, refl, sym}
use lib.Dec.{eqb}
use lib.ListN.{length, get_or, drop, drop_of_length-le, length-drop}
use lib.Seq.{drop-cons}
use borrow.Author.Tests.{eq-eqb, ne_eqb}
use Rattle.lexer.specs.Scan.{all_bytes, scan_from, scan_of}

-- ---- the first byte that passes a test

module _ (stops : ℕ → Bool) where
  pub scan_here : (text : List ℕ) (at : ℕ) → at < length text → stops (get_or text at 0) ≡ true → scan_of stops text at ≡ at
  unfolding scan_of scan_from
  scan_here text at h e = rw (drop-cons text at 0, scan_from, e)

  pub scan_next : (text : List ℕ) (at : ℕ) → at < length text → stops (get_or text at 0) ≡ false → scan_of stops text (at + 1) ≡ scan_of stops text at
  unfolding scan_of scan_from
  scan_next text at h e = rw (drop-cons text at 0, scan_from, e, add-one)

  pub scan_end : (text : List ℕ) (at : ℕ) → length text ≤ at → scan_of stops text at ≡ at
  unfolding scan_of scan_from
  scan_end text at h = rw (drop_of_length-le text h)

  -- a walk never goes back
  pub scan_from_least : (bytes : List ℕ) (at : ℕ) → at ≤ scan_from stops bytes at
  unfolding scan_from
  scan_from_least [] at = omega arith
  scan_from_least (byte ∷ rest) at = by_test_lem (stops byte) (scan_from_least rest (at + 1))
    where
      by_test_lem : (test : Bool) → at + 1 ≤ scan_from stops rest (at + 1) → at ≤ elim test [ true ↦ at | false ↦ scan_from stops rest (at + 1) ]
      by_test_lem true h = omega arith
      by_test_lem false h = omega arith

  -- nor past the last byte
  scan_from_most : (bytes : List ℕ) (at : ℕ) → scan_from stops bytes at ≤ at + length bytes
  unfolding scan_from
  scan_from_most [] at = omega arith
  scan_from_most (byte ∷ rest) at = by_test_lem (stops byte) (scan_from_most rest (at + 1))
    where
      by_test_lem : (test : Bool) → scan_from stops rest (at + 1) ≤ at + 1 + length rest
          → elim test [ true ↦ at | false ↦ scan_from stops rest (at + 1) ] ≤ at + length (byte ∷ rest)
      by_test_lem true h = omega arith
      by_test_lem false h = omega arith

  pub scan_least : (text : List ℕ) (at : ℕ) → at ≤ scan_of stops text at
  unfolding scan_of
  scan_least text at = scan_from_least (drop at text) at

  pub scan_most : (text : List ℕ) (at : ℕ) → at ≤ length text → scan_of stops text at ≤ length text
  unfolding scan_of
  scan_most text at h = omega (arith, scan_from_most (drop at text) at, length-drop at text)

  -- it stops at once where the byte passes the test
  pub scan_stops : (text : List ℕ) (at : ℕ) → at < length text
      → stops (get_or text at 0) ≡ eqb at (scan_of stops text at)
  scan_stops text at h = go (stops (get_or text at 0)) refl
    where
      go : (test : Bool) → stops (get_or text at 0) ≡ test → test ≡ eqb at (scan_of stops text at)
      go true e = sym (eq-eqb at _ (sym (scan_here text at h e)))
      go false e =
          sym (ne_eqb at _ (λ same. omega (arith, scan_next text at h e, scan_least text (at + 1))))

  -- and past the last byte
  pub scan_stops_end : (text : List ℕ) (at : ℕ) → length text ≤ at
      → true ≡ eqb at (scan_of stops text at)
  scan_stops_end text at h = sym (eq-eqb at _ (sym (scan_end text at h)))

-- ---- the laws of one turn, and of one look

pub ruleset one_turn = (scan_here, scan_next, scan_end)

pub ruleset one_look = (scan_stops, scan_stops_end)

-- ---- every byte passes a test

module _ (test : ℕ → Bool) where
  -- so does the byte at each offset
  pub all_at : (run : List ℕ) (i : ℕ) → all_bytes test run ≡ true → i < length run → test (get_or run i 0) ≡ true
  unfolding all_bytes
  all_at [] i e h = absurd (omega arith)
  all_at (byte ∷ rest) zero e h = ((and-eq-true_iff (test byte) (all_bytes test rest)).0 e).0
  all_at (byte ∷ rest) (suc i) e h = all_at rest i ((and-eq-true_iff (test byte) (all_bytes test rest)).0 e).1 (omega arith)
