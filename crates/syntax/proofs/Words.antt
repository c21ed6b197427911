-- Laws of comparing the bytes of a text with a word: lengths that differ, one byte, and the end; and that a word lies in its text. Assumes nothing.
use Prim.Native.Nat.{ℕ, suc, ◌+◌, ◌-◌, ◌≤◌, ◌<◌}
use native.Mathlib.Numerals.{add-one}
use native.Mathlib.Omega.{arith}
use mathlib.Core.Bool.{Bool, true, false, and-false}
use mathlib.Core.List.{List, [], ◌∷◌}
use mathlib.Core.Path.{◌≡◌, refl, sym, ap, ◌∙◌}
use lib.Dec.{eqb}
use lib.ListN.{length, get_or, drop, drop_of_length-le}
use lib.Seq.{drop-cons}
use borrow.Author.Tests.{eq-eqb, ne_eqb}
use Rattle.lists.proofs.Parts.{part_length}
use Rattle.syntax.specs.Tokens.{is_word, same_bytes}

-- two lists of bytes from an offset on
unfoldable pub same_from : List ℕ → List ℕ → ℕ → Bool
same_from one other i = same_bytes (drop i one) (drop i other)

pub same_lengths : (one other : List ℕ) → (length one ≡ length other → ⊥) → same_bytes one other ≡ false
unfolding same_bytes
same_lengths [] [] h = absurd (h refl)
same_lengths [] (b ∷ bs) h = refl
same_lengths (a ∷ as₀) [] h = refl
same_lengths (a ∷ as₀) (b ∷ bs) h = rw (same_lengths as₀ bs (λ e. h (ap suc e))) (and-false (eqb a b))

module _ (one other : List ℕ) (i : ℕ) (equal : length one ≡ length other) where
  pub same_fails : i < length one → (get_or one i 0 ≡ get_or other i 0 → ⊥) → same_from one other i ≡ false
  unfolding same_from same_bytes
  same_fails h differ =
      let k : i < length other = omega arith in
      rw (drop-cons one i 0, drop-cons other i 0, ne_eqb (get_or one i 0) (get_or other i 0) differ)

  pub same_next : i < length one → get_or one i 0 ≡ get_or other i 0 → same_from one other (i + 1) ≡ same_from one other i
  unfolding same_from same_bytes
  same_next h same =
      let k : i < length other = omega arith in
      rw (drop-cons one i 0, drop-cons other i 0, eq-eqb (get_or one i 0) (get_or other i 0) same, add-one)

  pub same_end : length one ≤ i → same_from one other i ≡ true
  unfolding same_from same_bytes
  same_end h = let k : length other ≤ i = omega arith in rw (drop_of_length-le one h, drop_of_length-le other k)

-- a word of another length than a run of a text is not the run
pub other_length : (text : List ℕ) (start end : ℕ) → (start ≤ end) × (end ≤ length text) → (word : List ℕ)
    → (end - start ≡ length word → ⊥) → is_word text start end word ≡ false
unfolding is_word
other_length text start end within word differ =
    let long = part_length start (end - start) text (omega (arith, within.0, within.1)) in
    same_lengths _ word (λ same. differ (sym long ∙ same))
