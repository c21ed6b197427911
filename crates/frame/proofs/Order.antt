-- The order of windows laid in turns: along them the turns rise, and within a turn the domains' numbers.
-- Assumes nothing.
use Prim.Native.Nat.{ℕ, zero, suc, ◌≤◌, ◌<◌}
use mathlib.Core.Bool.{Bool, true, false, cond}
use mathlib.Core.List.{List, [], ◌∷◌, ◌++◌, append_assoc, append-nil}
use mathlib.Core.Path.{◌≡◌, refl, sym, ap₂, subst, ◌∙◌}
use native.Mathlib.Nat.{not-suc-le-zero}
use native.Mathlib.Omega.{arith}
use lib.Dec.{ltb}
use lib.ListN.{get_or, length, length-append, get_or-append}
use lib.Seq.{get_or-append_seam, take-append-le, take-append_seam}
use borrow.Author.Tests.{ltb-true}
use Rattle.plan.specs.Limits.{most_domains}
use Rattle.plan.proofs.Sums.{last-or-earlier}
use Rattle.frame.specs.Theorems.{LexicographicLess, occurrences, turn_at}
use Rattle.frame.specs.Theorems.LexicographicLess.{by_first, by_second}
use Rattle.frame.specs.Turns.{turn_windows, first_turns}
use Rattle.frame.proofs.LaidTurns.{occurrences_append, turn_not_yet, turns_have}

-- ---- pairs

pub pair_trans :
    {a b c d e f : ℕ}
    → LexicographicLess a b c d
    → LexicographicLess c d e f
    → LexicographicLess a b e f
pair_trans (by_first one) (by_first two) = by_first (omega arith)
pair_trans (by_first one) (by_second same two) = by_first (omega arith)
pair_trans (by_second same one) (by_first two) = by_first (omega arith)
pair_trans (by_second same one) (by_second again two) = by_second (same ∙ again) (omega arith)

pub pair_irreflexive : {a b : ℕ} → LexicographicLess a b a b → ⊥
pair_irreflexive (by_first less) = omega arith
pair_irreflexive (by_second same less) = omega arith

-- ---- a list in which each window comes before a turn and a number, and all are in order

pub record Ordered (list : List ℕ) (turn number : ℕ) : Type 0 where
  pub before :
      (index : ℕ)
      → index < length list
      → LexicographicLess (turn_at list index) (get_or list index 0) turn number
  pub domains : (index : ℕ) → index < length list → get_or list index 0 < most_domains
  pub rising : (earlier later : ℕ) → earlier < later → later < length list
      → LexicographicLess (turn_at list earlier) (get_or list earlier 0) (turn_at list later) (get_or list later 0)

pub pair_same :
    {a b c d a' b' c' d' : ℕ}
    → a ≡ a'
    → b ≡ b'
    → c ≡ c'
    → d ≡ d'
    → LexicographicLess a b c d
    → LexicographicLess a' b' c' d'
pair_same one two three four less = rw (← one, ← two, ← three, ← four) less

-- what was laid keeps its turn and its number when more is laid behind it
module _ (list more : List ℕ) (index : ℕ) (below : index < length list) where
  pub kept_number : get_or (list ++ more) index 0 ≡ get_or list index 0
  kept_number = get_or-append list more 0 index below

  pub kept_turn : turn_at (list ++ more) index ≡ turn_at list index
  kept_turn = ap₂ occurrences kept_number (take-append-le index list more (omega arith))

-- one window more, of a domain in its next turn
module _ (list : List ℕ) (domain : ℕ) where
  new_number : get_or (list ++ domain ∷ []) (length list) 0 ≡ domain
  new_number = get_or-append_seam list domain [] 0

  new_turn : turn_at (list ++ domain ∷ []) (length list) ≡ occurrences domain list
  new_turn = ap₂ occurrences new_number (take-append_seam list (domain ∷ []))

  one_longer : (index : ℕ) → index < length (list ++ domain ∷ []) → index < suc (length list)
  one_longer index below = let long = length-append list (domain ∷ []) in omega arith

  laid_next : domain < most_domains
      → Ordered list (occurrences domain list) domain
      → Ordered (list ++ domain ∷ []) (occurrences domain list) (suc domain)
  laid_next small ordered =
      record {
        before = λ index below.
            last-or-earlier
            (λ (n : ℕ). LexicographicLess (turn_at (list ++ domain ∷ []) n) (get_or (list ++ domain ∷ []) n 0) (occurrences domain list) (suc domain))
            (length list) index
            (by_second new_turn (rw new_number (omega arith)))
            (λ early. pair_same (sym (kept_turn list (domain ∷ []) index early)) (sym (kept_number list (domain ∷ []) index early)) refl refl
            (pair_trans (ordered.before index early) (by_second refl (omega arith))))
            (one_longer index below);
        domains = λ index below.
            last-or-earlier (λ (n : ℕ). get_or (list ++ domain ∷ []) n 0 < most_domains) (length list) index
            (rw new_number small)
            (λ early. rw (kept_number list (domain ∷ []) index early) (ordered.domains index early))
            (one_longer index below);
        rising = λ earlier later order below.
            last-or-earlier
            (λ (n : ℕ). earlier < n
            → LexicographicLess (turn_at (list ++ domain ∷ []) earlier) (get_or (list ++ domain ∷ []) earlier 0)
            (turn_at (list ++ domain ∷ []) n) (get_or (list ++ domain ∷ []) n 0))
            (length list) later
            (λ early. pair_same (sym (kept_turn list (domain ∷ []) earlier early)) (sym (kept_number list (domain ∷ []) earlier early))
            (sym new_turn) (sym new_number) (ordered.before earlier early))
            (λ late order'.
            let early : earlier < length list = omega arith in
            pair_same (sym (kept_turn list (domain ∷ []) earlier early)) (sym (kept_number list (domain ∷ []) earlier early))
            (sym (kept_turn list (domain ∷ []) later late)) (sym (kept_number list (domain ∷ []) later late))
            (ordered.rising earlier later order' late))
            (one_longer later below) order;
      }

-- a domain that is passed over, and a turn that has come to its end
passed_over :
    {list : List ℕ} {turn number : ℕ}
    → Ordered list turn number
    → Ordered list turn (suc number)
passed_over ordered =
    record {
      before = λ index below. pair_trans (ordered.before index below) (by_second refl (omega arith));
      domains = ordered.domains;
      rising = ordered.rising;
    }

next_turn : {list : List ℕ} {turn number : ℕ} → Ordered list turn number → Ordered list (suc turn) 0
next_turn ordered =
    record {
      before = λ index below. pair_trans (ordered.before index below) (by_first (omega arith));
      domains = ordered.domains;
      rising = ordered.rising;
    }

-- ---- the turns

turn_ordered : (windows : ℕ → ℕ) (turn domains : ℕ)
    → domains ≤ most_domains
    → Ordered (first_turns windows turn) turn 0
    → Ordered (first_turns windows turn ++ turn_windows windows turn domains) turn domains
unfolding turn_windows
turn_ordered windows turn zero within before =
    subst (λ (list : List ℕ). Ordered list turn 0) (sym (append-nil (first_turns windows turn))) before
turn_ordered windows turn (suc domains) within before =
    go (ltb turn (windows domains)) refl (turn_ordered windows turn domains (omega arith) before)
  where
    -- a domain that still has some stood in each turn before, and not in this one
    in_this_turn : turn < windows domains
        → occurrences domains (first_turns windows turn ++ turn_windows windows turn domains) ≡ turn
    in_this_turn has =
        let all = occurrences_append domains (first_turns windows turn) (turn_windows windows turn domains) in
        let earlier = turns_have windows turn domains (omega arith) in
        let none = turn_not_yet windows turn domains domains (omega arith) in
        omega arith

    go : (b : Bool) → ltb turn (windows domains) ≡ b
        → Ordered (first_turns windows turn ++ turn_windows windows turn domains) turn domains
        → Ordered (first_turns windows turn ++ (turn_windows windows turn domains ++ cond b (domains ∷ []) [])) turn (suc domains)
    go true e ordered =
        let its_turn = in_this_turn (ltb-true turn (windows domains) e) in
        subst (λ (list : List ℕ). Ordered list turn (suc domains))
        (append_assoc (first_turns windows turn) (turn_windows windows turn domains) (domains ∷ []))
        (subst (λ (t : ℕ). Ordered ((first_turns windows turn ++ turn_windows windows turn domains) ++ domains ∷ []) t (suc domains)) its_turn
        (laid_next (first_turns windows turn ++ turn_windows windows turn domains) domains (omega arith)
        (subst (λ (t : ℕ). Ordered (first_turns windows turn ++ turn_windows windows turn domains) t domains) (sym its_turn) ordered)))
    go false e ordered =
        subst (λ (list : List ℕ). Ordered (first_turns windows turn ++ list) turn (suc domains))
        (sym (append-nil (turn_windows windows turn domains))) (passed_over ordered)

pub turns_ordered : (windows : ℕ → ℕ) (turns : ℕ) → Ordered (first_turns windows turns) turns 0
unfolding first_turns
turns_ordered windows zero =
    record {
      before = λ index below. absurd (not-suc-le-zero below);
      domains = λ index below. absurd (not-suc-le-zero below);
      rising = λ earlier later order below. absurd (not-suc-le-zero below);
    }
turns_ordered windows (suc turns) =
    next_turn (turn_ordered windows turns most_domains (omega arith) (turns_ordered windows turns))
