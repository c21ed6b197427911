-- Windows laid in turns: how many there are, and how often a domain's number stands among them.
-- Assumes nothing.
use Prim.Native.Nat.{ℕ, zero, suc, ◌+◌, ◌≤◌, ◌<◌, min}
use mathlib.Core.Bool.{Bool, true, false, cond}
use mathlib.Core.List.{List, [], ◌∷◌, ◌++◌}
use mathlib.Core.Path.{◌≡◌, refl, sym, ap, ap₂, ◌∙◌}
use native.Mathlib.Nat.{add_assoc, min-zero, not-suc-le-zero, zero-add}
use native.Mathlib.Omega.{arith}
use lib.Dec.{eqb, ltb}
use lib.ListN.{length, length-append}
use borrow.Author.Tests.{eq-eqb, ltb-false, ltb-true, ne_eqb}
use Rattle.plan.specs.Limits.{most_domains}
use Rattle.plan.specs.Sums.{sum_to}
use Rattle.plan.proofs.Sums.{last-or-earlier, sum_same, sum_under}
use Rattle.frame.specs.Quotas.{count_below}
use Rattle.frame.specs.Theorems.{occurrences}
use Rattle.frame.specs.Turns.{turn_windows, first_turns}
use Rattle.frame.proofs.Counting.{count_mono}

-- ---- occurrences

pub occurrences_append : (number : ℕ) (first second : List ℕ)
    → occurrences number (first ++ second) ≡ occurrences number first + occurrences number second
unfolding occurrences
occurrences_append number [] second = sym (zero-add (occurrences number second))
occurrences_append number (one ∷ first) second =
    ap (λ (n : ℕ). cond (eqb one number) 1 0 + n) (occurrences_append number first second)
    ∙ sym (add_assoc _ (occurrences number first) (occurrences number second))

-- a list of one number
once : (number : ℕ) → occurrences number (number ∷ []) ≡ 1
unfolding occurrences
once number = rw (eq-eqb number number refl)

never : (number other : ℕ) → (other ≡ number → ⊥) → occurrences number (other ∷ []) ≡ 0
unfolding occurrences
never number other differ = rw (ne_eqb other number differ)

-- ---- one turn

-- a turn has a window of each domain that still has some
turn_length : (windows : ℕ → ℕ) (turn domains : ℕ)
    → length (turn_windows windows turn domains) ≡ count_below (λ domain. ltb turn (windows domain)) domains
unfolding turn_windows count_below sum_to
turn_length windows turn zero = refl
turn_length windows turn (suc domains) =
    length-append (turn_windows windows turn domains) (cond (ltb turn (windows domains)) (domains ∷ []) [])
    ∙ ap₂ (λ (a b : ℕ). a + b) (turn_length windows turn domains) (one (ltb turn (windows domains)))
  where
    one : (b : Bool) → length (cond b (domains ∷ []) []) ≡ cond b 1 0
    one true = refl
    one false = refl

-- more domains have no fewer
pub turn_grow : (windows : ℕ → ℕ) (turn domains more : ℕ)
    → domains ≤ more → length (turn_windows windows turn domains) ≤ length (turn_windows windows turn more)
turn_grow windows turn domains more within =
    rw (turn_length windows turn domains, turn_length windows turn more) (count_mono _ domains more within)

-- none of a domain that the turn has not come to
pub turn_not_yet : (windows : ℕ → ℕ) (turn domains domain : ℕ)
    → domains ≤ domain → occurrences domain (turn_windows windows turn domains) ≡ 0
unfolding turn_windows occurrences
turn_not_yet windows turn zero domain past = refl
turn_not_yet windows turn (suc domains) domain past =
    occurrences_append domain (turn_windows windows turn domains) (cond (ltb turn (windows domains)) (domains ∷ []) [])
    ∙ ap₂ (λ (a b : ℕ). a + b) (turn_not_yet windows turn domains domain (omega arith)) (none (ltb turn (windows domains)))
  where
    none : (b : Bool) → occurrences domain (cond b (domains ∷ []) []) ≡ 0
    none true = never domain domains (λ same. omega arith)
    none false = refl

-- one of each that still has some
turn_has : (windows : ℕ → ℕ) (turn domains domain : ℕ)
    → domain < domains → occurrences domain (turn_windows windows turn domains) ≡ cond (ltb turn (windows domain)) 1 0
unfolding turn_windows occurrences
turn_has windows turn zero domain below = absurd (not-suc-le-zero below)
turn_has windows turn (suc domains) domain below =
    occurrences_append domain (turn_windows windows turn domains) (cond (ltb turn (windows domains)) (domains ∷ []) [])
    ∙ last-or-earlier
    (λ (n : ℕ). occurrences n (turn_windows windows turn domains)
    + occurrences n (cond (ltb turn (windows domains)) (domains ∷ []) []) ≡ cond (ltb turn (windows n)) 1 0)
    domains domain here (λ small. earlier small (turn_has windows turn domains domain small)) below
  where
    own : (b : Bool) → occurrences domains (cond b (domains ∷ []) []) ≡ cond b 1 0
    own true = once domains
    own false = refl

    here : occurrences domains (turn_windows windows turn domains)
        + occurrences domains (cond (ltb turn (windows domains)) (domains ∷ []) []) ≡ cond (ltb turn (windows domains)) 1 0
    here =
        let before = turn_not_yet windows turn domains domains (omega arith) in
        let own-one = own (ltb turn (windows domains)) in
        omega arith

    other : domain < domains → (b : Bool) → occurrences domain (cond b (domains ∷ []) []) ≡ 0
    other small true = never domain domains (λ same. omega arith)
    other small false = refl

    earlier : domain < domains
        → occurrences domain (turn_windows windows turn domains) ≡ cond (ltb turn (windows domain)) 1 0
        → occurrences domain (turn_windows windows turn domains)
        + occurrences domain (cond (ltb turn (windows domains)) (domains ∷ []) []) ≡ cond (ltb turn (windows domain)) 1 0
    earlier small before = let none = other small (ltb turn (windows domains)) in omega arith

-- ---- many turns

-- a domain that gets one in this turn had one in each turn before
one_turn_more :
    (windows turn : ℕ)
    → min windows turn + cond (ltb turn windows) 1 0 ≡ min windows (suc turn)
one_turn_more windows turn = go (ltb turn windows) refl
  where
    go : (b : Bool) → ltb turn windows ≡ b → min windows turn + cond b 1 0 ≡ min windows (suc turn)
    go true e = let more = ltb-true turn windows e in omega arith
    go false e = let no_more = ltb-false turn windows e in omega arith

-- a domain stands among the first turns once for each, until it has no window left
pub turns_have : (windows : ℕ → ℕ) (turns domain : ℕ)
    → domain < most_domains → occurrences domain (first_turns windows turns) ≡ min (windows domain) turns
unfolding first_turns occurrences
turns_have windows zero domain below = sym (min-zero (windows domain))
turns_have windows (suc turns) domain below =
    occurrences_append domain (first_turns windows turns) (turn_windows windows turns most_domains)
    ∙ ap₂ (λ (a b : ℕ). a + b) (turns_have windows turns domain below) (turn_has windows turns most_domains domain below)
    ∙ one_turn_more (windows domain) turns

turn_adds : (windows : ℕ → ℕ) (turn domains : ℕ)
    → sum_to (λ domain. min (windows domain) turn) domains + count_below (λ domain. ltb turn (windows domain)) domains
    ≡ sum_to (λ domain. min (windows domain) (suc turn)) domains
unfolding sum_to count_below
turn_adds windows turn zero = refl
turn_adds windows turn (suc domains) =
    let before = turn_adds windows turn domains in
    let here = one_turn_more (windows domains) turn in
    omega arith

no_turns : (windows : ℕ → ℕ) (domains : ℕ) → 0 ≡ sum_to (λ domain. min (windows domain) 0) domains
unfolding sum_to
no_turns windows zero = refl
no_turns windows (suc domains) = let before = no_turns windows domains in omega (arith, min-zero (windows domains))

turns_length : (windows : ℕ → ℕ) (turns : ℕ)
    → length (first_turns windows turns) ≡ sum_to (λ domain. min (windows domain) turns) most_domains
unfolding first_turns
turns_length windows zero = no_turns windows most_domains
turns_length windows (suc turns) =
    length-append (first_turns windows turns) (turn_windows windows turns most_domains)
    ∙ ap₂ (λ (a b : ℕ). a + b) (turns_length windows turns) (turn_length windows turns most_domains)
    ∙ turn_adds windows turns most_domains

-- more turns lay no fewer windows
pub turns_grow : (windows : ℕ → ℕ) (turns more : ℕ)
    → turns ≤ more → length (first_turns windows turns) ≤ length (first_turns windows more)
turns_grow windows turns more within =
    rw (turns_length windows turns, turns_length windows more)
    (sum_under _ _ most_domains (λ domain below. omega arith))

-- where nobody has more windows than there are turns, all windows are laid
pub turns_lay_all : (windows : ℕ → ℕ) (turns : ℕ)
    → ((domain : ℕ) → domain < most_domains → windows domain ≤ turns)
    → length (first_turns windows turns) ≡ sum_to windows most_domains
turns_lay_all windows turns few =
    turns_length windows turns
    ∙ sum_same _ _ most_domains (λ domain below. let most = few domain below in omega arith)

-- ---- equal windows are laid alike

turn_same : (one other : ℕ → ℕ) (turn domains : ℕ)
    → ((domain : ℕ) → domain < domains → one domain ≡ other domain)
    → turn_windows one turn domains ≡ turn_windows other turn domains
unfolding turn_windows
turn_same one other turn zero same = refl
turn_same one other turn (suc domains) same =
    ap₂ (λ (before : List ℕ) (windows : ℕ). before ++ cond (ltb turn windows) (domains ∷ []) [])
    (turn_same one other turn domains (λ domain below. same domain (omega arith)))
    (same domains (omega arith))

pub turns_same : (one other : ℕ → ℕ) (turns : ℕ)
    → ((domain : ℕ) → domain < most_domains → one domain ≡ other domain)
    → first_turns one turns ≡ first_turns other turns
unfolding first_turns
turns_same one other zero same = refl
turns_same one other (suc turns) same =
    ap₂ (λ (before turn : List ℕ). before ++ turn) (turns_same one other turns same)
    (turn_same one other turns most_domains same)
