-- The boxes that a domain may use, each by the message that uses it: place by place, in the order of the script's opening, first the
-- boxes to the others, then those from them. Assumes nothing.
use Prim.Native.Nat.{ℕ, ◌+◌, ◌-◌, ◌≤◌, ◌<◌}
use mathlib.Core.Bool.{Bool, true, false, cond, false≢true}
use mathlib.Core.Path.{◌≡◌, refl, sym, subst, ◌∙◌}
use native.Mathlib.Decide.{dec_lt}
use native.Mathlib.Omega.{arith}
use lib.Dec.{ltb}
use borrow.Author.Tests.{le-ltb, lt-ltb}
use Rattle.plan.specs.declared.Plan.{Plan}
use Rattle.plan.specs.Limits.{most_domains}
use Rattle.plan.specs.Rights.{may_send}
use Rattle.plan.specs.Sums.{sum_to}
use Rattle.plan.proofs.Sums.{sum_most}
use Rattle.cache.specs.Lines.{clean_entry}
use Rattle.ops.specs.Ops.{box_line}
use Rattle.latest.specs.Reach.{box_count, has_box}
use Rattle.latest.specs.Script.{all_messages}
use Rattle.latest.proofs.Boxes.{box_counted, counted_box, emptied_counted, filled_counted, none_counted}
use Rattle.lateness.proofs.Counting.{one, one_most}

module _ (domain : ℕ) where
  abbrev pub place_sender : ℕ → ℕ
  place_sender place = cond (ltb place most_domains) domain (place - most_domains)

  abbrev pub place_recipient : ℕ → ℕ
  place_recipient place = cond (ltb place most_domains) place domain

  -- the line of its box
  abbrev pub place_line : ℕ → ℕ
  place_line place = box_line (place_sender place) (place_recipient place)

-- the domain may use it
abbrev pub place_usable : Plan → ℕ → ℕ → Bool
place_usable plan domain place = may_send plan (place_sender domain place) (place_recipient domain place)

-- how many of the first `count` places it may use
abbrev pub boxes_before : Plan → ℕ → ℕ → ℕ
boxes_before plan domain count = sum_to (λ place. one (place_usable plan domain place)) count

-- of all places as many as the domain has boxes
pub all_boxes : (plan : Plan) (domain : ℕ) → boxes_before plan domain all_messages ≡ box_count plan domain
unfolding sum_to box_count
all_boxes plan domain = omega arith

-- ---- whether there is one

-- a domain that may exchange a message has a box
pub sends_box : (plan : Plan) (domain recipient : ℕ) → recipient < most_domains → may_send plan domain recipient ≡ true → has_box plan domain ≡ true
sends_box plan domain recipient below may = counted_box plan domain (filled_counted plan domain recipient below may)

pub receives_box : (plan : Plan) (domain sender : ℕ) → sender < most_domains → may_send plan sender domain ≡ true → has_box plan domain ≡ true
receives_box plan domain sender below may = counted_box plan domain (emptied_counted plan domain sender below may)

-- the count says the same
pub some_boxes : (plan : Plan) (domain : ℕ) → ltb 0 (box_count plan domain) ≡ has_box plan domain
some_boxes plan domain = go (has_box plan domain) refl
  where
    go : (box : Bool) → has_box plan domain ≡ box → ltb 0 (box_count plan domain) ≡ box
    go true test = lt-ltb 0 (box_count plan domain) (box_counted plan domain test)
    go false test = rw (none_counted plan domain test) refl

-- of the first places no more than of all
pub before_most : (plan : Plan) (domain count : ℕ) → count ≤ all_messages → boxes_before plan domain count ≤ all_messages
before_most plan domain count few =
    omega (
      arith,
      sum_most (λ place. one (place_usable plan domain place)) 1 count (λ place below. one_most (place_usable plan domain place)),
    )

-- ---- numbers of such lines

-- a number is that of the line of a box that the domain may use
pub record UsableEntry (plan : Plan) (domain entry : ℕ) : Type 0 where
  pub place : ℕ
  pub below : place < all_messages
  pub may : place_usable plan domain place ≡ true
  pub is : entry ≡ clean_entry (place_line domain place)

pub sends_entry : (plan : Plan) (domain recipient : ℕ) → recipient < most_domains → may_send plan domain recipient ≡ true
    → UsableEntry plan domain (clean_entry (box_line domain recipient))
sends_entry plan domain recipient below may =
    let first : ltb recipient most_domains ≡ true = lt-ltb recipient most_domains below in
    record { place = recipient; below = omega arith; may = rw first may; is = rw first refl }

pub receives_entry : (plan : Plan) (domain sender : ℕ) → sender < most_domains → may_send plan sender domain ≡ true
    → UsableEntry plan domain (clean_entry (box_line sender domain))
receives_entry plan domain sender below may =
    let behind : ltb (most_domains + sender) most_domains ≡ false = le-ltb (most_domains + sender) most_domains (omega arith) in
    let same : most_domains + sender - most_domains ≡ sender = omega arith in
    record { place = most_domains + sender; below = omega arith; may = rw (behind, same) may; is = rw (behind, same) refl }

-- ---- different places have different lines

-- but for the two of a box to itself, which no domain may use
pub lines_differ : (plan : Plan) (domain first second : ℕ) → domain < most_domains → may_send plan domain domain ≡ false
    → first < second → second < all_messages → place_usable plan domain second ≡ true
    → place_line domain first ≡ place_line domain second → ⊥
lines_differ plan domain first second small not_own earlier below may same = go (dec_lt first most_domains) (dec_lt second most_domains)
  where
    go : Dec (first < most_domains) → Dec (second < most_domains) → ⊥
    go (yes sends) (yes also) =
        let one = rw (lt-ltb first most_domains sends, lt-ltb second most_domains also) at same in
        omega (arith, one)
    go (yes sends) (no receives) =
        let behind : ltb second most_domains ≡ false = le-ltb second most_domains (omega arith) in
        let lines : box_line domain first ≡ box_line (second - most_domains) domain = rw (lt-ltb first most_domains sends, behind) at same in
        let itself : second - most_domains ≡ domain = omega arith in
        let allowed : may_send plan (second - most_domains) domain ≡ true = rw behind at may in
        false≢true (sym not_own ∙ subst (λ sender. may_send plan sender domain ≡ true) itself allowed)
    go (no receives) (yes sends) = omega arith
    go (no receives) (no also) =
        let one : box_line (first - most_domains) domain ≡ box_line (second - most_domains) domain =
        rw (le-ltb first most_domains (omega arith), le-ltb second most_domains (omega arith)) at same in
        omega arith
