-- The boxes that a domain may use: how many there can be, and that there is one exactly where they count to 1 at least.
-- Assumes nothing.
use Prim.Native.Nat.{ℕ, zero, suc, ◌+◌, ◌*◌, ◌-◌, ◌≤◌, ◌<◌}
use mathlib.Core.Bool.{Bool, true, false, false≢true, cond, ◌||◌}
use mathlib.Core.Path.{◌≡◌, refl, sym}
use native.Mathlib.Omega.{arith}
use lib.Dec.{eqb, ltb}
use borrow.Author.Tests.{eq-eqb, eqb-true, ltb-false, ltb-true, ne_eqb}
use Rattle.plan.specs.declared.Plan.{Plan}
use Rattle.plan.specs.Limits.{most_domains}
use Rattle.plan.specs.Rights.{may_send}
use Rattle.plan.specs.Sums.{sum_to}
use Rattle.plan.specs.Validity.{plan_valid}
use Rattle.plan.proofs.Sums.{last-or-earlier, sum_larger, sum_most}
use Rattle.plan.proofs.ValidPlans.{counts, declared}
use Rattle.latest.specs.Reach.{box_count, has_box, lowest_recipient, lowest_sender}
use Rattle.latest.specs.Script.{all_messages}
use Rattle.latest.proofs.Lowest.{lowest_passes, none_before}

-- ---- sums of small terms

-- each term is no greater than the sum
term_most : (f : ℕ → ℕ) (count index : ℕ) → index < count → f index ≤ sum_to f count
unfolding sum_to
term_most f zero index below = absurd (omega arith)
term_most f (suc count) index below =
    last-or-earlier (λ (n : ℕ). f n ≤ sum_to f count + f count) count index (omega arith)
    (λ earlier. omega (arith, term_most f count index earlier)) below

-- where one term is 0, the others alone bound the sum
sum_without :
    (f : ℕ → ℕ) (most index count : ℕ)
    → index < count
    → f index ≡ 0
    → ((other : ℕ) → f other ≤ most)
    → sum_to f count + most ≤ most * count
sum_without f most index count below none each =
    let larger : sum_to raised count ≡ sum_to f count + most = sum_larger f raised index most count below others here in
    let bound : sum_to raised count ≤ most * count =
    sum_most raised most count (λ other within. few other (eqb other index) refl) in
    rw (sym larger) bound
  where
    raised : ℕ → ℕ
    raised other = f other + cond (eqb other index) most 0

    others : (other : ℕ) → (other ≡ index → ⊥) → raised other ≡ f other
    others other differs = rw (ne_eqb other index differs) (omega arith)

    here : raised index ≡ f index + most
    here = rw (eq-eqb index index refl) refl

    few : (other : ℕ) (same : Bool) → eqb other index ≡ same → raised other ≤ most
    few other true is = rw (is, eqb-true other index is, none) (omega arith)
    few other false is = rw is (omega (arith, each other))

-- ---- how many boxes there can be

-- no domain has the right to send to itself
abbrev pub most_boxes : ℕ
most_boxes = 2 * (most_domains - 1)

-- the boxes that a domain may use of the two between it and another
abbrev pub boxes_with : Plan → ℕ → ℕ → ℕ
boxes_with plan domain other = cond (may_send plan domain other) 1 0 + cond (may_send plan other domain) 1 0

module _ (plan : Plan) (domain : ℕ) where
  pub with_most : (other : ℕ) → boxes_with plan domain other ≤ 2
  with_most other = go (may_send plan domain other) (may_send plan other domain)
    where
      go : (fills empties : Bool) → cond fills 1 0 + cond empties 1 0 ≤ 2
      go true true = omega arith
      go true false = omega arith
      go false true = omega arith
      go false false = omega arith

  pub with_counted : (other : ℕ) → other < most_domains → boxes_with plan domain other ≤ box_count plan domain
  unfolding box_count
  with_counted other below = term_most (boxes_with plan domain) most_domains other below

  -- whatever the plan
  pub count_most : box_count plan domain ≤ all_messages
  unfolding box_count
  count_most = sum_most (boxes_with plan domain) 2 most_domains (λ other below. with_most other)

  -- of a valid plan
  pub boxes_most : plan_valid plan ≡ true → domain < plan.domains → box_count plan domain ≤ most_boxes
  unfolding box_count
  boxes_most valid below =
      let itself : may_send plan domain domain ≡ false = (declared plan domain valid below).not_own in
      let none : boxes_with plan domain domain ≡ 0 = rw itself refl in
      let most : plan.domains ≤ most_domains = (counts plan valid).domains_most in
      let others : sum_to (boxes_with plan domain) most_domains + 2 ≤ 2 * most_domains =
      sum_without (boxes_with plan domain) 2 domain most_domains (omega arith) none with_most in
      omega arith

  -- ---- whether there is one

  -- a right that is found is counted
  pub filled_counted : (other : ℕ) → other < most_domains → may_send plan domain other ≡ true → 1 ≤ box_count plan domain
  filled_counted other below may =
      let counted : boxes_with plan domain other ≤ box_count plan domain = with_counted other below in
      let one : 1 + cond (may_send plan other domain) 1 0 ≤ box_count plan domain = rw may at counted in
      omega arith

  pub emptied_counted : (other : ℕ) → other < most_domains → may_send plan other domain ≡ true → 1 ≤ box_count plan domain
  emptied_counted other below may =
      let counted : boxes_with plan domain other ≤ box_count plan domain = with_counted other below in
      let one : cond (may_send plan domain other) 1 0 + 1 ≤ box_count plan domain = rw may at counted in
      omega arith

  pub box_counted : has_box plan domain ≡ true → 1 ≤ box_count plan domain
  unfolding has_box lowest_recipient lowest_sender
  box_counted has =
      go (ltb (lowest_recipient plan domain) most_domains) refl (ltb (lowest_sender plan domain) most_domains) refl has
    where
      go :
          (fills : Bool)
          → ltb (lowest_recipient plan domain) most_domains ≡ fills
          → (empties : Bool)
          → ltb (lowest_sender plan domain) most_domains ≡ empties
          → fills || empties ≡ true
          → 1 ≤ box_count plan domain
      go true found empties found' any =
          let below = ltb-true _ _ found in
          filled_counted (lowest_recipient plan domain) below (lowest_passes (may_send plan domain) most_domains below)
      go false found true found' any =
          let below = ltb-true _ _ found' in
          emptied_counted (lowest_sender plan domain) below (lowest_passes (λ sender. may_send plan sender domain) most_domains below)
      go false found false found' any = absurd (false≢true any)

  -- without a box nobody may send to it, and it to nobody
  pub record NoRights : Type 0 where
    pub fills : (other : ℕ) → other < most_domains → may_send plan domain other ≡ false
    pub empties : (other : ℕ) → other < most_domains → may_send plan other domain ≡ false

  pub no_rights : has_box plan domain ≡ false → NoRights
  unfolding has_box lowest_recipient lowest_sender
  no_rights none =
      go (ltb (lowest_recipient plan domain) most_domains) refl (ltb (lowest_sender plan domain) most_domains) refl none
    where
      go :
          (fills : Bool)
          → ltb (lowest_recipient plan domain) most_domains ≡ fills
          → (empties : Bool)
          → ltb (lowest_sender plan domain) most_domains ≡ empties
          → fills || empties ≡ false
          → NoRights
      go true found empties found' neither = absurd (false≢true (sym neither))
      go false found true found' neither = absurd (false≢true (sym neither))
      go false found false found' neither =
          let past : most_domains ≤ lowest_recipient plan domain = ltb-false _ _ found in
          let past' : most_domains ≤ lowest_sender plan domain = ltb-false _ _ found' in
          record {
            fills = λ other below. none_before (may_send plan domain) most_domains other (omega arith);
            empties = λ other below. none_before (λ sender. may_send plan sender domain) most_domains other (omega arith);
          }

  pub none_counted : has_box plan domain ≡ false → box_count plan domain ≡ 0
  unfolding box_count
  none_counted none =
      let rights = no_rights none in
      let each : (other : ℕ) → other < most_domains → boxes_with plan domain other ≤ 0 =
      λ other below. rw (rights.fills other below, rights.empties other below) (omega arith) in
      let sum : box_count plan domain ≤ 0 * most_domains = sum_most (boxes_with plan domain) 0 most_domains each in
      omega arith

  pub counted_box : 1 ≤ box_count plan domain → has_box plan domain ≡ true
  counted_box some = go (has_box plan domain) refl
    where
      go : (box : Bool) → has_box plan domain ≡ box → has_box plan domain ≡ true
      go true is = is
      go false is = absurd (omega (arith, none_counted is))
