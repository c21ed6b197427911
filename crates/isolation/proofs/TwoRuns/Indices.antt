-- Which indices of the cache table are a domain's, the kernel's and L1's, and what is cited of them: an own line's set
-- lies in the domain's part, a kernel line's set in the kernel's indices, and parts, kernel indices and L1 are apart.
-- Assumes nothing.
use Prim.Native.Nat.{ℕ, ◌+◌, ◌-◌, ◌/◌, ◌≤◌, ◌<◌}
use mathlib.Core.Bool.{Bool, true, false, false≢true, ◌||◌}
use mathlib.Core.List.{List}
use mathlib.Core.Path.{◌≡◌, refl}
use native.Mathlib.Omega.{arith}
use lib.Dec.{eqb}
use lib.ListN.{get_or, length}
use borrow.Author.Tests.{eqb-true}
use Rattle.plan.specs.declared.Plan.{Plan}
use Rattle.plan.specs.Colours.{owns_colour}
use Rattle.plan.specs.Validity.{plan_valid}
use Rattle.plan.proofs.Masks.{masks_disjoint, owned_below}
use Rattle.lists.proofs.Agree.{InRange}
use Rattle.lists.proofs.Tests.{second_passes}
use Rattle.cache.specs.Access.{access_of, dirty_line}
use Rattle.cache.specs.Lines.{colour_of, is_dirty, l1_index, l1_length, kernel_colour, kernel_entries, kernel_index, set_colour}
use Rattle.cache.specs.Lines.{set_of, set_index, table_length, ways_per_set}
use Rattle.cache.proofs.WriteBacks.{back_dirty}
use Rattle.ops.specs.Ops.{box_line, kernel_entry_line, owns_line}
use Rattle.ops.proofs.Operations.{owned as owned-line}
use Rattle.state.specs.TableValidity.{line_allowed}
use Rattle.reachable.proofs.Accesses.{access_index}
use Rattle.isolation.proofs.TwoRuns.Access.{AccessedIndex, SoughtIndex, at_index, in_set, put_out, sought}

-- the L2 sets of a domain's colours, number by number
pub record OwnIndex (plan : Plan) (domain index : ℕ) : Type 0 where
  pub in_l2 : l1_length ≤ index
  pub owned : owns_colour plan domain (set_colour ((index - l1_length) / ways_per_set)) ≡ true

-- the kernel's sets are the table's last numbers, L1 is its first
abbrev pub InKernelSets : ℕ → Type 0
InKernelSets index = InRange kernel_index kernel_entries index

abbrev pub InL1 : ℕ → Type 0
InL1 index = InRange 0 l1_length index

-- what a switch empties
pub data FlushedIndex (index : ℕ) : Type 0 where
  kernel : InKernelSets index → FlushedIndex index
  l1 : InL1 index → FlushedIndex index

-- the indices that the ops of a running domain may touch
pub data WorkIndex (plan : Plan) (domain index : ℕ) : Type 0 where
  own : OwnIndex plan domain index → WorkIndex plan domain index
  flushed : FlushedIndex index → WorkIndex plan domain index

-- ---- a line's indices

-- a set of a domain's colour is its own
pub own_set : (plan : Plan) (domain set way : ℕ) → way < ways_per_set → owns_colour plan domain (set_colour set) ≡ true
    → OwnIndex plan domain (set_index set + way)
own_set plan domain set way below owns =
    let same : set_colour ((set_index set + way - l1_length) / ways_per_set) ≡ set_colour set = omega arith in
    record { in_l2 = omega arith; owned = rw same owns }

module _ (plan : Plan) (domain line index : ℕ) where
  -- the set of an own line and of a kernel line
  own_ways : owns_colour plan domain (colour_of line) ≡ true → InRange (set_index (set_of line)) ways_per_set index
      → WorkIndex plan domain index
  own_ways owns h =
      let way = index - set_index (set_of line) in
      let there : set_index (set_of line) + way ≡ index = omega arith in
      own (rw there at (own_set plan domain (set_of line) way (omega arith) owns))

  kernel_ways : colour_of line ≡ kernel_colour → InRange (set_index (set_of line)) ways_per_set index → WorkIndex plan domain index
  kernel_ways colour h = flushed (kernel (omega arith))

  pub own_line : owns_line plan domain line ≡ true → SoughtIndex line index → WorkIndex plan domain index
  own_line owns (at_index e) = flushed (l1 (omega arith))
  own_line owns (in_set h) = own_ways (owned-line plan domain line owns).1 h

  kernel_line : colour_of line ≡ kernel_colour → SoughtIndex line index → WorkIndex plan domain index
  kernel_line colour (at_index e) = flushed (l1 (omega arith))
  kernel_line colour (in_set h) = kernel_ways colour h

  -- a line that the domain may have in L1 is one or the other
  allowed_ways : line_allowed plan domain line ≡ true → InRange (set_index (set_of line)) ways_per_set index
      → WorkIndex plan domain index
  unfolding line_allowed
  allowed_ways allowed h = go (owns_colour plan domain (colour_of line)) refl allowed
    where
      go : (owns : Bool) → owns_colour plan domain (colour_of line) ≡ owns → (owns || eqb (colour_of line) kernel_colour) ≡ true
          → WorkIndex plan domain index
      go true test passed = own_ways test h
      go false test passed = kernel_ways (eqb-true _ _ passed) h

pub entry_line_lem : (plan : Plan) (domain index : ℕ) → SoughtIndex kernel_entry_line index → WorkIndex plan domain index
entry_line_lem plan domain index = kernel_line plan domain kernel_entry_line index refl

pub box_line_lem : (plan : Plan) (domain sender recipient index : ℕ) → SoughtIndex (box_line sender recipient) index
    → WorkIndex plan domain index
box_line_lem plan domain sender recipient index = kernel_line plan domain (box_line sender recipient) index (omega arith)

-- ---- a line that is put out

-- every dirty line of L1 is one that a domain may have there: of one of its colours or the kernel's
abbrev pub DirtyAllowed : Plan → ℕ → List ℕ → Type 0
DirtyAllowed plan domain table =
    (index : ℕ) → index < l1_length → is_dirty (get_or table index 0) ≡ true
    → line_allowed plan domain (dirty_line (get_or table index 0)) ≡ true

-- then an access touches no more than the domain may
pub accessed_line : (plan : Plan) (domain line : ℕ) (table : List ℕ) → DirtyAllowed plan domain table
    → ((index : ℕ) → SoughtIndex line index → WorkIndex plan domain index)
    → (index : ℕ) → AccessedIndex line table index → WorkIndex plan domain index
accessed_line plan domain line table dirty asked index (sought h) = asked index h
accessed_line plan domain line table dirty asked index (put_out other is h) =
    let was = back_dirty line other table is in
    allowed_ways plan domain other index (rw was.1 at (dirty (l1_index line) (omega arith) was.0)) h

-- and reading the kernel's entry line leaves it so
pub entry_allowed : (plan : Plan) (domain : ℕ) (table : List ℕ) → length table ≡ table_length → DirtyAllowed plan domain table
    → DirtyAllowed plan domain (access_of false kernel_entry_line table).table
unfolding line_allowed
entry_allowed plan domain table whole dirty index below =
    access_index false kernel_entry_line table whole
    (λ entry. is_dirty entry ≡ true → line_allowed plan domain (dirty_line entry) ≡ true) index below
    (dirty index below)
    (λ same. (λ is. absurd (false≢true is), λ is. second_passes (owns_colour plan domain kernel_colour) true refl))

-- ---- apart

module _ (plan : Plan) (possible : plan_valid plan ≡ true) (domain index : ℕ) (declared : domain < plan.domains) where
  -- a domain's part lies between L1 and the kernel's sets
  pub own_between : OwnIndex plan domain index → (l1_length ≤ index) × (index < kernel_index)
  own_between p = (p.in_l2, omega (arith, owned_below plan domain _ possible declared p.owned))

  -- and is not touched in another's window
  pub own_untouched : (running : ℕ) → running < plan.domains → (domain ≡ running → ⊥)
      → OwnIndex plan domain index → WorkIndex plan running index → ⊥
  own_untouched running there other p (own q) =
      masks_disjoint plan domain running _ possible declared there other p.owned q.owned
  own_untouched running there other p (flushed (kernel h)) = omega (arith, (own_between p).1)
  own_untouched running there other p (flushed (l1 h)) = omega arith
