-- A state or a plan, once its numbers are written one run behind the other. Assumes nothing.
use mathlib.Core.Path.{◌≡◌, refl, sym, ap, ◌∙◌}
use mathlib.Core.List.{List, [], ◌∷◌, ◌++◌}
use Prim.Native.Nat.{ℕ, ◌+◌, ◌≤◌}
use native.Mathlib.Omega.{arith}
use lib.ListN.{length, take}
use borrow.Rule.Slice.PartMut.{put_mid}
use lib.Seq.{length-sets, sets, take_all}
use Rattle.lists.specs.Part.{splice}
use Rattle.lists.proofs.Agree.{splice_sets}
use Rattle.plan.specs.declared.Plan.{Plan}
use Rattle.state.specs.declared.State.{State}
use Rattle.pirkvezo.specs.Numbers.{numbers_from, plan_length, positions_offset, shares_offset, state_length}
use Rattle.pirkvezo.proofs.Runs.{front_more, front_run}
use Rattle.pirkvezo.proofs.Whole.{run_all}

-- a table of `size` numbers whose first `count` are written
pub record Front (size : ℕ) (table : List ℕ) (count : ℕ) (written : List ℕ) : Type 0 where
  pub long : length table ≡ size
  pub holds : take count table ≡ written

-- a part of a table that a whole list is copied into
pub copied :
    (table list : List ℕ) (first count : ℕ)
    → first + count ≤ length table
    → length list ≡ count
    → put_mid first count table list ≡ sets table first (numbers_from list 0 count)
unfolding splice
copied table list first count fits long = rw (run_all list count long) (splice_sets first count list table long fits)

-- the next run is written
pub next :
    {size first : ℕ} {table written : List ℕ} (numbers list : List ℕ) (count : ℕ)
    → Front size table first written
    → first + count ≤ size
    → numbers ≡ sets table first (numbers_from list 0 count)
    → Front size numbers (first + count) (written ++ numbers_from list 0 count)
next {first = first} {table = table} {written = written} numbers list count front fits stored =
    record {
      long = ap length stored ∙ length-sets table first (numbers_from list 0 count) ∙ front.long;
      holds = rw stored (front_run table list written first count (omega (arith, front.long)) front.holds);
    }

-- the next run is written, from a whole list
pub next_copied :
    {size first : ℕ} {table written fresh list : List ℕ} (count : ℕ)
    → Front size table first written
    → first + count ≤ size
    → fresh ≡ list
    → length list ≡ count
    → Front size (put_mid first count table fresh) (first + count) (written ++ numbers_from list 0 count)
next_copied {first = first} {table = table} {list = list} count front fits same long =
    next _ list count front fits (rw same (copied table list first count (omega (arith, front.long)) long))

-- all is written
pub full : {size : ℕ} {table written : List ℕ} → Front size table size written → table ≡ written
full {size} {table} front = sym (take_all size table (omega (arith, front.long))) ∙ front.holds

-- the two numbers that a state begins with
abbrev pub state_head : State → List ℕ
state_head state = state.windows ∷ state.clock ∷ []

pub state_begun :
    (state : State) (lent : List ℕ)
    → length lent ≡ state_length
    → Front state_length (sets lent 0 (state_head state)) positions_offset (state_head state)
state_begun state lent long =
    record { long = length-sets lent 0 (state_head state) ∙ long; holds = front_more lent (state_head state) [] 0 (omega arith) refl }

-- the four numbers that a plan begins with
abbrev pub plan_head : Plan → List ℕ
plan_head plan = plan.pad ∷ plan.run ∷ plan.domains ∷ plan.windows ∷ []

pub plan_begun :
    (plan : Plan) (lent : List ℕ)
    → length lent ≡ plan_length
    → Front plan_length (sets lent 0 (plan_head plan)) shares_offset (plan_head plan)
plan_begun plan lent long =
    record { long = length-sets lent 0 (plan_head plan) ∙ long; holds = front_more lent (plan_head plan) [] 0 (omega arith) refl }
