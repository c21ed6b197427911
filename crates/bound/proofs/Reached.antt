-- A plan and scripts with the largest bound: 32 windows 1,000 times, and 256 ops of every domain. Assumes nothing.
use Rattle.std.specs.Prelude.{Some}
use Prim.Native.Nat.{ℕ, ◌+◌, ◌*◌, ◌<◌}
use mathlib.Core.Bool.{true}
use mathlib.Core.List.{List, [], ◌∷◌, ◌++◌}
use mathlib.Core.Path.{◌≡◌, refl, sym, ap, ◌∙◌}
use native.Mathlib.Omega.{arith}
use borrow.Author.Tests.{lt-ltb}
use lib.ListN.{get_or-replicate, length-replicate, replicate}
use Rattle.plan.specs.declared.Plan.{Plan}
use Rattle.plan.specs.Colours.{colours_of, first_colour, has_bit, mask_from, mask_of, shares_total}
use Rattle.plan.specs.Limits.{most_domains, most_windows}
use Rattle.plan.specs.Sums.{all_below, sum_to}
use Rattle.plan.specs.Validity.{counts_valid, declared_valid, domain_valid, mask_valid, plan_valid, undeclared_valid, window_valid}
use Rattle.plan.specs.Windows.{ticks_total, windows_total}
use Rattle.plan.proofs.Sums.{sum_same}
use Rattle.script.specs.declared.Op.TheVariants.{Compute}
use Rattle.script.specs.Fetch.{decode_of, fetch_of, op_of}
use Rattle.script.specs.Limits.{most_ops, scripts_length}
use Rattle.script.specs.ScriptEnd.{stored_ops}
use Rattle.script.specs.Stored.{stored_of}
use Rattle.script.specs.Theorems.{EndsAt}
use Rattle.script.proofs.ScriptEnd.{end_is_none, past_end, scripts_end}
use Rattle.bound.specs.Bound.{ops_stored, step_bound}
use Rattle.bound.specs.Theorems.{LargestBound}

-- the eight domains one after the other
abbrev in_turn : List ℕ
in_turn = 0 ∷ 1 ∷ 2 ∷ 3 ∷ 4 ∷ 5 ∷ 6 ∷ 7 ∷ []

-- they own the windows in turn, each of one tick
abbrev longest : Plan
longest =
    record {
      pad = 376;
      run = 1_000;
      domains = 8;
      windows = 32;
      shares = replicate most_domains 67;
      rights = replicate most_domains 0;
      owners = in_turn ++ in_turn ++ in_turn ++ in_turn;
      lengths = replicate most_windows 1;
      masks = 1 ∷ 2 ∷ 4 ∷ 8 ∷ 16 ∷ 32 ∷ 64 ∷ 128 ∷ [];
    }

-- an op at every index of the store
abbrev full : List ℕ
full = replicate scripts_length (stored_of (Compute 1))

longest_valid : plan_valid longest ≡ true
unfolding
    colours_of first_colour has_bit mask_from mask_of shares_total all_below sum_to
    counts_valid declared_valid domain_valid mask_valid plan_valid undeclared_valid window_valid ticks_total
longest_valid = refl

op_there : (domain position : ℕ) → domain < most_domains → position < most_ops → fetch_of full domain position ≡ Some (Compute 1)
unfolding fetch_of decode_of op_of stored_of
op_there domain position declared below =
    rw (lt-ltb position most_ops below, get_or-replicate scripts_length (most_ops * domain + position) (stored_of (Compute 1)) 0 (omega arith)) refl

full_ends : (domain : ℕ) → domain < most_domains → EndsAt full domain most_ops
full_ends domain declared =
    record {
      within = omega arith;
      before = λ position below there. end_is_none (Compute 1) (sym there ∙ op_there domain position declared below);
      there = past_end full domain most_ops (omega arith);
    }

pub largest_bound : LargestBound
unfolding step_bound ops_stored windows_total sum_to
largest_bound =
    let each = sum_same (stored_ops full) (λ domain. most_ops) most_domains (λ domain declared. sym (scripts_end.once full domain most_ops (full_ends domain declared))) in
    record {
      plan = longest;
      scripts = full;
      possible = longest_valid;
      store = length-replicate scripts_length (stored_of (Compute 1));
      largest = ap (λ ops. ops + windows_total longest) each;
    }
