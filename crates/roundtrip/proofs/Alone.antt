-- A store that holds the ops of its scripts alone has zeros past each script's end, and in the parts of undeclared domains. A store
-- without an op is such a store. Assumes nothing.
use Rattle.std.specs.Prelude.{None}
use Prim.Native.Nat.{ℕ, ◌+◌, ◌*◌, ◌/◌, ◌%◌, ◌≤◌, ◌<◌}
use native.Mathlib.Omega.{arith}
use mathlib.Core.Bool.{true}
use mathlib.Core.List.{List}
use mathlib.Core.Path.{◌≡◌, sym, ap, ◌∙◌}
use lib.Dec.{ltb}
use lib.ListN.{get_or}
use borrow.Author.Tests.{eq-eqb, eqb-true, le-ltb, lt-ltb}
use Rattle.lists.proofs.Tests.{second_passes}
use Rattle.plan.specs.declared.Plan.{Plan}
use Rattle.plan.specs.Limits.{most_domains}
use Rattle.plan.proofs.Sums.{all_below_lem, below_all}
use Rattle.script.specs.Fetch.{decode_of, fetch_of, op_of}
use Rattle.script.specs.Limits.{most_ops, scripts_length}
use Rattle.script.specs.ScriptEnd.{stored_ops}
use Rattle.script.proofs.ScriptEnd.{passed_end, passed_none}
use Rattle.reader.specs.Draft.{no_ops}
use Rattle.reader.proofs.GoodDraft.{zeros}
use Rattle.writer.specs.Scripts.{op_or_zero, ops_alone, written_ops}

module _ (plan : Plan) (scripts : List ℕ) (alone : ops_alone plan scripts ≡ true) where
  no_op :
      (domain position : ℕ)
      → domain < most_domains
      → position < most_ops
      → written_ops plan.domains scripts domain ≤ position
      → get_or scripts (most_ops * domain + position) 0 ≡ 0
  unfolding ops_alone op_or_zero
  no_op domain position below within past =
      let row = all_below_lem _ most_domains domain alone below in
      let here : op_or_zero plan.domains scripts domain position ≡ true = all_below_lem (op_or_zero plan.domains scripts domain) most_ops position row within in
      eqb-true _ _ (rw (le-ltb position (written_ops plan.domains scripts domain) past) at here)

  -- past the end of a declared domain's script
  pub past_script :
      (domain position : ℕ)
      → domain < plan.domains
      → plan.domains ≤ most_domains
      → position < most_ops
      → stored_ops scripts domain ≤ position
      → get_or scripts (most_ops * domain + position) 0 ≡ 0
  unfolding written_ops
  past_script domain position below few within past =
      no_op domain position (omega arith) within (rw (lt-ltb domain plan.domains below) past)

  -- past the last declared domain's part
  pub past_parts : (index : ℕ) → most_ops * plan.domains ≤ index → index < scripts_length → get_or scripts index 0 ≡ 0
  unfolding written_ops
  past_parts index past within =
      let domain = index / most_ops in
      let position = index % most_ops in
      let undeclared : plan.domains ≤ domain = omega arith in
      let place : most_ops * domain + position ≡ index = omega arith in
      ap (λ (place : ℕ). get_or scripts place 0) (sym place)
      ∙ no_op domain position (omega arith) (omega arith) (rw (le-ltb domain plan.domains undeclared) (omega arith))

-- ---- a store without an op

no_op_there : (domain position : ℕ) → get_or no_ops (most_ops * domain + position) 0 ≡ 0
unfolding no_ops
no_op_there domain position = zeros scripts_length (most_ops * domain + position)

pub none_alone : (plan : Plan) → ops_alone plan no_ops ≡ true
unfolding ops_alone op_or_zero
none_alone plan =
    below_all _ most_domains λ domain below.
    below_all (op_or_zero plan.domains no_ops domain) most_ops λ position within.
    second_passes (ltb position (written_ops plan.domains no_ops domain)) _
    (eq-eqb (get_or no_ops (most_ops * domain + position) 0) 0 (no_op_there domain position))

pub none_stored : (domain : ℕ) → stored_ops no_ops domain ≡ 0
unfolding fetch_of decode_of op_of
none_stored domain =
    let first : fetch_of no_ops domain 0 ≡ None = ap decode_of (no_op_there domain 0) in
    sym (passed_end no_ops domain 0 (passed_none no_ops domain) (omega arith) first)
