-- What stands at each position of the script that is handed back, in a store that holds it for its domain. Assumes nothing.
use Rattle.std.specs.Prelude.{Some, None}
use Prim.Native.Nat.{ℕ, ◌+◌, ◌*◌, ◌-◌, ◌≤◌, ◌<◌}
use mathlib.Core.Bool.{Bool, true, false, cond}
use mathlib.Core.List.{List}
use mathlib.Core.Path.{◌≡◌, refl, sym, ap, ◌∙◌}
use native.Mathlib.Nat.{zero-add}
use native.Mathlib.Decide.{dec_lt}
use native.Mathlib.Omega.{arith}
use lib.Dec.{eqb, ltb}
use lib.ListN.{get_or-eq_default, get_or, length}
use borrow.Author.Tests.{eq-eqb, eqb-false, eqb-true, le-ltb, lt-ltb, ltb-false, ltb-true, ne_eqb}
use Rattle.plan.specs.declared.Plan.{Plan}
use Rattle.plan.specs.Limits.{most_domains}
use Rattle.script.specs.declared.Op.{Op}
use Rattle.script.specs.declared.Op.TheVariants.{Write, Send, Receive, Compute}
use Rattle.script.specs.Fetch.{decode_of, fetch_of}
use Rattle.script.specs.Limits.{OpWithinLimits, most_ops, most_ticks}
use Rattle.script.specs.Stored.{stored_of}
use Rattle.script.proofs.Laws.{decode_stored}
use Rattle.script.proofs.ScriptEnd.{end_is_none}
use Rattle.latest.specs.declared.LateScript.{LateScript}
use Rattle.latest.specs.Bounds.{Fitting}
use Rattle.latest.specs.Reach.{lowest_recipient, lowest_sender, starts_run}
use Rattle.latest.specs.Script.{all_messages, first_message, last_op, late_number, late_script_of, latest_script, message_at}
use Rattle.latest.proofs.Numbers.{number_past, numbers_length}
use Rattle.latest.proofs.Ranges.{indices_most, opening_most, parts_bounded, waiting}
use Rattle.lateness.specs.Theorems.{HoldsScript, IsScript}

-- ---- the numbers of a script

module _ (script : LateScript) where
  abbrev written : ℕ
  written = script.opening + script.writes

  abbrev waited : ℕ
  waited = written + script.waits

  pub number_opening : (position : ℕ) → position < script.opening → late_number script position ≡ stored_of (message_at position)
  unfolding late_number
  number_opening position before = rw (lt-ltb position script.opening before) refl

  pub number_write : (count : ℕ) → count < script.writes → late_number script (script.opening + count) ≡ stored_of (Write (script.line + count))
  unfolding late_number
  number_write count below =
      let which : script.opening + count - script.opening ≡ count = omega arith in
      rw (le-ltb (script.opening + count) script.opening (omega arith), lt-ltb (script.opening + count) written (omega arith), which) refl

  pub number_wait : (count : ℕ) → count < script.waits → late_number script (written + count) ≡ stored_of (Compute most_ticks)
  unfolding late_number
  number_wait count below =
      rw (
        le-ltb (written + count) script.opening (omega arith),
        le-ltb (written + count) written (omega arith),
        lt-ltb (written + count) waited (omega arith),
      ) refl

  pub number_rest : late_number script waited ≡ stored_of (Compute script.rest)
  unfolding late_number
  number_rest =
      rw (
        le-ltb waited script.opening (omega arith),
        le-ltb waited written (omega arith),
        le-ltb waited waited (omega arith),
        eq-eqb waited waited refl,
      ) refl

  pub number_last : late_number script (waited + 1) ≡ script.last
  unfolding late_number
  number_last =
      rw (
        le-ltb (waited + 1) script.opening (omega arith),
        le-ltb (waited + 1) written (omega arith),
        le-ltb (waited + 1) waited (omega arith),
        ne_eqb (waited + 1) waited (λ same. omega arith),
        eq-eqb (waited + 1) (waited + 1) refl,
      ) refl

  pub number_past_last : (position : ℕ) → waited + 2 ≤ position → late_number script position ≡ 0
  unfolding late_number
  number_past_last position past =
      rw (
        le-ltb position script.opening (omega arith),
        le-ltb position written (omega arith),
        le-ltb position waited (omega arith),
        ne_eqb position waited (λ same. omega arith),
        ne_eqb position (waited + 1) (λ same. omega arith),
      ) refl

  -- an op stands at each position up to the last
  op_at_lem : OpWithinLimits (Compute most_ticks) → OpWithinLimits (Compute script.rest)
      → ((position : ℕ) → position < script.opening → OpWithinLimits (message_at position))
      → ((count : ℕ) → count < script.writes → OpWithinLimits (Write (script.line + count)))
      → (last : Op) → script.last ≡ stored_of last → OpWithinLimits last
      → (position : ℕ) → position < waited + 2 → decode_of (late_number script position) ≡ None → ⊥
  op_at_lem wait-good rest_good message-good write_good last last-is last-good position before =
      go (ltb position script.opening) refl (ltb position written) refl (ltb position waited) refl (eqb position waited) refl
    where
      none : (number : ℕ) (op : Op) → number ≡ stored_of op → OpWithinLimits op → decode_of number ≡ None → ⊥
      none number op is good ends = end_is_none op (sym ends ∙ ap decode_of is ∙ decode_stored op good)

      go : (opening : Bool) → ltb position script.opening ≡ opening
          → (writes : Bool) → ltb position written ≡ writes
          → (waits : Bool) → ltb position waited ≡ waits
          → (rests : Bool) → eqb position waited ≡ rests
          → decode_of (late_number script position) ≡ None → ⊥
      go true opens w _ x _ y _ =
          let early : position < script.opening = ltb-true _ _ opens in
          none _ (message_at position) (number_opening position early) (message-good position early)
      go false opens true writes x _ y _ =
          let from : script.opening ≤ position = ltb-false _ _ opens in
          let to : position < written = ltb-true _ _ writes in
          let same : script.opening + (position - script.opening) ≡ position = omega arith in
          none _ (Write (script.line + (position - script.opening)))
          (ap (late_number script) (sym same) ∙ number_write (position - script.opening) (omega arith)) (write_good _ (omega arith))
      go false opens false writes true waits y _ =
          let from : written ≤ position = ltb-false _ _ writes in
          let to : position < waited = ltb-true _ _ waits in
          let same : written + (position - written) ≡ position = omega arith in
          none _ (Compute most_ticks) (ap (late_number script) (sym same) ∙ number_wait (position - written) (omega arith)) wait-good
      go false opens false writes false waits true rests =
          none _ (Compute script.rest) (ap (late_number script) (eqb-true _ _ rests) ∙ number_rest) rest_good
      go false opens false writes false waits false rests =
          let past : waited ≤ position = ltb-false _ _ waits in
          let differs : (position ≡ waited → ⊥) = eqb-false _ _ rests in
          let same : position ≡ waited + 1 = omega arith in
          none _ last (ap (late_number script) same ∙ number_last ∙ last-is) last-good

-- ---- the whole script

-- its ops are within their limits
pub message_within : (position : ℕ) → position < all_messages → OpWithinLimits (message_at position)
unfolding message_at OpWithinLimits
message_within position below = go (ltb position most_domains) refl
  where
    go : (sends : Bool) → ltb position most_domains ≡ sends → OpWithinLimits (cond sends (Send position 0) (Receive (position - most_domains)))
    go true sends = let some : position < most_domains = ltb-true _ _ sends in (omega arith, omega arith)
    go false sends = let past : most_domains ≤ position = ltb-false _ _ sends in omega arith

pub compute_within : OpWithinLimits (Compute most_ticks)
unfolding OpWithinLimits
compute_within = (omega arith, omega arith)

pub first_within : (plan : Plan) (domain : ℕ) → OpWithinLimits (first_message plan domain)
unfolding first_message OpWithinLimits
first_within plan domain = go (ltb (lowest_recipient plan domain) most_domains) refl (ltb (lowest_sender plan domain) most_domains) refl
  where
    go : (sends : Bool) → ltb (lowest_recipient plan domain) most_domains ≡ sends
        → (receives : Bool) → ltb (lowest_sender plan domain) most_domains ≡ receives
        → OpWithinLimits (cond sends (Send (lowest_recipient plan domain) 0) (cond receives (Receive (lowest_sender plan domain)) (Compute most_ticks)))
    go true sends receives _ = let some : lowest_recipient plan domain < most_domains = ltb-true _ _ sends in (omega arith, omega arith)
    go false sends true receives = let some : lowest_sender plan domain < most_domains = ltb-true _ _ receives in omega arith
    go false sends false receives = compute_within

pub last_within : (plan : Plan) (domain : ℕ) → OpWithinLimits (last_op plan domain)
unfolding last_op
last_within plan domain = go (starts_run plan domain)
  where
    go : (starts : Bool) → OpWithinLimits (cond starts (first_message plan domain) (Compute most_ticks))
    go true = first_within plan domain
    go false = compute_within

module _ (plan : Plan) (domain : ℕ) (fitting : Fitting plan domain) where
  abbrev parts : LateScript
  parts = late_script_of plan domain

  abbrev end : ℕ
  end = waited parts + 2

  short : end ≤ most_ops
  unfolding late_script_of
  short = omega (arith, opening_most plan domain, indices_most plan domain, (waiting plan domain fitting).most)

  number_at : (position : ℕ) → position < most_ops → get_or (latest_script plan domain) position 0 ≡ late_number parts position
  unfolding latest_script
  number_at position below = number_past parts most_ops 0 position below ∙ ap (late_number parts) (zero-add position)

  long : length (latest_script plan domain) ≡ most_ops
  unfolding latest_script
  long = numbers_length parts most_ops 0

  ops_before : (position : ℕ) → position < end → decode_of (late_number parts position) ≡ None → ⊥
  unfolding late_script_of OpWithinLimits
  ops_before =
      op_at_lem parts (omega arith, omega arith) (omega arith, omega arith)
      (λ position early. message_within position (omega (arith, opening_most plan domain)))
      (λ count below. omega (arith, (parts_bounded plan domain fitting).lines_most))
      (last_op plan domain) refl (last_within plan domain)

  zeros_behind : (position : ℕ) → end ≤ position → get_or (latest_script plan domain) position 0 ≡ 0
  zeros_behind position past = go (dec_lt position most_ops)
    where
      go : Dec (position < most_ops) → get_or (latest_script plan domain) position 0 ≡ 0
      go (yes below) = number_at position below ∙ number_past_last parts position past
      go (no beyond) = get_or-eq_default (latest_script plan domain) 0 (omega (arith, long))

  -- it is 256 numbers: those of its ops, and then zeros
  pub is_script : IsScript (latest_script plan domain)
  is_script =
      record {
        numbers = long;
        end = end;
        ops = λ position before ends. ops_before position before (ap decode_of (sym (number_at position (omega (arith, short)))) ∙ ends);
        zeros = zeros_behind;
      }

-- ---- the ops in a store

module _ (plan : Plan) (domain : ℕ) (scripts : List ℕ) (holds : HoldsScript domain (latest_script plan domain) scripts) where
  pub fetches : (position : ℕ) (op : Op) → position < most_ops → late_number (late_script_of plan domain) position ≡ stored_of op
      → OpWithinLimits op → fetch_of scripts domain position ≡ Some op
  unfolding fetch_of latest_script
  fetches position op below is good =
      let number : get_or scripts (most_ops * domain + position) 0 ≡ stored_of op =
      holds position below ∙ number_past (late_script_of plan domain) most_ops 0 position below
      ∙ ap (late_number (late_script_of plan domain)) (zero-add position) ∙ is in
      rw (lt-ltb position most_ops below, number) (decode_stored op good)
