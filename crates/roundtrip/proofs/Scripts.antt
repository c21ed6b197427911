-- Reading the lines of the ops, after those of the plan: the store so far is the scripts' up to where they are read, with zeros
-- elsewhere. Assumes nothing.
use Rattle.std.specs.Prelude.{Option, Some, None, Ok}
use Prim.Native.Nat.{ℕ, zero, suc, ◌+◌, ◌-◌, ◌*◌, ◌≤◌, ◌<◌}
use native.Mathlib.Omega.{arith}
use mathlib.Core.Bool.{true}
use mathlib.Core.List.{List, [], ◌∷◌, ◌++◌}
use mathlib.Core.Path.{◌≡◌, refl, sym, ap, subst, ◌∙◌}
use lib.ListN.{get_or, length, replicate, set, length-replicate, length-set}
use lib.Seq.{get_or-set_other, get_or-set_same}
use borrow.Author.Tests.{lt-leb, lt-ltb}
use Rattle.forms.specs.declared.Form.TheVariants.{Op as Script}
use Rattle.lists.specs.Ascii.{bytes_of}
use Rattle.plan.specs.declared.Plan.{Plan}
use Rattle.plan.specs.Limits.{most_domains}
use Rattle.script.specs.declared.Op.{Op}
use Rattle.script.specs.Fetch.{decode_of, fetch_of}
use Rattle.script.specs.Limits.{most_ops, scripts_length}
use Rattle.script.specs.ScriptEnd.{stored_ops}
use Rattle.script.specs.Stored.{stored_of}
use Rattle.script.proofs.Laws.{decode_within, stored_decode}
use Rattle.script.proofs.ScriptEnd.{ends_at}
use Rattle.reader.specs.Draft.{DraftOutcome, no_ops, outcome_of, take_form, take_op, taken}
use Rattle.reader.proofs.GoodDraft.{zeros}
use Rattle.writer.specs.Canonical.{item_line, lines_from, op_lines_from, script_line, script_lines}
use Rattle.writer.specs.Lines.{op_line}
use Rattle.writer.specs.Scripts.{ops_alone}
use Rattle.roundtrip.proofs.Alone.{past_parts, past_script}
use Rattle.roundtrip.proofs.Filled.{filled_all, filled_more, filled_none, filled_through, first_entries}
use Rattle.roundtrip.proofs.Ops.{op_reads}
use Rattle.roundtrip.proofs.Walk.{Gathered, Stands, before_ops, draft_of, next_line}

-- ---- the numbers of ops so far

-- of a domain this many, and of any later one none
record Counted (counts : List ℕ) (domain position : ℕ) : Type 0 where
  long : length counts ≡ most_domains
  here : get_or counts domain 0 ≡ position
  later : (other : ℕ) → domain < other → get_or counts other 0 ≡ 0

counted_none : Counted (replicate most_domains 0) 0 0
counted_none = record { long = length-replicate {A = ℕ} most_domains 0; here = zeros most_domains 0; later = λ other past. zeros most_domains other }

-- one op of the domain more
counted_more :
    (counts : List ℕ) (domain position : ℕ)
    → domain < most_domains
    → Counted counts domain position
    → Counted (set counts domain (position + 1)) domain (position + 1)
counted_more counts domain position below counted =
    record {
      long = length-set counts domain (position + 1) ∙ counted.long;
      here = get_or-set_same counts domain (position + 1) 0 (omega (arith, counted.long));
      later = λ other past. get_or-set_other counts domain other (position + 1) 0 (λ same. omega arith) ∙ counted.later other past;
    }

-- going on to the next domain
counted_next : (counts : List ℕ) (domain position : ℕ) → Counted counts domain position → Counted counts (domain + 1) 0
counted_next counts domain position counted =
    record {
      long = counted.long;
      here = counted.later (domain + 1) (omega arith);
      later = λ other past. counted.later other (omega arith);
    }

-- ---- what an op adds

-- the ops before a position of a domain's script are read, these in number
abbrev ops_so_far : Plan → List ℕ → List ℕ → ℕ → ℕ → Gathered
ops_so_far plan scripts counts domain position =
    record { plan = plan; counts = counts; store = first_entries (most_ops * domain + position) scripts }

op_taken :
    (plan : Plan) (scripts counts named : List ℕ) (bracket domain position : ℕ) (op : Op)
    → position < most_ops
    → get_or counts domain 0 ≡ position
    → stored_of op ≡ get_or scripts (most_ops * domain + position) 0
    → take_form (Ok (Script (record { domain = domain; op = op }))) bracket named (draft_of (ops_so_far plan scripts counts domain position) named)
    (first_entries (most_ops * domain + position) scripts)
    ≡ outcome_of (taken (draft_of (ops_so_far plan scripts (set counts domain (position + 1)) domain (position + 1)) named))
    (first_entries (most_ops * domain + (position + 1)) scripts)
unfolding take_op
op_taken plan scripts counts named bracket domain position op below here stored =
    let next : most_ops * domain + (position + 1) ≡ most_ops * domain + position + 1 = omega arith in
    rw (here, lt-leb most_ops position below, stored, next, filled_more (most_ops * domain + position) scripts)

-- ---- line by line

-- these lines are left, and the ops before a position of a domain's script are read
record StandsAt (text : List ℕ) (whole : DraftOutcome) (plan : Plan) (scripts : List ℕ) (lines : List (List ℕ)) (domain position : ℕ) : Type 0 where
  counts : List ℕ
  counted : Counted counts domain position
  stands : Stands text whole plan.domains lines (ops_so_far plan scripts counts domain position)

module _ (text : List ℕ) (whole : DraftOutcome) (plan : Plan) (scripts : List ℕ) (few : plan.domains ≤ most_domains) where
  abbrev Left : List (List ℕ) → ℕ → ℕ → Type 0
  Left = StandsAt text whole plan scripts

  op_stands :
      (domain position : ℕ) (op : Op) (more : List (List ℕ))
      → domain < plan.domains
      → position < most_ops
      → fetch_of scripts domain position ≡ Some op
      → Left (op_line domain op ∷ more) domain position
      → Left more domain (position + 1)
  unfolding op_line bytes_of fetch_of
  op_stands domain position op more below within here left =
      let number = get_or scripts (most_ops * domain + position) 0 in
      let decoded : decode_of number ≡ Some op = rw (lt-ltb position most_ops within) at here in
      let counted = left.counted in
      record {
        counts = set left.counts domain (position + 1);
        counted = counted_more left.counts domain position (omega arith) counted;
        stands =
            next_line text whole plan.domains (op_line domain op) more _ _ (omega arith)
            (λ at named quiet there.
            record {
              form = Script (record { domain = domain; op = op });
              later = named;
              reads = op_reads text at plan.domains named more domain op few below (decode_within number op decoded) there;
              quiet = quiet;
              adds =
                  λ bracket.
                  op_taken plan scripts left.counts named bracket domain position op within counted.here (stored_decode number op decoded);
            })
            left.stands;
      }

  line_stands :
      (domain position : ℕ) (more : List (List ℕ))
      → domain < plan.domains
      → position < stored_ops scripts domain
      → Left (script_line scripts domain position ∷ more) domain position
      → Left more domain (position + 1)
  unfolding script_line item_line
  line_stands domain position more below before left = go (fetch_of scripts domain position) refl left
    where
      go : (item : Option Op)
          → fetch_of scripts domain position ≡ item
          → Left (item_line domain item ∷ more) domain position
          → Left more domain (position + 1)
      go (Some op) here left = op_stands domain position op more below (omega (arith, (ends_at scripts domain).within)) here left
      go None here left = absurd ((ends_at scripts domain).before position before here)

  -- ---- a whole script, and all of them

  script_stands :
      (left domain position : ℕ) (more : List (List ℕ))
      → domain < plan.domains
      → position + left ≡ stored_ops scripts domain
      → Left (lines_from (script_line scripts domain) left position ++ more) domain position
      → Left more domain (stored_ops scripts domain)
  unfolding lines_from
  script_stands zero domain position more below all stands =
      let last : position ≡ stored_ops scripts domain = omega arith in
      subst (Left more domain) last stands
  script_stands (suc left) domain position more below all stands =
      script_stands left domain (position + 1) more below (omega arith) (line_stands domain position _ below (omega arith) stands)

  module _ (alone : ops_alone plan scripts ≡ true) where
    -- past a script's end stand zeros, up to where the next domain's part begins
    next_script :
        (domain : ℕ) (lines : List (List ℕ))
        → domain < plan.domains
        → Left lines domain (stored_ops scripts domain)
        → Left lines (domain + 1) 0
    next_script domain lines below left =
        let end = stored_ops scripts domain in
        let within = (ends_at scripts domain).within in
        let none : (index : ℕ) → most_ops * domain + end ≤ index → index < most_ops * (domain + 1) + 0 → get_or scripts index 0 ≡ 0 =
        λ index past before.
        let place : most_ops * domain + (index - most_ops * domain) ≡ index = omega arith in
        ap (λ (place : ℕ). get_or scripts place 0) (sym place)
        ∙ past_script plan scripts alone domain (index - most_ops * domain) below few (omega arith) (omega arith) in
        record {
          counts = left.counts;
          counted = counted_next left.counts domain end left.counted;
          stands =
              subst (λ (store : List ℕ). Stands text whole plan.domains lines (record { plan = plan; counts = left.counts; store = store }))
              (filled_through (most_ops * domain + end) (most_ops * (domain + 1) + 0) scripts (omega arith) none) left.stands;
        }

    ops_stand : (left domain : ℕ) → domain + left ≡ plan.domains → Left (op_lines_from scripts left domain) domain 0 → Left [] plan.domains 0
    unfolding op_lines_from script_lines
    ops_stand zero domain all stands =
        let last : domain ≡ plan.domains = omega arith in
        subst (λ (n : ℕ). Left [] n 0) last stands
    ops_stand (suc left) domain all stands =
        ops_stand left (domain + 1) (omega arith)
        (next_script domain (op_lines_from scripts left (domain + 1)) (omega arith)
        (script_stands (stored_ops scripts domain) domain 0 (op_lines_from scripts left (domain + 1)) (omega arith) (omega arith) stands))

-- ---- from the last line of the plan to the last of all

-- no line is left, and all ops are read
pub record AllRead (text : List ℕ) (whole : DraftOutcome) (plan : Plan) (scripts : List ℕ) : Type 0 where
  pub counts : List ℕ
  pub stands : Stands text whole plan.domains [] (record { plan = plan; counts = counts; store = scripts })

pub scripts_stand :
    (text : List ℕ) (whole : DraftOutcome) (plan : Plan) (scripts : List ℕ)
    → plan.domains ≤ most_domains
    → ops_alone plan scripts ≡ true
    → length scripts ≡ scripts_length
    → Stands text whole plan.domains (op_lines_from scripts plan.domains 0) (before_ops plan)
    → AllRead text whole plan scripts
unfolding no_ops
scripts_stand text whole plan scripts few alone long stands =
    let none : no_ops ≡ first_entries (most_ops * 0 + 0) scripts = sym (filled_none scripts ∙ ap (λ (count : ℕ). replicate count 0) long) in
    let lines = op_lines_from scripts plan.domains 0 in
    let start : StandsAt text whole plan scripts lines 0 0 =
    record {
      counts = replicate most_domains 0;
      counted = counted_none;
      stands =
          subst (λ (store : List ℕ). Stands text whole plan.domains lines (record { plan = plan; counts = replicate most_domains 0; store = store }))
          none stands;
    } in
    let end = ops_stand text whole plan scripts few alone plan.domains 0 (omega arith) start in
    let all : first_entries (most_ops * plan.domains + 0) scripts ≡ scripts =
    filled_all (most_ops * plan.domains + 0) scripts (λ index past within. past_parts plan scripts alone index (omega arith) (omega arith)) in
    record {
      counts = end.counts;
      stands =
          subst (λ (store : List ℕ). Stands text whole plan.domains [] (record { plan = plan; counts = end.counts; store = store })) all
          end.stands;
    }
