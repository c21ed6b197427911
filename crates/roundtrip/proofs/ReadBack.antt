-- The text of a valid plan and its scripts is accepted, and gives that plan and those scripts back. Assumes nothing.
use Rattle.std.specs.Prelude.{Ok}
use Prim.Native.Nat.{ℕ, ◌≤◌}
use native.Mathlib.Omega.{arith}
use mathlib.Core.Bool.{true}
use mathlib.Core.List.{List}
use mathlib.Core.Path.{◌≡◌, refl, ap, subst, ◌∙◌}
use lib.ListN.{length, replicate}
use borrow.Author.Tests.{eq-eqb, le-ltb}
use Rattle.script.specs.Limits.{scripts_length}
use Rattle.plan.specs.declared.Plan.{Plan}
use Rattle.plan.specs.Validity.{plan_valid}
use Rattle.plan.specs.Limits.{most_domains, most_text_bytes}
use Rattle.plan.proofs.ValidPlans.{counts}
use Rattle.reader.specs.Draft.{DraftOutcome, no_draft, outcome_of, taken}
use Rattle.reader.specs.DraftParts.{draft_with}
use Rattle.reader.proofs.GoodDraft.{zeros}
use Rattle.reader.specs.Read.{lines_of, read_of, read_verdict, read_with}
use Rattle.writer.specs.Canonical.{canonical_lines, canonical_text, op_lines_from}
use Rattle.writer.specs.Scripts.{op_or_zero, ops_alone, written_ops}
use Rattle.roundtrip.specs.Accepted.{Shaped}
use Rattle.roundtrip.proofs.Final.{accepted, masks_kept, read_all, read_none, unmasked}
use Rattle.roundtrip.proofs.Progress.{plan_stands, so_far}
use Rattle.roundtrip.proofs.Scripts.{AllRead, scripts_stand}
use Rattle.roundtrip.proofs.Walk.{Stands, before_ops, no_line}
use Rattle.refusal.specs.Verdict.{Verdict}

module _ (plan : Plan) (scripts : List ℕ) (shaped : Shaped plan) (valid : plan_valid plan ≡ true) where
  -- the walk over the written text
  abbrev walked : DraftOutcome
  walked = lines_of (canonical_text plan scripts)

  -- before the first line nothing is read, and no recipient is named
  first_line : Stands (canonical_text plan scripts) walked plan.domains (canonical_lines plan scripts) (before_ops (so_far plan 0 0 0 0))
  unfolding canonical_text no_draft
  first_line =
      record {
        turns = length (canonical_text plan scripts);
        at = 0;
        named = replicate most_domains 0;
        left = refl;
        enough = omega arith;
        quiet = λ domain past. zeros most_domains domain;
        same = rw (read_none plan shaped);
      }

  -- after the lines of the plan it is read, but for its masks, and those of the ops are left
  ops_left : Stands (canonical_text plan scripts) walked plan.domains (op_lines_from scripts plan.domains 0) (before_ops (unmasked plan))
  unfolding canonical_lines
  ops_left =
      subst (λ (read : Plan). Stands (canonical_text plan scripts) walked plan.domains (op_lines_from scripts plan.domains 0) (before_ops read))
      (read_all plan shaped valid)
      (plan_stands (canonical_text plan scripts) walked plan valid (op_lines_from scripts plan.domains 0) first_line)

  -- after the last line the scripts are read too
  last_line : ops_alone plan scripts ≡ true → length scripts ≡ scripts_length → AllRead (canonical_text plan scripts) walked (unmasked plan) scripts
  unfolding ops_alone op_or_zero written_ops
  last_line alone long =
      scripts_stand (canonical_text plan scripts) walked (unmasked plan) scripts (counts plan valid).domains_most alone long ops_left

-- reading the text of a plan and its scripts gives that plan and those scripts
pub read_back :
    (plan : Plan) (scripts store : List ℕ)
    → Shaped plan
    → plan_valid plan ≡ true
    → ops_alone plan scripts ≡ true
    → length (canonical_text plan scripts) ≤ most_text_bytes
    → length scripts ≡ scripts_length
    → length store ≡ scripts_length
    → read_of (canonical_text plan scripts) store ≡ record { verdict = Ok tt; plan = plan; scripts = scripts }
unfolding read_of read_verdict
read_back plan scripts store shaped valid alone fits long lent =
    let text = canonical_text plan scripts in
    let all = last_line plan scripts shaped valid alone long in
    let read = no_line text (lines_of text) plan.domains (record { plan = unmasked plan; counts = all.counts; store = scripts }) all.stands in
    let lines = outcome_of (taken (draft_with (unmasked plan) all.counts read.named)) scripts in
    let verdict : read_verdict text store lines ≡ Ok tt =
    rw (eq-eqb (length store) scripts_length lent, le-ltb most_text_bytes (length text) fits)
    (accepted plan all.counts read.named (length text) valid read.quiet) in
    (ap (λ (outcome : DraftOutcome). read_with (read_verdict text store outcome) outcome store) read.gave
    ∙ ap (λ (verdict : Verdict). read_with verdict lines store) verdict
    ∙ ap (λ (plan : Plan). record { verdict = Ok tt; plan = plan; scripts = scripts }) (masks_kept plan shaped valid))
