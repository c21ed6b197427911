-- What reading a whole text answers, by what its steps gave. Assumes nothing.
use Rattle.std.specs.Prelude.{Ok, Err}
use Prim.Native.Nat.{ℕ, ◌≤◌, ◌<◌}
use mathlib.Core.List.{List}
use mathlib.Core.Path.{◌≡◌, refl, sym, subst, ap, ◌∙◌}
use lib.ListN.{length}
use borrow.Author.Tests.{eq-eqb, le-ltb, lt-ltb, ne_eqb}
use Rattle.plan.specs.Limits.{most_text_bytes}
use Rattle.refusal.specs.Checks.{and_then}
use Rattle.refusal.specs.declared.Refusal.{Refusal}
use Rattle.refusal.specs.declared.Refusal.TheVariants.{TextTooLong, WrongLength}
use Rattle.script.specs.Limits.{scripts_length}
use Rattle.reader.proofs.GoodDraft.{GoodDraft, GoodOutcome}
use Rattle.reader.proofs.Walking.{lines_good}
use Rattle.reader.specs.declared.DraftResult.{DraftResult}
use Rattle.reader.specs.Draft.{outcome_of}
use Rattle.reader.specs.Final.{final_verdict, plan_with_masks}
use Rattle.reader.specs.Read.{lines_of, read_of, read_result, read_verdict, read_with}
use Rattle.refusal.specs.Verdict.{Verdict}

-- what the walk over the lines comes to is good
pub walked_good : (text : List ℕ) (result : DraftResult) (store : List ℕ) → outcome_of result store ≡ lines_of text
    → GoodDraft result.draft × (length store ≡ scripts_length)
walked_good text result store walked = subst (GoodOutcome scripts_length) (sym walked) (lines_good text)

module _ (text scripts : List ℕ) where
  read_by : (verdict : Verdict) → read_verdict text scripts (lines_of text) ≡ verdict
      → read_of text scripts ≡ read_with verdict (lines_of text) scripts
  unfolding read_of
  read_by verdict is = ap (λ (v : Verdict). read_with v (lines_of text) scripts) is

  refused_by : (why : Refusal) → read_verdict text scripts (lines_of text) ≡ Err why
      → read_result (Err why) scripts ≡ read_of text scripts
  refused_by why is = sym (read_by (Err why) is)

  -- ---- 11, then 1

  pub read_wrong_length : (length scripts ≡ scripts_length → ⊥) → read_result (Err WrongLength) scripts ≡ read_of text scripts
  unfolding read_verdict
  read_wrong_length wrong = refused_by WrongLength (rw (ne_eqb _ _ wrong))

  module _ (fits : length scripts ≡ scripts_length) where
    pub read_too_long : most_text_bytes < length text → read_result (Err TextTooLong) scripts ≡ read_of text scripts
    unfolding read_verdict
    read_too_long long = refused_by TextTooLong (rw (eq-eqb _ _ fits, lt-ltb _ _ long))

    -- ---- after the walk over the lines

    module _ (short : length text ≤ most_text_bytes) (result : DraftResult) (store : List ℕ)
        (walked : outcome_of result store ≡ lines_of text) where
      checked : read_verdict text scripts (lines_of text) ≡ and_then result.verdict (final_verdict (length text) result.draft)
      unfolding read_verdict
      checked = rw (← walked, eq-eqb _ _ fits, le-ltb _ _ short)

      pub read_refused : (why : Refusal) → result.verdict ≡ Err why → read_result (Err why) scripts ≡ read_of text scripts
      read_refused why known =
          refused_by why (checked ∙ ap (λ (v : Verdict). and_then v (final_verdict (length text) result.draft)) known)

      module _ (good : result.verdict ≡ Ok tt) (last : Verdict) (final : last ≡ final_verdict (length text) result.draft) where
        judged : (verdict : Verdict) → last ≡ verdict → read_verdict text scripts (lines_of text) ≡ verdict
        judged verdict known =
            checked ∙ ap (λ (v : Verdict). and_then v (final_verdict (length text) result.draft)) good ∙ sym final ∙ known

        pub read_unfit : (why : Refusal) → last ≡ Err why → read_result (Err why) scripts ≡ read_of text scripts
        read_unfit why known = refused_by why (judged (Err why) known)

        pub read_accepted : last ≡ Ok tt → read_result (Ok (plan_with_masks result.draft.plan)) store ≡ read_of text scripts
        read_accepted known = rw (read_by (Ok tt) (judged (Ok tt) known), ← walked) refl
