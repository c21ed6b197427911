-- Every accepted plan passes plan validity (12): what is known of the lines that were read, and of a draft that passes the last
-- checks, is what it asks. Assumes nothing.
use Rattle.std.specs.Prelude.{Ok, Err}
use Prim.Native.Nat.{ℕ, ◌+◌, ◌-◌, ◌^◌, ◌≤◌, ◌<◌}
use native.Mathlib.Omega.{arith}
use mathlib.Core.Bool.{Bool, true, cond, not, ◌&&◌, ◌||◌, and-eq-true_iff}
use mathlib.Core.List.{List}
use mathlib.Core.Path.{◌≡◌, refl, sym, ap, ◌∙◌}
use lib.Dec.{eqb, leb, ltb}
use lib.ListN.{get_or, length}
use borrow.Author.Tests.{eq-eqb, eqb-false, eqb-true, le-leb, lt-ltb, ltb-false, ltb-true}
use Rattle.plan.proofs.MaskLists.{mask_alike, mask_due}
use Rattle.plan.proofs.Sums.{below_all}
use Rattle.plan.specs.declared.Plan.{Plan}
use Rattle.plan.specs.Colours.{colours_at, first_colour, shares_total}
use Rattle.plan.specs.Validity.{counts_valid, declared_valid, domain_valid, mask_valid, plan_valid, undeclared_valid, window_valid, within}
use Rattle.plan.specs.Parts.{with_masks}
use Rattle.plan.specs.Windows.{ticks_total}
use Rattle.plan.specs.Limits.{least_domains, least_length, least_pad, least_run, least_share}
use Rattle.plan.specs.Limits.{least_windows, most_domains, most_length, most_pad, most_run}
use Rattle.plan.specs.Limits.{most_share, most_text_bytes, most_windows}
use Rattle.script.specs.Limits.{scripts_length}
use Rattle.refusal.specs.declared.Refusal.{Refusal}
use Rattle.refusal.specs.declared.Refusal.TheVariants.{TextTooLong, WrongLength}
use Rattle.syntax.proofs.Choices.{neither}
use Rattle.lexer.proofs.Reached.{cond_holds}
use Rattle.refusal.proofs.Passed.{both_passed, not_refused, unless_passed, when_passed}
use Rattle.reader.proofs.GoodDraft.{GoodDraft}
use Rattle.reader.proofs.HighBits.{high_off}
use Rattle.reader.proofs.LastChecks.{Passes, coloured_each, mentions_none, passes}
use Rattle.reader.proofs.Walking.{lines_good}
use Rattle.reader.specs.declared.Draft.{Draft}
use Rattle.reader.specs.Final.{final_verdict, plan_with_masks}
use Rattle.reader.specs.Read.{ReadOutcome, lines_of, read_of, read_verdict, read_with}
use Rattle.refusal.specs.Verdict.{Verdict}

-- ---- tests

both : (a b : Bool) → a ≡ true → b ≡ true → (a && b) ≡ true
both a b p q = (and-eq-true_iff a b).1 (p, q)

within_true : (low high number : ℕ) → low ≤ number → number ≤ high → within low high number ≡ true
within_true low high number l h = both (leb low number) (leb number high) (le-leb _ _ l) (le-leb _ _ h)

-- ---- a draft that passes the last checks

-- the plan that it gives
abbrev plan_of : Draft → Plan
plan_of draft = plan_with_masks draft.plan

module _ (draft : Draft) (good : GoodDraft draft) (fine : Passes draft) where
  -- nothing is lacking
  present : (draft.plan.pad ≡ 0 → ⊥) × (1 ≤ draft.plan.domains) × (1 ≤ draft.plan.windows) × (1 ≤ draft.plan.run)
  present =
      let third = neither (eqb draft.plan.pad 0 || eqb draft.plan.domains 0 || eqb draft.plan.windows 0) _ fine.nothing_lacking in
      let second = neither (eqb draft.plan.pad 0 || eqb draft.plan.domains 0) _ third.0 in
      let first = neither (eqb draft.plan.pad 0) _ second.0 in
      let pad = eqb-false _ _ first.0 in
      let domains : draft.plan.domains ≡ 0 → ⊥ = eqb-false _ _ first.1 in
      let windows : draft.plan.windows ≡ 0 → ⊥ = eqb-false _ _ second.1 in
      let run : draft.plan.run ≡ 0 → ⊥ = eqb-false _ _ third.1 in
      (pad, omega arith, omega arith, omega arith)

  counts_pass_lem : counts_valid (plan_of draft) ≡ true
  unfolding plan_with_masks with_masks counts_valid
  counts_pass_lem =
      both _ _ (both _ _ (both _ _
      (within_true least_pad most_pad _ (good.pad_least present.0) good.pad_most)
      (within_true least_run most_run _ present.3 good.run_most))
      (within_true least_domains most_domains _ present.1 good.domains.most))
      (within_true least_windows most_windows _ present.2 good.windows.most)

  -- a domain's recipients are declared
  rights_most : (domain : ℕ) → domain < draft.plan.domains → get_or draft.plan.rights domain 0 < 2 ^ draft.plan.domains
  rights_most domain below =
      let here = good.domains.declared domain below in
      let gap = most_domains - draft.plan.domains in
      let whole : draft.plan.domains + gap ≡ most_domains = omega (arith, good.domains.most) in
      high_off gap _ draft.plan.domains (rw whole here.small) (λ index from most has.
      here.noted index has (mentions_none draft.named _ _ index fine.all_declared from (omega arith)))

  -- the masks are those that the shares give
  mask_pass : (domain : ℕ) → domain < most_domains → mask_valid (plan_of draft) domain ≡ true
  unfolding plan_with_masks with_masks mask_valid
  mask_pass domain small =
      eq-eqb _ _
      (mask_due draft.plan domain small
      ∙ ap (λ (mask : ℕ). cond (ltb domain draft.plan.domains) mask 0) (mask_alike draft.plan (plan_of draft) domain refl))

  declared_pass : (domain : ℕ) → domain < draft.plan.domains → declared_valid (plan_of draft) domain ≡ true
  unfolding plan_with_masks with_masks declared_valid
  declared_pass domain below =
      let here = good.domains.declared domain below in
      let colours : colours_at draft.plan domain ≡ 0 → ⊥ =
      coloured_each draft.plan draft.plan.domains 0 domain (omega (arith, fine.coloured)) (omega arith) (omega arith) in
      both _ _ (both _ _ (both _ _
      (within_true least_share most_share _ here.share_least here.share_most)
      (le-leb 1 (colours_at draft.plan domain) (omega arith)))
      (lt-ltb _ _ (rights_most domain below)))
      (ap not here.not_own)

  undeclared_pass : (domain : ℕ) → draft.plan.domains ≤ domain → undeclared_valid (plan_of draft) domain ≡ true
  unfolding plan_with_masks with_masks undeclared_valid
  undeclared_pass domain past =
      let none = good.domains.undeclared domain past in
      both _ _ (eq-eqb _ _ none.0) (eq-eqb _ _ none.1)

  domain_pass : (domain : ℕ) → domain < most_domains → domain_valid (plan_of draft) domain ≡ true
  unfolding plan_with_masks with_masks domain_valid
  domain_pass domain _ =
      cond_holds (λ (test : Bool). test ≡ true) (ltb domain draft.plan.domains) (declared_valid (plan_of draft) domain)
      (undeclared_valid (plan_of draft) domain)
      (λ below. declared_pass domain (ltb-true _ _ below))
      (λ past. undeclared_pass domain (ltb-false _ _ past))

  window_pass : (slot : ℕ) → slot < most_windows → window_valid (plan_of draft) slot ≡ true
  unfolding plan_with_masks with_masks window_valid
  window_pass slot small =
      cond_holds (λ (test : Bool). test ≡ true) (ltb slot draft.plan.windows) _ _
      (λ below.
      let here = good.windows.window slot (ltb-true _ _ below) in
      both _ _ (lt-ltb _ _ here.owned) (within_true least_length most_length _ here.least here.most))
      (λ past.
      let none = good.windows.no_window slot (ltb-false _ _ past) in
      both _ _ (eq-eqb _ _ none.0) (eq-eqb _ _ none.1))

  passing_valid : plan_valid (plan_of draft) ≡ true
  unfolding plan_with_masks with_masks plan_valid shares_total first_colour ticks_total
  passing_valid =
      both _ _ (both _ _ (both _ _ (both _ _ (both _ _ (both _ _
      counts_pass_lem
      (below_all (domain_valid (plan_of draft)) most_domains domain_pass))
      (le-leb _ _ fine.shares))
      (le-leb _ _ fine.colours))
      (below_all (mask_valid (plan_of draft)) most_domains mask_pass))
      (below_all (window_valid (plan_of draft)) most_windows window_pass))
      (le-leb _ _ fine.ticks)

-- ---- the whole reading

-- what holds of every refusal, and of an acceptance whose checks all passed, holds of a reading
pub read_holds : (Holds : ReadOutcome → Type 0) (text scripts : List ℕ)
    → ((why : Refusal) → Holds (read_with (Err why) (lines_of text) scripts))
    → (length scripts ≡ scripts_length → final_verdict (length text) (lines_of text).draft ≡ Ok tt
    → Holds (read_with (Ok tt) (lines_of text) scripts))
    → Holds (read_of text scripts)
unfolding read_of read_verdict
read_holds Holds text scripts refused accepted = go (read_verdict text scripts (lines_of text)) refl
  where
    go : (verdict : Verdict) → read_verdict text scripts (lines_of text) ≡ verdict → Holds (read_with verdict (lines_of text) scripts)
    go (Err why) is = refused why
    go (Ok tt) is =
        let fits = unless_passed (eqb (length scripts) scripts_length) WrongLength _ is in
        let short = when_passed (ltb most_text_bytes (length text)) TextTooLong _ fits.1 in
        accepted (eqb-true _ _ fits.0) (both_passed (lines_of text).verdict _ short.1).1

-- an accepted plan passes plan validity
pub accepted_valid : (text scripts : List ℕ) → (read_of text scripts).verdict ≡ Ok tt → plan_valid (read_of text scripts).plan ≡ true
accepted_valid text scripts =
    read_holds (λ read. read.verdict ≡ Ok tt → plan_valid read.plan ≡ true) text scripts
    (λ why e. absurd (not_refused why e))
    (λ fits final e. passing_valid (lines_of text).draft (lines_good text).0 (passes (length text) (lines_of text).draft final))

-- the script store that a reading leaves is as long as the one that it was lent
pub read_store : (text scripts : List ℕ) → length (read_of text scripts).scripts ≡ length scripts
read_store text scripts =
    read_holds (λ read. length read.scripts ≡ length scripts) text scripts (λ why. refl)
    (λ fits final. (lines_good text).1 ∙ sym fits)
