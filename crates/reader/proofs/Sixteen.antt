-- When 16 is told. Assumes nothing.
use Rattle.std.specs.Prelude.{Ok, Err}
use Prim.Native.Nat.{ℕ, ◌<◌, ◌≤◌}
use native.Mathlib.Omega.{arith}
use mathlib.Core.Bool.{Bool}
use mathlib.Core.List.{List, [], ◌∷◌}
use mathlib.Core.Path.{◌≡◌, sym}
use lib.Dec.{ltb}
use borrow.Author.Tests.{le-ltb, lt-ltb, ltb-false, ltb-true}
use Rattle.plan.proofs.Shares.{totals_bounded}
use Rattle.plan.specs.declared.Plan.{Plan}
use Rattle.plan.specs.Colours.{colours_total, shares_total}
use Rattle.plan.specs.Limits.{domain_colours, most_run_ticks, most_shares}
use Rattle.plan.specs.Windows.{ticks_total}
use Rattle.refusal.proofs.Passed.{not_refused}
use Rattle.refusal.proofs.Told.{same_companion, same_number, then_behind, then_here, when_behind, when_here}
use Rattle.refusal.specs.Checks.{when}
use Rattle.refusal.specs.Code.{refusal_code}
use Rattle.refusal.specs.declared.Refusal.{Refusal}
use Rattle.refusal.specs.declared.Refusal.TheVariants.{ColoursOverFifteen, NoColour, RepeatedOrMissing, RunTooLong, SharesOverThousand}
use Rattle.reader.proofs.LastChecks.{may_none}
use Rattle.reader.specs.declared.Draft.{Draft}
use Rattle.reader.specs.Final.{final_verdict, first_colourless, may_verdict, shares_verdict, undeclared_mentions}
use Rattle.reader.specs.Theorems.{OverFifteen, SixteenTold}
use Rattle.refusal.specs.Verdict.{refused_with}

told : (text_length : ℕ) (draft : Draft) → OverFifteen draft
    → final_verdict text_length draft ≡ Err (ColoursOverFifteen (colours_total draft.plan))
unfolding final_verdict shares_verdict
told text_length draft here =
    rw (
      here.nothing_lacking,
      here.all_declared,
      le-ltb most_shares (shares_total draft.plan draft.plan.domains) here.shares,
      lt-ltb domain_colours (colours_total draft.plan) here.over,
    )

-- a refusal of another number is another refusal
module _ (colours : ℕ) where
  abbrev sixteen : Refusal
  sixteen = ColoursOverFifteen colours

  other_number : (why : Refusal) → ((refusal_code why).number ≡ 16 → ⊥) → refused_with why ≡ Err sixteen → ⊥
  other_number why differ e = differ (same_number why sixteen e)

  not_may : (mentions : List ℕ) → may_verdict mentions ≡ Err sixteen → ⊥
  not_may [] e = not_refused sixteen (sym e)
  not_may (offset ∷ more) e = other_number _ (λ n. omega arith) e

  -- the last of checks in a row
  not_last : (test : Bool) (why : Refusal) → ((refusal_code why).number ≡ 16 → ⊥) → when test why (Ok tt) ≡ Err sixteen → ⊥
  not_last test why differ e = not_refused sixteen (sym (when_behind sixteen test why (Ok tt) (other_number why differ) e).1)

  -- among the checks of the shares
  of_shares : (plan : Plan) → shares_verdict plan ≡ Err sixteen
      → (shares_total plan plan.domains ≤ most_shares) × (domain_colours < colours_total plan) × (colours ≡ colours_total plan)
  unfolding shares_verdict
  of_shares plan e =
      let shares = shares_total plan plan.domains in
      let colourless = first_colourless plan plan.domains 0 in
      let after = not_last (ltb colourless plan.domains) (NoColour colourless) (λ n. omega arith) in
      let before = when_behind sixteen _ _ _ (other_number (SharesOverThousand shares) (λ n. omega arith)) e in
      let here = when_here sixteen _ (ColoursOverFifteen (colours_total plan)) _ after before.1 in
      (ltb-false _ _ before.0, ltb-true _ _ here.0, sym (same_companion (ColoursOverFifteen (colours_total plan)) sixteen here.1))

  only : (text_length : ℕ) (draft : Draft) → final_verdict text_length draft ≡ Err sixteen
      → OverFifteen draft × (colours ≡ colours_total draft.plan)
  unfolding final_verdict
  only text_length draft e =
      let plan = draft.plan in
      let mentions = undeclared_mentions draft.named plan.domains in
      let after = not_last (ltb most_run_ticks (ticks_total plan)) RunTooLong (λ n. omega arith) in
      let first = when_behind sixteen _ _ _ (other_number (RepeatedOrMissing text_length) (λ n. omega arith)) e in
      let second = then_behind sixteen (may_verdict mentions) _ (not_may mentions) first.1 in
      let here = of_shares plan (then_here sixteen _ _ after second.1) in (
        record {
          nothing_lacking = first.0;
          all_declared = may_none mentions second.0;
          shares = here.0;
          over = here.1;
        },
        here.2,
      )

pub sixteen_told : SixteenTold
sixteen_told text_length draft =
    record {
      told = told text_length draft;
      only = λ colours. only colours text_length draft;
      at_most =
          λ colours few e.
          let here = only colours text_length draft e in
          omega (arith, here.1, totals_bounded draft.plan few here.0.shares);
    }
