-- What a form that is not refused is known to satisfy: its numbers are within their limits, its domain is declared or the next one, its
-- recipients are noted, and it ends at or past the offset that it is read from. Assumes nothing.
use Rattle.std.specs.Prelude.{Result, Ok, Err}
use Prim.Native.Nat.{ℕ, ◌≤◌, ◌<◌}
use native.Mathlib.Omega.{arith}
use mathlib.Core.List.{List}
use mathlib.Core.Path.{◌≡◌}
use lib.Dec.{eqb, ltb}
use lib.ListN.{length}
use borrow.Author.Tests.{eqb-true, ltb-true}
use Rattle.lists.specs.Ascii.{bytes_of}
use Rattle.plan.specs.Limits.{least_length, least_pad, least_run, least_share, most_domains, most_length, most_pad, most_run, most_share}
use Rattle.refusal.specs.declared.Refusal.{Refusal}
use Rattle.refusal.specs.declared.Refusal.TheVariants.{WrongDomain}
use Rattle.script.specs.Limits.{last_domain}
use Rattle.syntax.proofs.Advance.{OfNumber, by_number, then_bracketed, then_head, then_number_lem}
use Rattle.syntax.proofs.GoodList.{GoodList, GoodPassed, Recorded, list_good}
use Rattle.syntax.proofs.PastOp.{then_op_lem}
use Rattle.syntax.specs.declared.RecipientList.{RecipientList}
use Rattle.syntax.specs.Recipients.{recipients_at}
use Rattle.syntax.specs.Tokens.{then, numeral_with}
use Rattle.lexer.proofs.Reached.{cond_holds}
use Rattle.forms.specs.declared.Form.{Form}
use Rattle.forms.specs.declared.Form.TheVariants.{Blank, Pad, Run, Domain, Window, Op as Script}
use Rattle.forms.specs.declared.DomainParse.{DomainParse}
use Rattle.forms.specs.Forms.{declared_domain, domain_form, listed_domain, may_form, next_domain, op_form, pad_form, refused_domain, run_form, window_form}
use Rattle.syntax.specs.declared.Numeral.{Numeral}

-- with `declared` domains above and `named` noted there; `marked` is noted once the form is read, and it reaches from `at` to `end`
abbrev pub GoodForm : ℕ → List ℕ → List ℕ → ℕ → ℕ → Result Form Refusal → Type 0
GoodForm declared named marked at end (Ok Blank) = at ≤ end
GoodForm declared named marked at end (Ok (Pad ticks)) = (least_pad ≤ ticks) × (ticks ≤ most_pad) × (at ≤ end)
GoodForm declared named marked at end (Ok (Run times)) = (least_run ≤ times) × (times ≤ most_run) × (at ≤ end)
GoodForm declared named marked at end (Ok (Domain line)) =
    (declared ≤ last_domain) × (least_share ≤ line.share) × (line.share ≤ most_share) × Recorded declared line.rights named marked × (at ≤ end)
GoodForm declared named marked at end (Ok (Window line)) =
    (line.owner < declared) × (least_length ≤ line.length) × (line.length ≤ most_length) × (at ≤ end)
GoodForm declared named marked at end (Ok (Script line)) = (line.domain < declared) × (at ≤ end)
GoodForm declared named marked at end (Err refusal) = Unit {0}

abbrev GoodParse : ℕ → List ℕ → List ℕ → ℕ → Result (Form × ℕ) Refusal → Type 0
GoodParse declared named marked at (Ok (form, end)) = GoodForm declared named marked at end (Ok form)
GoodParse declared named marked at (Err refusal) = Unit {0}

pub record Good (declared : ℕ) (named marked : List ℕ) (at : ℕ) (parse : Result (Form × ℕ) Refusal) : Type 0 where
  pub form : GoodParse declared named marked at parse

pub record GoodDomainParse (declared : ℕ) (named : List ℕ) (at : ℕ) (domain : DomainParse) : Type 0 where
  pub parse : Good declared named domain.named at domain.parse

-- ---- the number of a domain

-- a number that passes a test and ends at or past the offset
record Passes (P : ℕ → Type 0) (at : ℕ) (taken : Result Numeral Refusal) : Type 0 where
  is : OfNumber (λ value start end. P value × (value ≤ last_domain) × (at ≤ end)) taken

declared_passes : (text : List ℕ) (declared at : ℕ) → Passes (λ value. value < declared) at (declared_domain text declared at)
unfolding declared_domain
declared_passes text declared at =
    let P = Passes (λ value. value < declared) at in
    then_number_lem P text 0 last_domain at _ _ (λ _. record { is = tt }) λ domain start end low high on.
    cond_holds P (ltb domain declared) (Ok (numeral_with domain start end)) (Err (WrongDomain start))
    (λ below. record { is = (ltb-true _ _ below, high, on) })
    (λ _. record { is = tt })

next_passes : (text : List ℕ) (declared at : ℕ) → Passes (λ value. value ≡ declared) at (next_domain text declared at)
unfolding next_domain
next_passes text declared at =
    let P = Passes (λ value. value ≡ declared) at in
    then_number_lem P text 0 last_domain at _ _ (λ _. record { is = tt }) λ domain start end low high on.
    cond_holds P (eqb domain declared) (Ok (numeral_with domain start end)) (Err (WrongDomain start))
    (λ same. record { is = (eqb-true _ _ same, high, on) })
    (λ _. record { is = tt })

-- ---- the forms

module _ (text : List ℕ) (declared : ℕ) (named : List ℕ) (at : ℕ) where
  none : (refusal : Refusal) → Good declared named named at (Err refusal)
  none refusal = record { form = tt }

  pub pad_good : (here : ℕ) → at ≤ here → Good declared named named at (pad_form text here)
  unfolding pad_form
  pad_good here past =
      then_number_lem (Good declared named named at) text least_pad most_pad here _ _ none λ ticks start end low high on.
      record { form = (low, high, omega arith) }

  pub run_good : (here : ℕ) → at ≤ here → Good declared named named at (run_form text here)
  unfolding run_form
  run_good here past =
      then_number_lem (Good declared named named at) text least_run most_run here _ _ none λ times start end low high on.
      record { form = (low, high, omega arith) }

  pub window_good : (here : ℕ) → at ≤ here → Good declared named named at (window_form text declared here)
  unfolding window_form
  window_good here past =
      let P = Good declared named named at in
      by_number P text _ (declared_domain text declared here) _ _ (declared_passes text declared here).is none λ owner start end own.
      then_bracketed P text (bytes_of "length") least_length most_length end _ _ none λ ticks first closed low high on.
      record { form = (own.0, low, high, omega arith) }

  pub op_good : (here : ℕ) → at ≤ here → Good declared named named at (op_form text declared here)
  unfolding op_form
  op_good here past =
      let P = Good declared named named at in
      by_number P text _ (declared_domain text declared here) _ _ (declared_passes text declared here).is none λ domain start end own.
      then_op_lem P text end _ _ none λ op closed on.
      record { form = (own.0, omega arith) }

  no_domain : (refusal : Refusal) → GoodDomainParse declared named at (refused_domain named refusal)
  no_domain refusal = record { parse = record { form = tt } }

  listed_good : (share here : ℕ) (list : RecipientList) → declared ≤ last_domain → least_share ≤ share → share ≤ most_share → at ≤ here
      → GoodList declared here named list → GoodDomainParse declared named at (listed_domain share list)
  unfolding listed_domain
  listed_good share here list next low high past = go list.passed
    where
      go : (passed : Result ℕ Refusal) → GoodPassed declared here named list.rights list.named passed
          → GoodDomainParse declared named at
          (then passed (refused_domain list.named) λ end.
          record { parse = Ok ((Domain (record { share = share; rights = list.rights })), end); named = list.named })
      go (Ok end) h = record { parse = record { form = (next, low, high, h.1, omega arith) } }
      go (Err refusal) h = record { parse = record { form = tt } }

  may_good : (share here : ℕ) → length named ≡ most_domains → declared ≤ last_domain → least_share ≤ share → share ≤ most_share → at ≤ here
      → GoodDomainParse declared named at (may_form text declared named share here)
  unfolding may_form
  may_good share here eight next low high past =
      then_head (GoodDomainParse declared named at) text (bytes_of "may") here _ _ no_domain λ worded w _.
      listed_good share worded (recipients_at text declared named worded) next low high (omega arith) (list_good text declared named worded eight)

  pub domain_good : (here : ℕ) → length named ≡ most_domains → at ≤ here → GoodDomainParse declared named at (domain_form text declared named here)
  unfolding domain_form
  domain_good here eight past =
      let P = GoodDomainParse declared named at in
      by_number P text _ (next_domain text declared here) _ _ (next_passes text declared here).is no_domain λ own start end own_is.
      then_bracketed P text (bytes_of "share") least_share most_share end _ _ no_domain λ share first closed low high on.
      rw own_is.0 (may_good share closed eight (omega arith) low high (omega arith))
