-- A form that is taken is no shorter than its canonical spelling, the bracket that closes it left out. Assumes nothing.
use Rattle.std.specs.Prelude.{Result, Ok, Err}
use Prim.Native.Nat.{ℕ, ◌+◌, ◌≤◌}
use native.Mathlib.Omega.{arith}
use mathlib.Core.List.{List, []}
use mathlib.Core.Path.{◌≡◌, ap}
use lib.Dec.{eqb, ltb}
use lib.ListN.{length, length-append}
use borrow.Author.Tests.{eqb-true}
use Rattle.lists.specs.Ascii.{bytes_of}
use Rattle.plan.specs.Limits.{least_length, least_pad, least_run, least_share, most_length, most_pad, most_run, most_share}
use Rattle.refusal.specs.declared.Refusal.{Refusal}
use Rattle.refusal.specs.declared.Refusal.TheVariants.{WrongDomain}
use Rattle.script.specs.Limits.{last_domain}
use Rattle.syntax.specs.declared.RecipientList.{RecipientList}
use Rattle.syntax.specs.Recipients.{recipients_at}
use Rattle.syntax.specs.Tokens.{then, numeral_with}
use Rattle.forms.specs.declared.DomainParse.{DomainParse}
use Rattle.forms.specs.declared.Form.{Form}
use Rattle.forms.specs.declared.Form.TheVariants.{Blank, Pad, Run, Domain, Window, Op as Script}
use Rattle.forms.specs.Forms.{declared_domain, domain_form, listed_domain, may_form, next_domain, op_form, pad_form, refused_domain, run_form, window_form}
use Rattle.lexer.specs.Decimal.{decimal_of}
use Rattle.lexer.proofs.Reached.{cond_holds}
use Rattle.writer.specs.Lines.{op_line}
use Rattle.shortest.specs.Spelled.{spelled}
use Rattle.shortest.proofs.Due.{Spaced, Takes, by_taken, then_bracketed, then_head, then_number_lem}
use Rattle.shortest.proofs.Ops.{then_op_lem}
use Rattle.shortest.proofs.Recipients.{CoversList, CoversPassed, list_covers}
use Rattle.shortest.proofs.Runs.{RunOver}

-- a line's form in its canonical spelling, and nothing of a refused line
abbrev pub spelled_line : ℕ → Result Form Refusal → List ℕ
spelled_line declared (Ok form) = spelled declared form
spelled_line declared (Err refusal) = []

-- a form from one offset up to another has room for its canonical spelling; nothing is claimed of one that is refused
abbrev pub CoversForm : ℕ → ℕ → Result Form Refusal → ℕ → Type 0
CoversForm declared at (Ok Blank) end = at + length (spelled declared Blank) ≤ end
CoversForm declared at (Ok (Pad ticks)) end = at + length (spelled declared (Pad ticks)) ≤ end
CoversForm declared at (Ok (Run times)) end = at + length (spelled declared (Run times)) ≤ end
CoversForm declared at (Ok (Domain line)) end = at + length (spelled declared (Domain line)) ≤ end
CoversForm declared at (Ok (Window line)) end = at + length (spelled declared (Window line)) ≤ end
CoversForm declared at (Ok (Script line)) end = at + length (spelled declared (Script line)) ≤ end
CoversForm declared at (Err refusal) end = Unit {0}

-- the same of a form that is parsed up to its closing bracket
abbrev OfForm : ℕ → ℕ → Result (Form × ℕ) Refusal → Type 0
OfForm declared at (Ok (form, end)) = CoversForm declared at (Ok form) (end + 1)
OfForm declared at (Err refusal) = Unit {0}

pub record CoversParse (declared at : ℕ) (parse : Result (Form × ℕ) Refusal) : Type 0 where
  pub covers : OfForm declared at parse

pub record CoversDomain (declared at : ℕ) (domain : DomainParse) : Type 0 where
  pub parse : CoversParse declared at domain.parse

-- ---- the number of a domain

module _ (text : List ℕ) (declared at : ℕ) (before : RunOver text at) where
  declared_takes : Takes (Spaced text at) (declared_domain text declared at)
  unfolding declared_domain
  declared_takes =
      let P = Takes (Spaced text at) in
      then_number_lem P text 0 last_domain at _ _ before (λ _. record { takes = tt }) λ domain start end apart.
      cond_holds P (ltb domain declared) (Ok (numeral_with domain start end)) (Err (WrongDomain start))
      (λ _. record { takes = apart })
      (λ _. record { takes = tt })

  -- the number due next is that of the domains declared above
  next_takes : Takes (λ value end. (value ≡ declared) × Spaced text at value end) (next_domain text declared at)
  unfolding next_domain
  next_takes =
      let P = Takes λ value end. (value ≡ declared) × Spaced text at value end in
      then_number_lem P text 0 last_domain at _ _ before (λ _. record { takes = tt }) λ domain start end apart.
      cond_holds P (eqb domain declared) (Ok (numeral_with domain start end)) (Err (WrongDomain start))
      (λ same. record { takes = (eqb-true domain declared same, apart) })
      (λ _. record { takes = tt })

-- ---- the forms, past their words

module _ (text : List ℕ) (declared at here : ℕ) (before : RunOver text here) where
  none : (refusal : Refusal) → CoversParse declared at (Err refusal)
  none refusal = record { covers = tt }

  pub pad_covers : at + 4 ≤ here → CoversParse declared at (pad_form text here)
  unfolding pad_form spelled bytes_of
  pad_covers past =
      then_number_lem (CoversParse declared at) text least_pad most_pad here _ _ before none λ ticks start end apart.
      record { covers = simp length-append (omega arith) }

  pub run_covers : at + 4 ≤ here → CoversParse declared at (run_form text here)
  unfolding run_form spelled bytes_of
  run_covers past =
      then_number_lem (CoversParse declared at) text least_run most_run here _ _ before none λ times start end apart.
      record { covers = simp length-append (omega arith) }

  pub window_covers : at + 7 ≤ here → CoversParse declared at (window_form text declared here)
  unfolding window_form spelled bytes_of
  window_covers past =
      let P = CoversParse declared at in
      by_taken P (Spaced text here) (declared_domain text declared here) _ _ (declared_takes text declared here before) none λ owner start end apart.
      then_bracketed P text (bytes_of "length") least_length most_length end _ _ none λ ticks first closed long.
      record { covers = simp length-append (omega arith) }

  pub op_covers : at + 3 ≤ here → CoversParse declared at (op_form text declared here)
  unfolding op_form spelled op_line bytes_of
  op_covers past =
      let P = CoversParse declared at in
      by_taken P (Spaced text here) (declared_domain text declared here) _ _ (declared_takes text declared here before) none λ domain start end apart.
      then_op_lem P text end _ _ none λ op closed long.
      record { covers = simp length-append (omega arith) }

  no_domain : (named : List ℕ) (refusal : Refusal) → CoversDomain declared at (refused_domain named refusal)
  no_domain named refusal = record { parse = record { covers = tt } }

  listed_covers :
      (share first : ℕ) (list : RecipientList)
      → at + 20 + length (decimal_of declared) + length (decimal_of share) ≤ first
      → CoversList first list
      → CoversDomain declared at (listed_domain share list)
  unfolding listed_domain spelled bytes_of
  listed_covers share first list past = go list.passed
    where
      go :
          (passed : Result ℕ Refusal)
          → CoversPassed first list.rights passed
          → CoversDomain declared at
          (then passed (refused_domain list.named) λ end.
          record { parse = Ok ((Domain (record { share = share; rights = list.rights })), end); named = list.named })
      go (Ok end) long = record { parse = record { covers = simp length-append (omega arith) } }
      go (Err refusal) long = record { parse = record { covers = tt } }

  pub domain_covers : (named : List ℕ) → at + 7 ≤ here → CoversDomain declared at (domain_form text declared named here)
  unfolding domain_form may_form bytes_of
  domain_covers named past =
      let P = CoversDomain declared at in
      by_taken P (λ value end. (value ≡ declared) × Spaced text here value end) (next_domain text declared here) _ _
      (next_takes text declared here before) (no_domain named) λ own start end own_is.
      let digits : length (decimal_of own) ≡ length (decimal_of declared) = ap (λ (n : ℕ). length (decimal_of n)) own_is.0 in
      let apart = own_is.1 in
      then_bracketed P text (bytes_of "share") least_share most_share end _ _ (no_domain named) λ share first closed long.
      then_head P text (bytes_of "may") closed _ _ (no_domain named) λ worded head.
      listed_covers share worded (recipients_at text own named worded) (omega arith) (list_covers text own named worded head.over)
