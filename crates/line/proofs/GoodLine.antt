-- What a line is known to satisfy: its form is a good one, if it is not refused, and it ends at or past its first byte and within the text.
-- Assumes nothing.
use Rattle.std.specs.Prelude.{Result, Ok, Err}
use Prim.Native.Nat.{ℕ, ◌+◌, ◌≤◌, ◌<◌}
use native.Mathlib.Omega.{arith}
use mathlib.Core.List.{List, []}
use mathlib.Core.Path.{◌≡◌, sym, subst, ap, ◌∙◌}
use lib.Dec.{eqb}
use lib.ListN.{length}
use Rattle.forms.proofs.GoodForm.{Good, GoodForm}
use Rattle.forms.proofs.GoodForm.{domain_good, op_good, pad_good, run_good, window_good}
use Rattle.forms.specs.declared.Form.{Form}
use Rattle.forms.specs.declared.Form.TheVariants.{Blank, Pad, Run, Domain, Window, Op as Script}
use Rattle.forms.specs.declared.OpLine.{OpLine}
use Rattle.plan.specs.Limits.{most_domains}
use Rattle.refusal.specs.declared.Refusal.{Refusal}
use Rattle.syntax.proofs.Advance.{due_holds, then_close, then_line_end}
use Rattle.syntax.proofs.ByKeyword.{one_of_holds}
use Rattle.lexer.proofs.Reached.{cond_holds, token_bounds}
use Rattle.lexer.specs.Tokens.{line_end_kind, open_kind, token_at, token_kind, token_start}
use Rattle.line.specs.declared.Line.{Line}
use Rattle.line.specs.Heads.{op_line_of, op_line_with}
use Rattle.line.specs.Lines.{closed_line, noted_line, form_keywords, form_line, line_at, line_with, refused_line}

pub record GoodLine (text : List ℕ) (declared : ℕ) (named : List ℕ) (at : ℕ) (line : Line) : Type 0 where
  pub form : GoodForm declared named line.named at line.end line.form
  pub within : line.end ≤ length text

-- a form that ends later reaches as far
later : (declared : ℕ) (named marked : List ℕ) (at end more : ℕ) (form : Result Form Refusal) → end ≤ more
    → GoodForm declared named marked at end form → GoodForm declared named marked at more form
later declared named marked at end more (Ok Blank) on h = omega arith
later declared named marked at end more (Ok (Pad ticks)) on h = (h.0, h.1, omega arith)
later declared named marked at end more (Ok (Run times)) on h = (h.0, h.1, omega arith)
later declared named marked at end more (Ok (Domain line)) on h = (h.0, h.1, h.2, h.3, omega arith)
later declared named marked at end more (Ok (Window line)) on h = (h.0, h.1, h.2, omega arith)
later declared named marked at end more (Ok (Script line)) on h = (h.0, omega arith)
later declared named marked at end more (Err refusal) on h = tt

module _ (text : List ℕ) (declared : ℕ) (named : List ℕ) (at : ℕ) where
  none : (bracket : ℕ) (marked : List ℕ) (refusal : Refusal) → GoodLine text declared named at (refused_line bracket marked refusal)
  none bracket marked refusal = record { form = tt; within = omega arith }

  closed_good : (bracket : ℕ) (marked : List ℕ) (parse : Result (Form × ℕ) Refusal) → Good declared named marked at parse
      → GoodLine text declared named at (closed_line text bracket marked parse)
  unfolding closed_line
  closed_good bracket marked (Err refusal) h = none bracket marked refusal
  closed_good bracket marked (Ok (form, end)) h =
      let P = GoodLine text declared named at in
      then_close P text end _ _ (none bracket marked) λ closed c within.
      then_line_end P text closed _ _ within (none bracket marked) λ ended e ends.
      record { form = later declared named marked at end ended (Ok form) (omega arith) h.form; within = ends }

  form_good : (bracket : ℕ) → length named ≡ most_domains → at ≤ bracket + 1 → GoodLine text declared named at (form_line text declared named bracket)
  unfolding form_line form_keywords noted_line
  form_good bracket eight past =
      one_of_holds (GoodLine text declared named at) (form_keywords text declared named bracket) text (bracket + 1) (refused_line bracket named)
      (none bracket named) (
        λ here on. closed_good bracket named _ (pad_good text declared named at here (omega arith)),
        (
          λ here on. closed_good bracket named _ (run_good text declared named at here (omega arith)),
          (
            λ here on. closed_good bracket _ _ (domain_good text declared named at here eight (omega arith)).parse,
            (
              λ here on. closed_good bracket named _ (window_good text declared named at here (omega arith)),
              (λ here on. closed_good bracket named _ (op_good text declared named at here (omega arith)), tt),
            ),
          ),
        ),
      )

  pub line_good : length named ≡ most_domains → at ≤ length text → GoodLine text declared named at (line_at text declared named at)
  unfolding line_at
  line_good eight within =
      let token = token_at text at in
      let bounds = token_bounds text at in
      cond_holds (GoodLine text declared named at) (eqb (token_kind token) line_end_kind)
      (line_with (token_start token) named Blank (token_start token)) _
      (λ same. record { form = bounds.least; within = omega (arith, bounds.order, bounds.inside (λ _. within)) })
      (λ _. due_holds (GoodLine text declared named at) text open_kind at _ _ (λ none. absurd (omega arith)) (none (token_start token) named)
      λ bracket inside least order ends. form_good bracket eight (omega arith))

-- the domain of an op line that was read apart is declared
pub op_declared : (text : List ℕ) (declared inside : ℕ) {parse : Result (OpLine × ℕ) Refusal} {line : OpLine}
    {end : ℕ}
    → ((bracket : ℕ) (named : List ℕ)
    → op_line_with bracket named parse ≡ op_line_of text declared named bracket inside)
    → parse ≡ Ok (line, end) → line.domain < declared
op_declared text declared inside {parse} {line} {end} read known =
    let good = op_good text declared [] inside inside (omega arith) in
    (subst (GoodLine text declared [] inside)
    (sym (read inside []) ∙ ap (op_line_with inside []) known)
    (closed_good text declared [] inside inside [] _ good)).form.0
