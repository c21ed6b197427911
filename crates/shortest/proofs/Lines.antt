-- Document 02, E4: a line that is taken is no shorter than the canonical spelling of its form. Assumes nothing.
use Rattle.std.specs.Prelude.{Result, Ok, Err}
use Prim.Native.Nat.{ℕ, ◌+◌, ◌≤◌}
use native.Mathlib.Omega.{arith}
use mathlib.Core.List.{List}
use lib.Dec.{eqb}
use Rattle.lists.specs.Ascii.{bytes_of}
use Rattle.forms.specs.declared.Form.{Form}
use Rattle.forms.specs.declared.Form.TheVariants.{Blank, Pad, Run, Domain, Window, Op as Script}
use Rattle.forms.specs.Forms.{domain_form}
use Rattle.refusal.specs.declared.Refusal.{Refusal}
use Rattle.line.specs.declared.Line.{Line}
use Rattle.line.specs.Lines.{closed_line, form_keywords, form_line, line_at, line_with, noted_line, refused_line}
use Rattle.lexer.specs.Tokens.{line_end_kind, open_kind, token_at, token_kind, token_start}
use Rattle.lexer.proofs.Reached.{cond_holds, token_bounds}
use Rattle.shortest.specs.Spelled.{spelled}
use Rattle.shortest.proofs.Due.{due_bracket, one_of_holds, then_close, then_line_end}
use Rattle.shortest.proofs.Forms.{CoversForm, CoversParse, domain_covers, op_covers, pad_covers, run_covers, window_covers}

-- the line's form, from where the line begins up to its end
abbrev pub Covers : ℕ → ℕ → Line → Type 0
Covers declared at line = CoversForm declared at line.form line.end

record LineCovers (declared at : ℕ) (line : Line) : Type 0 where
  covers : Covers declared at line

-- a form that ends later has as much room
later : (declared at : ℕ) (form : Result Form Refusal) (end more : ℕ) → end ≤ more → CoversForm declared at form end → CoversForm declared at form more
later declared at (Ok Blank) end more past covers = omega arith
later declared at (Ok (Pad ticks)) end more past covers = omega arith
later declared at (Ok (Run times)) end more past covers = omega arith
later declared at (Ok (Domain line)) end more past covers = omega arith
later declared at (Ok (Window line)) end more past covers = omega arith
later declared at (Ok (Script line)) end more past covers = omega arith
later declared at (Err refusal) end more past covers = tt

module _ (text : List ℕ) (declared : ℕ) (named : List ℕ) (at : ℕ) where
  none : (bracket : ℕ) (marked : List ℕ) (refusal : Refusal) → LineCovers declared at (refused_line bracket marked refusal)
  none bracket marked refusal = record { covers = tt }

  closed_covers :
      (bracket : ℕ) (marked : List ℕ) (parse : Result (Form × ℕ) Refusal) → CoversParse declared at parse → LineCovers declared at (closed_line text bracket marked parse)
  unfolding closed_line
  closed_covers bracket marked (Err refusal) parsed = none bracket marked refusal
  closed_covers bracket marked (Ok (form, end)) parsed =
      let P = LineCovers declared at in
      then_close P text end _ _ (none bracket marked) λ closed past.
      then_line_end P text closed _ _ (none bracket marked) λ ended further.
      record { covers = later declared at (Ok form) (end + 1) ended (omega arith) parsed.covers }

  form_covers : (bracket : ℕ) → at ≤ bracket → LineCovers declared at (form_line text declared named bracket)
  unfolding form_line form_keywords noted_line bytes_of
  form_covers bracket past =
      one_of_holds (LineCovers declared at) text (bracket + 1) (refused_line bracket named) (none bracket named)
      (form_keywords text declared named bracket) (
        λ here worded. closed_covers bracket named _ (pad_covers text declared at here worded.over (omega arith)),
        (
          λ here worded. closed_covers bracket named _ (run_covers text declared at here worded.over (omega arith)),
          (
            λ here worded.
                let domain = domain_form text declared named here in
                closed_covers bracket domain.named domain.parse (domain_covers text declared at here worded.over named (omega arith)).parse,
            (
              λ here worded. closed_covers bracket named _ (window_covers text declared at here worded.over (omega arith)),
              (λ here worded. closed_covers bracket named _ (op_covers text declared at here worded.over (omega arith)), tt),
            ),
          ),
        ),
      )

  taken_covers : LineCovers declared at (line_at text declared named at)
  unfolding line_at spelled
  taken_covers =
      let token = token_at text at in
      let P = LineCovers declared at in
      cond_holds P (eqb (token_kind token) line_end_kind) (line_with (token_start token) named Blank (token_start token)) _
      (λ _. record { covers = omega (arith, (token_bounds text at).least) })
      (λ _. due_bracket P text at _ _ (none (token_start token) named) open_kind (omega arith) (omega arith)
      λ bracket inside past long. form_covers bracket past)

-- a line that is taken is no shorter than its form's canonical spelling
pub line_covers :
    (text : List ℕ) (declared : ℕ) (named : List ℕ) (at : ℕ)
    → Covers declared at (line_at text declared named at)
line_covers text declared named at = (taken_covers text declared named at).covers
