-- The written lines of pad, run and windows are read as what they say. Assumes nothing.
use Rattle.std.specs.Prelude.{Ok, Err}
use Prim.Native.Nat.{ℕ, ◌≤◌, ◌<◌}
use native.Mathlib.Omega.{arith}
use mathlib.Core.Bool.{Bool, true, cond}
use mathlib.Core.List.{List, ◌∷◌, ◌++◌, append_assoc}
use mathlib.Core.Path.{◌≡◌, refl, ap, ◌∙◌}
use lib.ListN.{drop, get_or}
use borrow.Author.Tests.{lt-ltb}
use Rattle.forms.specs.declared.Form.TheVariants.{Pad, Run, Window}
use Rattle.forms.specs.Forms.{declared_domain, pad_form, run_form, window_form}
use Rattle.line.specs.Lines.{form_keywords, line_at}
use Rattle.lists.specs.Ascii.{bytes_of}
use Rattle.plan.specs.declared.Plan.{Plan}
use Rattle.plan.specs.Limits.{least_length, least_pad, least_run, most_domains, most_length, most_pad, most_run}
use Rattle.refusal.specs.declared.Refusal.TheVariants.{WrongDomain}
use Rattle.script.specs.Limits.{last_domain}
use Rattle.syntax.specs.Tokens.{same_bytes, numeral_with}
use Rattle.lexer.specs.Bytes.{ends_run}
use Rattle.lexer.specs.Decimal.{decimal_of}
use Rattle.lexer.specs.Scan.{all_bytes}
use Rattle.lexer.proofs.Scanned.{stops_at}
use Rattle.writer.specs.Canonical.{followed}
use Rattle.writer.specs.Lines.{pad_line, run_line, window_line}
use Rattle.roundtrip.proofs.Due.{Takes, bracketed_takes, number_takes, then_takes}
use Rattle.roundtrip.proofs.Lines.{Reads, Within, closed_reads, line_reads, selected}

-- ---- what stands within the brackets, past the word

module _ (text : List ℕ) (at : ℕ) where
  pad_within :
      (ticks : ℕ) (rest : List ℕ)
      → least_pad ≤ ticks
      → ticks ≤ most_pad
      → drop at text ≡ 32 ∷ (decimal_of ticks ++ 41 ∷ rest)
      → Within text (41 ∷ rest) (Pad ticks) (pad_form text at)
  unfolding pad_form
  pad_within ticks rest least most left =
      let taken = number_takes text at least_pad most_pad ticks (41 ∷ rest) left least most (omega arith) refl in
      record { end = taken.end; is = then_takes taken Err _; left = taken.left }

  run_within :
      (times : ℕ) (rest : List ℕ)
      → least_run ≤ times
      → times ≤ most_run
      → drop at text ≡ 32 ∷ (decimal_of times ++ 41 ∷ rest)
      → Within text (41 ∷ rest) (Run times) (run_form text at)
  unfolding run_form
  run_within times rest least most left =
      let taken = number_takes text at least_run most_run times (41 ∷ rest) left least most (omega arith) refl in
      record { end = taken.end; is = then_takes taken Err _; left = taken.left }

  pub declared_takes :
      (declared domain : ℕ) (rest : List ℕ)
      → declared ≤ most_domains
      → domain < declared
      → drop at text ≡ 32 ∷ (decimal_of domain ++ rest)
      → stops_at ends_run rest ≡ true
      → Takes text rest domain (declared_domain text declared at)
  unfolding declared_domain
  declared_takes declared domain rest few below left ends =
      let taken = number_takes text at 0 last_domain domain rest left (omega arith) (omega arith) (omega arith) ends in
      record {
        start = taken.start;
        end = taken.end;
        is =
            then_takes taken Err _
            ∙ ap (λ (test : Bool). cond test (Ok (numeral_with domain taken.start taken.end)) (Err (WrongDomain taken.start)))
            (lt-ltb domain declared below);
        left = taken.left;
      }

  window_within :
      (declared owner ticks : ℕ) (rest : List ℕ)
      → declared ≤ most_domains
      → owner < declared
      → least_length ≤ ticks
      → ticks ≤ most_length
      → drop at text ≡ 32 ∷ (decimal_of owner ++ (bytes_of "(length " ++ (decimal_of ticks ++ 41 ∷ rest)))
      → Within text rest (Window (record { owner = owner; length = ticks })) (window_form text declared at)
  unfolding window_form bytes_of all_bytes
  window_within declared owner ticks rest few below least most left =
      let numbered = declared_takes declared owner _ few below left refl in
      let taken =
      bracketed_takes text numbered.end (bytes_of "length") least_length most_length ticks rest (omega arith) refl numbered.left least most
      (omega arith) in
      record { end = taken.end; is = then_takes numbered Err _ ∙ then_takes taken Err _; left = taken.left }

-- ---- the lines

module _ (text : List ℕ) (at declared : ℕ) (named : List ℕ) (plan : Plan) (more : List (List ℕ)) where
  pub pad_reads :
      least_pad ≤ plan.pad
      → plan.pad ≤ most_pad
      → drop at text ≡ pad_line plan ++ followed more
      → Reads text (followed more) (Pad plan.pad) named (line_at text declared named at)
  unfolding pad_line bytes_of all_bytes same_bytes form_keywords selected
  pad_reads least most left =
      let rest : List ℕ = 32 ∷ (decimal_of plan.pad ++ 41 ∷ followed more) in
      let shape : drop at text ≡ 40 ∷ bytes_of "pad" ++ rest = left ∙ simp append_assoc in
      line_reads text at declared named (bytes_of "pad") rest (Pad plan.pad) named more shape (omega arith) refl refl λ past.
      closed_reads text at named (Pad plan.pad) _ more (pad_within text _ plan.pad (followed more) least most past)

  pub run_reads :
      least_run ≤ plan.run
      → plan.run ≤ most_run
      → drop at text ≡ run_line plan ++ followed more
      → Reads text (followed more) (Run plan.run) named (line_at text declared named at)
  unfolding run_line bytes_of all_bytes same_bytes form_keywords selected
  run_reads least most left =
      let rest : List ℕ = 32 ∷ (decimal_of plan.run ++ 41 ∷ followed more) in
      let shape : drop at text ≡ 40 ∷ bytes_of "run" ++ rest = left ∙ simp append_assoc in
      line_reads text at declared named (bytes_of "run") rest (Run plan.run) named more shape (omega arith) refl refl λ past.
      closed_reads text at named (Run plan.run) _ more (run_within text _ plan.run (followed more) least most past)

  pub window_reads :
      (slot : ℕ)
      → declared ≤ most_domains
      → get_or plan.owners slot 0 < declared
      → least_length ≤ get_or plan.lengths slot 0
      → get_or plan.lengths slot 0 ≤ most_length
      → drop at text ≡ window_line plan slot ++ followed more
      → Reads text (followed more) (Window (record { owner = get_or plan.owners slot 0; length = get_or plan.lengths slot 0 })) named
      (line_at text declared named at)
  unfolding window_line bytes_of all_bytes same_bytes form_keywords selected
  window_reads slot few below least most left =
      let owner = get_or plan.owners slot 0 in
      let ticks = get_or plan.lengths slot 0 in
      let rest : List ℕ = 32 ∷ (decimal_of owner ++ (bytes_of "(length " ++ (decimal_of ticks ++ 41 ∷ 41 ∷ followed more))) in
      let shape : drop at text ≡ 40 ∷ bytes_of "window" ++ rest = left ∙ simp append_assoc in
      let form = Window (record { owner = owner; length = ticks }) in
      line_reads text at declared named (bytes_of "window") rest form named more shape (omega arith) refl refl λ past.
      closed_reads text at named form _ more
      (window_within text _ declared owner ticks (41 ∷ followed more) few below least most past)
