-- The walk over the lines of a text: the canonical lines of what was read never have more bytes than the lines that gave it. Assumes
-- nothing.
use Rattle.std.specs.Prelude.{Ok, Err, Result}
use Prim.Native.Nat.{ℕ, zero, suc, ◌+◌, ◌≤◌, ◌<◌}
use native.Mathlib.Omega.{arith}
use mathlib.Core.Bool.{Bool, true, false}
use mathlib.Core.List.{List}
use mathlib.Core.Path.{◌≡◌, refl}
use lib.Dec.{ltb}
use lib.ListN.{length}
use borrow.Author.Tests.{ltb-true}
use Rattle.forms.specs.declared.Form.{Form}
use Rattle.forms.specs.declared.Form.TheVariants.{Blank, Pad, Run, Domain, Window, Op as Script}
use Rattle.line.specs.declared.Line.{Line}
use Rattle.line.proofs.GoodLine.{GoodLine, line_good}
use Rattle.plan.specs.Sums.{sum_to}
use Rattle.plan.specs.Zeros.{no_plan}
use Rattle.refusal.proofs.Passed.{not_refused}
use Rattle.reader.specs.declared.Draft.{Draft}
use Rattle.reader.specs.Draft.{DraftOutcome, no_draft, no_ops, outcome_of, take_form, take_line, taken}
use Rattle.reader.specs.Read.{draft_line, lines_of, walk_from}
use Rattle.reader.proofs.GoodDraft.{GoodDraft, draft_first, line_taken}
use Rattle.reader.proofs.Walking.{after_line}
use Rattle.shortest.specs.Spelled.{spelled}
use Rattle.shortest.proofs.Forms.{CoversForm}
use Rattle.shortest.proofs.Lines.{line_covers}
use Rattle.shortest.proofs.Potential.{Grown, bytes_so_far, form_grows, op_bytes, pad_bytes, run_bytes}
use Rattle.shortest.proofs.Store.{Stored, stored_first}
use Rattle.shortest.proofs.Within.{line_within}
use Rattle.refusal.specs.Verdict.{Verdict}
use Rattle.shortest.proofs.Forms.{spelled_line}
use Rattle.refusal.specs.declared.Refusal.{Refusal}

-- a draft and its store, with this many bytes at most in the canonical lines of both
pub record Holds (draft : Draft) (store : List ℕ) (bytes : ℕ) : Type 0 where
  pub good : GoodDraft draft
  pub stored : Stored draft.plan.domains draft.counts store
  pub most : bytes_so_far draft store ≤ bytes

-- ---- one line

module _ (declared at end bytes after : ℕ) (before : bytes ≤ at) where
  -- there is room before the next line for what a line adds that is taken
  taken_fits :
      (form : Result Form Refusal) (bracket : ℕ) (draft : Draft) (marked store : List ℕ)
      → CoversForm declared at form end
      → after ≤ bytes + (length (spelled_line declared form) + 1)
      → (take_form form bracket marked draft store).verdict ≡ Ok tt
      → after ≤ end + 1
  taken_fits (Ok Blank) bracket draft marked store covers grown accepted = omega arith
  taken_fits (Ok (Pad ticks)) bracket draft marked store covers grown accepted = omega arith
  taken_fits (Ok (Run times)) bracket draft marked store covers grown accepted = omega arith
  taken_fits (Ok (Domain line)) bracket draft marked store covers grown accepted = omega arith
  taken_fits (Ok (Window line)) bracket draft marked store covers grown accepted = omega arith
  taken_fits (Ok (Script line)) bracket draft marked store covers grown accepted = omega arith
  taken_fits (Err refusal) bracket draft marked store covers grown accepted = absurd (not_refused refusal accepted)

  -- there is room in the text for what any line adds
  any_fits :
      (form : Result Form Refusal) (size : ℕ)
      → CoversForm declared at form end
      → after ≤ bytes + (length (spelled_line declared form) + 1)
      → end ≤ size
      → at < size
      → after ≤ size + 1
  unfolding spelled
  any_fits (Ok Blank) size covers grown within below = omega arith
  any_fits (Ok (Pad ticks)) size covers grown within below = omega arith
  any_fits (Ok (Run times)) size covers grown within below = omega arith
  any_fits (Ok (Domain line)) size covers grown within below = omega arith
  any_fits (Ok (Window line)) size covers grown within below = omega arith
  any_fits (Ok (Script line)) size covers grown within below = omega arith
  any_fits (Err refusal) size covers grown within below = omega arith

-- what a line came to
record LineHolds (end size : ℕ) (outcome : DraftOutcome) : Type 0 where
  all : Holds outcome.draft outcome.store (size + 1)
  accepted : outcome.verdict ≡ Ok tt → bytes_so_far outcome.draft outcome.store ≤ end + 1

module _ (text : List ℕ) (at : ℕ) (draft : Draft) (store : List ℕ) (so_far : Holds draft store at) (below : at < length text) where
  abbrev line : Line
  line = draft_line text at draft

  next_good : GoodLine text draft.plan.domains draft.named at line
  next_good = line_good text draft.plan.domains draft.named at so_far.good.domains.named_size (omega arith)

  grown : Grown draft store (length (spelled_line draft.plan.domains line.form) + 1) (take_line line draft store)
  unfolding take_line
  grown =
      form_grows draft store so_far.good so_far.stored line.form line.bracket at line.end line.named next_good.form
      (line_within text draft.plan.domains draft.named at)

  line_holds : LineHolds line.end (length text) (take_line line draft store)
  unfolding take_line
  line_holds =
      let domains = draft.plan.domains in
      let covers = line_covers text domains draft.named at in
      let after = bytes_so_far (take_line line draft store).draft (take_line line draft store).store in
      record {
        all = record {
          good = (line_taken draft store so_far.good text at line next_good).0;
          stored = grown.stored;
          most = any_fits domains at line.end (bytes_so_far draft store) after so_far.most line.form (length text) covers grown.most
              next_good.within below;
        };
        accepted = taken_fits domains at line.end (bytes_so_far draft store) after so_far.most line.form line.bracket draft line.named
            store covers grown.most;
      }

-- ---- the walk

abbrev OutcomeHolds : List ℕ → DraftOutcome → Type 0
OutcomeHolds text outcome = Holds outcome.draft outcome.store (length text + 1)

-- room for fewer is room for more
holds_more : {draft : Draft} {store : List ℕ} {bytes : ℕ} (more : ℕ) → bytes ≤ more → Holds draft store bytes → Holds draft store more
holds_more more fewer holds = record { good = holds.good; stored = holds.stored; most = omega (arith, holds.most) }

walk_holds :
    (lines : ℕ) (text : List ℕ) (at : ℕ) (draft : Draft) (store : List ℕ)
    → Holds draft store at
    → at ≤ length text + 1
    → OutcomeHolds text (walk_from lines text at draft store)
unfolding walk_from
walk_holds zero text at draft store so_far within = holds_more (length text + 1) within so_far
walk_holds (suc lines) text at draft store so_far within =
    by_end (ltb at (length text)) refl (walk_holds lines text ((draft_line text at draft).end + 1))
  where
    line : Line
    line = draft_line text at draft

    Again : Type 0
    Again = (next : Draft) (filled : List ℕ)
        → Holds next filled (line.end + 1)
        → line.end + 1 ≤ length text + 1
        → OutcomeHolds text (walk_from lines text (line.end + 1) next filled)

    by_line :
        (verdict : Verdict) (next : Draft) (filled : List ℕ)
        → LineHolds line.end (length text) (record { verdict = verdict; draft = next; store = filled })
        → line.end ≤ length text
        → Again
        → OutcomeHolds text (after_line text lines line (record { verdict = verdict; draft = next; store = filled }))
    by_line (Ok tt) next filled here ends again =
        again next filled (record { good = here.all.good; stored = here.all.stored; most = here.accepted refl }) (omega arith)
    by_line (Err refusal) next filled here ends again = here.all

    by_end :
        (test : Bool)
        → ltb at (length text) ≡ test
        → Again
        → OutcomeHolds text
        (elim test as (λ _. DraftOutcome) [
          | true ↦ after_line text lines line (take_line line draft store)
          | false ↦ outcome_of (taken draft) store
        ])
    by_end true test again =
        let below = ltb-true at (length text) test in
        by_line (take_line line draft store).verdict _ _ (line_holds text at draft store so_far below)
        (next_good text at draft store so_far below).within again
    by_end false test again = holds_more (length text + 1) within so_far

-- ---- from the first line to the last

first_holds : Holds no_draft no_ops 0
unfolding no_draft no_plan pad_bytes run_bytes op_bytes sum_to
first_holds = record { good = draft_first; stored = stored_first; most = omega arith }

-- what the lines of a text come to has no more canonical bytes than the text, with one for the last line's LF
pub lines_hold : (text : List ℕ) → OutcomeHolds text (lines_of text)
lines_hold text = walk_holds (length text) text 0 no_draft no_ops first_holds (omega arith)
