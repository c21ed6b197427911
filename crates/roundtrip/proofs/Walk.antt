-- The walk over the lines of a written text: what is left of it gives what the whole walk gives. Assumes nothing.
use Prim.Native.Nat.{ℕ, zero, suc, ◌+◌, ◌≤◌, ◌<◌}
use native.Mathlib.Omega.{arith}
use mathlib.Core.List.{List, [], ◌∷◌, ◌++◌}
use mathlib.Core.Path.{◌≡◌, refl, sym, ap, ◌∙◌}
use lib.ListN.{drop, length, replicate, drop_of_length-le, length-append, length-drop}
use borrow.Author.Tests.{le-ltb}
use Rattle.forms.specs.declared.Form.{Form}
use Rattle.line.specs.Lines.{line_at, line_with}
use Rattle.lists.specs.Ascii.{bytes_of}
use Rattle.plan.specs.declared.Plan.{Plan}
use Rattle.plan.specs.Limits.{most_domains}
use Rattle.reader.specs.declared.Draft.{Draft}
use Rattle.reader.specs.Draft.{DraftOutcome, no_ops, outcome_of, take_form, take_line, taken}
use Rattle.reader.specs.DraftParts.{draft_with}
use Rattle.reader.specs.Read.{draft_line, walk_from}
use Rattle.reader.proofs.Walking.{walk_line}
use Rattle.lexer.proofs.Scanned.{left_next, left_none}
use Rattle.writer.specs.Canonical.{followed, joined}
use Rattle.roundtrip.proofs.Lines.{Reads}
use Rattle.roundtrip.proofs.Recipients.{Quiet}
use Rattle.std.specs.Prelude.{Ok}

-- what is read so far, but for the recipients that were named
pub record Gathered : Type 0 where
  pub plan : Plan
  pub counts : List ℕ
  pub store : List ℕ

-- a plan with no op so far
abbrev pub before_ops : Plan → Gathered
before_ops plan = record { plan = plan; counts = replicate most_domains 0; store = no_ops }

-- the draft of what is read so far, and of the recipients that were named
abbrev pub draft_of : Gathered → List ℕ → Draft
draft_of gathered named = draft_with gathered.plan gathered.counts named

-- these lines are left, this is read so far, and reading on from here gives what the whole walk gives
pub record Stands (text : List ℕ) (whole : DraftOutcome) (total : ℕ) (lines : List (List ℕ)) (gathered : Gathered) : Type 0 where
  pub turns : ℕ
  pub at : ℕ
  pub named : List ℕ
  pub left : drop at text ≡ joined lines
  pub enough : length (joined lines) ≤ turns
  pub quiet : Quiet total named
  pub same : walk_from turns text at (draft_of gathered named) gathered.store ≡ whole

-- the line at an offset is read, and adds to what is read so far
pub record Adds (text : List ℕ) (total at : ℕ) (named : List ℕ) (more : List (List ℕ)) (before after : Gathered) : Type 0 where
  pub form : Form
  pub later : List ℕ
  pub reads : Reads text (followed more) form later (line_at text before.plan.domains named at)
  pub quiet : Quiet total later
  pub adds : (bracket : ℕ)
      → take_form (Ok form) bracket later (draft_of before named) before.store
      ≡ outcome_of (taken (draft_of after later)) after.store

-- ---- one line

walk_next :
    (turns : ℕ) (text : List ℕ) (at : ℕ) (draft next : Draft) (store filled : List ℕ) (form : Form) (bracket end : ℕ) (later : List ℕ)
    → at < length text
    → draft_line text at draft ≡ line_with bracket later form end
    → take_form (Ok form) bracket later draft store ≡ outcome_of (taken next) filled
    → walk_from (suc turns) text at draft store ≡ walk_from turns text (end + 1) next filled
unfolding take_line
walk_next turns text at draft next store filled form bracket end later within line adds =
    walk_line turns text at draft store (line_with bracket later form end) (outcome_of (taken next) filled) within (sym line) (sym adds)

-- past a line's end, or past the text's, the lines after it are left
past_end : (text : List ℕ) (end : ℕ) (more : List (List ℕ)) → drop end text ≡ followed more → drop (end + 1) text ≡ joined more
unfolding followed joined bytes_of
past_end text end [] left = drop_of_length-le text {i = end + 1} (omega (arith, left_none text end left))
past_end text end (line ∷ more) left = left_next text end 10 (line ++ followed more) left

joined_shorter : (more : List (List ℕ)) → length (joined more) ≤ length (followed more)
unfolding followed joined bytes_of
joined_shorter [] = omega arith
joined_shorter (line ∷ more) = omega arith

-- a line that is read and taken leaves the lines after it
taken_line :
    (text : List ℕ) (whole : DraftOutcome) (total : ℕ) (line : List ℕ) (more : List (List ℕ)) (before after : Gathered) (turns at : ℕ) (named : List ℕ)
    → 0 < length line
    → length (line ++ followed more) ≤ turns
    → drop at text ≡ line ++ followed more
    → walk_from turns text at (draft_of before named) before.store ≡ whole
    → Adds text total at named more before after
    → Stands text whole total more after
taken_line text whole total line more before after zero at named some enough left same taking = absurd (omega (arith, length-append line (followed more)))
taken_line text whole total line more before after (suc turns) at named some enough left same taking =
    let reads = taking.reads in
    let long : length (line ++ followed more) ≡ length line + length (followed more) = length-append line (followed more) in
    let within : at < length text = omega (arith, length-drop at text, ap length left) in
    record {
      turns = turns;
      at = reads.end + 1;
      named = taking.later;
      left = past_end text reads.end more reads.left;
      enough = omega (arith, joined_shorter more);
      quiet = taking.quiet;
      same =
          sym
          (walk_next turns text at (draft_of before named)
          (draft_of after taking.later) before.store after.store taking.form reads.bracket
          reads.end taking.later within reads.is (taking.adds reads.bracket))
          ∙ same;
    }

pub next_line :
    (text : List ℕ) (whole : DraftOutcome) (total : ℕ) (line : List ℕ) (more : List (List ℕ)) (before after : Gathered)
    → 0 < length line
    → ((at : ℕ) (named : List ℕ) → Quiet total named → drop at text ≡ line ++ followed more → Adds text total at named more before after)
    → Stands text whole total (line ∷ more) before
    → Stands text whole total more after
unfolding joined
next_line text whole total line more before after some taking stands =
    taken_line text whole total line more before after stands.turns stands.at stands.named some stands.enough stands.left stands.same
    (taking stands.at stands.named stands.quiet stands.left)

-- ---- the end

walk_ends :
    (turns : ℕ) (text : List ℕ) (at : ℕ) (draft : Draft) (store : List ℕ) → length text ≤ at → walk_from turns text at draft store ≡ outcome_of (taken draft) store
unfolding walk_from
walk_ends zero text at draft store past = refl
walk_ends (suc turns) text at draft store past = rw (le-ltb at (length text) past, walk_from)

-- where no line is left the whole walk has given this, and named no undeclared recipient
pub record Ended (whole : DraftOutcome) (total : ℕ) (gathered : Gathered) : Type 0 where
  pub named : List ℕ
  pub quiet : Quiet total named
  pub gave : whole ≡ outcome_of (taken (draft_of gathered named)) gathered.store

pub no_line : (text : List ℕ) (whole : DraftOutcome) (total : ℕ) (gathered : Gathered) → Stands text whole total [] gathered → Ended whole total gathered
unfolding joined
no_line text whole total gathered stands =
    record {
      named = stands.named;
      quiet = stands.quiet;
      gave = sym stands.same ∙ walk_ends stands.turns text stands.at _ gathered.store (left_none text stands.at stands.left);
    }
