-- How many bytes the canonical lines of what was read so far have, each with its LF; a form that is taken adds no more than its own.
-- Assumes nothing.
use Prim.Native.Nat.{ℕ, ◌+◌, ◌≤◌, ◌<◌}
use native.Mathlib.Omega.{arith}
use mathlib.Core.Bool.{cond}
use mathlib.Core.List.{List}
use mathlib.Core.Path.{◌≡◌, sym, ap, ◌∙◌}
use lib.Dec.{eqb, leb}
use lib.ListN.{get_or, length, set}
use lib.Seq.{get_or-set_other, get_or-set_same}
use borrow.Author.Tests.{leb-false}
use Rattle.forms.proofs.GoodForm.{GoodForm}
use Rattle.forms.specs.declared.DomainLine.{DomainLine}
use Rattle.forms.specs.declared.Form.{Form}
use Rattle.forms.specs.declared.Form.TheVariants.{Blank, Pad, Run, Domain, Window, Op as Script}
use Rattle.forms.specs.declared.OpLine.{OpLine}
use Rattle.forms.specs.declared.WindowLine.{WindowLine}
use Rattle.lexer.proofs.Reached.{cond_holds}
use Rattle.plan.specs.Limits.{most_domains, most_windows}
use Rattle.plan.specs.Sums.{sum_to}
use Rattle.plan.proofs.Sums.{sum_larger, sum_more, sum_same}
use Rattle.reader.specs.declared.Draft.{Draft}
use Rattle.reader.specs.declared.DraftResult.{DraftResult}
use Rattle.reader.specs.Draft.{DraftOutcome, outcome_of, take_domain, take_form, take_op, take_pad, take_run, take_window}
use Rattle.reader.proofs.GoodDraft.{GoodDraft}
use Rattle.script.specs.declared.Op.{Op}
use Rattle.script.specs.Limits.{OpWithinLimits, last_domain, most_ops}
use Rattle.writer.specs.Canonical.{item_line, script_line}
use Rattle.writer.specs.Lines.{domain_text, op_line, pad_text, run_text, window_text}
use Rattle.shortest.specs.Spelled.{spelled}
use Rattle.shortest.proofs.Store.{Room, Stored, counts_with, count_here, count_other, fetch_here, fetch_other, store_with, stored_declared, stored_more}
use Rattle.shortest.proofs.Within.{OpFits}
use Rattle.std.specs.Prelude.{Ok, Err, Result}
use Rattle.shortest.proofs.Forms.{spelled_line}
use Rattle.refusal.specs.declared.Refusal.{Refusal}

-- ---- sums

-- with one number more, and the others as they were
sum_next :
    (f g : ℕ → ℕ) (count : ℕ) → ((index : ℕ) → index < count → g index ≡ f index) → sum_to g (count + 1) ≡ sum_to f count + g count
sum_next f g count same =
    let total : sum_to f count ≡ sum_to g count = sym (sum_same g f count same) in
    sym (sum_more g (sum_to f count) count total)

-- ---- the bytes so far

-- a pad of 0 stands for none yet
unfoldable pub pad_bytes : ℕ → ℕ
pad_bytes ticks = cond (eqb ticks 0) 0 (length (pad_text ticks) + 1)

-- the same of a run
unfoldable pub run_bytes : ℕ → ℕ
run_bytes times = cond (eqb times 0) 0 (length (run_text times) + 1)

-- a domain's line, by the shares and the rights of all
unfoldable pub domain_bytes : List ℕ → List ℕ → ℕ → ℕ
domain_bytes shares rights domain = length (domain_text domain (get_or shares domain 0) (get_or rights domain 0)) + 1

-- a window's line, by the owners and the lengths of all
unfoldable pub window_bytes : List ℕ → List ℕ → ℕ → ℕ
window_bytes owners lengths slot = length (window_text (get_or owners slot 0) (get_or lengths slot 0)) + 1

-- the line at a position of a domain's script
unfoldable pub position_bytes : List ℕ → ℕ → ℕ → ℕ
position_bytes store domain position = length (script_line store domain position) + 1

-- the lines of a domain's ops, those that are counted
unfoldable pub op_bytes : List ℕ → List ℕ → ℕ → ℕ
op_bytes counts store domain = sum_to (position_bytes store domain) (get_or counts domain 0)

-- all together
abbrev pub bytes_so_far : Draft → List ℕ → ℕ
bytes_so_far draft store =
    pad_bytes draft.plan.pad
    + run_bytes draft.plan.run
    + sum_to (domain_bytes draft.plan.shares draft.plan.rights) draft.plan.domains
    + sum_to (window_bytes draft.plan.owners draft.plan.lengths) draft.plan.windows
    + sum_to (op_bytes draft.counts store) most_domains

-- ---- what a line adds

pad_most : (ticks : ℕ) → pad_bytes ticks ≤ length (pad_text ticks) + 1
unfolding pad_bytes
pad_most ticks = cond_holds (λ (bytes : ℕ). bytes ≤ length (pad_text ticks) + 1) (eqb ticks 0) 0 _ (λ _. omega arith) (λ _. omega arith)

run_most : (times : ℕ) → run_bytes times ≤ length (run_text times) + 1
unfolding run_bytes
run_most times = cond_holds (λ (bytes : ℕ). bytes ≤ length (run_text times) + 1) (eqb times 0) 0 _ (λ _. omega arith) (λ _. omega arith)

domains_next :
    (shares rights : List ℕ) (count share right : ℕ)
    → count < length shares
    → count < length rights
    → sum_to (domain_bytes (set shares count share) (set rights count right)) (count + 1)
    ≡ sum_to (domain_bytes shares rights) count + (length (domain_text count share right) + 1)
unfolding domain_bytes
domains_next shares rights count share right within inside =
    let f = domain_bytes shares rights in
    let g = domain_bytes (set shares count share) (set rights count right) in
    let last : g count ≡ length (domain_text count share right) + 1 =
    rw (get_or-set_same shares count share 0 within, get_or-set_same rights count right 0 inside) in
    sum_next f g count
    (λ domain below.
    let differs : domain ≡ count → ⊥ = λ same. omega arith in
    rw (get_or-set_other shares count domain share 0 differs, get_or-set_other rights count domain right 0 differs))
    ∙ ap (λ (bytes : ℕ). sum_to f count + bytes) last

windows_next :
    (owners lengths : List ℕ) (count owner ticks : ℕ)
    → count < length owners
    → count < length lengths
    → sum_to (window_bytes (set owners count owner) (set lengths count ticks)) (count + 1)
    ≡ sum_to (window_bytes owners lengths) count + (length (window_text owner ticks) + 1)
unfolding window_bytes
windows_next owners lengths count owner ticks within inside =
    let f = window_bytes owners lengths in
    let g = window_bytes (set owners count owner) (set lengths count ticks) in
    let last : g count ≡ length (window_text owner ticks) + 1 =
    rw (get_or-set_same owners count owner 0 within, get_or-set_same lengths count ticks 0 inside) in
    sum_next f g count
    (λ slot below.
    let differs : slot ≡ count → ⊥ = λ same. omega arith in
    rw (get_or-set_other owners count slot owner 0 differs, get_or-set_other lengths count slot ticks 0 differs))
    ∙ ap (λ (bytes : ℕ). sum_to f count + bytes) last

module _ (domains : ℕ) (counts store : List ℕ) (domain : ℕ) (op : Op) (stored : Stored domains counts store) (room : Room domains counts domain op) where
  abbrev after : List ℕ
  after = store_with counts store domain op

  position_other :
      (other position : ℕ)
      → (other ≡ domain → position ≡ get_or counts domain 0 → ⊥)
      → position_bytes after other position ≡ position_bytes store other position
  unfolding position_bytes script_line
  position_other other position differs = rw (fetch_other domains counts store domain op stored room other position differs)

  position_here : position_bytes after domain (get_or counts domain 0) ≡ length (op_line domain op) + 1
  unfolding position_bytes script_line item_line
  position_here = rw (fetch_here domains counts store domain op stored room)

  script_other : (other : ℕ) → (other ≡ domain → ⊥) → op_bytes (counts_with counts domain) after other ≡ op_bytes counts store other
  unfolding op_bytes
  script_other other differs =
      rw (count_other domains counts store domain op stored room other differs)
      (sum_same (position_bytes after other) (position_bytes store other) (get_or counts other 0)
      (λ position below. position_other other position (λ same _. differs same)))

  script_here : op_bytes (counts_with counts domain) after domain ≡ op_bytes counts store domain + (length (op_line domain op) + 1)
  unfolding op_bytes
  script_here =
      rw (count_here domains counts store domain op stored room)
      (sum_next (position_bytes store domain) (position_bytes after domain) (get_or counts domain 0)
      (λ position below. position_other domain position (λ _ same. omega arith))
      ∙ ap (λ (bytes : ℕ). op_bytes counts store domain + bytes) position_here)

  ops_next :
      sum_to (op_bytes (counts_with counts domain) after) most_domains
      ≡ sum_to (op_bytes counts store) most_domains + (length (op_line domain op) + 1)
  ops_next =
      let declared = room.declared in
      let most = room.most in
      sum_larger (op_bytes counts store) (op_bytes (counts_with counts domain) after) domain (length (op_line domain op) + 1) most_domains
      (omega arith) script_other script_here

-- ---- by its form

-- what a line came to: the store is as it should be, and the canonical lines have these bytes more at most
pub record Grown (draft : Draft) (store : List ℕ) (bytes : ℕ) (outcome : DraftOutcome) : Type 0 where
  pub stored : Stored outcome.draft.plan.domains outcome.draft.counts outcome.store
  pub most : bytes_so_far outcome.draft outcome.store ≤ bytes_so_far draft store + bytes

module _ (draft : Draft) (store : List ℕ) (good : GoodDraft draft) (stored : Stored draft.plan.domains draft.counts store) where
  -- of a result that leaves the store
  abbrev Grows : ℕ → DraftResult → Type 0
  Grows bytes result = Grown draft store bytes (outcome_of result store)

  pad_grows : (ticks bracket : ℕ) → Grows (length (pad_text ticks) + 1) (take_pad ticks bracket draft)
  unfolding take_pad
  pad_grows ticks bracket =
      cond_holds (Grows (length (pad_text ticks) + 1)) (eqb draft.plan.pad 0) _ _
      (λ _. record { stored = stored; most = omega (arith, pad_most ticks) })
      (λ _. record { stored = stored; most = omega arith })

  run_grows : (times bracket : ℕ) → Grows (length (run_text times) + 1) (take_run times bracket draft)
  unfolding take_run
  run_grows times bracket =
      cond_holds (Grows (length (run_text times) + 1)) (eqb draft.plan.run 0) _ _
      (λ _. record { stored = stored; most = omega (arith, run_most times) })
      (λ _. record { stored = stored; most = omega arith })

  domain_grows :
      (line : DomainLine) (marked : List ℕ)
      → draft.plan.domains ≤ last_domain
      → Grows (length (domain_text draft.plan.domains line.share line.rights) + 1) (take_domain line marked draft)
  unfolding take_domain
  domain_grows line marked next =
      let shares_size = good.domains.shares_size in
      let rights_size = good.domains.rights_size in
      record {
        stored = stored_declared draft.plan.domains draft.counts store stored;
        most = omega (
          arith,
          domains_next draft.plan.shares draft.plan.rights draft.plan.domains line.share line.rights (omega arith) (omega arith),
        );
      }

  window_grows :
      (line : WindowLine) (bracket : ℕ) → Grows (length (window_text line.owner line.length) + 1) (take_window line bracket draft)
  unfolding take_window
  window_grows line bracket =
      let owners_size = good.windows.owners_size in
      let lengths_size = good.windows.lengths_size in
      let count = draft.plan.windows in
      cond_holds (Grows (length (window_text line.owner line.length) + 1)) (leb most_windows count) _ _
      (λ _. record { stored = stored; most = omega arith })
      (λ test.
      let room : count < most_windows = leb-false most_windows count test in
      record {
        stored = stored;
        most = omega (
          arith,
          windows_next draft.plan.owners draft.plan.lengths count line.owner line.length (omega arith) (omega arith),
        );
      })

  op_grows :
      (line : OpLine) (bracket : ℕ)
      → line.domain < draft.plan.domains
      → OpWithinLimits line.op
      → Grown draft store (length (op_line line.domain line.op) + 1) (take_op line bracket draft store)
  unfolding take_op
  op_grows line bracket declared limits =
      let domains = draft.plan.domains in
      let counts = draft.counts in
      let domain = line.domain in
      cond_holds (Grown draft store (length (op_line domain line.op) + 1)) (leb most_ops (get_or counts domain 0)) _ _
      (λ _. record { stored = stored; most = omega arith })
      (λ test.
      let room : Room domains counts domain line.op =
      record { declared = declared; most = good.domains.most; room = leb-false most_ops (get_or counts domain 0) test; limits = limits } in
      record {
        stored = stored_more domains counts store domain line.op stored room;
        most = omega (arith, ops_next domains counts store domain line.op stored room);
      })

  -- a form adds no more than its canonical spelling and a LF
  pub form_grows :
      (form : Result Form Refusal) (bracket at end : ℕ) (marked : List ℕ)
      → GoodForm draft.plan.domains draft.named marked at end form
      → OpFits form
      → Grown draft store (length (spelled_line draft.plan.domains form) + 1) (take_form form bracket marked draft store)
  unfolding spelled
  form_grows (Ok Blank) bracket at end marked is fits = record { stored = stored; most = omega arith }
  form_grows (Ok (Pad ticks)) bracket at end marked is fits = pad_grows ticks bracket
  form_grows (Ok (Run times)) bracket at end marked is fits = run_grows times bracket
  form_grows (Ok (Domain line)) bracket at end marked is fits = domain_grows line marked is.0
  form_grows (Ok (Window line)) bracket at end marked is fits = window_grows line bracket
  form_grows (Ok (Script line)) bracket at end marked is fits = op_grows line bracket is.0 fits
  form_grows (Err refusal) bracket at end marked is fits = record { stored = stored; most = omega arith }
