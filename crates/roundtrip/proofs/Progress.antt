-- Reading the lines of a written plan, one after the other: the plan so far has the lines' things and zeros elsewhere. Any lines
-- may follow. Assumes nothing.
use Prim.Native.Nat.{ℕ, zero, suc, ◌+◌, ◌<◌}
use native.Mathlib.Omega.{arith}
use mathlib.Core.Bool.{true}
use mathlib.Core.List.{List, ◌∷◌, ◌++◌, append_assoc}
use mathlib.Core.Path.{◌≡◌, refl, subst}
use lib.ListN.{get_or, replicate}
use borrow.Author.Tests.{lt-leb}
use Rattle.forms.specs.declared.Form.TheVariants.{Pad, Run, Domain, Window}
use Rattle.lists.specs.Ascii.{bytes_of}
use Rattle.plan.specs.declared.Plan.{Plan}
use Rattle.plan.specs.Colours.{share_of}
use Rattle.plan.specs.Validity.{plan_valid}
use Rattle.plan.specs.Rights.{rights_at}
use Rattle.plan.proofs.ValidPlans.{counts, declared, declared_window}
use Rattle.plan.specs.Parts.{plan_from}
use Rattle.plan.specs.Limits.{most_domains, most_windows}
use Rattle.reader.specs.Draft.{DraftOutcome, no_ops, outcome_of, take_domain, take_form, take_pad, take_run, take_window, taken}
use Rattle.writer.specs.Canonical.{lines_from, plan_lines}
use Rattle.writer.specs.Lines.{domain_line, pad_line, run_line, window_line}
use Rattle.roundtrip.proofs.Domains.{domain_reads}
use Rattle.roundtrip.proofs.Filled.{filled_more, first_entries}
use Rattle.roundtrip.proofs.Forms.{pad_reads, run_reads, window_reads}
use Rattle.roundtrip.proofs.Walk.{Stands, before_ops, draft_of, next_line}
use Rattle.std.specs.Prelude.{Ok}

-- a plan of which these things are read
abbrev pub so_far : Plan → ℕ → ℕ → ℕ → ℕ → Plan
so_far plan pad run domains windows =
    plan_from pad run
    (record { count = domains; shares = first_entries domains plan.shares; rights = first_entries domains plan.rights })
    (record { count = windows; owners = first_entries windows plan.owners; lengths = first_entries windows plan.lengths })
    (replicate most_domains 0)

-- ---- what a form adds

module _ (plan : Plan) (named : List ℕ) (bracket : ℕ) where
  pad_taken :
      take_form (Ok (Pad plan.pad)) bracket named (draft_of (before_ops (so_far plan 0 0 0 0)) named) no_ops
      ≡ outcome_of (taken (draft_of (before_ops (so_far plan plan.pad 0 0 0)) named)) no_ops
  unfolding take_pad
  pad_taken = refl

  domain_taken :
      (pad domain : ℕ) (later : List ℕ)
      → take_form (Ok (Domain (record { share = share_of plan domain; rights = rights_at plan domain }))) bracket later
      (draft_of (before_ops (so_far plan pad 0 domain 0)) named) no_ops
      ≡ outcome_of (taken (draft_of (before_ops (so_far plan pad 0 (domain + 1) 0)) later)) no_ops
  unfolding take_domain
  domain_taken pad domain later = rw (filled_more domain plan.shares, filled_more domain plan.rights)

  window_taken :
      (pad domains slot : ℕ)
      → slot < most_windows
      → take_form (Ok (Window (record { owner = get_or plan.owners slot 0; length = get_or plan.lengths slot 0 }))) bracket named
      (draft_of (before_ops (so_far plan pad 0 domains slot)) named) no_ops
      ≡ outcome_of (taken (draft_of (before_ops (so_far plan pad 0 domains (slot + 1))) named)) no_ops
  unfolding take_window
  window_taken pad domains slot few = rw (lt-leb most_windows slot few, filled_more slot plan.owners, filled_more slot plan.lengths)

  run_taken :
      (pad domains windows : ℕ)
      → take_form (Ok (Run plan.run)) bracket named
      (draft_of (before_ops (so_far plan pad 0 domains windows)) named) no_ops
      ≡ outcome_of (taken (draft_of (before_ops (so_far plan pad plan.run domains windows)) named)) no_ops
  unfolding take_run
  run_taken pad domains windows = refl

-- ---- line by line

module _ (text : List ℕ) (whole : DraftOutcome) (plan : Plan) (valid : plan_valid plan ≡ true) where
  -- these lines are left, and this much of the plan is read
  abbrev Left : List (List ℕ) → Plan → Type 0
  Left lines before = Stands text whole plan.domains lines (before_ops before)

  pad_stands : (more : List (List ℕ)) → Left (pad_line plan ∷ more) (so_far plan 0 0 0 0) → Left more (so_far plan plan.pad 0 0 0)
  unfolding pad_line bytes_of
  pad_stands more stands =
      let count = counts plan valid in
      next_line text whole plan.domains (pad_line plan) more _ _ (omega arith)
      (λ at named quiet left.
      record {
        form = Pad plan.pad;
        later = named;
        reads = pad_reads text at 0 named plan more count.pad_least count.pad_most left;
        quiet = quiet;
        adds = λ bracket. pad_taken plan named bracket;
      })
      stands

  run_stands :
      (pad domains windows : ℕ) (more : List (List ℕ))
      → Left (run_line plan ∷ more) (so_far plan pad 0 domains windows)
      → Left more (so_far plan pad plan.run domains windows)
  unfolding run_line bytes_of
  run_stands pad domains windows more stands =
      let count = counts plan valid in
      next_line text whole plan.domains (run_line plan) more _ _ (omega arith)
      (λ at named quiet left.
      record {
        form = Run plan.run;
        later = named;
        reads = run_reads text at domains named plan more count.run_least count.run_most left;
        quiet = quiet;
        adds = λ bracket. run_taken plan named bracket pad domains windows;
      })
      stands

  domain_stands :
      (pad domain : ℕ) (more : List (List ℕ))
      → domain < plan.domains
      → Left (domain_line plan domain ∷ more) (so_far plan pad 0 domain 0)
      → Left more (so_far plan pad 0 (domain + 1) 0)
  unfolding domain_line bytes_of
  domain_stands pad domain more below stands =
      let count = counts plan valid in
      let own = declared plan domain valid below in
      next_line text whole plan.domains (domain_line plan domain) more _ _ (omega arith)
      (λ at named quiet left.
      let line =
      domain_reads text named plan.domains plan domain at more count.domains_most below own.share_least own.share_most own.rights_most
      own.not_own quiet left in
      record {
        form = Domain (record { share = share_of plan domain; rights = rights_at plan domain });
        later = line.named;
        reads = line.reads;
        quiet = line.quiet;
        adds = λ bracket. domain_taken plan named bracket pad domain line.named;
      })
      stands

  window_stands :
      (pad slot : ℕ) (more : List (List ℕ))
      → slot < plan.windows
      → Left (window_line plan slot ∷ more) (so_far plan pad 0 plan.domains slot)
      → Left more (so_far plan pad 0 plan.domains (slot + 1))
  unfolding window_line bytes_of
  window_stands pad slot more below stands =
      let count = counts plan valid in
      let own = declared_window plan slot valid below in
      next_line text whole plan.domains (window_line plan slot) more _ _ (omega arith)
      (λ at named quiet left.
      record {
        form = Window (record { owner = get_or plan.owners slot 0; length = get_or plan.lengths slot 0 });
        later = named;
        reads =
            window_reads text at plan.domains named plan more slot count.domains_most own.owner own.length_least own.length_most left;
        quiet = quiet;
        adds = λ bracket. window_taken plan named bracket pad plan.domains slot (omega arith);
      })
      stands

  -- ---- all domains, all windows

  domains_stand :
      (left pad domain : ℕ) (more : List (List ℕ))
      → domain + left ≡ plan.domains
      → Left (lines_from (domain_line plan) left domain ++ more) (so_far plan pad 0 domain 0)
      → Left more (so_far plan pad 0 plan.domains 0)
  unfolding lines_from
  domains_stand zero pad domain more all stands =
      let last : domain ≡ plan.domains = omega arith in
      subst (λ (n : ℕ). Left more (so_far plan pad 0 n 0)) last stands
  domains_stand (suc left) pad domain more all stands =
      domains_stand left pad (domain + 1) more (omega arith) (domain_stands pad domain _ (omega arith) stands)

  windows_stand :
      (left pad slot : ℕ) (more : List (List ℕ))
      → slot + left ≡ plan.windows
      → Left (lines_from (window_line plan) left slot ++ more) (so_far plan pad 0 plan.domains slot)
      → Left more (so_far plan pad 0 plan.domains plan.windows)
  unfolding lines_from
  windows_stand zero pad slot more all stands =
      let last : slot ≡ plan.windows = omega arith in
      subst (λ (n : ℕ). Left more (so_far plan pad 0 plan.domains n)) last stands
  windows_stand (suc left) pad slot more all stands =
      windows_stand left pad (slot + 1) more (omega arith) (window_stands pad slot _ (omega arith) stands)

  -- ---- the whole plan, before any other lines

  pub plan_stands :
      (more : List (List ℕ))
      → Left (plan_lines plan ++ more) (so_far plan 0 0 0 0)
      → Left more (so_far plan plan.pad plan.run plan.domains plan.windows)
  unfolding plan_lines
  plan_stands more stands =
      let domains = lines_from (domain_line plan) plan.domains 0 in
      let windows = lines_from (window_line plan) plan.windows 0 in
      let order : plan_lines plan ++ more ≡ pad_line plan ∷ (domains ++ (windows ++ (run_line plan ∷ more))) = simp append_assoc in
      run_stands plan.pad plan.domains plan.windows more
      (windows_stand plan.windows plan.pad 0 (run_line plan ∷ more) (omega arith)
      (domains_stand plan.domains plan.pad 0 (windows ++ (run_line plan ∷ more)) (omega arith)
      (pad_stands _ (rw order at stands))))
