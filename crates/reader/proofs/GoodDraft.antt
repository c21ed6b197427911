-- What the lines read so far are known to have given: counts within their limits, every declared domain and window a good one, and zeros past
-- them; kept by each line that is taken up. Assumes nothing.
use Prim.Native.Nat.{ℕ, zero, suc, ◌+◌, ◌*◌, ◌^◌, ◌≤◌, ◌<◌}
use native.Mathlib.Omega.{arith}
use mathlib.Core.Bool.{Bool, true, false}
use mathlib.Core.List.{List}
use mathlib.Core.Path.{◌≡◌, refl, ◌∙◌}
use lib.Dec.{eqb, leb, ltb}
use lib.ListN.{length, get_or, length-set, replicate, set}
use lib.Seq.{get_or-set_other, get_or-set_same}
use borrow.Author.Tests.{leb-false, ltb-false, ltb-true}
use Rattle.plan.specs.declared.Plan.{Plan}
use Rattle.plan.specs.Zeros.{no_plan}
use Rattle.forms.proofs.GoodForm.{GoodForm}
use Rattle.forms.specs.declared.DomainLine.{DomainLine}
use Rattle.forms.specs.declared.Form.{Form}
use Rattle.forms.specs.declared.Form.TheVariants.{Blank, Pad, Run, Domain, Window, Op as Script}
use Rattle.forms.specs.declared.OpLine.{OpLine}
use Rattle.forms.specs.declared.WindowLine.{WindowLine}
use Rattle.line.proofs.GoodLine.{GoodLine}
use Rattle.line.specs.declared.Line.{Line}
use Rattle.plan.specs.Colours.{has_bit}
use Rattle.plan.specs.Limits.{least_length, least_pad, least_share, most_domains, most_length}
use Rattle.plan.specs.Limits.{most_pad, most_run, most_share, most_windows}
use Rattle.script.specs.Stored.{stored_of}
use Rattle.script.specs.Limits.{last_domain, most_ops}
use Rattle.syntax.proofs.Choices.{same_or_not}
use Rattle.syntax.proofs.GoodList.{Noted, Recorded}
use Rattle.lexer.proofs.Reached.{cond_holds}
use Rattle.reader.specs.declared.Draft.{Draft}
use Rattle.reader.specs.declared.DraftResult.{DraftResult}
use Rattle.reader.specs.Draft.{DraftOutcome, no_draft, take_domain, take_form, take_line, take_op, take_pad, take_run, take_window}
use Rattle.refusal.specs.declared.Refusal.{Refusal}
use Rattle.std.specs.Prelude.{Ok, Err, Result}

-- ---- domains

pub record GoodDomain (share rights own : ℕ) (named : List ℕ) : Type 0 where
  pub share_least : least_share ≤ share
  pub share_most : share ≤ most_share
  pub small : rights < 2 ^ most_domains
  pub not_own : has_bit rights own ≡ false
  pub noted : Noted rights named

pub record GoodDomains (count : ℕ) (shares rights named : List ℕ) : Type 0 where
  pub most : count ≤ most_domains
  pub shares_size : length shares ≡ most_domains
  pub rights_size : length rights ≡ most_domains
  pub named_size : length named ≡ most_domains
  pub declared : (domain : ℕ) → domain < count → GoodDomain (get_or shares domain 0) (get_or rights domain 0) domain named
  pub undeclared : (domain : ℕ) → count ≤ domain → (get_or shares domain 0 ≡ 0) × (get_or rights domain 0 ≡ 0)

-- one domain more, with its recipients noted
domain_next : (count share own-rights : ℕ) (shares rights named marked : List ℕ) → GoodDomains count shares rights named → count ≤ last_domain
    → least_share ≤ share → share ≤ most_share → Recorded count own-rights named marked
    → GoodDomains (count + 1) (set shares count share) (set rights count own-rights) marked
domain_next count share own-rights shares rights named marked so_far next low high recorded =
    record {
      most = omega arith;
      shares_size = length-set shares count share ∙ so_far.shares_size;
      rights_size = length-set rights count own-rights ∙ so_far.rights_size;
      named_size = recorded.size ∙ so_far.named_size;
      declared = λ domain below. same_or_not domain count (λ same. rw same here) (λ differ. earlier domain differ (omega arith));
      undeclared = λ domain past. rw (past_share domain (omega arith), past_rights domain (omega arith)) (so_far.undeclared domain (omega arith));
    }
  where
    past_share : (domain : ℕ) → (domain ≡ count → ⊥) → get_or (set shares count share) domain 0 ≡ get_or shares domain 0
    past_share domain differ = get_or-set_other shares count domain share 0 differ

    past_rights : (domain : ℕ) → (domain ≡ count → ⊥) → get_or (set rights count own-rights) domain 0 ≡ get_or rights domain 0
    past_rights domain differ = get_or-set_other rights count domain own-rights 0 differ

    here : GoodDomain (get_or (set shares count share) count 0) (get_or (set rights count own-rights) count 0) count marked
    here =
        rw (
          get_or-set_same shares count share 0 (omega (arith, so_far.shares_size)),
          get_or-set_same rights count own-rights 0 (omega (arith, so_far.rights_size)),
        )
        record { share_least = low; share_most = high; small = recorded.small; not_own = recorded.not_own; noted = recorded.noted }

    earlier : (domain : ℕ) → (domain ≡ count → ⊥) → domain < count
        → GoodDomain (get_or (set shares count share) domain 0) (get_or (set rights count own-rights) domain 0) domain marked
    earlier domain differ below =
        let before = so_far.declared domain below in
        rw (past_share domain differ, past_rights domain differ)
        record {
          share_least = before.share_least;
          share_most = before.share_most;
          small = before.small;
          not_own = before.not_own;
          noted = λ other has gone. before.noted other has (recorded.keeps other gone);
        }

-- ---- windows

pub record GoodWindow (declared owner length : ℕ) : Type 0 where
  pub owned : owner < declared
  pub least : least_length ≤ length
  pub most : length ≤ most_length

pub record GoodWindows (declared count : ℕ) (owners lengths : List ℕ) : Type 0 where
  pub most : count ≤ most_windows
  pub owners_size : length owners ≡ most_windows
  pub lengths_size : length lengths ≡ most_windows
  pub window : (slot : ℕ) → slot < count → GoodWindow declared (get_or owners slot 0) (get_or lengths slot 0)
  pub no_window : (slot : ℕ) → count ≤ slot → (get_or owners slot 0 ≡ 0) × (get_or lengths slot 0 ≡ 0)

-- one domain more
windows_kept : (declared count : ℕ) (owners lengths : List ℕ) → GoodWindows declared count owners lengths → GoodWindows (declared + 1) count owners lengths
windows_kept declared count owners lengths so_far =
    record {
      most = so_far.most;
      owners_size = so_far.owners_size;
      lengths_size = so_far.lengths_size;
      window = λ slot below.
          let before = so_far.window slot below in
          record { owned = omega (arith, before.owned); least = before.least; most = before.most };
      no_window = so_far.no_window;
    }

window_next : (declared count owner ticks : ℕ) (owners lengths : List ℕ) → GoodWindows declared count owners lengths → count < most_windows
    → GoodWindow declared owner ticks → GoodWindows declared (count + 1) (set owners count owner) (set lengths count ticks)
window_next declared count owner ticks owners lengths so_far room fresh =
    record {
      most = omega arith;
      owners_size = length-set owners count owner ∙ so_far.owners_size;
      lengths_size = length-set lengths count ticks ∙ so_far.lengths_size;
      window = λ slot below. same_or_not slot count (λ same. rw same here) (λ differ. rw (past_owner slot differ, past_length slot differ) (so_far.window slot (omega arith)));
      no_window = λ slot past. rw (past_owner slot (omega arith), past_length slot (omega arith)) (so_far.no_window slot (omega arith));
    }
  where
    past_owner : (slot : ℕ) → (slot ≡ count → ⊥) → get_or (set owners count owner) slot 0 ≡ get_or owners slot 0
    past_owner slot differ = get_or-set_other owners count slot owner 0 differ

    past_length : (slot : ℕ) → (slot ≡ count → ⊥) → get_or (set lengths count ticks) slot 0 ≡ get_or lengths slot 0
    past_length slot differ = get_or-set_other lengths count slot ticks 0 differ

    here : GoodWindow declared (get_or (set owners count owner) count 0) (get_or (set lengths count ticks) count 0)
    here =
        rw (
          get_or-set_same owners count owner 0 (omega (arith, so_far.owners_size)),
          get_or-set_same lengths count ticks 0 (omega (arith, so_far.lengths_size)),
        ) fresh

-- ---- the draft

-- a pad of 0 stands for none yet
pub record GoodPlan (plan : Plan) (named : List ℕ) : Type 0 where
  pub pad_least : (plan.pad ≡ 0 → ⊥) → least_pad ≤ plan.pad
  pub pad_most : plan.pad ≤ most_pad
  pub run_most : plan.run ≤ most_run
  pub domains : GoodDomains plan.domains plan.shares plan.rights named
  pub windows : GoodWindows plan.domains plan.windows plan.owners plan.lengths

abbrev pub GoodDraft : Draft → Type 0
GoodDraft draft = GoodPlan draft.plan draft.named

-- every share and every length is within its limit, at every index
module _ {plan : Plan} {named : List ℕ} (good : GoodPlan plan named) where
  pub shares_most : (domain : ℕ) → get_or plan.shares domain 0 ≤ most_share
  shares_most domain = go (ltb domain plan.domains) refl
    where
      go : (test : Bool) → ltb domain plan.domains ≡ test → get_or plan.shares domain 0 ≤ most_share
      go true e = (good.domains.declared domain (ltb-true _ _ e)).share_most
      go false e = let none = (good.domains.undeclared domain (ltb-false _ _ e)).0 in omega arith

  pub lengths_most : (slot : ℕ) → get_or plan.lengths slot 0 ≤ most_length
  lengths_most slot = go (ltb slot plan.windows) refl
    where
      go : (test : Bool) → ltb slot plan.windows ≡ test → get_or plan.lengths slot 0 ≤ most_length
      go true e = (good.windows.window slot (ltb-true _ _ e)).most
      go false e = let none = (good.windows.no_window slot (ltb-false _ _ e)).1 in omega arith

-- a list of zeros has 0 at every index, and past its end
pub zeros : (count index : ℕ) → get_or {A = ℕ} (replicate count 0) index 0 ≡ 0
zeros zero index = refl
zeros (suc count) zero = refl
zeros (suc count) (suc index) = zeros count index

pub draft_first : GoodDraft no_draft
unfolding no_draft no_plan
draft_first =
    record {
      pad_least = λ none. absurd (none refl);
      pad_most = omega arith;
      run_most = omega arith;
      domains =
          record {
            most = omega arith;
            shares_size = refl;
            rights_size = refl;
            named_size = refl;
            declared = λ domain below. absurd (omega arith);
            undeclared = λ domain past. (zeros most_domains domain, zeros most_domains domain);
          };
      windows =
          record {
            most = omega arith;
            owners_size = refl;
            lengths_size = refl;
            window = λ slot below. absurd (omega arith);
            no_window = λ slot past. (zeros most_windows slot, zeros most_windows slot);
          };
    }

-- what lines come to has a good draft, and a store as long as before, also where one was refused
abbrev pub GoodOutcome : ℕ → DraftOutcome → Type 0
GoodOutcome size outcome = GoodDraft outcome.draft × (length outcome.store ≡ size)

module _ (draft : Draft) (store : List ℕ) (so_far : GoodDraft draft) where
  abbrev Kept : DraftResult → Type 0
  Kept result = GoodDraft result.draft

  pad_taken : (ticks bracket : ℕ) → least_pad ≤ ticks → ticks ≤ most_pad → Kept (take_pad ticks bracket draft)
  unfolding take_pad
  pad_taken ticks bracket low high =
      cond_holds Kept (eqb draft.plan.pad 0) _ _
      (λ _.
      record {
        pad_least = λ _. low;
        pad_most = high;
        run_most = so_far.run_most;
        domains = so_far.domains;
        windows = so_far.windows;
      })
      (λ _. so_far)

  run_taken : (times bracket : ℕ) → times ≤ most_run → Kept (take_run times bracket draft)
  unfolding take_run
  run_taken times bracket high =
      cond_holds Kept (eqb draft.plan.run 0) _ _
      (λ _.
      record {
        pad_least = so_far.pad_least;
        pad_most = so_far.pad_most;
        run_most = high;
        domains = so_far.domains;
        windows = so_far.windows;
      })
      (λ _. so_far)

  domain_taken : (line : DomainLine) (marked : List ℕ) → draft.plan.domains ≤ last_domain → least_share ≤ line.share
      → line.share ≤ most_share → Recorded draft.plan.domains line.rights draft.named marked
      → Kept (take_domain line marked draft)
  unfolding take_domain
  domain_taken line marked next low high recorded =
      record {
        pad_least = so_far.pad_least;
        pad_most = so_far.pad_most;
        run_most = so_far.run_most;
        domains = domain_next _ _ _ _ _ _ _ so_far.domains next low high recorded;
        windows = windows_kept _ _ _ _ so_far.windows;
      }

  window_taken : (line : WindowLine) (bracket : ℕ) → GoodWindow draft.plan.domains line.owner line.length
      → Kept (take_window line bracket draft)
  unfolding take_window
  window_taken line bracket fresh =
      cond_holds Kept (leb most_windows draft.plan.windows) _ _
      (λ _. so_far)
      (λ room.
      record {
        pad_least = so_far.pad_least;
        pad_most = so_far.pad_most;
        run_most = so_far.run_most;
        domains = so_far.domains;
        windows = window_next _ _ _ _ _ _ so_far.windows (leb-false _ _ room) fresh;
      })

  op_taken : (line : OpLine) (bracket : ℕ) → GoodOutcome (length store) (take_op line bracket draft store)
  unfolding take_op
  op_taken line bracket =
      let index = get_or draft.counts line.domain 0 in
      cond_holds (GoodOutcome (length store)) (leb most_ops index) _ _ (λ _. (so_far, refl))
      (λ _. (so_far, length-set store (most_ops * line.domain + index) (stored_of line.op)))

  form_taken : (form : Result Form Refusal) (bracket at end : ℕ) (marked : List ℕ) → GoodForm draft.plan.domains draft.named marked at end form
      → GoodOutcome (length store) (take_form form bracket marked draft store)
  form_taken (Ok Blank) bracket at end marked h = (so_far, refl)
  form_taken (Ok (Pad ticks)) bracket at end marked h = (pad_taken ticks bracket h.0 h.1, refl)
  form_taken (Ok (Run times)) bracket at end marked h = (run_taken times bracket h.1, refl)
  form_taken (Ok (Domain line)) bracket at end marked h = (domain_taken line marked h.0 h.1 h.2 h.3, refl)
  form_taken (Ok (Window line)) bracket at end marked h =
      (window_taken line bracket (record { owned = h.0; least = h.1; most = h.2 }), refl)
  form_taken (Ok (Script line)) bracket at end marked h = op_taken line bracket
  form_taken (Err refusal) bracket at end marked h = (so_far, refl)

  pub line_taken : (text : List ℕ) (at : ℕ) (line : Line) → GoodLine text draft.plan.domains draft.named at line
      → GoodOutcome (length store) (take_line line draft store)
  unfolding take_line
  line_taken text at line h = form_taken line.form line.bracket at line.end line.named h.form
