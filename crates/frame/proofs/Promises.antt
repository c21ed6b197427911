-- Every frame that the maker gives keeps its promises. Assumes nothing.
use Prim.Native.Nat.{ℕ, ◌+◌, ◌-◌, ◌≤◌, ◌<◌}
use mathlib.Core.Bool.{Bool, true, false, cond}
use mathlib.Core.List.{List, ◌++◌}
use mathlib.Core.Path.{◌≡◌, refl, sym, ap, subst, ◌∙◌}
use native.Mathlib.Omega.{arith}
use lib.Dec.{ltb}
use lib.ListN.{get_or, get_or-replicate, length, length-append, length-replicate, replicate, take, get_or-eq_default}
use lib.Seq.{get_or-append-add, take_at}
use borrow.Author.Tests.{ltb-false, ltb-true}
use Rattle.plan.specs.Limits.{most_domains, most_windows}
use Rattle.plan.proofs.Sums.{sum_same}
use Rattle.frame.specs.Frame.{frame_of}
use Rattle.frame.specs.Quotas.{ahead_of, gets_one_more, leftover, remainder_of, whole_part, window_count}
use Rattle.frame.specs.Theorems.{FrameByWeights, FramesByWeights, occurrences, turn_at, windows_in}
use Rattle.frame.specs.Turns.{first_turns, zero_filled}
use Rattle.frame.proofs.Ahead.{fewer_ahead}
use Rattle.frame.proofs.Order.{kept_number, kept_turn, pair_same, turns_ordered}
use Rattle.frame.proofs.Shares.{weightless_gets_none, windows_most, windows_sum}
use Rattle.frame.proofs.LaidTurns.{turns_have, turns_lay_all}
use Rattle.frame.proofs.Taken.{Taken, limits_valid, taken}

-- ---- a list made longer with zeros

module _ (width : ℕ) (list : List ℕ) (fits : length list ≤ width) where
  padded_length_lem : length (zero_filled width list) ≡ width
  unfolding zero_filled
  padded_length_lem = simp (length-append, length-replicate) (omega arith)

  padded_behind : (index : ℕ) → length list ≤ index → get_or (zero_filled width list) index 0 ≡ 0
  unfolding zero_filled
  padded_behind index behind =
      let same : length list + (index - length list) ≡ index = omega arith in
      subst (λ (n : ℕ). get_or (list ++ replicate (width - length list) 0) n 0 ≡ 0) same
      (get_or-append-add list (replicate (width - length list) 0) (index - length list) 0
      ∙ zeros (width - length list) (index - length list))
    where
      zeros : (many n : ℕ) → ◌≡◌ {A = ℕ} (get_or (replicate many 0) n 0) 0
      zeros many n = go (ltb n many) refl
        where
          go : (b : Bool) → ltb n many ≡ b → ◌≡◌ {A = ℕ} (get_or (replicate many 0) n 0) 0
          go true e = get_or-replicate many n 0 0 (ltb-true n many e)
          go false e =
              get_or-eq_default (replicate many 0) 0 (rw length-replicate (ltb-false n many e))

-- ---- who gets one more

extra_says : (count : ℕ) (weights : List ℕ) (domain : ℕ)
    → window_count count weights domain ≡ whole_part count weights domain + 1
    → ahead_of (remainder_of count weights) domain < leftover count weights
unfolding window_count gets_one_more
extra_says count weights domain more =
    go (ltb (ahead_of (remainder_of count weights) domain) (leftover count weights)) refl more
  where
    go : (b : Bool) → ltb (ahead_of (remainder_of count weights) domain) (leftover count weights) ≡ b
        → whole_part count weights domain + cond b 1 0 ≡ whole_part count weights domain + 1
        → ahead_of (remainder_of count weights) domain < leftover count weights
    go true e same = ltb-true _ _ e
    go false e same = absurd (omega arith)

no_extra_says : (count : ℕ) (weights : List ℕ) (domain : ℕ)
    → window_count count weights domain ≡ whole_part count weights domain
    → leftover count weights ≤ ahead_of (remainder_of count weights) domain
unfolding window_count gets_one_more
no_extra_says count weights domain no_more =
    go (ltb (ahead_of (remainder_of count weights) domain) (leftover count weights)) refl no_more
  where
    go : (b : Bool) → ltb (ahead_of (remainder_of count weights) domain) (leftover count weights) ≡ b
        → whole_part count weights domain + cond b 1 0 ≡ whole_part count weights domain
        → leftover count weights ≤ ahead_of (remainder_of count weights) domain
    go true e same = absurd (omega arith)
    go false e same = ltb-false _ _ e

-- ---- the frame

module _ (count : ℕ) (weights : List ℕ) (fits : length (first_turns (window_count count weights) count) ≤ most_windows) where
  frame_entries : length (frame_of count weights) ≡ most_windows
  unfolding frame_of
  frame_entries = padded_length_lem most_windows (first_turns (window_count count weights) count) fits

  frame_behind : (index : ℕ) → length (first_turns (window_count count weights) count) ≤ index
      → get_or (frame_of count weights) index 0 ≡ 0
  unfolding frame_of
  frame_behind = padded_behind most_windows (first_turns (window_count count weights) count) fits

module _ (count : ℕ) (weights : List ℕ) (facts : Taken count weights) where
  -- every window is laid, and no other
  all_laid : length (first_turns (window_count count weights) count) ≡ count
  all_laid =
      turns_lay_all (window_count count weights) count (windows_most count weights facts.total)
      ∙ windows_sum count weights facts.total

  pub laid_fits : length (first_turns (window_count count weights) count) ≤ most_windows
  laid_fits = let all = all_laid in let most = facts.most in omega arith

  -- the windows asked for are those that were laid
  frame_laid : take count (frame_of count weights) ≡ first_turns (window_count count weights) count
  unfolding frame_of zero_filled
  frame_laid = take_at (first_turns (window_count count weights) count) _ count all_laid

  frame_number : (index : ℕ) → index < count
      → get_or (frame_of count weights) index 0 ≡ get_or (first_turns (window_count count weights) count) index 0
  unfolding frame_of zero_filled
  frame_number index below =
      kept_number (first_turns (window_count count weights) count) _ index (let all = all_laid in omega arith)

  frame_turn : (index : ℕ) → index < count
      → turn_at (frame_of count weights) index ≡ turn_at (first_turns (window_count count weights) count) index
  unfolding frame_of zero_filled
  frame_turn index below =
      kept_turn (first_turns (window_count count weights) count) _ index (let all = all_laid in omega arith)

  -- a domain has as many as it gets
  windows_in_lem : (domain : ℕ) → domain < most_domains
      → windows_in count (frame_of count weights) domain ≡ window_count count weights domain
  windows_in_lem domain below =
      let have = turns_have (window_count count weights) count domain below in
      let most = windows_most count weights facts.total domain below in
      ap (occurrences domain) frame_laid ∙ omega arith

  whole_or_more : (domain : ℕ)
      → (whole_part count weights domain ≤ window_count count weights domain)
      × (window_count count weights domain ≤ whole_part count weights domain + 1)
  unfolding window_count
  whole_or_more domain = go (gets_one_more count weights domain)
    where
      go : (b : Bool)
          → (whole_part count weights domain ≤ whole_part count weights domain + cond b 1 0)
          × (whole_part count weights domain + cond b 1 0 ≤ whole_part count weights domain + 1)
      go true = (omega arith, omega arith)
      go false = (omega arith, omega arith)

  frame_by_weights : FrameByWeights count weights (frame_of count weights)
  frame_by_weights =
      record {
        entries = frame_entries count weights laid_fits;
        zeros_behind = λ index behind. frame_behind count weights laid_fits index (let all = all_laid in omega arith);
        of_domains = λ index below.
            rw (frame_number index below)
            ((turns_ordered (window_count count weights) count).domains index (let all = all_laid in omega arith));
        at_least = λ domain below. rw (windows_in_lem domain below) (whole_or_more domain).0;
        at_most = λ domain below. rw (windows_in_lem domain below) (whole_or_more domain).1;
        none_for_zero = λ domain below weightless.
            windows_in_lem domain below ∙ weightless_gets_none count weights facts.total domain weightless;
        all_given = sum_same _ _ most_domains windows_in_lem ∙ windows_sum count weights facts.total;
        by_remainder = λ domain other below below' more no_more.
            let few = extra_says count weights domain (sym (windows_in_lem domain below) ∙ more) in
            let many = no_extra_says count weights other (sym (windows_in_lem other below') ∙ no_more) in
            fewer_ahead (remainder_of count weights) domain other (omega arith);
        in_turns = λ earlier later order below.
            let early : earlier < count = omega arith in
            pair_same (sym (frame_turn earlier early)) (sym (frame_number earlier early))
            (sym (frame_turn later below)) (sym (frame_number later below))
            ((turns_ordered (window_count count weights) count).rising earlier later order (let all = all_laid in omega arith));
      }

pub frames_by_weights : FramesByWeights
frames_by_weights count weights limits = frame_by_weights count weights (taken count weights (limits_valid count weights limits))
