-- The promises leave one frame: two that keep them for the same count and weights are equal.
-- Assumes nothing.
use Prim.Native.Nat.{ℕ, zero, suc, ◌+◌, ◌≤◌, ◌<◌}
use mathlib.Core.Bool.{Bool, true, false, cond, false≢true}
use mathlib.Core.List.{List, [], ◌∷◌, ◌++◌}
use mathlib.Core.Path.{◌≡◌, refl, sym, ap, ap₂, ◌∙◌}
use native.Mathlib.Nat.{not-suc-le-zero, zero-add}
use native.Mathlib.Omega.{arith}
use lib.Dec.{eqb, ltb}
use lib.ListN.{drop, get_or, length, length-drop, take, take-append-drop}
use lib.Seq.{ext_get_or, get_or-drop, get_or-take, length-take-le, split_at, take-add, take-length, take-suc, take-take}
use borrow.Author.Tests.{eq-eqb, eqb-false, eqb-true, le-ltb, lt-ltb, ltb-false, ltb-true}
use Rattle.plan.specs.Limits.{most_domains, most_windows}
use Rattle.plan.proofs.Sums.{sum_same}
use Rattle.frame.specs.Frame.{frame_of}
use Rattle.frame.specs.Quotas.{ahead_of, count_below, gets_one_more, is_ahead, leftover, rank, remainder_of, whole_part, window_count}
use Rattle.frame.specs.Theorems.{FrameByWeights, FramesUnique, LexicographicLess, occurrences, turn_at, windows_in}
use Rattle.frame.proofs.Ahead.{ahead_order}
use Rattle.frame.proofs.Counting.{count_more, count_strict, sum_and_count}
use Rattle.frame.proofs.Order.{pair_irreflexive, pair_same, pair_trans}
use Rattle.frame.proofs.Promises.{frames_by_weights}
use Rattle.frame.proofs.Ranks.{asymmetric}
use Rattle.frame.proofs.LaidTurns.{occurrences_append}

-- ---- where a number stands next

-- the first index at which a number stands
record First (number : ℕ) (list : List ℕ) : Type 0 where
  index : ℕ
  within : index < length list
  stands : get_or list index 0 ≡ number
  not_before : occurrences number (take index list) ≡ 0

first_here : (one number : ℕ) (list : List ℕ) → eqb one number ≡ true → First number (one ∷ list)
unfolding occurrences
first_here one number list same =
    record { index = 0; within = omega arith; stands = eqb-true one number same; not_before = refl }

first_later :
    (one number : ℕ) (list : List ℕ)
    → eqb one number ≡ false
    → First number list
    → First number (one ∷ list)
unfolding occurrences
first_later one number list other first =
    record {
      index = suc first.index;
      within = omega arith;
      stands = first.stands;
      not_before = rw (other, zero-add) first.not_before;
    }

first_of : (number : ℕ) (list : List ℕ) → 0 < occurrences number list → First number list
unfolding occurrences
first_of number [] some = absurd (not-suc-le-zero some)
first_of number (one ∷ list) some = go (eqb one number) refl some (first_of number list)
  where
    go : (b : Bool) → eqb one number ≡ b
        → 0 < cond b 1 0 + occurrences number list
        → (0 < occurrences number list → First number list)
        → First number (one ∷ list)
    go true e any rest = first_here one number list e
    go false e any rest = first_later one number list e (rest (omega arith))

-- the next index from `from` on at which a number stands: the window of its next turn
record Next (number from : ℕ) (list : List ℕ) : Type 0 where
  index : ℕ
  from_on : from ≤ index
  within : index < length list
  stands : get_or list index 0 ≡ number
  next_turn : occurrences number (take index list) ≡ occurrences number (take from list)

-- a number that stands oftener in a list than in its beginning stands behind that again
next_of : (number from : ℕ) (list : List ℕ)
    → occurrences number (take from list) < occurrences number list
    → Next number from list
next_of number from list more =
    record {
      index = from + first.index;
      from_on = omega arith;
      within = (let below = first.within in let rest = length-drop from list in omega arith);
      stands = sym (get_or-drop from list first.index 0) ∙ first.stands;
      next_turn =
          ap (occurrences number) (take-add from first.index list)
          ∙ occurrences_append number (take from list) (take first.index (drop from list))
          ∙ (let none = first.not_before in omega arith);
    }
  where
    split : occurrences number list ≡ occurrences number (take from list) + occurrences number (drop from list)
    split =
        ap (occurrences number) (sym (take-append-drop from list))
        ∙ occurrences_append number (take from list) (drop from list)

    first : First number (drop from list)
    first = first_of number (drop from list) (let whole = split in omega arith)

stands_first : (number : ℕ) (list : List ℕ) → 0 < occurrences number (number ∷ list)
unfolding occurrences
stands_first number list = rw (eq-eqb number number refl) (omega arith)

-- the number at an index stands in the list oftener than before that index
stands_once_more : (list : List ℕ) (index : ℕ) → index < length list
    → turn_at list index < occurrences (get_or list index 0) list
stands_once_more list index within =
    let whole : occurrences (get_or list index 0) list
    ≡ turn_at list index + occurrences (get_or list index 0) (get_or list index 0 ∷ drop (suc index) list) =
    ap (occurrences (get_or list index 0)) (split_at list index 0 within)
    ∙ occurrences_append (get_or list index 0) (take index list) (get_or list index 0 ∷ drop (suc index) list) in
    let here = stands_first (get_or list index 0) (drop (suc index) list) in
    omega arith

-- ---- two lists with the same numbers, both in turns

abbrev Rising : List ℕ → Type 0
Rising list =
    (earlier later : ℕ) → earlier < later → later < length list
    → LexicographicLess (turn_at list earlier) (get_or list earlier 0) (turn_at list later) (get_or list later 0)

-- where two lists part, the second has the first's number later
parts_later : (one other : List ℕ) (index : ℕ)
    → index < length one
    → Rising other
    → take index one ≡ take index other
    → occurrences (get_or one index 0) one ≡ occurrences (get_or one index 0) other
    → (get_or one index 0 ≡ get_or other index 0 → ⊥)
    → LexicographicLess (turn_at other index) (get_or other index 0) (turn_at one index) (get_or one index 0)
parts_later one other index within rising same often differ =
    pair_same refl refl its_turn next.stands (rising index next.index later next.within)
  where
    as_often : occurrences (get_or one index 0) (take index other) ≡ turn_at one index
    as_often = ap (occurrences (get_or one index 0)) (sym same)

    next : Next (get_or one index 0) index other
    next = next_of (get_or one index 0) index other
        (let more = stands_once_more one index within in let alike = as_often in omega arith)

    later : index < next.index
    later = go (eqb index next.index) refl
      where
        go : (b : Bool) → eqb index next.index ≡ b → index < next.index
        go true e =
            absurd (differ (sym (ap (λ (n : ℕ). get_or other n 0) (eqb-true index next.index e) ∙ next.stands)))
        go false e =
            let apart = eqb-false index next.index e in let from = next.from_on in omega arith

    its_turn : turn_at other next.index ≡ turn_at one index
    its_turn =
        ap (λ (n : ℕ). occurrences n (take next.index other)) next.stands ∙ next.next_turn ∙ as_often

-- so they do not part
module _ (one other : List ℕ) (long : length one ≡ length other) (rises : Rising one) (rises' : Rising other)
    (often : (number : ℕ) → number < most_domains → occurrences number one ≡ occurrences number other)
    (small : (index : ℕ) → index < length one → get_or one index 0 < most_domains)
    (small' : (index : ℕ) → index < length other → get_or other index 0 < most_domains) where
  same_number :
      (index : ℕ)
      → index < length one
      → take index one ≡ take index other
      → get_or one index 0 ≡ get_or other index 0
  same_number index within same = go (eqb (get_or one index 0) (get_or other index 0)) refl
    where
      within' : index < length other
      within' = rw (← long) within

      go :
          (b : Bool)
          → eqb (get_or one index 0) (get_or other index 0) ≡ b
          → get_or one index 0 ≡ get_or other index 0
      go true e = eqb-true _ _ e
      go false e =
          let differ = eqb-false _ _ e in
          absurd (pair_irreflexive (pair_trans
          (parts_later one other index within rises' same (often (get_or one index 0) (small index within)) differ)
          (parts_later other one index within' rises (sym same)
          (sym (often (get_or other index 0) (small' index within'))) (λ equal. differ (sym equal)))))

  same_beginning : (index : ℕ) → index ≤ length one → take index one ≡ take index other
  same_beginning zero within = refl
  same_beginning (suc index) within =
      let before : take index one ≡ take index other = same_beginning index (omega arith) in
      take-suc one index 0 (omega arith)
      ∙ ap₂ (λ (list : List ℕ) (number : ℕ). list ++ number ∷ []) before (same_number index (omega arith) before)
      ∙ sym (take-suc other index 0 (omega arith))

  same_list : one ≡ other
  same_list =
      sym (take-length one)
      ∙ same_beginning (length one) (omega arith)
      ∙ ap (λ (n : ℕ). take n other) long
      ∙ take-length other

-- ---- two frames

-- a domain has one more than its whole part
unfoldable has_more : ℕ → List ℕ → List ℕ → ℕ → Bool
has_more count weights frame domain = ltb (whole_part count weights domain) (windows_in count frame domain)

module _ (count : ℕ) (weights frame : List ℕ) (keeps : FrameByWeights count weights frame) where
  more_is : (domain : ℕ) → domain < most_domains → has_more count weights frame domain ≡ true
      → windows_in count frame domain ≡ whole_part count weights domain + 1
  unfolding has_more
  more_is domain below more =
      let over : whole_part count weights domain < windows_in count frame domain = ltb-true _ _ more in
      let most = keeps.at_most domain below in omega arith

  no_more_is : (domain : ℕ) → domain < most_domains → has_more count weights frame domain ≡ false
      → windows_in count frame domain ≡ whole_part count weights domain
  unfolding has_more
  no_more_is domain below no_more =
      let under : windows_in count frame domain ≤ whole_part count weights domain = ltb-false _ _ no_more in
      let least = keeps.at_least domain below in omega arith

  whole_and_more : (domain : ℕ) → domain < most_domains
      → windows_in count frame domain ≡ whole_part count weights domain + cond (has_more count weights frame domain) 1 0
  whole_and_more domain below = go (has_more count weights frame domain) refl
    where
      go : (b : Bool) → has_more count weights frame domain ≡ b
          → windows_in count frame domain ≡ whole_part count weights domain + cond b 1 0
      go true e = more_is domain below e
      go false e = let same = no_more_is domain below e in omega arith

  -- as many have one more as there are leftover windows
  more_are_leftover : count_below (has_more count weights frame) most_domains ≡ leftover count weights
  unfolding leftover
  more_are_leftover =
      let all = keeps.all_given in
      let terms = sum_same (windows_in count frame) _ most_domains whole_and_more in
      let parts = sum_and_count (whole_part count weights) (has_more count weights frame) most_domains in
      omega arith

  -- they are those that come first
  more_is_first : (domain : ℕ) → domain < most_domains → has_more count weights frame domain ≡ true
      → ahead_of (remainder_of count weights) domain < leftover count weights
  unfolding rank
  more_is_first domain below more =
      rw (← more_are_leftover)
      (count_strict _ (has_more count weights frame) most_domains domain
      (λ other small front. both_have other small front (has_more count weights frame other) refl)
      below ((ahead_order (remainder_of count weights)).irreflexive domain) more)
    where
      both_have :
          (other : ℕ)
          → other < most_domains
          → is_ahead (remainder_of count weights) other domain ≡ true
          → (b : Bool) → has_more count weights frame other ≡ b → b ≡ true
      both_have other small front true e = refl
      both_have other small front false e =
          let back = keeps.by_remainder domain other below small (more_is domain below more) (no_more_is other small e) in
          absurd (false≢true (sym (asymmetric _ (ahead_order (remainder_of count weights)) domain other back) ∙ front))

  no_more_is_late : (domain : ℕ) → domain < most_domains → has_more count weights frame domain ≡ false
      → leftover count weights ≤ ahead_of (remainder_of count weights) domain
  unfolding rank
  no_more_is_late domain below no_more =
      rw (← more_are_leftover)
      (count_more (has_more count weights frame) _ most_domains
      (λ other small more. keeps.by_remainder other domain small below (more_is other small more) (no_more_is domain below no_more)))

  -- so each domain has what the maker gives it
  windows_are :
      (domain : ℕ)
      → domain < most_domains
      → windows_in count frame domain ≡ window_count count weights domain
  unfolding window_count gets_one_more
  windows_are domain below = go (has_more count weights frame domain) refl
    where
      go : (b : Bool) → has_more count weights frame domain ≡ b
          → windows_in count frame domain
          ≡ whole_part count weights domain
          + cond (ltb (ahead_of (remainder_of count weights) domain) (leftover count weights)) 1 0
      go true e = rw (lt-ltb _ _ (more_is_first domain below e)) (more_is domain below e)
      go false e =
          let same = no_more_is domain below e in
          rw (le-ltb _ _ (no_more_is_late domain below e)) (omega arith)

  -- its windows alone
  module _ (fits : count ≤ length frame) where
    cut_long : length (take count frame) ≡ count
    cut_long = length-take-le count frame fits

    cut_number : (index : ℕ) → index < count → get_or (take count frame) index 0 ≡ get_or frame index 0
    cut_number index below = get_or-take count frame index 0 below

    cut_turn : (index : ℕ) → index < count → turn_at (take count frame) index ≡ turn_at frame index
    cut_turn index below = ap₂ occurrences (cut_number index below) (take-take index count frame (omega arith))

    cut_small :
        (index : ℕ)
        → index < length (take count frame)
        → get_or (take count frame) index 0 < most_domains
    cut_small index below =
        let within : index < count = (let long = cut_long in omega arith) in
        rw (cut_number index within) (keeps.of_domains index within)

    cut_rises : Rising (take count frame)
    cut_rises earlier later order below =
        let within : later < count = (let long = cut_long in omega arith) in
        let early : earlier < count = omega arith in
        pair_same (sym (cut_turn earlier early)) (sym (cut_number earlier early))
        (sym (cut_turn later within)) (sym (cut_number later within))
        (keeps.in_turns earlier later order within)

module _ (count : ℕ) (weights one other : List ℕ) (few : count ≤ most_windows)
    (keeps : FrameByWeights count weights one) (keeps' : FrameByWeights count weights other) where
  fits : count ≤ length one
  fits = let long = keeps.entries in omega arith

  fits' : count ≤ length other
  fits' = let long = keeps'.entries in omega arith

  same_windows : take count one ≡ take count other
  same_windows =
      same_list (take count one) (take count other)
      (cut_long count weights one keeps fits ∙ sym (cut_long count weights other keeps' fits'))
      (cut_rises count weights one keeps fits) (cut_rises count weights other keeps' fits')
      (λ domain below. windows_are count weights one keeps domain below ∙ sym (windows_are count weights other keeps' domain below))
      (cut_small count weights one keeps fits) (cut_small count weights other keeps' fits')

  same_frame : one ≡ other
  same_frame =
      ext_get_or 0 one other (keeps.entries ∙ sym keeps'.entries) (λ index below. go index (ltb index count) refl)
    where
      go : (index : ℕ) (b : Bool) → ltb index count ≡ b → get_or one index 0 ≡ get_or other index 0
      go index true e =
          let within = ltb-true index count e in
          sym (get_or-take count one index 0 within)
          ∙ ap (λ (list : List ℕ). get_or list index 0) same_windows
          ∙ get_or-take count other index 0 within
      go index false e =
          let behind = ltb-false index count e in
          keeps.zeros_behind index behind ∙ sym (keeps'.zeros_behind index behind)

pub frames_unique : FramesUnique
frames_unique count weights frame limits keeps =
    same_frame count weights frame (frame_of count weights) limits.most keeps
    (frames_by_weights count weights limits)
