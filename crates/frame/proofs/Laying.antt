-- A frame while turns are laid into it, window by window and turn by turn. Assumes nothing.
use Prim.Native.Nat.{ℕ, ◌+◌, ◌-◌, ◌≤◌, ◌<◌}
use mathlib.Core.List.{List, [], ◌∷◌, ◌++◌, append-nil}
use mathlib.Core.Path.{◌≡◌, sym, ap, ◌∙◌}
use native.Mathlib.Nat.{zero-add}
use native.Mathlib.Numerals.{add-one}
use native.Mathlib.Omega.{arith}
use lib.ListN.{drop, length, length-append, length-drop, length-replicate, replicate, set}
use lib.ListN.{get_or-replicate}
use lib.Seq.{ext_get_or, get_or-drop, sets, sets-eq}
use borrow.Author.Tests.{le-ltb, lt-ltb}
use Rattle.lists.proofs.Stores.{sets_append}
use Rattle.plan.specs.Limits.{most_domains}
use Rattle.frame.specs.Turns.{turn_windows, first_turns, zero_filled}
use Rattle.frame.proofs.LaidTurns.{turn_grow}

-- ---- a turn, domain by domain

module _ (windows : ℕ → ℕ) (turn domain : ℕ) where
  -- a domain that has no window left adds none
  turn_skips :
      windows domain ≤ turn
      → turn_windows windows turn (domain + 1) ≡ turn_windows windows turn domain
  unfolding turn_windows
  turn_skips none = rw (add-one domain, le-ltb turn (windows domain) none) (append-nil (turn_windows windows turn domain))

  -- one that has adds one
  turn_lays :
      turn < windows domain
      → turn_windows windows turn (domain + 1) ≡ turn_windows windows turn domain ++ domain ∷ []
  unfolding turn_windows
  turn_lays some = rw (add-one domain, lt-ltb turn (windows domain) some)

  turn_longer :
      turn < windows domain
      → length (turn_windows windows turn domain) + 1 ≡ length (turn_windows windows turn (domain + 1))
  turn_longer some =
      let long = length-append (turn_windows windows turn domain) (domain ∷ []) in
      let lays = ap length (turn_lays some) in
      omega arith

-- the frame has the windows of the domains before `domain`, and the next index is behind them
module _ (windows : ℕ → ℕ) (turn domain first next : ℕ) (before : List ℕ)
    (next_is : next ≡ first + length (turn_windows windows turn domain)) where
  -- there is room for one more where there is for the whole turn
  pub laying_room : (room : ℕ) → turn < windows domain → domain < most_domains
      → first + length (turn_windows windows turn most_domains) ≤ room
      → next < room
  laying_room room some below fits =
      let longer = turn_longer windows turn domain some in
      let within = turn_grow windows turn (domain + 1) most_domains (omega arith) in
      omega arith

  pub laid_index :
      turn < windows domain
      → next + 1 ≡ first + length (turn_windows windows turn (domain + 1))
  laid_index some = let longer = turn_longer windows turn domain some in omega arith

  pub laid_frame : turn < windows domain
      → set (sets before first (turn_windows windows turn domain)) next domain ≡ sets before first (turn_windows windows turn (domain + 1))
  laid_frame some =
      rw next_is (sets_append before first (turn_windows windows turn domain) (domain ∷ [])
      ∙ ap (sets before first) (sym (turn_lays windows turn domain some)))

  pub skipped_index :
      windows domain ≤ turn
      → next ≡ first + length (turn_windows windows turn (domain + 1))
  skipped_index none = next_is ∙ ap (λ (list : List ℕ). first + length list) (sym (turn_skips windows turn domain none))

  pub skipped_frame : windows domain ≤ turn
      → sets before first (turn_windows windows turn domain) ≡ sets before first (turn_windows windows turn (domain + 1))
  skipped_frame none = ap (sets before first) (sym (turn_skips windows turn domain none))

-- ---- turn by turn

module _ (windows : ℕ → ℕ) (turn : ℕ) where
  turns_next : first_turns windows (turn + 1) ≡ first_turns windows turn ++ turn_windows windows turn most_domains
  unfolding first_turns
  turns_next = rw (add-one turn)

  pub turns_longer : length (first_turns windows turn) + length (turn_windows windows turn most_domains) ≡ length (first_turns windows (turn + 1))
  turns_longer =
      let long = length-append (first_turns windows turn) (turn_windows windows turn most_domains) in
      let next = ap length turns_next in
      omega arith

  pub turns_stored : (frame : List ℕ)
      → sets (sets frame 0 (first_turns windows turn)) (length (first_turns windows turn)) (turn_windows windows turn most_domains)
      ≡ sets frame 0 (first_turns windows (turn + 1))
  turns_stored frame =
      ap (λ (n : ℕ). sets (sets frame 0 (first_turns windows turn)) n (turn_windows windows turn most_domains))
      (sym (zero-add (length (first_turns windows turn))))
      ∙ sets_append frame 0 (first_turns windows turn) (turn_windows windows turn most_domains)
      ∙ ap (sets frame 0) (sym turns_next)

-- ---- the whole frame

zeros_behind :
    (width count : ℕ)
    → count ≤ width
    → ◌≡◌ {A = List ℕ} (drop count (replicate width 0)) (replicate (width - count) 0)
zeros_behind width count within =
    let zeros : List ℕ = replicate width 0 in
    let long : length (drop count zeros) ≡ width - count = simp (length-drop, length-replicate) in
    ext_get_or 0 _ _ (long ∙ sym (length-replicate (width - count) 0))
    (λ index below.
    get_or-drop count (replicate width 0) index 0
    ∙ get_or-replicate width (count + index) 0 0 (omega arith)
    ∙ sym (get_or-replicate (width - count) index 0 0 (omega arith)))

-- a list stored into zeros is that list made longer with zeros
pub stored_in_zeros : (width : ℕ) (list : List ℕ) → length list ≤ width
    → sets (replicate width 0) 0 list ≡ zero_filled width list
unfolding zero_filled
stored_in_zeros width list fits =
    sets-eq list (replicate width 0) 0 (rw (length-replicate, zero-add) fits)
    ∙ ap (λ (rest : List ℕ). list ++ rest) (ap (λ (n : ℕ). drop n (replicate width 0)) (zero-add (length list)) ∙ zeros_behind width (length list) fits)
