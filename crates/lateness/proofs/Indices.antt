-- The L1 indices that a domain's own lines have, and those of the kernel's lines beside them: which they
-- are, and how many. Assumes nothing.
use Prim.Native.Nat.{ℕ, suc, ◌+◌, ◌*◌, ◌-◌, ◌%◌, ◌≤◌, ◌<◌, min}
use mathlib.Core.Bool.{Bool, true, false, cond, not, ◌&&◌, ◌||◌}
use mathlib.Core.Path.{◌≡◌, refl}
use native.Mathlib.Omega.{arith}
use lib.Dec.{eqb, ltb}
use borrow.Author.Tests.{eqb-true, lt-ltb, ltb-false, ltb-true}
use Rattle.lists.proofs.Tests.{both}
use Rattle.plan.specs.Limits.{domain_colours}
use Rattle.plan.specs.Sums.{all_below, sum_to}
use Rattle.plan.proofs.Sums.{all_below_lem}
use Rattle.cache.specs.Lines.{kernel_colour, l1_index, l1_length, set_colour, set_count, set_of, sets_per_colour}
use Rattle.ops.specs.Ops.{first_box_line, kernel_entry_line}
use Rattle.latest.specs.Reach.{l1_colours}

-- the L1 index of the kernel's entry line, and that of every box's line
abbrev pub entry_index : ℕ
entry_index = l1_index kernel_entry_line

abbrev pub boxes_index : ℕ
boxes_index = l1_index first_box_line

-- how many of the indices of L1 pass a test
abbrev pub index_count : (ℕ → Bool) → ℕ
index_count test = sum_to (λ index. cond (test index) 1 0) l1_length

-- how many indices a number of colours in a row has
abbrev pub indices_of : ℕ → ℕ
indices_of held = sets_per_colour * min held l1_colours

-- an index is one of a line of `held` colours from the lowest on: counted from the lowest's first, and
-- round behind the last, it is below their number
abbrev pub own_index : ℕ → ℕ → ℕ → Bool
own_index lowest held index = ltb ((index + (set_count - sets_per_colour * lowest)) % l1_length) (indices_of held)

-- or that of the boxes' lines
abbrev pub with_boxes : ℕ → ℕ → ℕ → Bool
with_boxes lowest held index = own_index lowest held index || eqb index boxes_index

-- and not that of the entry line
abbrev pub after_message : ℕ → ℕ → ℕ → Bool
after_message lowest held index =
    (own_index lowest held index && not (eqb index entry_index)) || eqb index boxes_index

-- the kernel's lines have own indices
abbrev pub meets : ℕ → ℕ → Bool
meets lowest held = ltb (kernel_colour % l1_colours) (lowest % l1_colours + held)

-- ---- how many they are, computed for each lowest colour and each number of colours

abbrev own_passes : ℕ → ℕ → Bool
own_passes lowest held = eqb (index_count (own_index lowest held)) (indices_of held)

abbrev boxes_passes : ℕ → ℕ → Bool
boxes_passes lowest held =
    eqb (index_count (with_boxes lowest held)) (indices_of held + cond (meets lowest held) 0 1)

abbrev message_passes : ℕ → ℕ → Bool
message_passes lowest held =
    eqb (index_count (after_message lowest held) + cond (meets lowest held) 2 0) (indices_of held + 1)

abbrev counts_pass : ℕ → ℕ → Bool
counts_pass lowest held = own_passes lowest held && (boxes_passes lowest held && message_passes lowest held)

-- how many of the first lines of these colours have the index of the boxes' lines, one for each own index: one, where own lines
-- have the kernel's indices
abbrev written_passes : ℕ → ℕ → Bool
written_passes lowest held =
    eqb (sum_to (λ count. cond (eqb (l1_index (sets_per_colour * lowest + count)) boxes_index) 1 0) (indices_of held))
    (cond (meets lowest held) 1 0)

written_pass : all_below (λ lowest. all_below (written_passes lowest) (suc domain_colours)) domain_colours ≡ true
unfolding all_below sum_to
written_pass = refl

counts_pass_lem : all_below (λ lowest. all_below (counts_pass lowest) (suc domain_colours)) domain_colours ≡ true
unfolding all_below sum_to
counts_pass_lem = refl

module _ (lowest held : ℕ) (low : lowest < domain_colours) (few : held ≤ domain_colours) where
  entry_passes : (own_passes lowest held ≡ true) × ((boxes_passes lowest held && message_passes lowest held) ≡ true)
  entry_passes =
      both (own_passes lowest held) (boxes_passes lowest held && message_passes lowest held)
      (all_below_lem (counts_pass lowest) (suc domain_colours) held
      (all_below_lem (λ lowest. all_below (counts_pass lowest) (suc domain_colours)) domain_colours lowest counts_pass_lem low)
      (omega arith))

  pub own_count : index_count (own_index lowest held) ≡ indices_of held
  own_count = eqb-true _ _ entry_passes.0

  pub boxes_count : index_count (with_boxes lowest held) ≡ indices_of held + cond (meets lowest held) 0 1
  boxes_count = eqb-true _ _ (both (boxes_passes lowest held) (message_passes lowest held) entry_passes.1).0

  pub message_count : index_count (after_message lowest held) + cond (meets lowest held) 2 0 ≡ indices_of held + 1
  message_count = eqb-true _ _ (both (boxes_passes lowest held) (message_passes lowest held) entry_passes.1).1

  pub written_count :
      sum_to (λ count. cond (eqb (l1_index (sets_per_colour * lowest + count)) boxes_index) 1 0) (indices_of held)
      ≡ cond (meets lowest held) 1 0
  written_count =
      eqb-true _ _
      (all_below_lem (written_passes lowest) (suc domain_colours) held
      (all_below_lem (λ lowest. all_below (written_passes lowest) (suc domain_colours)) domain_colours lowest written_pass low)
      (omega arith))

-- ---- a line's index

-- a line of one of these colours has one of these indices
pub own_line_index : (lowest held line : ℕ) → lowest + held ≤ domain_colours
    → lowest ≤ set_colour (set_of line) → set_colour (set_of line) < lowest + held
    → own_index lowest held (l1_index line) ≡ true
own_line_index lowest held line within from below =
    let inside : (l1_index line + (set_count - sets_per_colour * lowest)) % l1_length < indices_of held = omega arith in
    lt-ltb _ _ inside

-- without own lines at the kernel's indices, none of these is an own index
pub apart_kernel : (lowest held : ℕ) → lowest + held ≤ domain_colours → meets lowest held ≡ false
    → (index : ℕ) → entry_index ≤ index → index < l1_length
    → own_index lowest held index ≡ true → ⊥
apart_kernel lowest held within apart index from below own =
    let few : lowest % l1_colours + held ≤ kernel_colour % l1_colours = ltb-false _ _ apart in
    let inside : (index + (set_count - sets_per_colour * lowest)) % l1_length < indices_of held = ltb-true _ _ own in
    omega arith

-- with them, all are
pub meeting : (lowest held : ℕ) → lowest + held ≤ domain_colours → meets lowest held ≡ true
    → (index : ℕ) → entry_index ≤ index → index < l1_length
    → own_index lowest held index ≡ true
meeting lowest held within meet index from below =
    let many : kernel_colour % l1_colours < lowest % l1_colours + held = ltb-true _ _ meet in
    let inside : (index + (set_count - sets_per_colour * lowest)) % l1_length < indices_of held = omega arith in
    lt-ltb _ _ inside
