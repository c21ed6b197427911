-- Laws of table validity: a test that walks a list from its front, by what is left of the list; a part that is lent; an
-- L1 number. Assumes nothing.
use mathlib.Core.Path.{◌≡◌, refl, sym, ap, ◌∙◌}
use mathlib.Core.Bool.{Bool, true, false, not, ◌&&◌, ◌||◌}
use mathlib.Core.List.{List, [], ◌∷◌}
use Prim.Native.Nat.{ℕ, ◌+◌, ◌-◌, ◌≤◌, ◌<◌}
use native.Mathlib.Numerals.{add-one}
use native.Mathlib.Omega.{arith}
use lib.Dec.{eqb, leb}
use lib.ListN.{drop, drop_of_length-le, get_or, length, length-drop, take}
use lib.Seq.{drop-cons, take_all}
use borrow.Author.Tests.{leb-true, ne_eqb}
use Rattle.lists.specs.Part.{part}
use Rattle.plan.specs.declared.Plan.{Plan}
use Rattle.plan.specs.Colours.{has_bit, mask_at}
use Rattle.lists.proofs.Tests.{both}
use Rattle.cache.specs.Lines.{clean_entry, colour_of, kernel_colour, l1_index, most_line}
use Rattle.cache.specs.Sets.{has}
use Rattle.std.specs.List.{list_any}
use Rattle.state.specs.declared.State.{State}
use Rattle.state.specs.TableValidity.{l1_entry_valid, line_allowed, entry_line, stands_for_line}
use Rattle.state.specs.TableValidity.{unmarked}
use Rattle.state.specs.World.{ended_of, running_of}

-- from an index on, what is left of a list decides the whole list's answer
abbrev pub Decides : (List ℕ → Bool) → List ℕ → ℕ → Type 0
Decides test list index = (index ≤ length list) × (test (drop index list) ≡ test list)

-- what is left is the number at the index, then what is left behind it
pub here_first :
    (test : List ℕ → Bool) (list : List ℕ) (index : ℕ)
    → index < length list
    → test (drop index list) ≡ test (get_or list index 0 ∷ drop (index + 1) list)
here_first test list index within = rw add-one (ap test (drop-cons list index 0 within))

-- the number at the index settles the answer
pub decides_here :
    (test : List ℕ → Bool) (list : List ℕ) (index : ℕ) (answer : Bool)
    → index < length list
    → Decides test list index
    → test (get_or list index 0 ∷ drop (index + 1) list) ≡ answer
    → answer ≡ test list
decides_here test list index answer within decides settled =
    sym settled ∙ sym (here_first test list index within) ∙ decides.1

-- the number at the index leaves it to those behind it
pub decides_next :
    (test : List ℕ → Bool) (list : List ℕ) (index : ℕ)
    → index < length list
    → Decides test list index
    → test (get_or list index 0 ∷ drop (index + 1) list) ≡ test (drop (index + 1) list)
    → Decides test list (index + 1)
decides_next test list index within decides passed =
    (omega arith, sym passed ∙ sym (here_first test list index within) ∙ decides.1)

-- nothing is left
pub decides_end : (test : List ℕ → Bool) (list : List ℕ) (index : ℕ) → length list ≤ index → Decides test list index
    → test [] ≡ test list
decides_end test list index past decides = sym (ap test (drop_of_length-le list past)) ∙ decides.1

-- what stands from an index on, lent as a part up to the list's end
pub rest_whole : (list : List ℕ) (index : ℕ) → take (length list - index) (drop index list) ≡ drop index list
rest_whole list index = take_all (length list - index) (drop index list) (simp length-drop (omega arith))

-- some number is the entry
pub any_equal : (entry : ℕ) (ways : List ℕ) → list_any (λ way. eqb way entry) ways ≡ has entry ways
unfolding has
any_equal entry [] = refl
any_equal entry (way ∷ ways) = ap (λ (others : Bool). eqb way entry || others) (any_equal entry ways)

-- `count` numbers from an index on, lent as a part from there to the index behind them
pub lent_part : (first count : ℕ) (table : List ℕ)
    → take (first + count - first) (drop first table) ≡ part first count table
unfolding part
lent_part first count table = ap (λ (width : ℕ). take width (drop first table)) (width first count)
  where
    width : (first count : ℕ) → first + count - first ≡ count
    width first count = omega arith

-- the limits of a number that stands for a line
pub line_limits : (number : ℕ) → stands_for_line number ≡ true → (1 ≤ number) × (number ≤ clean_entry most_line)
line_limits number line =
    let parts =
    both (leb 1 number) (leb number (clean_entry most_line)) line in (leb-true _ _ parts.0, leb-true _ _ parts.1)

-- an L1 number that is not empty and stands for no line
pub l1_no_line :
    (plan : Plan) (state : State) (cache : List ℕ) (index number : ℕ)
    → (get_or cache index 0 ≡ 0 → ⊥)
    → number ≡ unmarked (get_or cache index 0)
    → stands_for_line number ≡ false
    → false ≡ l1_entry_valid plan state cache index
unfolding l1_entry_valid
l1_no_line plan state cache index number full marked no_line = rw (ne_eqb _ _ full, ← marked, no_line) refl

-- an L1 number that stands for a line
pub l1_line :
    (plan : Plan) (state : State) (cache : List ℕ) (index number : ℕ) (ended : Bool) (mask : ℕ) (owned : Bool)
    → (get_or cache index 0 ≡ 0 → ⊥)
    → number ≡ unmarked (get_or cache index 0)
    → stands_for_line number ≡ true
    → ended_of plan state ≡ ended
    → mask_at plan (running_of plan state) ≡ mask
    → owned ≡ has_bit mask (colour_of (entry_line number))
    → eqb (l1_index (entry_line number)) index && (owned || eqb (colour_of (entry_line number)) kernel_colour) && not ended
    ≡ l1_entry_valid plan state cache index
unfolding l1_entry_valid line_allowed
l1_line plan state cache index number ended mask owned full marked line ends masked owns =
    rw (ne_eqb _ _ full, ← marked, line, ends, masked, owns) refl
