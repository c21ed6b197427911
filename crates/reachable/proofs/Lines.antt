-- A sound cache table while a domain runs: its length, the lines that L1 may hold, and sound sets. An access of a line
-- that the domain may have leaves a sound table, and a table of zeros is sound. Assumes nothing.
use Rattle.std.specs.Prelude.{Some}
use Prim.Native.Nat.{ℕ, ◌+◌, ◌-◌, ◌≤◌, ◌<◌}
use mathlib.Core.Bool.{Bool, true, false, cond, not}
use mathlib.Core.List.{List}
use mathlib.Core.Path.{◌≡◌, refl, ap, ◌∙◌}
use native.Mathlib.Omega.{arith}
use lib.Dec.{eqb, leb}
use lib.ListN.{get_or, length, replicate}
use borrow.Author.Tests.{eq-eqb, eqb-true, le-leb, leb-true, lt-leb, ltb-true, ne_eqb}
use Rattle.plan.specs.declared.Plan.{Plan}
use Rattle.cache.specs.Access.{access_of, dirty_line, write_back_at}
use Rattle.cache.specs.Lines.{clean_entry, dirty_entry, dirty_mark, is_dirty, l1_index, l1_length, most_line, set_count, set_index}
use Rattle.cache.specs.Lines.{table_length}
use Rattle.cache.proofs.Laws.{access_length}
use Rattle.cache.proofs.WriteBacks.{back_dirty}
use Rattle.state.specs.declared.State.{State}
use Rattle.state.specs.TableValidity.{entry_valid, line_allowed, entry_line, set_valid, stands_for_line, unmarked}
use Rattle.state.specs.World.{ended_of, running_of}
use Rattle.state.proofs.Empties.{zero_set}
use Rattle.lists.proofs.Tests.{both, both_pass, first_passes, second_passes}
use Rattle.reachable.proofs.Accesses.{access_index, access_sets}
use Rattle.reachable.proofs.Cells.{cell_zeros, zeros_length}
use Rattle.reachable.proofs.Ways.{line_stands}

pub record CacheValid (plan : Plan) (state : State) (cache : List ℕ) : Type 0 where
  pub long : length cache ≡ table_length
  pub lines : (index : ℕ) → index < l1_length → entry_valid plan state index (get_or cache index 0) ≡ true
  pub sets : (set : ℕ) → set < set_count → set_valid cache set ≡ true

-- ---- what is dirty in L1

-- a dirty number of L1 is a line's of its index, which the running domain may have there
pub record DirtyLine (plan : Plan) (state : State) (index entry : ℕ) : Type 0 where
  pub small : dirty_line entry ≤ most_line
  pub here : l1_index (dirty_line entry) ≡ index
  pub allowed : line_allowed plan (running_of plan state) (dirty_line entry) ≡ true

pub dirty_line_lem : (plan : Plan) (state : State) (index entry : ℕ) → entry_valid plan state index entry ≡ true
    → is_dirty entry ≡ true
    → DirtyLine plan state index entry
dirty_line_lem plan state index entry sound dirty =
    let past : dirty_mark < entry = ltb-true dirty_mark entry dirty in
    let some : eqb entry 0 ≡ false = ne_eqb entry 0 (λ none. omega arith) in
    let plain : unmarked entry ≡ entry - dirty_mark =
    ap (λ test. cond test (entry - dirty_mark) entry) (le-leb dirty_mark entry (omega arith)) in
    let line : entry_line (unmarked entry) ≡ dirty_line entry = omega arith in
    let parts = both _ _ (rw some at sound) in
    let firsts = both _ _ parts.0 in
    let stands = both (stands_for_line (unmarked entry)) (eqb (l1_index (entry_line (unmarked entry))) index) firsts.0 in
    let most : unmarked entry ≤ clean_entry most_line =
    leb-true _ _ (both (leb 1 (unmarked entry)) (leb (unmarked entry) (clean_entry most_line)) stands.0).1 in
    let at : l1_index (entry_line (unmarked entry)) ≡ index = eqb-true _ _ stands.1 in
    let may : line_allowed plan (running_of plan state) (entry_line (unmarked entry)) ≡ true = firsts.1 in
    record { small = omega arith; here = rw line at at; allowed = rw line at may }

-- so a line that an access puts out is one that the running domain may have in L1, and stood at the index of the line
-- asked for
pub put_out_lem : (plan : Plan) (state : State) (cache : List ℕ) → CacheValid plan state cache → (line other : ℕ)
    → write_back_at line cache ≡ Some other
    → (other ≤ most_line) × (l1_index other ≡ l1_index line) × (line_allowed plan (running_of plan state) other ≡ true)
put_out_lem plan state cache sound line other out =
    let was = back_dirty line other cache out in
    let dirty = dirty_line_lem plan state (l1_index line) _ (sound.lines (l1_index line) (omega arith)) was.0 in
    rw (← was.1) (dirty.small, dirty.here, dirty.allowed)

-- ---- an access

module _ (plan : Plan) (state : State) (running : ended_of plan state ≡ false) (line : ℕ) (small : line ≤ most_line)
    (allowed : line_allowed plan (running_of plan state) line ≡ true) where
  -- a number whose line, without a dirty mark, is this one
  marked_valid : (entry : ℕ) → unmarked entry ≡ clean_entry line → entry_valid plan state (l1_index line) entry ≡ true
  marked_valid entry same =
      let itself : entry_line (clean_entry line) ≡ line = omega arith in
      let here = both_pass _ _ (line_stands line small) (eq-eqb (l1_index line) (l1_index line) refl) in
      second_passes (eqb entry 0) _
      (rw same (rw itself (both_pass _ _ (both_pass _ _ here allowed) (ap not running))))

  entries_valid : (index : ℕ) → index ≡ l1_index line
      → (entry_valid plan state index (clean_entry line) ≡ true) × (entry_valid plan state index (dirty_entry line) ≡ true)
  entries_valid index same =
      let less : clean_entry line < dirty_mark = omega arith in
      let more : dirty_mark ≤ dirty_entry line = omega arith in
      let plain : dirty_entry line - dirty_mark ≡ clean_entry line = omega arith in
      rw same (
        marked_valid (clean_entry line)
            (ap (λ test. cond test (clean_entry line - dirty_mark) (clean_entry line))
            (lt-leb dirty_mark (clean_entry line) less)),
        marked_valid (dirty_entry line)
            (ap (λ test. cond test (dirty_entry line - dirty_mark) (dirty_entry line))
            (le-leb dirty_mark (dirty_entry line) more)
            ∙ plain),
      )

  pub access_valid : (writes : Bool) (cache : List ℕ) → CacheValid plan state cache
      → CacheValid plan state (access_of writes line cache).table
  access_valid writes cache sound =
      record {
        long = access_length writes line cache ∙ sound.long;
        lines = λ index below. access_index writes line cache sound.long
            (λ entry.
            entry_valid plan state index entry ≡ true) index below (sound.lines index below) (entries_valid index);
        sets = access_sets writes line cache sound.long small
            (λ other out. (put_out_lem plan state cache sound line other out).0) sound.sets;
      }

-- ---- empty cells

-- an empty L1 number is sound
pub zero_entry : (plan : Plan) (state : State) (index entry : ℕ) → entry ≡ 0 → entry_valid plan state index entry ≡ true
zero_entry plan state index entry none = first_passes _ _ (eq-eqb entry 0 none)

-- a table of zeros is sound
pub zeros_valid : (plan : Plan) (state : State) → CacheValid plan state (replicate table_length 0)
zeros_valid plan state =
    record {
      long = zeros_length table_length;
      lines = λ index below. zero_entry plan state index _ (cell_zeros table_length index);
      sets = λ set below. zero_set (replicate table_length 0) set
          (λ way inside. cell_zeros table_length (set_index set + way));
    }
