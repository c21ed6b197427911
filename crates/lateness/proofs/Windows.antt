-- What L1 and the kernel's sets hold in a window of a domain. At the start of the run's first window both are empty, and until
-- the first message the kernel's sets stay so; from then on, and in every other window from its start on, they hold the entry
-- line and, where the domain has a box, lines of boxes. Dirty in L1 are only lines at the domain's own indices and, where it has
-- a box, at the index of the boxes' lines. Assumes nothing.
use Prim.Native.Nat.{ℕ, ◌+◌, ◌≤◌, ◌<◌}
use mathlib.Core.Bool.{Bool, true, false, false≢true, ◌&&◌, ◌||◌}
use mathlib.Core.List.{List}
use mathlib.Core.Path.{◌≡◌, sym, subst, ◌∙◌}
use native.Mathlib.Decide.{ℕ_discrete}
use native.Mathlib.Omega.{arith}
use lib.Dec.{eqb, leb, ltb}
use lib.ListN.{get_or, length}
use borrow.Author.Tests.{eq-eqb, ne_eqb}
use Rattle.lists.proofs.Tests.{first_passes}
use Rattle.plan.specs.Limits.{domain_colours}
use Rattle.cache.specs.Access.{old_access_of}
use Rattle.cache.specs.Lines.{clean_entry, dirty_entry, holds_line, is_dirty, is_valid, kernel_entries, kernel_index}
use Rattle.cache.specs.Lines.{l1_length, most_line, set_colour, set_of, table_length, ways_per_set}
use Rattle.ops.specs.Ops.{kernel_entry_line}
use Rattle.lateness.proofs.Accesses.{access_other, sought_index, sought_length}
use Rattle.lateness.proofs.Indices.{boxes_index, entry_index, own_index, own_line_index}

-- the number of the entry line in a set
abbrev pub entry_number : ℕ
entry_number = clean_entry kernel_entry_line

-- the numbers of the kernel's sets that may hold a line, by their index among them: the first way of the entry line's
-- set, and where there is a box the ways of the boxes' set
abbrev pub may_hold : Bool → ℕ → Bool
may_hold box index = eqb index 0 || (box && (leb ways_per_set index && ltb index (ways_per_set + ways_per_set)))

-- the indices of L1 that may be dirty
abbrev pub may_dirty : ℕ → ℕ → Bool → ℕ → Bool
may_dirty lowest held box index = own_index lowest held index || (box && eqb index boxes_index)

-- a domain by the lowest of its colours, their number, and whether it has a box
module _ (lowest held : ℕ) (box : Bool) where
  -- before the first message of the run's first window
  pub record Quiet (table : List ℕ) : Type 0 where
    pub long : length table ≡ table_length
    pub dirty : (index : ℕ) → index < l1_length → is_dirty (get_or table index 0) ≡ true → own_index lowest held index ≡ true
    pub lacks : holds_line (get_or table entry_index 0) kernel_entry_line ≡ false
    pub empty : (index : ℕ) → index < kernel_entries → get_or table (kernel_index + index) 0 ≡ 0

  -- after it, and in every other window
  pub record Entered (table : List ℕ) : Type 0 where
    pub long : length table ≡ table_length
    pub dirty : (index : ℕ) → index < l1_length → is_dirty (get_or table index 0) ≡ true → may_dirty lowest held box index ≡ true
    pub entry : get_or table kernel_index 0 ≡ entry_number
    pub valid : (index : ℕ) → index < kernel_entries → is_valid (get_or table (kernel_index + index) 0) ≡ true → may_hold box index ≡ true

  pub data InWindow (table : List ℕ) : Type 0 where
    quiet : Quiet table → InWindow table
    entered : Entered table → InWindow table

  -- ---- at its start

  pub starts_quiet : (table : List ℕ) → length table ≡ table_length
      → ((index : ℕ) → index < l1_length → get_or table index 0 ≡ 0)
      → ((index : ℕ) → index < kernel_entries → get_or table (kernel_index + index) 0 ≡ 0)
      → Quiet table
  starts_quiet table long l1 kernel =
      record {
        long = long;
        dirty = λ index below is. absurd (false≢true (rw (l1 index below) at is));
        lacks = rw (l1 entry_index (omega arith));
        empty = kernel;
      }

  -- where a switch has touched the entry line, the window is entered at once
  pub starts_entered : (table : List ℕ) → length table ≡ table_length
      → ((index : ℕ) → index < l1_length → is_dirty (get_or table index 0) ≡ false)
      → get_or table kernel_index 0 ≡ entry_number
      → ((index : ℕ) → 0 < index → index < kernel_entries → get_or table (kernel_index + index) 0 ≡ 0)
      → Entered table
  starts_entered table long clean entry behind =
      record {
        long = long;
        dirty = λ index below is. absurd (false≢true (sym (clean index below) ∙ is));
        entry = entry;
        valid = λ index below is. go index below is (ℕ_discrete index 0);
      }
    where
      go : (index : ℕ) → index < kernel_entries → is_valid (get_or table (kernel_index + index) 0) ≡ true → Dec (index ≡ 0)
          → may_hold box index ≡ true
      go index below is (yes same) = first_passes _ _ (eq-eqb index 0 same)
      go index below is (no differs) = absurd (false≢true (rw (behind index (omega arith) below) at is))

  -- ---- an access of an own line

  module _ (within : lowest + held ≤ domain_colours) (writes : Bool) (line : ℕ) (small : line ≤ most_line)
      (from : lowest ≤ set_colour (set_of line)) (below : set_colour (set_of line) < lowest + held) where
    -- leaves the kernel's sets
    own_kernel : (table : List ℕ) → length table ≡ table_length → (index : ℕ) → index < kernel_entries
        → get_or (old_access_of writes line table).table (kernel_index + index) 0 ≡ get_or table (kernel_index + index) 0
    own_kernel table long index less =
        access_other writes line table long (kernel_index + index) (λ same. omega arith) (λ inside. omega arith)

    pub own_quiet : (table : List ℕ) → Quiet table → Quiet (old_access_of writes line table).table
    own_quiet table q =
        record {
          long = sought_length writes line table ∙ q.long;
          dirty = λ index less.
              sought_index writes line table q.long (λ n. is_dirty n ≡ true → own_index lowest held index ≡ true) index less
              (q.dirty index less)
              (λ same. let own = subst (λ i. own_index lowest held i ≡ true) (sym same) (own_line_index lowest held line within from below) in (λ is. own, λ is. own));
          lacks =
              sought_index writes line table q.long (λ n. holds_line n kernel_entry_line ≡ false) entry_index (omega arith)
              q.lacks (λ same. (other_line (clean_entry line) (omega arith) (omega arith), other_line (dirty_entry line) (omega arith) (omega arith)));
          empty = λ index less. own_kernel table q.long index less ∙ q.empty index less;
        }
      where
        other_line : (n : ℕ) → (n ≡ clean_entry kernel_entry_line → ⊥) → (n ≡ dirty_entry kernel_entry_line → ⊥) → holds_line n kernel_entry_line ≡ false
        other_line n one other = rw (ne_eqb n (clean_entry kernel_entry_line) one, ne_eqb n (dirty_entry kernel_entry_line) other)

    pub own_entered : (table : List ℕ) → Entered table → Entered (old_access_of writes line table).table
    own_entered table e =
        record {
          long = sought_length writes line table ∙ e.long;
          dirty = λ index less.
              sought_index writes line table e.long (λ n. is_dirty n ≡ true → may_dirty lowest held box index ≡ true) index less
              (e.dirty index less)
              (λ same.
              let own = first_passes _ (box && eqb index boxes_index)
              (subst (λ i. own_index lowest held i ≡ true) (sym same) (own_line_index lowest held line within from below)) in
              (λ is. own, λ is. own));
          entry = kernel_cell 0 (omega arith) ∙ e.entry;
          valid = λ index less is. e.valid index less (rw (own_kernel table e.long index less) at is);
        }
      where
        kernel_cell : (index : ℕ) → index < kernel_entries → get_or (old_access_of writes line table).table (kernel_index + index) 0 ≡ get_or table (kernel_index + index) 0
        kernel_cell = own_kernel table e.long

    pub own_in_window : (table : List ℕ) → InWindow table → InWindow (old_access_of writes line table).table
    own_in_window table (quiet q) = quiet (own_quiet table q)
    own_in_window table (entered e) = entered (own_entered table e)

  -- in either case the table has its length
  pub in_long : (table : List ℕ) → InWindow table → length table ≡ table_length
  in_long table (quiet q) = q.long
  in_long table (entered e) = e.long
