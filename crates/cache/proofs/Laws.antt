-- Laws of an access and of the flushes that other crates cite: lengths are kept, and a hit in L1 leaves L2 alone.
-- Assumes nothing.
use Rattle.std.specs.Prelude.{Option}
use Prim.Native.Nat.{ℕ, ◌+◌, ◌≤◌}
use mathlib.Core.Path.{◌≡◌, refl, sym, ◌∙◌}
use mathlib.Core.Bool.{Bool, true, false, cond}
use mathlib.Core.List.{List}
use native.Mathlib.Omega.{arith}
use lib.ListN.{drop, get_or, length, replicate, length-replicate, length-set}
use lib.Seq.{drop-set-lt}
use Rattle.lists.specs.Part.{splice}
use Rattle.lists.proofs.Parts.{part_length, splice_length, splice_part}
use Rattle.cache.specs.declared.AccessKind.TheVariants.{Hit1, Hit2, Miss}
use Rattle.cache.specs.Lines.{clean_entry, l1_index, l1_length, kernel_entries, kernel_index, set_of, set_index}
use Rattle.cache.specs.Lines.{table_length, ways_per_set}
use Rattle.cache.specs.Sets.{has}
use Rattle.cache.specs.Access.{access_of, lookup_at, lookup_l1, lookup_l2, seek_of, write_back_at, written_back}
use Rattle.cache.specs.Flush.{kernel_flushed, l1_flushed}
use Rattle.cache.proofs.Outcome.{look_held, look_lacked}
use Rattle.cache.proofs.Ways.{moved_length}
use Rattle.cache.proofs.WriteBacks.{back_held, in_l1, ways_of, written_entry, written_length}

-- a line that L1 lacks is no hit in L1
no_hit1 : (known : Bool) → cond known Hit2 Miss ≡ Hit1 → ⊥
no_hit1 true is = let wrong : ◌≡◌ {A = ℕ} 0 1 = cc in omega arith
no_hit1 false is = let wrong : ◌≡◌ {A = ℕ} 0 1 = cc in omega arith

module _ (writes : Bool) (line : ℕ) (table : List ℕ) where
  -- a lookup leaves as many ways as it found
  lookup_length : (held : Bool) → in_l1 line table ≡ held
      → length (lookup_at writes line table).ways ≡ length (ways_of line table)
  unfolding lookup_l1 lookup_l2
  lookup_length true held = rw (look_held writes line table held)
  lookup_length false lacked =
      rw (look_lacked writes line table lacked) (moved_length (clean_entry line) (ways_of line table))

  -- in a whole table those are a set's
  pub lookup_ways : length table ≡ table_length → length (lookup_at writes line table).ways ≡ ways_per_set
  lookup_ways whole =
      lookup_length (in_l1 line table) refl ∙ part_length (set_index (set_of line)) ways_per_set table (omega arith)

  -- a line sought keeps the table's length, whatever was put out
  pub seek_length : (back : Option ℕ) → length (seek_of writes line back table).table ≡ length table
  unfolding seek_of
  seek_length back =
      let look = lookup_at writes line table in
      length-set (splice (set_index (set_of line)) ways_per_set look.ways table) (l1_index line) look.entry
      ∙ splice_length (set_index (set_of line)) ways_per_set look.ways table (lookup_length (in_l1 line table) refl)

-- and so does an access
pub access_length : (writes : Bool) (line : ℕ) (table : List ℕ) → length (access_of writes line table).table ≡ length table
unfolding access_of
access_length writes line table =
    let back = write_back_at line table in
    seek_length writes line (written_back back table) back ∙ written_length back table

module _ (writes : Bool) (line : ℕ) (table : List ℕ) (whole : length table ≡ table_length) where
  hit1_held : (held : Bool) → in_l1 line table ≡ held → (access_of writes line table).found ≡ Hit1 → in_l1 line table ≡ true
  unfolding access_of seek_of lookup_l2
  hit1_held true holds is = holds
  hit1_held false lacks is =
      let back = write_back_at line table in
      let still : in_l1 line (written_back back table) ≡ false = rw (written_entry back line table whole) lacks in
      absurd
      (no_hit1 (has (clean_entry line) (ways_of line (written_back back table)))
      (rw (look_lacked writes line (written_back back table) still) at is))

  -- a hit in L1 is a line that L1 holds
  hit1_holds : (access_of writes line table).found ≡ Hit1 → in_l1 line table ≡ true
  hit1_holds is = hit1_held (in_l1 line table) refl is

  -- a hit in L1 leaves L2 alone
  pub hit1_keeps_l2 : (access_of writes line table).found ≡ Hit1
      → drop l1_length (access_of writes line table).table ≡ drop l1_length table
  unfolding access_of seek_of written_back lookup_l1
  hit1_keeps_l2 is =
      let holds = hit1_holds is in
      rw (back_held line table holds, look_held writes line table holds, splice_part)
      (drop-set-lt l1_length table (l1_index line)
      (lookup_l1 writes line (get_or table (l1_index line) 0) (ways_of line table)).entry (omega arith))

-- a flush keeps the length of a whole table
flush_length :
    (first count : ℕ) (table : List ℕ)
    → first + count ≤ length table
    → length (splice first count (replicate count 0) table) ≡ length table
flush_length first count table within =
    splice_length first count (replicate count 0) table
    (length-replicate {A = ℕ} count 0 ∙ sym (part_length first count table within))

pub kernel_flush_length : (table : List ℕ) → length table ≡ table_length → length (kernel_flushed table) ≡ length table
unfolding kernel_flushed
kernel_flush_length table long = flush_length kernel_index kernel_entries table (omega arith)

pub l1_flush_length : (table : List ℕ) → length table ≡ table_length → length (l1_flushed table) ≡ length table
unfolding l1_flushed
l1_flush_length table long = flush_length 0 l1_length table (omega arith)
