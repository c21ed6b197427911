-- What an access of a line leaves, number by number: the line's L1 number, the ways of its set, and every other number as it was.
-- Here and in the files above an access is document 01's own: in a run from a fresh start the machine's does the same. Assumes nothing.
use Prim.Native.Nat.{ℕ, zero, suc, ◌+◌, ◌≤◌, ◌<◌}
use mathlib.Core.Bool.{Bool, true, false, cond}
use mathlib.Core.List.{List, [], ◌∷◌}
use mathlib.Core.Path.{◌≡◌, refl, sym, ap, subst, ◌∙◌}
use native.Mathlib.Omega.{arith}
use lib.ListN.{get_or, length}
use Rattle.lists.specs.Part.{part}
use Rattle.lists.proofs.Agree.{InRange}
use Rattle.lists.proofs.Parts.{part_at, part_next}
use Rattle.cache.specs.Access.{dirty_ticks, old_access_of, lookup_at, replace_ticks, write_back_at}
use Rattle.cache.specs.Lines.{clean_entry, dirty_entry, is_dirty, l1_index, l1_length, set_index, set_of, table_length, ways_per_set}
use Rattle.cache.proofs.Laws.{seek_length}
use Rattle.cache.proofs.Ticks.{most_access_ticks, seek_ticks}
use Rattle.reachable.proofs.Accesses.{seek_entry, seek_here, seek_index}
use Rattle.isolation.proofs.TwoRuns.Access.{SoughtIndex, at_index, in_set, seek_away}

-- the ways of a set, one by one
pub four_ways : (first : ℕ) (table : List ℕ) → first + ways_per_set ≤ length table
    → part first ways_per_set table
    ≡ get_or table first 0 ∷ get_or table (first + 1) 0 ∷ get_or table (first + 2) 0 ∷ get_or table (first + 3) 0 ∷ []
unfolding part
four_ways first table within =
    part_next first 4 table (omega arith) (omega arith)
    ∙ ap (λ (rest : List ℕ). get_or table first 0 ∷ rest)
    (part_next (first + 1) 3 table (omega arith) (omega arith)
    ∙ ap (λ (rest : List ℕ). get_or table (first + 1) 0 ∷ rest)
    (second
    ∙ ap (λ (rest : List ℕ). get_or table (first + 2) 0 ∷ rest) third))
  where
    second : part (first + 1 + 1) 2 table ≡ get_or table (first + 2) 0 ∷ part (first + 1 + 1 + 1) 1 table
    second =
        let same : first + 1 + 1 ≡ first + 2 = omega arith in
        part_next (first + 1 + 1) 2 table (omega arith) (omega arith)
        ∙ ap (λ (index : ℕ). get_or table index 0 ∷ part (first + 1 + 1 + 1) 1 table) same

    third : part (first + 1 + 1 + 1) 1 table ≡ get_or table (first + 3) 0 ∷ []
    third =
        let same : first + 1 + 1 + 1 ≡ first + 3 = omega arith in
        part_next (first + 1 + 1 + 1) 1 table (omega arith) (omega arith)
        ∙ ap (λ (index : ℕ). get_or table index 0 ∷ []) same

-- what is replaced takes no longer than a dirty line
pub replaced_most : (entry : ℕ) → replace_ticks entry ≤ dirty_ticks
replaced_most entry = go (is_dirty entry)
  where
    go : (dirty : Bool) → cond dirty dirty_ticks 0 ≤ dirty_ticks
    go true = omega arith
    go false = omega arith

-- a set with nothing behind its first way
pub none_behind : (front way : ℕ) → 0 < way → get_or (front ∷ 0 ∷ 0 ∷ 0 ∷ []) way 0 ≡ 0
none_behind front zero some = absurd (omega arith)
none_behind front (suc zero) some = refl
none_behind front (suc (suc zero)) some = refl
none_behind front (suc (suc (suc zero))) some = refl
none_behind front (suc (suc (suc (suc way)))) some = refl

module _ (writes : Bool) (line : ℕ) (table : List ℕ) where
  -- the length is kept
  pub sought_length : length (old_access_of writes line table).table ≡ length table
  unfolding old_access_of
  sought_length = seek_length writes line table (write_back_at line table)

  -- what it takes at most
  pub sought_ticks : (old_access_of writes line table).ticks ≤ most_access_ticks
  unfolding old_access_of
  sought_ticks = seek_ticks writes line (write_back_at line table) table

module _ (writes : Bool) (line : ℕ) (table : List ℕ) (long : length table ≡ table_length) where
  abbrev after : List ℕ
  after = (old_access_of writes line table).table

  -- an L1 number is as it was, or, at the line's index, the line's, clean or dirty
  pub sought_index : (Holds : ℕ → Type 0) (index : ℕ) → index < l1_length
      → Holds (get_or table index 0)
      → (index ≡ l1_index line → Holds (clean_entry line) × Holds (dirty_entry line))
      → Holds (get_or after index 0)
  unfolding old_access_of
  sought_index = seek_index writes line (write_back_at line table) table long

  -- any number but the line's own
  pub access_other : (index : ℕ) → (index ≡ l1_index line → ⊥) → (InRange (set_index (set_of line)) ways_per_set index → ⊥)
      → get_or after index 0 ≡ get_or table index 0
  unfolding old_access_of
  access_other index not_entry not-way =
      sym ((seek_away {Named = λ other. other ≡ index} writes line (write_back_at line table) table long
      (λ other touched same. apart other touched same)).at index refl)
    where
      apart : (other : ℕ) → SoughtIndex line other → other ≡ index → ⊥
      apart other (at_index is) same = not_entry (sym same ∙ is)
      apart other (in_set is) same = not-way (subst (InRange (set_index (set_of line)) ways_per_set) same is)

  -- its L1 number
  pub access_entry : get_or after (l1_index line) 0 ≡ (lookup_at writes line table).entry
  unfolding old_access_of
  access_entry = seek_entry writes line (write_back_at line table) table long

  -- the ways of its set
  pub access_way : (way : ℕ) → way < ways_per_set
      → get_or after (set_index (set_of line) + way) 0 ≡ get_or (lookup_at writes line table).ways way 0
  unfolding old_access_of
  access_way way below =
      sym (part_at (set_index (set_of line)) ways_per_set way after below)
      ∙ ap (λ (ways : List ℕ). get_or ways way 0) (seek_here writes line (write_back_at line table) table long)
