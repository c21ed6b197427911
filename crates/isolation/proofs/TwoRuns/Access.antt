-- An access of a line in two cache tables, and in one. Two tables that agree at the indices which the access touches
-- answer alike and go on agreeing; indices that it does not touch stay as they are. It touches the set of the line asked
-- for, and that of a dirty line which it puts out. Assumes nothing.
use Rattle.std.specs.Prelude.{Option, Some, None}
use Prim.Native.Nat.{ℕ}
use mathlib.Core.Bool.{Bool}
use mathlib.Core.List.{List}
use mathlib.Core.Path.{◌≡◌, refl, sym, ap, subst, ◌∙◌}
use native.Mathlib.Omega.{arith}
use lib.ListN.{length, set}
use lib.Seq.{sets}
use Rattle.lists.proofs.Agree.{Agree, InRange, agree_fewer, agree_refl, agree_trans, part_alike, set_alike, set_away}
use Rattle.lists.proofs.Agree.{sets_alike, sets_away, splice_sets}
use Rattle.cache.specs.Access.{AccessOutcome, Lookup, access_of, lookup_at, lookup_of, seek_of, write_back_at, written_back}
use Rattle.cache.specs.Lines.{clean_entry, l1_index, set_of, set_index, table_length, ways_per_set}
use Rattle.cache.specs.Sets.{move_to_front}
use Rattle.cache.proofs.Laws.{lookup_ways}
use Rattle.cache.proofs.WriteBacks.{back_alike, used_ways, ways_of, written_length}

-- the indices that are touched where a line is sought: its L1 index and the ways of its set
pub data SoughtIndex (line index : ℕ) : Type 0 where
  at_index : index ≡ l1_index line → SoughtIndex line index
  in_set : InRange (set_index (set_of line)) ways_per_set index → SoughtIndex line index

-- the indices that an access of a line in a table may touch: those, and the ways of a line's set that it puts out
pub data AccessedIndex (line : ℕ) (table : List ℕ) (index : ℕ) : Type 0 where
  sought : SoughtIndex line index → AccessedIndex line table index
  put_out : (other : ℕ) → write_back_at line table ≡ Some other → InRange (set_index (set_of other)) ways_per_set index
      → AccessedIndex line table index

-- what two accesses of one line answer and leave is alike
pub record AccessAlike (Named : ℕ → Type 0) (one other : AccessOutcome) : Type 0 where
  pub found : one.found ≡ other.found
  pub ticks : one.ticks ≡ other.ticks
  pub back : one.back ≡ other.back
  pub table : Agree Named one.table other.table

-- ---- a line written back

-- the table that it leaves, as stores: the ways of its set
back_stores : (line : ℕ) (table : List ℕ) → length table ≡ table_length
    → written_back (Some line) table ≡ sets table (set_index (set_of line)) (move_to_front (clean_entry line) (ways_of line table))
unfolding written_back
back_stores line table whole =
    splice_sets (set_index (set_of line)) ways_per_set _ table (used_ways line table whole) (omega arith)

back_keeps : {Named : ℕ → Type 0} (back : Option ℕ)
    → ((line index : ℕ) → back ≡ Some line → InRange (set_index (set_of line)) ways_per_set index → Named index)
    → {one other : List ℕ} → length one ≡ table_length → Agree Named one other
    → Agree Named (written_back back one) (written_back back other)
unfolding written_back
back_keeps None touched whole a = a
back_keeps (Some line) touched {one} {other} whole a =
    let first = set_index (set_of line) in
    let ways : ways_of line one ≡ ways_of line other = part_alike first ways_per_set (λ index h. touched line index refl h) a in
    rw (back_stores line one whole, back_stores line other (sym a.len ∙ whole), ← ways)
    (sets_alike first (move_to_front (clean_entry line) (ways_of line one)) (agree_fewer (λ index p. p.named) a))

back_away : {Named : ℕ → Type 0} (back : Option ℕ) (table : List ℕ) → length table ≡ table_length
    → ((line index : ℕ) → back ≡ Some line → InRange (set_index (set_of line)) ways_per_set index → Named index → ⊥)
    → Agree Named table (written_back back table)
unfolding written_back
back_away {Named} None table whole untouched = agree_refl Named table
back_away (Some line) table whole untouched =
    let first = set_index (set_of line) in
    rw (back_stores line table whole)
    (sets_away table first (move_to_front (clean_entry line) (ways_of line table))
    (λ index h.
    untouched line index refl (subst (λ (n : ℕ). InRange first n index) (used_ways line table whole) h)))

-- ---- a line sought

-- the table that is left, as stores: the set's ways, then the L1 number
stores : (writes : Bool) (line : ℕ) (back : Option ℕ) (table : List ℕ) → length table ≡ table_length
    → (seek_of writes line back table).table
    ≡ set (sets table (set_index (set_of line)) (lookup_at writes line table).ways) (l1_index line)
    (lookup_at writes line table).entry
unfolding seek_of
stores writes line back table whole =
    ap (λ (rest : List ℕ). set rest (l1_index line) (lookup_at writes line table).entry)
    (splice_sets (set_index (set_of line)) ways_per_set _ table (lookup_ways writes line table whole) (omega arith))

module _ {Named : ℕ → Type 0} (writes : Bool) (line : ℕ)
    (touched : (index : ℕ) → SoughtIndex line index → Named index) where
  look_alike : {one other : List ℕ} → Agree Named one other → lookup_at writes line one ≡ lookup_at writes line other
  unfolding lookup_at
  look_alike {one} {other} a =
      λ i. lookup_of writes line (a.at (l1_index line) (touched (l1_index line) (at_index refl)) i)
      (part_alike (set_index (set_of line)) ways_per_set (λ index h. touched index (in_set h)) a i)

  seek_alike : (back : Option ℕ) {one other : List ℕ} → length one ≡ table_length → Agree Named one other
      → AccessAlike Named (seek_of writes line back one) (seek_of writes line back other)
  unfolding seek_of
  seek_alike back {one} {other} whole a =
      let look = look_alike a in
      let left = lookup_at writes line one in
      record {
        found = ap (λ (l : Lookup). l.found) look;
        ticks = ap (λ (l : Lookup). l.ticks) look;
        back = refl;
        table =
            rw (stores writes line back one whole, stores writes line back other (sym a.len ∙ whole), ← look)
            (set_alike (l1_index line) left.entry
            (agree_fewer (λ index p. p.0)
            (sets_alike (set_index (set_of line)) left.ways (agree_fewer (λ index p. p.named) a))));
      }

pub seek_away : {Named : ℕ → Type 0} (writes : Bool) (line : ℕ) (back : Option ℕ) (table : List ℕ)
    → length table ≡ table_length
    → ((index : ℕ) → SoughtIndex line index → Named index → ⊥)
    → Agree Named table (seek_of writes line back table).table
seek_away {Named} writes line back table whole untouched =
    let ways = (lookup_at writes line table).ways in
    let first = set_index (set_of line) in
    rw (stores writes line back table whole)
    (agree_trans
    (sets_away table first ways
    (λ index h.
    untouched index (in_set (subst (λ (n : ℕ). InRange first n index) (lookup_ways writes line table whole) h))))
    (set_away (sets table first ways) (l1_index line) _ (untouched (l1_index line) (at_index refl))))

-- ---- the two laws of an access

-- tables that agree wherever the access touches
pub access_alike : {Named : ℕ → Type 0} (writes : Bool) (line : ℕ) {one other : List ℕ}
    → ((index : ℕ) → AccessedIndex line one index → Named index)
    → length one ≡ table_length → Agree Named one other
    → AccessAlike Named (access_of writes line one) (access_of writes line other)
unfolding access_of
access_alike {Named} writes line {one} {other} touched whole a =
    let back = write_back_at line one in
    let same : back ≡ write_back_at line other =
    back_alike line one other (a.at (l1_index line) (touched (l1_index line) (sought (at_index refl)))) in
    let left = back_keeps back (λ out index is h. touched index (put_out out is h)) whole a in
    rw (← same)
    (seek_alike writes line (λ index h. touched index (sought h)) back (written_length back one ∙ whole) left)

-- a table at indices that the access does not touch
pub access_away : {Named : ℕ → Type 0} (writes : Bool) (line : ℕ) (table : List ℕ) → length table ≡ table_length
    → ((index : ℕ) → AccessedIndex line table index → Named index → ⊥)
    → Agree Named table (access_of writes line table).table
unfolding access_of
access_away writes line table whole untouched =
    let back = write_back_at line table in
    agree_trans (back_away back table whole (λ out index is h. untouched index (put_out out is h)))
    (seek_away writes line back (written_back back table) (written_length back table ∙ whole)
    (λ index h. untouched index (sought h)))
