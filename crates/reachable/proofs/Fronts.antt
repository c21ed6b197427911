-- Where every line of L1 is the most recent of its set, a write-back moves nothing: an access and an op are those of
-- document 01's own board, and leave every line of L1 in front. Assumes nothing.
use Rattle.std.specs.Prelude.{Option, Some, None}
use Prim.Native.Nat.{ℕ, ◌+◌, ◌≤◌, ◌<◌}
use mathlib.Core.Bool.{Bool, true, false, false≢true, ◌||◌}
use mathlib.Core.List.{List, [], ◌∷◌}
use mathlib.Core.Logic.{◌⊎◌, inl, inr}
use mathlib.Core.Path.{◌≡◌, refl, sym, ap, ◌∙◌}
use native.Mathlib.Decide.{ℕ_discrete}
use native.Mathlib.Omega.{arith}
use lib.Dec.{eqb}
use lib.ListN.{get_or, length}
use borrow.Author.Tests.{eq-eqb, eqb-true, ltb-true, ne_eqb}
use Rattle.lists.specs.Part.{part}
use Rattle.lists.proofs.Parts.{part_at, part_length}
use Rattle.lists.proofs.Tests.{second_passes}
use Rattle.plan.specs.declared.Plan.{Plan}
use Rattle.plan.specs.Rights.{may_send}
use Rattle.script.specs.declared.Op.{Op}
use Rattle.script.specs.declared.Op.TheVariants.{Read, Write, Send, Receive, Compute}
use Rattle.script.specs.Limits.{OpWithinLimits, last_domain}
use Rattle.cache.specs.Access.{access_of, old_access_of, lookup_at, lookup_l1, lookup_l2, seek_of, write_back_at}
use Rattle.cache.specs.Access.{written_back}
use Rattle.cache.specs.Lines.{clean_entry, dirty_entry, dirty_mark, holds_line, l1_index, l1_length, most_line, set_index}
use Rattle.cache.specs.Lines.{set_of, table_length, ways_per_set}
use Rattle.cache.specs.Sets.{move_to_front}
use Rattle.cache.proofs.Outcome.{look_held, look_lacked}
use Rattle.cache.proofs.Ways.{moved}
use Rattle.cache.proofs.WriteBacks.{back_dirty, in_l1, same_access, ways_of, written_front}
use Rattle.records.specs.declared.Observation.{Observation}
use Rattle.ops.specs.Ops.{Effect, box_line, compute_of, effect_by, effect_of, kernel_entry_line, message_by, owns_line, receive_by, touch_by}
use Rattle.ops.proofs.Operations.{owned}
use Rattle.state.specs.declared.State.{State}
use Rattle.state.specs.World.{ended_of, running_of}
use Rattle.reachable.specs.OldBoard.{InFront, old_effect_of}
use Rattle.reachable.proofs.Accesses.{look_entry, seek_elsewhere, seek_entry, seek_here, seek_index}
use Rattle.reachable.proofs.Effects.{BoxesValid, entry_valid_lem}
use Rattle.reachable.proofs.Lines.{CacheValid, put_out_lem}

-- ---- a line sought

-- a number of a line holds no other line
same_line : (line other : ℕ) → line ≤ most_line → other ≤ most_line → (entry : ℕ)
    → (entry ≡ clean_entry line) ⊎ (entry ≡ dirty_entry line)
    → holds_line entry other ≡ true
    → other ≡ line
same_line line other small fits entry is holds = go (eqb entry (clean_entry other)) refl holds is
  where
    go : (clean : Bool) → eqb entry (clean_entry other) ≡ clean → (clean || eqb entry (dirty_entry other)) ≡ true
        → (entry ≡ clean_entry line) ⊎ (entry ≡ dirty_entry line)
        → other ≡ line
    go true test held (inl at) = omega (arith, eqb-true entry (clean_entry other) test)
    go true test held (inr at) = omega (arith, eqb-true entry (clean_entry other) test)
    go false test held (inl at) = omega (arith, eqb-true entry (dirty_entry other) held)
    go false test held (inr at) = omega (arith, eqb-true entry (dirty_entry other) held)

-- the line that an access puts out stood in L1
put_out_held : (line other : ℕ) (cache : List ℕ) → write_back_at line cache ≡ Some other → l1_index other ≡ l1_index line
    → in_l1 other cache ≡ true
put_out_held line other cache is here =
    let was = back_dirty line other cache is in
    let past : dirty_mark < get_or cache (l1_index line) 0 = ltb-true dirty_mark _ was.0 in
    let entry : get_or cache (l1_index line) 0 ≡ dirty_entry other = omega (arith, was.1) in
    rw here (second_passes (eqb (get_or cache (l1_index line) 0) (clean_entry other)) _ (eq-eqb _ _ entry))

-- what moved to the front is there
moved_front : (entry : ℕ) (ways : List ℕ) → 0 < length ways → get_or (move_to_front entry ways) 0 0 ≡ entry
moved_front entry [] some = absurd (omega arith)
moved_front entry (way ∷ ways) some = rw (moved entry way ways) refl

module _ (writes : Bool) (line : ℕ) (back : Option ℕ) (table : List ℕ) (long : length table ≡ table_length)
    (small : line ≤ most_line) (front : InFront table) where
  abbrev after : List ℕ
  after = (seek_of writes line back table).table

  -- the first way of a set, by the set's ways
  first_way : (set : ℕ) (cache : List ℕ) → get_or cache (set_index set) 0 ≡ get_or (part (set_index set) ways_per_set cache) 0 0
  first_way set cache =
      let place : set_index set + 0 ≡ set_index set = omega arith in
      ap (λ index. get_or cache index 0) (sym place) ∙ sym (part_at (set_index set) ways_per_set 0 cache (omega arith))

  -- the line itself: found in L1 it was in front already, and else it has come there
  own_front : get_or after (set_index (set_of line)) 0 ≡ clean_entry line
  unfolding lookup_l1 lookup_l2
  own_front =
      first_way (set_of line) after
      ∙ ap (λ (ways : List ℕ). get_or ways 0 0) (seek_here writes line back table long)
      ∙ go (in_l1 line table) refl
    where
      go : (held : Bool) → in_l1 line table ≡ held → get_or (lookup_at writes line table).ways 0 0 ≡ clean_entry line
      go true test =
          rw (look_held writes line table test) (sym (first_way (set_of line) table) ∙ front line small test)
      go false test =
          rw (look_lacked writes line table test)
          (moved_front (clean_entry line) (ways_of line table)
          (omega (arith, part_length (set_index (set_of line)) ways_per_set table (omega arith))))

  pub seek_front : InFront after
  unfolding lookup_at
  seek_front other fits holds = go (ℕ_discrete (l1_index other) (l1_index line))
    where
      go : Dec (l1_index other ≡ l1_index line) → get_or after (set_index (set_of other)) 0 ≡ clean_entry other
      go (yes same) =
          let entry : get_or after (l1_index other) 0 ≡ (lookup_at writes line table).entry =
          ap (λ index. get_or after index 0) same ∙ seek_entry writes line back table long in
          let is : other ≡ line =
          same_line line other small fits (lookup_at writes line table).entry
          (look_entry writes line _ _ (λ n. (n ≡ clean_entry line) ⊎ (n ≡ dirty_entry line)) (inl refl) (inr refl))
          (rw entry at holds) in
          rw is own_front
      go (no differs) =
          let before : in_l1 other table ≡ true =
          seek_index writes line back table long
          (λ n. holds_line n other ≡ true → in_l1 other table ≡ true) (l1_index other) (omega arith)
          (λ held. held) (λ same. absurd (differs same)) holds in
          first_way (set_of other) after
          ∙ ap (λ (ways : List ℕ). get_or ways 0 0)
          (seek_elsewhere writes line back table long (set_of other) (omega arith) (λ same. differs (omega arith)))
          ∙ sym (first_way (set_of other) table)
          ∙ front other fits before

-- L1 without a line has none that is not in front
pub none_in_front : (cache : List ℕ) → ((index : ℕ) → index < l1_length → get_or cache index 0 ≡ 0) → InFront cache
none_in_front cache empty line small holds =
    absurd (false≢true (sym (rw (empty (l1_index line) (omega arith), ne_eqb 0 (clean_entry line) (λ same. omega arith), ne_eqb 0 (dirty_entry line) (λ same. omega arith)) refl) ∙ holds))

-- ---- an access

module _ (plan : Plan) (state : State) (cache : List ℕ) (sound : CacheValid plan state cache) (front : InFront cache) where
  -- what it puts out is in front of its set already
  nothing_moves : (line : ℕ) → written_back (write_back_at line cache) cache ≡ cache
  unfolding written_back
  nothing_moves line = go (write_back_at line cache) refl
    where
      go : (out : Option ℕ) → write_back_at line cache ≡ out → written_back out cache ≡ cache
      go None is = refl
      go (Some other) is =
          let was = put_out_lem plan state cache sound line other is in
          written_front other cache (front other was.0 (put_out_held line other cache is was.1))

  -- so it is document 01's own
  pub access_same : (writes : Bool) (line : ℕ) → access_of writes line cache ≡ old_access_of writes line cache
  access_same writes line = same_access writes line cache (nothing_moves line)

  pub access_front : (writes : Bool) (line : ℕ) → line ≤ most_line → InFront (access_of writes line cache).table
  unfolding old_access_of
  access_front writes line small =
      rw (access_same writes line) (seek_front writes line (write_back_at line cache) cache sound.long small front)

-- ---- an op

-- it does the same on both boards, and leaves every line of L1 in front
pub record SameEffect (one other : Effect) : Type 0 where
  pub same : one ≡ other
  pub front : InFront one.cache

module _ (plan : Plan) (state : State) (running : ended_of plan state ≡ false) (cache boxes : List ℕ)
    (sound : CacheValid plan state cache) (full : BoxesValid plan boxes) (front : InFront cache) where
  abbrev domain : ℕ
  domain = running_of plan state

  -- the table between the two accesses of a message
  abbrev entered : List ℕ
  entered = (access_of false kernel_entry_line cache).table

  entered_front : InFront entered
  entered_front = access_front plan state cache sound front false kernel_entry_line (omega arith)

  touch_same : (writes : Bool) (line : ℕ)
      → SameEffect (touch_by access_of plan domain writes line cache boxes) (touch_by old_access_of plan domain writes line cache boxes)
  unfolding touch_by
  touch_same writes line = record { same = rw (access_same plan state cache sound front writes line) refl; front = go (owns_line plan domain line) refl }
    where
      go : (owns : Bool) → owns_line plan domain line ≡ owns → InFront (touch_by access_of plan domain writes line cache boxes).cache
      go true test = rw test (access_front plan state cache sound front writes line (owned plan domain line test).0)
      go false test = rw test front

  message_same : (sender recipient : ℕ) (denied passed : Observation) (number : ℕ) → sender ≤ last_domain → recipient ≤ last_domain
      → SameEffect (message_by access_of plan sender recipient denied passed number cache boxes)
      (message_by old_access_of plan sender recipient denied passed number cache boxes)
  unfolding message_by
  message_same sender recipient denied passed number from to =
      record { same = same; front = go (may_send plan sender recipient) refl }
    where
      box_sound : CacheValid plan state entered
      box_sound = entry_valid_lem plan state running cache boxes sound full

      same : message_by access_of plan sender recipient denied passed number cache boxes
          ≡ message_by old_access_of plan sender recipient denied passed number cache boxes
      same =
          rw (
            ← (access_same plan state cache sound front false kernel_entry_line),
            access_same plan state entered box_sound entered_front true (box_line sender recipient),
          ) refl

      go : (may : Bool) → may_send plan sender recipient ≡ may
          → InFront (message_by access_of plan sender recipient denied passed number cache boxes).cache
      go true test =
          rw test (access_front plan state entered box_sound entered_front true (box_line sender recipient) (omega arith))
      go false test = rw test entered_front

  pub effect_same : domain ≤ last_domain → (op : Op) → OpWithinLimits op
      → SameEffect (effect_of plan domain op cache boxes) (old_effect_of plan domain op cache boxes)
  unfolding effect_by receive_by compute_of OpWithinLimits
  effect_same declared (Read line) within = touch_same false line
  effect_same declared (Write line) within = touch_same true line
  effect_same declared (Send recipient word) within = message_same domain recipient _ _ _ declared within.0
  effect_same declared (Receive sender) within = message_same sender domain _ _ _ within declared
  effect_same declared (Compute ticks) within = record { same = refl; front = front }
