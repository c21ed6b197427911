-- The opening of the script that is handed back, from the start of its domain's first window until the writes begin. In the run's first
-- window: nothing with a box, and one denied message without. In any other: every message there is. Assumes nothing.
use Prim.Native.Nat.{ℕ, zero, suc, ◌+◌, ◌*◌, ◌-◌, ◌≤◌, ◌<◌}
use mathlib.Core.Bool.{Bool, true, false, false≢true, cond, ◌&&◌}
use mathlib.Core.List.{List}
use mathlib.Core.Path.{◌≡◌, refl, sym, ap, subst, ◌∙◌}
use native.Mathlib.Decide.{ℕ_discrete}
use native.Mathlib.Omega.{arith}
use lib.Dec.{eqb}
use lib.ListN.{get_or, length}
use borrow.Author.Tests.{ne_eqb}
use Rattle.plan.specs.declared.Plan.{Plan}
use Rattle.plan.specs.Limits.{domain_colours}
use Rattle.plan.specs.Rights.{may_send}
use Rattle.plan.specs.Sums.{sum_to}
use Rattle.plan.proofs.ValidPlans.{declared}
use Rattle.script.specs.Limits.{most_ops}
use Rattle.script.specs.Stored.{stored_of}
use Rattle.cache.specs.Access.{dirty_ticks, hit1_ticks, miss_ticks, old_access_of}
use Rattle.cache.specs.Lines.{clean_entry, dirty_entry, holds_line, is_dirty, is_valid, kernel_index, l1_length}
use Rattle.cache.specs.Lines.{sets_per_colour, table_length, ways_per_set}
use Rattle.records.specs.Records.{part_records}
use Rattle.ops.specs.Ops.{effect_by, kernel_entry_line, message_by, message_ticks}
use Rattle.reachable.specs.OldBoard.{old_effect_of}
use Rattle.isolation.proofs.TwoRuns.Indices.{OwnIndex, own_between}
use Rattle.latest.specs.Reach.{box_count, has_box, starts_run}
use Rattle.latest.specs.Script.{all_messages, late_number, late_script_of, latest_script, message_at, opening_ops, opening_ticks}
use Rattle.lateness.specs.Theorems.{HoldsScript}
use Rattle.lateness.proofs.Accesses.{access_other, sought_length}
use Rattle.lateness.proofs.Entries.{FirstEntry, entry_l1, entry_after, first_entry}
use Rattle.lateness.proofs.Fetching.{message_within, number_opening}
use Rattle.lateness.proofs.Indices.{boxes_index, entry_index}
use Rattle.lateness.proofs.AllMessages.{Opening, opening_begins, opens_more, spent_ticks}
use Rattle.lateness.proofs.Places.{all_boxes, before_most, sends_box, some_boxes}
use Rattle.lateness.proofs.Running.{Judged, StandsAt, begins, below, next_op, starts, world_at}
use Rattle.lateness.proofs.Usable.{box_way}
use Rattle.lateness.proofs.WindowStarts.{Untouched}
use Rattle.lateness.proofs.Windows.{entry_number}

-- the opening leaves a box's line dirty in L1
abbrev pub leaves_dirty : Plan → ℕ → Bool
leaves_dirty plan domain = cond (starts_run plan domain) false (has_box plan domain)

-- what the tables hold when the writes begin: the domain's own sets are empty, and L1 has none of its lines and, if anything dirty, a box's
-- line. In the run's first window: with a box, L1 and the kernel's sets are empty. In any other: the boxes' set holds as many lines as
-- there are boxes, or as it has ways. The entry line is in its set but in the first of these cases.
pub record Opened (plan : Plan) (domain : ℕ) (table : List ℕ) : Type 0 where
  pub long : length table ≡ table_length
  pub lacks : (index line : ℕ) → index < l1_length → line < sets_per_colour * domain_colours → holds_line (get_or table index 0) line ≡ false
  pub dirty : (index : ℕ) → index < l1_length → is_dirty (get_or table index 0) ≡ (leaves_dirty plan domain && eqb index boxes_index)
  pub own : (index : ℕ) → OwnIndex plan domain index → get_or table index 0 ≡ 0
  pub untouched : starts_run plan domain ≡ true → has_box plan domain ≡ true → Untouched table
  pub alone : starts_run plan domain ≡ true → has_box plan domain ≡ false → get_or table kernel_index 0 ≡ entry_number
  pub front : starts_run plan domain ≡ false → get_or table kernel_index 0 ≡ entry_number
  pub filled : starts_run plan domain ≡ false → (way : ℕ) → way < ways_per_set → way < box_count plan domain → is_valid (box_way table way) ≡ true

-- an L1 number that is empty, or the entry line's, is not dirty and no line of a domain's
abbrev CleanNumber : ℕ → Type 0
CleanNumber number = (is_dirty number ≡ false) × ((line : ℕ) → line < sets_per_colour * domain_colours → holds_line number line ≡ false)

clean_empty : (number : ℕ) → number ≡ 0 → CleanNumber number
clean_empty number none =
    rw none (refl, λ line small. rw (ne_eqb 0 (clean_entry line) (λ same. omega arith), ne_eqb 0 (dirty_entry line) (λ same. omega arith)) refl)

clean_entry_lem : (number : ℕ) → number ≡ entry_number → CleanNumber number
clean_entry_lem number is =
    rw is
    (refl, λ line small. rw (ne_eqb entry_number (clean_entry line) (λ same. omega arith), ne_eqb entry_number (dirty_entry line) (λ same. omega arith)) refl)

nothing_else : (test : Bool) → (test && false) ≡ false
nothing_else true = refl
nothing_else false = refl

module _ (plan : Plan) (domain : ℕ) (judged : Judged plan domain) (scripts log : List ℕ)
    (holds : HoldsScript domain (latest_script plan domain) scripts) (room : most_ops ≤ part_records plan (length log)) where
  abbrev cache_at : ℕ → List ℕ
  cache_at ops = (world_at plan domain judged scripts log holds room ops).cache

  abbrev start_long : length (cache_at 0) ≡ table_length
  start_long = (starts plan domain judged scripts log holds room).long

  -- what stands when the writes begin
  pub record OpenedAt (ops ticks : ℕ) : Type 0 where
    pub stands : StandsAt plan domain judged scripts log holds room ops ticks
    pub opened : Opened plan domain (world_at plan domain judged scripts log holds room ops).cache

  -- ---- in the run's first window

  module _ (first : starts_run plan domain ≡ true) where
    empty : Untouched (cache_at 0)
    empty = (starts plan domain judged scripts log holds room).untouched first

    dirty_none : (number index : ℕ) → CleanNumber number → is_dirty number ≡ (leaves_dirty plan domain && eqb index boxes_index)
    dirty_none number index clean = rw first clean.0

    -- with a box the script begins with the writes
    opens_boxed : has_box plan domain ≡ true → OpenedAt 0 0
    opens_boxed box =
        record {
          stands = begins plan domain judged scripts log holds room;
          opened =
              record {
                long = start_long;
                lacks = λ index line small. (clean_empty _ (empty.l1 index small)).1 line;
                dirty = λ index small. dirty_none _ index (clean_empty _ (empty.l1 index small));
                own = (starts plan domain judged scripts log holds room).own;
                untouched = λ _ _. empty;
                alone = λ _ none. absurd (false≢true (sym none ∙ box));
                front = λ later. absurd (false≢true (sym later ∙ first));
                filled = λ later. absurd (false≢true (sym later ∙ first));
              };
        }

    -- without one, with the first message, which is denied
    module _ (alone : has_box plan domain ≡ false) where
      entry : FirstEntry (cache_at 0) start_long
      entry = first_entry (cache_at 0) start_long (rw (empty.l1 entry_index (omega arith)) refl) empty.kernel

      entry_ticks : (old_access_of false kernel_entry_line (cache_at 0)).ticks ≡ miss_ticks
      entry_ticks = entry.ticks ∙ rw (empty.l1 entry_index (omega arith)) refl

      clean_after : (index : ℕ) → index < l1_length → CleanNumber (get_or (entry_after (cache_at 0)) index 0)
      clean_after index small = go (ℕ_discrete index entry_index)
        where
          go : Dec (index ≡ entry_index) → CleanNumber (get_or (entry_after (cache_at 0)) index 0)
          go (yes same) = clean_entry_lem _ (ap (λ i. get_or (entry_after (cache_at 0)) i 0) same ∙ entry.clean)
          go (no differs) = clean_empty _ (entry_l1 (cache_at 0) start_long index small differs ∙ empty.l1 index small)

      entered_table : Opened plan domain (entry_after (cache_at 0))
      entered_table =
          record {
            long = sought_length false kernel_entry_line (cache_at 0) ∙ start_long;
            lacks = λ index line small. (clean_after index small).1 line;
            dirty = λ index small. dirty_none _ index (clean_after index small);
            own = λ index mine.
                let between = own_between plan judged.valid domain index judged.declared mine in
                access_other false kernel_entry_line (cache_at 0) start_long index (λ same. omega arith) (λ inside. omega arith)
                ∙ (starts plan domain judged scripts log holds room).own index mine;
            untouched = λ _ box. absurd (false≢true (sym alone ∙ box));
            alone = λ _ _. entry.front;
            front = λ later. absurd (false≢true (sym later ∙ first));
            filled = λ later. absurd (false≢true (sym later ∙ first));
          }

      denied : may_send plan domain 0 ≡ false
      denied = go (may_send plan domain 0) refl
        where
          go : (may : Bool) → may_send plan domain 0 ≡ may → may ≡ false
          go true test = absurd (false≢true (sym alone ∙ sends_box plan domain 0 (omega arith) test))
          go false test = refl

      opening_number : late_number (late_script_of plan domain) 0 ≡ stored_of (message_at 0)
      unfolding late_script_of opening_ops
      opening_number = number_opening (late_script_of plan domain) 0 (rw (first, alone) (omega arith))

      opening_effect : (boxes : List ℕ)
          → ((old_effect_of plan domain (message_at 0) (cache_at 0) boxes).ticks ≡ message_ticks + miss_ticks)
          × ((old_effect_of plan domain (message_at 0) (cache_at 0) boxes).cache ≡ entry_after (cache_at 0))
      unfolding message_at effect_by message_by
      opening_effect boxes = rw denied (ap (λ ticks. message_ticks + ticks) entry_ticks, refl)

      opens_alone : OpenedAt 1 (message_ticks + miss_ticks)
      opens_alone =
          let step =
          next_op plan domain judged scripts log holds room 0 0 (message_at 0) (begins plan domain judged scripts log holds room)
          (omega (arith, judged.least)) (omega arith) opening_number (message_within 0 (omega arith)) in
          let effect = opening_effect (world_at plan domain judged scripts log holds room 0).boxes in
          record {
            stands = subst (λ ticks. StandsAt plan domain judged scripts log holds room 1 ticks) (alone_ticks effect.0) step.stands;
            opened = subst (Opened plan domain) (sym (step.cache_is ∙ effect.1)) entered_table;
          }
        where
          alone_ticks : {ticks : ℕ} → ticks ≡ message_ticks + miss_ticks → 0 + ticks ≡ message_ticks + miss_ticks
          alone_ticks is = omega arith

  -- ---- in any other

  module _ (later : starts_run plan domain ≡ false) where
    not_own : may_send plan domain domain ≡ false
    not_own = (declared plan domain judged.valid judged.declared).not_own

    abbrev OpeningOf : ℕ → List ℕ → Type 0
    OpeningOf = Opening plan domain judged.valid judged.declared (below plan domain judged scripts log holds room) not_own

    abbrev spent : ℕ → ℕ
    spent = spent_ticks plan domain judged.valid judged.declared (below plan domain judged scripts log holds room) not_own

    record OpeningAt (count : ℕ) : Type 0 where
      stands : StandsAt plan domain judged scripts log holds room count (spent count)
      opening : OpeningOf count (cache_at count)

    message_number : (count : ℕ) → count < all_messages → late_number (late_script_of plan domain) count ≡ stored_of (message_at count)
    unfolding late_script_of opening_ops
    message_number count few = number_opening (late_script_of plan domain) count (rw later few)

    opening_at : (count : ℕ) → count ≤ all_messages → OpeningAt count
    unfolding sum_to
    opening_at zero few =
        let there = starts plan domain judged scripts log holds room in
        let touched = there.touched later in
        record {
          stands = begins plan domain judged scripts log holds room;
          opening =
              opening_begins plan domain judged.valid judged.declared (below plan domain judged scripts log holds room) not_own (cache_at 0)
              there.long touched.entry touched.others touched.front touched.behind there.own;
        }
    opening_at (suc count) few =
        let before = opening_at count (omega arith) in
        let boxes = (world_at plan domain judged scripts log holds room count).boxes in
        let step =
        next_op plan domain judged scripts log holds room count (spent count) (message_at count) before.stands
        (omega (arith, judged.least, before_most plan domain count (omega arith))) (omega arith)
        (message_number count few) (message_within count few) in
        let opens =
        opens_more plan domain judged.valid judged.declared (below plan domain judged scripts log holds room) not_own
        count (cache_at count) boxes before.opening few in
        record {
          stands = subst (λ ticks. StandsAt plan domain judged scripts log holds room (suc count) ticks) opens.ticks step.stands;
          opening = subst (OpeningOf (suc count)) (sym step.cache_is) opens.next;
        }

    -- all messages were made
    module _ (table : List ℕ) (o : OpeningOf all_messages table) where
      opened_lacks : (index line : ℕ) → index < l1_length → line < sets_per_colour * domain_colours → holds_line (get_or table index 0) line ≡ false
      opened_lacks index line small own = go (ℕ_discrete index entry_index) (ℕ_discrete index boxes_index)
        where
          go : Dec (index ≡ entry_index) → Dec (index ≡ boxes_index) → holds_line (get_or table index 0) line ≡ false
          go (yes same) boxes = (clean_entry_lem _ (ap (λ i. get_or table i 0) same ∙ o.entry)).1 line own
          go (no differs) (yes same) = rw same (o.no_own line own)
          go (no differs) (no other) = (clean_empty _ (o.others index small differs other)).1 line own

      opened_dirty : (index : ℕ) → index < l1_length → is_dirty (get_or table index 0) ≡ (has_box plan domain && eqb index boxes_index)
      opened_dirty index small = go (ℕ_discrete index entry_index) (ℕ_discrete index boxes_index)
        where
          all : (test : Bool) → test ≡ (test && true)
          all true = refl
          all false = refl

          go : Dec (index ≡ entry_index) → Dec (index ≡ boxes_index) → is_dirty (get_or table index 0) ≡ (has_box plan domain && eqb index boxes_index)
          go (yes same) boxes =
              (clean_entry_lem _ (ap (λ i. get_or table i 0) same ∙ o.entry)).0
              ∙ sym (rw (ne_eqb index boxes_index (λ is. omega arith)) (nothing_else (has_box plan domain)))
          go (no differs) (yes same) =
              rw (same, o.dirty, all_boxes plan domain, some_boxes plan domain) (all (has_box plan domain))
          go (no differs) (no other) =
              (clean_empty _ (o.others index small differs other)).0
              ∙ sym (rw (ne_eqb index boxes_index other) (nothing_else (has_box plan domain)))

      opened_all : Opened plan domain table
      opened_all =
          record {
            long = o.long;
            lacks = opened_lacks;
            dirty = λ index small. rw later (opened_dirty index small);
            own = o.own;
            untouched = λ first. absurd (false≢true (sym later ∙ first));
            alone = λ first. absurd (false≢true (sym later ∙ first));
            front = λ _. o.front;
            filled = λ _ way less few. o.filled way less (rw (all_boxes plan domain) few);
          }

    opens_all : OpenedAt all_messages ((message_ticks + hit1_ticks) * all_messages + ((miss_ticks + dirty_ticks) * box_count plan domain - dirty_ticks))
    opens_all =
        let all = opening_at all_messages (omega arith) in
        record {
          stands = rw (all_boxes plan domain) at all.stands;
          opened = opened_all (cache_at all_messages) all.opening;
        }

  -- ---- in whichever it is

  pub opens : OpenedAt (opening_ops plan domain) (opening_ticks plan domain)
  unfolding opening_ops opening_ticks
  opens = go (starts_run plan domain) refl (has_box plan domain) refl
    where
      go : (first : Bool) → starts_run plan domain ≡ first → (box : Bool) → has_box plan domain ≡ box
          → OpenedAt (cond first (cond box 0 1) all_messages)
          (cond first ((message_ticks + miss_ticks) * cond first (cond box 0 1) all_messages)
          ((message_ticks + hit1_ticks) * all_messages + ((miss_ticks + dirty_ticks) * box_count plan domain - dirty_ticks)))
      go true first true box = opens_boxed first box
      go true first false alone = opens_alone first alone
      go false later box _ = opens_all later
