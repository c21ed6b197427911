-- The opening of the script in a window that starts with the entry line in: every message there is, one after the other. Of the boxes
-- that the domain may use each brings its line in, so that in the end their set holds as many lines as it can. Assumes nothing.
use Prim.Native.Nat.{ℕ, zero, suc, ◌+◌, ◌*◌, ◌-◌, ◌≤◌, ◌<◌}
use mathlib.Core.Bool.{Bool, true, false, cond}
use mathlib.Core.List.{List}
use mathlib.Core.Path.{◌≡◌, refl, sym, ◌∙◌}
use native.Mathlib.Nat.{add-zero}
use native.Mathlib.Numerals.{add-one}
use native.Mathlib.Omega.{arith}
use lib.Dec.{ltb}
use lib.ListN.{get_or, length}
use borrow.Author.Tests.{lt-ltb, ltb-false, ltb-true, ne_eqb}
use Rattle.plan.specs.declared.Plan.{Plan}
use Rattle.plan.specs.Limits.{domain_colours, most_domains}
use Rattle.plan.specs.Rights.{may_send}
use Rattle.plan.specs.Sums.{sum_to}
use Rattle.plan.specs.Validity.{plan_valid}
use Rattle.script.specs.declared.Op.TheVariants.{Send, Receive}
use Rattle.cache.specs.Access.{dirty_ticks, hit1_ticks, miss_ticks, old_access_of, replace_ticks}
use Rattle.cache.specs.Lines.{clean_entry, dirty_entry, dirty_mark, holds_line, is_dirty, is_valid, kernel_entries, kernel_index, l1_length}
use Rattle.cache.specs.Lines.{sets_per_colour, table_length, ways_per_set}
use Rattle.records.specs.declared.Observation.{Observation}
use Rattle.records.specs.declared.Observation.TheVariants.{Denied, Sent}
use Rattle.ops.specs.Ops.{Effect, box_index, box_line, box_observation, effect_by, full_box, kernel_entry_line, message_by, message_ticks, receive_by}
use Rattle.reachable.specs.OldBoard.{old_effect_of}
use Rattle.isolation.proofs.TwoRuns.Indices.{OwnIndex, own_between}
use Rattle.latest.specs.Script.{all_messages, message_at}
use Rattle.lateness.proofs.Accesses.{sought_length}
use Rattle.lateness.proofs.Boxes.{boxes_set}
use Rattle.lateness.proofs.Indices.{boxes_index, entry_index}
use Rattle.lateness.proofs.Messages.{held_same, held_ticks, new_behind, new_entry, new_front, new_other, new_ticks}
use Rattle.lateness.proofs.Places.{boxes_before, lines_differ, place_line, place_recipient, place_sender, place_usable}
use Rattle.lateness.proofs.Usable.{box_way}
use Rattle.lateness.proofs.Windows.{entry_number}

-- a dirty line's number is that of no other line
other_line : (line other : ℕ) → (line ≡ other → ⊥) → line < dirty_mark → other < dirty_mark → holds_line (dirty_entry line) other ≡ false
other_line line other differs small also =
    rw (
      ne_eqb (dirty_entry line) (clean_entry other) (λ same. omega arith),
      ne_eqb (dirty_entry line) (dirty_entry other) (λ same. differs (omega arith)),
    ) refl

-- an empty number is none
no_line : (line : ℕ) → holds_line 0 line ≡ false
no_line line = rw (ne_eqb 0 (clean_entry line) (λ same. omega arith), ne_eqb 0 (dirty_entry line) (λ same. omega arith)) refl

module _ (plan : Plan) (domain : ℕ) (valid : plan_valid plan ≡ true) (declared : domain < plan.domains)
    (small : domain < most_domains) (not_own : may_send plan domain domain ≡ false) where
  -- what the tables hold after so many messages: the entry line; at their L1 index the line of the last box, dirty; in their set
  -- those of the boxes so far, as many as it has ways; and none of the boxes to come
  pub record Opening (count : ℕ) (table : List ℕ) : Type 0 where
    pub long : length table ≡ table_length
    pub entry : get_or table entry_index 0 ≡ entry_number
    pub others : (index : ℕ) → index < l1_length → (index ≡ entry_index → ⊥) → (index ≡ boxes_index → ⊥) → get_or table index 0 ≡ 0
    pub dirty : is_dirty (get_or table boxes_index 0) ≡ ltb 0 (boxes_before plan domain count)
    pub no_own : (line : ℕ) → line < sets_per_colour * domain_colours → holds_line (get_or table boxes_index 0) line ≡ false
    pub lacks : (place : ℕ) → count ≤ place → place < all_messages → place_usable plan domain place ≡ true
        → holds_line (get_or table boxes_index 0) (place_line domain place) ≡ false
    pub new : (place way : ℕ) → count ≤ place → place < all_messages → place_usable plan domain place ≡ true → way < ways_per_set
        → box_way table way ≡ clean_entry (place_line domain place) → ⊥
    pub front : get_or table kernel_index 0 ≡ entry_number
    pub filled : (way : ℕ) → way < ways_per_set → way < boxes_before plan domain count → is_valid (box_way table way) ≡ true
    pub own : (index : ℕ) → OwnIndex plan domain index → get_or table index 0 ≡ 0

  -- ---- at the window's start

  pub opening_begins : (table : List ℕ) → length table ≡ table_length → get_or table entry_index 0 ≡ entry_number
      → ((index : ℕ) → index < l1_length → (index ≡ entry_index → ⊥) → get_or table index 0 ≡ 0)
      → get_or table kernel_index 0 ≡ entry_number
      → ((index : ℕ) → 0 < index → index < kernel_entries → get_or table (kernel_index + index) 0 ≡ 0)
      → ((index : ℕ) → OwnIndex plan domain index → get_or table index 0 ≡ 0)
      → Opening 0 table
  unfolding sum_to
  opening_begins table long entry others front behind own =
      let none : get_or table boxes_index 0 ≡ 0 = others boxes_index (omega arith) (λ same. omega arith) in
      record {
        long = long;
        entry = entry;
        others = λ index below not_entry not-box. others index below not_entry;
        dirty = rw none refl;
        no_own = λ line few. rw none (no_line line);
        lacks = λ place from below may. rw none (no_line (place_line domain place));
        new = λ place way from below may less same.
            let empty : box_way table way ≡ 0 = behind (boxes_set + way) (omega arith) (omega arith) in
            omega (arith, empty);
        front = front;
        filled = λ way less none. absurd (omega arith);
        own = own;
      }

  module _ (count : ℕ) (table : List ℕ) (o : Opening count table) (more : count < all_messages) where
    -- ---- a message that is denied

    denied_opens : place_usable plan domain count ≡ false → Opening (suc count) table
    unfolding sum_to
    denied_opens denied =
        let same : boxes_before plan domain (suc count) ≡ boxes_before plan domain count = rw denied (add-zero (boxes_before plan domain count)) in
        record {
          long = o.long;
          entry = o.entry;
          others = o.others;
          dirty = rw same o.dirty;
          no_own = o.no_own;
          lacks = λ place from. o.lacks place (omega arith);
          new = λ place way from. o.new place way (omega arith);
          front = o.front;
          filled = λ way less few. o.filled way less (rw same at few);
          own = o.own;
        }

    -- ---- one that is not

    module _ (may : place_usable plan domain count ≡ true) where
      abbrev line : ℕ
      line = place_line domain count

      abbrev sender : ℕ
      sender = place_sender domain count

      abbrev recipient : ℕ
      recipient = place_recipient domain count

      abbrev left : List ℕ
      left = (old_access_of true line table).table

      line_most : line < dirty_mark
      line_most = go (ltb count most_domains) refl
        where
          go : (sends : Bool) → ltb count most_domains ≡ sends
              → box_line (cond sends domain (count - most_domains)) (cond sends count domain) < dirty_mark
          go true test = omega arith
          go false test = omega arith

      lacks_here : holds_line (get_or table boxes_index 0) line ≡ false
      lacks_here = o.lacks count (omega arith) more may

      new_here : (way : ℕ) → way < ways_per_set → box_way table way ≡ clean_entry line → ⊥
      new_here way less = o.new count way (omega arith) more may less

      entry_left : get_or left boxes_index 0 ≡ dirty_entry line
      entry_left = new_entry sender recipient table o.long lacks_here new_here

      other_left : (index : ℕ) → (index ≡ boxes_index → ⊥) → (kernel_index + boxes_set ≤ index → index < kernel_index + boxes_set + ways_per_set → ⊥)
          → get_or left index 0 ≡ get_or table index 0
      other_left = new_other sender recipient table o.long lacks_here new_here

      -- the lines of boxes to come are other ones
      later_line : (place : ℕ) → suc count ≤ place → place < all_messages → place_usable plan domain place ≡ true
          → line ≡ place_line domain place → ⊥
      later_line place past below usable = lines_differ plan domain count place small not_own past below usable

      place_most : (place : ℕ) → place < all_messages → place_line domain place < dirty_mark
      place_most place below = go (ltb place most_domains)
        where
          go : (sends : Bool) → box_line (cond sends domain (place - most_domains)) (cond sends place domain) < dirty_mark
          go true = omega arith
          go false = omega arith

      new_left : (place way : ℕ) → suc count ≤ place → place < all_messages → place_usable plan domain place ≡ true → way < ways_per_set
          → box_way left way ≡ clean_entry (place_line domain place) → ⊥
      new_left place zero past below usable less same =
          let front = new_front sender recipient table o.long lacks_here new_here in
          later_line place past below usable (omega (arith, front))
      new_left place (suc way) past below usable less same =
          o.new place way (omega arith) below usable (omega arith)
          (sym (new_behind sender recipient table o.long lacks_here new_here way less) ∙ same)

      filled_left : (way : ℕ) → way < ways_per_set → way < suc (boxes_before plan domain count) → is_valid (box_way left way) ≡ true
      filled_left zero less few =
          rw (new_front sender recipient table o.long lacks_here new_here) (lt-ltb 0 (clean_entry line) (omega arith))
      filled_left (suc way) less few =
          rw (new_behind sender recipient table o.long lacks_here new_here way less) (o.filled way (omega arith) (omega arith))

      used_opens : Opening (suc count) left
      unfolding sum_to
      used_opens =
          let one_more_lem : boxes_before plan domain (suc count) ≡ suc (boxes_before plan domain count) =
          rw may (add-one (boxes_before plan domain count)) in
          record {
            long = sought_length true line table ∙ o.long;
            entry = other_left entry_index (λ same. omega arith) (λ from to. omega arith) ∙ o.entry;
            others = λ index below not_entry not-box. other_left index not-box (λ from to. omega arith) ∙ o.others index below not_entry not-box;
            dirty =
                rw (entry_left, one_more_lem, lt-ltb 0 (suc (boxes_before plan domain count)) (omega arith))
                (lt-ltb dirty_mark (dirty_entry line) (omega arith));
            no_own = λ other few. rw entry_left (other_line line other (λ same. omega arith) line_most (omega arith));
            lacks = λ place past below usable.
                rw entry_left (other_line line (place_line domain place) (later_line place past below usable) line_most (place_most place below));
            new = new_left;
            front = other_left kernel_index (λ same. omega arith) (λ from to. omega arith) ∙ o.front;
            filled = λ way less few. filled_left way less (rw one_more_lem at few);
            own = λ index mine.
                let between = own_between plan valid domain index declared mine in
                other_left index (λ same. omega arith) (λ from to. omega arith) ∙ o.own index mine;
          }

  -- ---- either

  -- the ticks of the first messages
  abbrev pub spent_ticks : ℕ → ℕ
  spent_ticks count = (message_ticks + hit1_ticks) * count + ((miss_ticks + dirty_ticks) * boxes_before plan domain count - dirty_ticks)

  pub record Opens (count : ℕ) (effect : Effect) : Type 0 where
    pub ticks : spent_ticks count + effect.ticks ≡ spent_ticks (suc count)
    pub next : Opening (suc count) effect.cache

  module _ (count : ℕ) (table boxes : List ℕ) (o : Opening count table) (more : count < all_messages) where
    message_opens : (denied passed : Observation) (number : ℕ)
        → Opens count (message_by old_access_of plan (place_sender domain count) (place_recipient domain count) denied passed number table boxes)
    unfolding message_by sum_to
    message_opens denied passed number = go (place_usable plan domain count) refl
      where
        hit : (old_access_of false kernel_entry_line table).ticks ≡ hit1_ticks
        hit = held_ticks table o.long o.entry

        same : (old_access_of false kernel_entry_line table).table ≡ table
        same = held_same table o.long o.entry

        go : (may : Bool) → place_usable plan domain count ≡ may
            → Opens count (message_by old_access_of plan (place_sender domain count) (place_recipient domain count) denied passed number table boxes)
        go false test =
            rw (test, same)
            (record {
              ticks = rw test (omega (arith, hit));
              next = denied_opens count table o more test;
            })
        go true test =
            rw (test, same)
            (record {
              ticks = rw test (sums (ltb 0 (boxes_before plan domain count)) refl);
              next = used_opens count table o more test;
            })
          where
            miss : (old_access_of true (place_line domain count) table).ticks ≡ miss_ticks + replace_ticks (get_or table boxes_index 0)
            miss =
                new_ticks (place_sender domain count) (place_recipient domain count) table o.long (o.lacks count (omega arith) more test)
                (λ way less. o.new count way (omega arith) more test less)

            sums : (some : Bool) → ltb 0 (boxes_before plan domain count) ≡ some
                → spent_ticks count + (message_ticks + (old_access_of false kernel_entry_line table).ticks + (old_access_of true (place_line domain count) table).ticks)
                ≡ (message_ticks + hit1_ticks) * suc count + ((miss_ticks + dirty_ticks) * (boxes_before plan domain count + 1) - dirty_ticks)
            sums true is =
                let dear : replace_ticks (get_or table boxes_index 0) ≡ dirty_ticks = rw (o.dirty, is) refl in
                omega (arith, hit, miss, ltb-true 0 (boxes_before plan domain count) is)
            sums false is =
                let cheap : replace_ticks (get_or table boxes_index 0) ≡ 0 = rw (o.dirty, is) refl in
                omega (arith, hit, miss, ltb-false 0 (boxes_before plan domain count) is)

    pub opens_more : Opens count (old_effect_of plan domain (message_at count) table boxes)
    unfolding message_at effect_by receive_by
    opens_more = go (ltb count most_domains) refl
      where
        go : (sends : Bool) → ltb count most_domains ≡ sends
            → Opens count (old_effect_of plan domain (cond sends (Send count 0) (Receive (count - most_domains))) table boxes)
        go true test = rw test at (message_opens (Denied count) (Sent count) (full_box 0))
        go false test =
            let other = count - most_domains in
            rw test at (message_opens (Denied other) (box_observation other (get_or boxes (box_index other domain) 0)) 0)
