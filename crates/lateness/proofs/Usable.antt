-- What the boxes' set holds in a window of a domain: lines of boxes that the domain may use. Assumes nothing.
use Prim.Native.Nat.{ℕ, zero, suc, ◌+◌, ◌≤◌, ◌<◌}
use mathlib.Core.Bool.{Bool, true, false, false≢true}
use mathlib.Core.List.{List, [], ◌∷◌}
use mathlib.Core.Path.{◌≡◌, refl, sym, ap, subst, ◌∙◌}
use native.Mathlib.Omega.{arith}
use lib.Dec.{eqb}
use native.Mathlib.Decide.{dec_lt}
use lib.ListN.{get_or-eq_default, get_or, length}
use lib.Seq.{get_or-take}
use Rattle.lists.specs.Part.{part}
use Rattle.lists.proofs.Parts.{part_at, part_length}
use Rattle.plan.specs.declared.Plan.{Plan}
use Rattle.cache.specs.Access.{old_access_of, lookup_at, lookup_l1, lookup_l2}
use Rattle.cache.specs.Flush.{count_where}
use Rattle.cache.specs.Lines.{clean_entry, is_valid, kernel_index, set_index, set_of, table_length, ways_per_set}
use Rattle.cache.specs.Sets.{move_to_front, without}
use Rattle.cache.proofs.Outcome.{look_held, look_lacked}
use Rattle.cache.proofs.WriteBacks.{in_l1, ways_of}
use Rattle.ops.specs.Ops.{box_line, first_box_line}
use Rattle.state.specs.TableValidity.{set_valid}
use Rattle.latest.specs.Reach.{box_count}
use Rattle.lateness.proofs.Accesses.{access_other, access_way}
use Rattle.lateness.proofs.Boxes.{boxes_set}
use Rattle.lateness.proofs.Distinct.{distinct_most}
use Rattle.lateness.proofs.Places.{UsableEntry}

-- ---- a set of which a way was used

module _ (Holds : ℕ → Type 0) (none : Holds 0) (entry : ℕ) where
  -- the other ways are some of those before
  others_hold : (ways : List ℕ) → ((index : ℕ) → Holds (get_or ways index 0)) → (index : ℕ) → Holds (get_or (without entry ways) index 0)
  unfolding without
  others_hold [] each index = none
  others_hold (way ∷ ways) each index = go (eqb way entry) (others_hold ways (λ index. each (suc index))) index
    where
      go : (found : Bool) → ((index : ℕ) → Holds (get_or (without entry ways) index 0))
          → (index : ℕ) → Holds (get_or {A = ℕ} (elim found [ true ↦ ways | false ↦ way ∷ without entry ways ]) index 0)
      go true rest index = each (suc index)
      go false rest zero = each 0
      go false rest (suc index) = rest index

  -- so each way is the entry or one of those before
  moved_holds : (ways : List ℕ) → Holds entry → ((index : ℕ) → Holds (get_or ways index 0))
      → (index : ℕ) → index < length ways → Holds (get_or (move_to_front entry ways) index 0)
  unfolding move_to_front
  moved_holds ways here each index below =
      subst Holds (sym (get_or-take (length ways) (entry ∷ without entry ways) index 0 below)) (go index)
    where
      go : (index : ℕ) → Holds (get_or (entry ∷ without entry ways) index 0)
      go zero = here
      go (suc index) = others_hold ways each index

-- ---- the boxes' set

-- a way of it
abbrev pub box_way : List ℕ → ℕ → ℕ
box_way table way = get_or table (kernel_index + (boxes_set + way)) 0

-- all of them
abbrev pub box_ways : List ℕ → List ℕ
box_ways table = part (kernel_index + boxes_set) ways_per_set table

module _ (plan : Plan) (domain : ℕ) where
  abbrev pub BoxesUsable : List ℕ → Type 0
  BoxesUsable table = (way : ℕ) → way < ways_per_set → is_valid (box_way table way) ≡ true → UsableEntry plan domain (box_way table way)

  -- where it is empty
  pub none_usable : (table : List ℕ) → ((way : ℕ) → way < ways_per_set → box_way table way ≡ 0) → BoxesUsable table
  none_usable table empty way below is = absurd (false≢true (rw (empty way below) at is))

  -- an access of a line of another set leaves it
  pub away_usable : (writes : Bool) (line : ℕ) (table : List ℕ) → length table ≡ table_length → (set_of line ≡ set_of first_box_line → ⊥)
      → BoxesUsable table → BoxesUsable (old_access_of writes line table).table
  away_usable writes line table long elsewhere usable way below =
      let same : box_way (old_access_of writes line table).table way ≡ box_way table way =
      access_other writes line table long (kernel_index + (boxes_set + way)) (λ same. omega arith)
      (λ inside. elsewhere (omega arith)) in
      subst (λ number. is_valid number ≡ true → UsableEntry plan domain number) (sym same) (usable way below)

  -- an access of such a box's line keeps it
  module _ (sender recipient : ℕ) (may : UsableEntry plan domain (clean_entry (box_line sender recipient)))
      (table : List ℕ) (long : length table ≡ table_length) (usable : BoxesUsable table) where
    abbrev line : ℕ
    line = box_line sender recipient

    abbrev Good : ℕ → Type 0
    Good number = is_valid number ≡ true → UsableEntry plan domain number

    begins : set_index (set_of line) ≡ kernel_index + boxes_set
    begins = omega arith

    before_good : (index : ℕ) → Good (get_or (ways_of line table) index 0)
    before_good index = go (dec_lt index ways_per_set)
      where
        go : Dec (index < ways_per_set) → Good (get_or (ways_of line table) index 0)
        go (yes below) =
            let same : kernel_index + (boxes_set + index) ≡ set_index (set_of line) + index = omega arith in
            subst Good (ap (λ at. get_or table at 0) same ∙ sym (part_at (set_index (set_of line)) ways_per_set index table below)) (usable index below)
        go (no past) =
            subst Good (sym (get_or-eq_default (ways_of line table) 0 (omega (arith, ways_long)))) (λ is. absurd (false≢true is))
          where
            ways_long : length (ways_of line table) ≡ ways_per_set
            ways_long = part_length (set_index (set_of line)) ways_per_set table (omega arith)

    look_good : (way : ℕ) → way < ways_per_set → Good (get_or (lookup_at true line table).ways way 0)
    unfolding lookup_l1 lookup_l2
    look_good way below = go (in_l1 line table) refl
      where
        ways_long : length (ways_of line table) ≡ ways_per_set
        ways_long = part_length (set_index (set_of line)) ways_per_set table (omega arith)

        go : (holds : Bool) → in_l1 line table ≡ holds → Good (get_or (lookup_at true line table).ways way 0)
        go true test = rw (look_held true line table test) (before_good way)
        go false test =
            rw (look_lacked true line table test)
            (moved_holds Good (λ is. absurd (false≢true is)) (clean_entry line) (ways_of line table) (λ is. may) before_good way (omega (arith, ways_long)))

    pub box_usable : BoxesUsable (old_access_of true line table).table
    box_usable way below =
        let same : kernel_index + (boxes_set + way) ≡ set_index (set_of line) + way = omega arith in
        subst Good (sym (ap (λ at. get_or (old_access_of true line table).table at 0) same ∙ access_way true line table long way below)) (look_good way below)

  -- ---- how many lines it then holds

  pub boxes_most : (table : List ℕ) → length table ≡ table_length → set_valid table (set_of first_box_line) ≡ true → BoxesUsable table
      → count_where is_valid (box_ways table) ≤ box_count plan domain
  unfolding set_valid
  boxes_most table long valid usable =
      distinct_most plan domain (set_of first_box_line) (box_ways table) valid
      (λ index below.
      let small : index < ways_per_set = omega (arith, part_length (kernel_index + boxes_set) ways_per_set table (omega arith)) in
      let same : kernel_index + (boxes_set + index) ≡ kernel_index + boxes_set + index = omega arith in
      subst (λ number. is_valid number ≡ true → UsableEntry plan domain number)
      (ap (λ at. get_or table at 0) same ∙ sym (part_at (kernel_index + boxes_set) ways_per_set index table small)) (usable index small))
