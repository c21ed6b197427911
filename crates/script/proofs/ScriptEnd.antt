-- A script's ops stand before its end, and it has one end. Assumes nothing.
use Rattle.std.specs.Prelude.{Option, Some, None}
use Prim.Native.Nat.{ℕ, zero, suc, ◌+◌, ◌-◌, ◌≤◌, ◌<◌}
use mathlib.Core.Bool.{Bool, true, false}
use mathlib.Core.List.{List}
use mathlib.Core.Path.{◌≡◌, refl, sym, ap, subst, ◌∙◌}
use native.Mathlib.Omega.{arith}
use lib.Dec.{ltb}
use borrow.Author.Tests.{le-ltb, ltb-false, ltb-true}
use Rattle.script.specs.declared.Op.{Op}
use Rattle.script.specs.Fetch.{fetch_of}
use Rattle.script.specs.Limits.{most_ops}
use Rattle.script.specs.ScriptEnd.{ops_in_row, stored_ops}
use Rattle.script.specs.Theorems.{EndsAt, ScriptsEnd}

-- the end of a script is no op
pub end_is_none : (op : Op) → None ≡ Some op → ⊥
end_is_none op same = let none : ◌≡◌ {A = ℕ} 0 1 = cc in omega arith

-- every script ends past its last entry
pub past_end : (scripts : List ℕ) (domain position : ℕ) → most_ops ≤ position → fetch_of scripts domain position ≡ None
unfolding fetch_of
past_end scripts domain position past = rw (le-ltb position most_ops past)

module _ (scripts : List ℕ) (domain : ℕ) where
  -- ---- a row of ops, position by position

  row_here : (count position : ℕ) (op : Op) → fetch_of scripts domain position ≡ Some op
      → ops_in_row scripts domain (suc count) position ≡ ops_in_row scripts domain count (position + 1) + 1
  unfolding ops_in_row
  row_here count position op here = rw (here, ops_in_row)

  row_ends : (count position : ℕ) → fetch_of scripts domain position ≡ None → ops_in_row scripts domain (suc count) position ≡ 0
  unfolding ops_in_row
  row_ends count position there = rw (there, ops_in_row)

  -- ---- the walk over a script: what is passed and those in a row behind it are the script's ops

  abbrev pub Passed : ℕ → Type 0
  Passed position = (position ≤ most_ops) × (stored_ops scripts domain ≡ position + ops_in_row scripts domain (most_ops - position) position)

  pub passed_none : Passed 0
  unfolding stored_ops
  passed_none = (omega arith, omega arith)

  -- one position of the script less is left
  one_less : (position : ℕ) → position < most_ops → most_ops - position ≡ suc (most_ops - (position + 1))
  one_less position below = omega arith

  pub passed_op : (position : ℕ) (op : Op) → Passed position → position < most_ops → fetch_of scripts domain position ≡ Some op → Passed (position + 1)
  passed_op position op passed below here =
      let row = ap (λ count. ops_in_row scripts domain count position) (one_less position below) ∙ row_here (most_ops - (position + 1)) position op here in
      (omega arith, omega (arith, passed.1, row))

  pub passed_end : (position : ℕ) → Passed position → position < most_ops → fetch_of scripts domain position ≡ None → position ≡ stored_ops scripts domain
  passed_end position passed below there =
      let row = ap (λ count. ops_in_row scripts domain count position) (one_less position below) ∙ row_ends (most_ops - (position + 1)) position there in
      omega (arith, passed.1, row)

  pub passed_all : (position : ℕ) → Passed position → most_ops ≤ position → position ≡ stored_ops scripts domain
  unfolding ops_in_row
  passed_all position passed past =
      let none : most_ops - position ≡ 0 = omega arith in
      let row : ops_in_row scripts domain (most_ops - position) position ≡ 0 = ap (λ count. ops_in_row scripts domain count position) none in
      omega (arith, passed.1, row)

  -- ---- where a script ends

  -- ops stand at every position before one
  abbrev OpsBefore : ℕ → Type 0
  OpsBefore position = (earlier : ℕ) → earlier < position → fetch_of scripts domain earlier ≡ None → ⊥

  ends_here : (position : ℕ) → Passed position → OpsBefore position → fetch_of scripts domain position ≡ None → position ≡ stored_ops scripts domain
      → EndsAt scripts domain (stored_ops scripts domain)
  ends_here position passed before there is = subst (EndsAt scripts domain) is (record { within = passed.0; before = before; there = there })

  past_all : (position : ℕ) → Passed position → OpsBefore position → most_ops ≤ position → EndsAt scripts domain (stored_ops scripts domain)
  past_all position passed before past = ends_here position passed before (past_end scripts domain position past) (passed_all position passed past)

  ops_before_next : (position : ℕ) (op : Op) → OpsBefore position → fetch_of scripts domain position ≡ Some op → OpsBefore (position + 1)
  ops_before_next position op before here earlier below there = go (ltb earlier position) refl
    where
      go : (less : Bool) → ltb earlier position ≡ less → ⊥
      go true test = before earlier (ltb-true earlier position test) there
      go false test =
          let past : position ≤ earlier = ltb-false earlier position test in
          let same : earlier ≡ position = omega arith in
          end_is_none op (sym there ∙ ap (fetch_of scripts domain) same ∙ here)

  -- a walk that has passed nothing but ops comes to the script's end
  walk : (left position : ℕ) → most_ops - position ≤ left → Passed position → OpsBefore position → EndsAt scripts domain (stored_ops scripts domain)
  walk zero position enough passed before = past_all position passed before (omega arith)
  walk (suc left) position enough passed before = go (ltb position most_ops) refl (fetch_of scripts domain position) refl (walk left (position + 1))
    where
      go :
          (inside : Bool) → ltb position most_ops ≡ inside
          → (item : Option Op) → fetch_of scripts domain position ≡ item
          → (most_ops - (position + 1) ≤ left → Passed (position + 1) → OpsBefore (position + 1) → EndsAt scripts domain (stored_ops scripts domain))
          → EndsAt scripts domain (stored_ops scripts domain)
      go false test item is next = past_all position passed before (ltb-false position most_ops test)
      go true test None is next = ends_here position passed before is (passed_end position passed (ltb-true position most_ops test) is)
      go true test (Some op) is next =
          let below = ltb-true position most_ops test in
          next (omega arith) (passed_op position op passed below is) (ops_before_next position op before is)

  pub ends_at : EndsAt scripts domain (stored_ops scripts domain)
  ends_at = walk most_ops 0 (omega arith) passed_none (λ earlier below. absurd (omega arith))

  -- an op that stands no further than the end stands before it
  pub op_before_end : (position : ℕ) (op : Op) → position ≤ stored_ops scripts domain → fetch_of scripts domain position ≡ Some op
      → position < stored_ops scripts domain
  op_before_end position op within here = go (ltb position (stored_ops scripts domain)) refl
    where
      go : (before : Bool) → ltb position (stored_ops scripts domain) ≡ before → position < stored_ops scripts domain
      go true test = ltb-true position (stored_ops scripts domain) test
      go false test =
          let past : stored_ops scripts domain ≤ position = ltb-false position (stored_ops scripts domain) test in
          let same : stored_ops scripts domain ≡ position = omega arith in
          absurd (end_is_none op (sym ends_at.there ∙ ap (fetch_of scripts domain) same ∙ here))

  -- a position at which none stands is no earlier than the end
  pub end_reached : (position : ℕ) → fetch_of scripts domain position ≡ None → stored_ops scripts domain ≤ position
  end_reached position there = go (ltb position (stored_ops scripts domain)) refl
    where
      go : (before : Bool) → ltb position (stored_ops scripts domain) ≡ before → stored_ops scripts domain ≤ position
      go true test = absurd (ends_at.before position (ltb-true position (stored_ops scripts domain) test) there)
      go false test = ltb-false position (stored_ops scripts domain) test

  -- there is one end
  one_end : (end end' : ℕ) → EndsAt scripts domain end → EndsAt scripts domain end' → end ≤ end'
  one_end end end' ends ends' = go (ltb end' end) refl
    where
      go : (less : Bool) → ltb end' end ≡ less → end ≤ end'
      go true test = absurd (ends.before end' (ltb-true end' end test) ends'.there)
      go false test = ltb-false end' end test

pub scripts_end : ScriptsEnd
scripts_end =
    record {
      ends = ends_at;
      once =
          λ scripts domain end ends.
          let no_more = one_end scripts domain end _ ends (ends_at scripts domain) in
          let no_fewer = one_end scripts domain _ end (ends_at scripts domain) ends in
          omega arith;
    }
