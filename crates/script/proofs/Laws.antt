-- Storing an op and decoding its number undo each other, within document 01's limits. Assumes nothing.
use Rattle.std.specs.Prelude.{Option, Some, None}
use Prim.Native.Nat.{ℕ, ◌≤◌, ◌<◌}
use mathlib.Core.Path.{◌≡◌, refl, subst}
use mathlib.Core.Bool.{Bool, true, false, cond, ◌&&◌, and-eq-true_iff}
use native.Mathlib.Omega.{arith}
use lib.Dec.{eqb, leb}
use borrow.Author.Tests.{eqb-true, leb-true, le-leb}
use Rattle.script.specs.declared.Op.{Op}
use Rattle.script.specs.declared.Op.TheVariants.{Read, Write, Send, Receive, Compute}
use Rattle.script.specs.Stored.{packed, stored_of}
use Rattle.script.specs.Limits.{OpWithinLimits, last_domain, least_ticks, most_number, most_ticks}
use Rattle.script.specs.Fetch.{decode_of, kind_part, op_of, other_part, value_part}

-- a compute's ticks fit a byte
pub compute_fits : (other value : ℕ) → eqb other 0 && leb least_ticks value && leb value most_ticks ≡ true → value ≤ most_ticks
compute_fits other value tests = leb-true value most_ticks ((and-eq-true_iff (eqb other 0 && leb least_ticks value) (leb value most_ticks)).0 tests).1

-- the three parts of a number made of three parts are those
decode_packed : (kind other value : ℕ) → other < 16 → value ≤ most_number → decode_of (packed kind other value) ≡ op_of kind other value
unfolding decode_of
decode_packed kind other value small fits =
    let kinds : kind_part (packed kind other value) ≡ kind = omega arith in
    let others : other_part (packed kind other value) ≡ other = omega arith in
    let values : value_part (packed kind other value) ≡ value = omega arith in
    rw (kinds, others, values)

-- an op within its limits is read back from its stored number
pub decode_stored : (op : Op) → OpWithinLimits op → decode_of (stored_of op) ≡ Some op
unfolding OpWithinLimits stored_of op_of
decode_stored (Read line) within = rw (decode_packed 1 0 line (omega arith) within)
decode_stored (Write line) within = rw (decode_packed 2 0 line (omega arith) within)
decode_stored (Send recipient word) within = rw (decode_packed 3 recipient word (omega arith) within.1, le-leb recipient last_domain within.0)
decode_stored (Receive sender) within = rw (decode_packed 4 sender 0 (omega arith) (omega arith), le-leb sender last_domain within)
decode_stored (Compute ticks) within =
    rw (decode_packed 5 0 ticks (omega arith) (omega arith), le-leb least_ticks ticks within.0, le-leb ticks most_ticks within.1)

-- what is so of both outcomes of a test is so of the choice
choice :
    (P : Option Op → Type 0) (test : Bool) (first second : Option Op)
    → (test ≡ true → P first)
    → P second
    → P (cond test first second)
choice P true first second here rest = here refl
choice P false first second here rest = rest

-- a decoded op is stored as its number, and is within its limits
unfoldable Gives : ℕ → Option Op → Type 0
Gives number (Some op) = (stored_of op ≡ number) × OpWithinLimits op
Gives number None = Unit {0}

module _ (kind other value : ℕ) (fits : value ≤ most_number) where
  read_gives : eqb kind 1 && eqb other 0 ≡ true → Gives (packed kind other value) (Some (Read value))
  unfolding Gives stored_of OpWithinLimits
  read_gives tests =
      let parts = (and-eq-true_iff (eqb kind 1) (eqb other 0)).0 tests in
      (omega (arith, eqb-true kind 1 parts.0, eqb-true other 0 parts.1), fits)

  write_gives : eqb kind 2 && eqb other 0 ≡ true → Gives (packed kind other value) (Some (Write value))
  unfolding Gives stored_of OpWithinLimits
  write_gives tests =
      let parts = (and-eq-true_iff (eqb kind 2) (eqb other 0)).0 tests in
      (omega (arith, eqb-true kind 2 parts.0, eqb-true other 0 parts.1), fits)

  send_gives : eqb kind 3 && leb other last_domain ≡ true → Gives (packed kind other value) (Some (Send other value))
  unfolding Gives stored_of OpWithinLimits
  send_gives tests =
      let parts = (and-eq-true_iff (eqb kind 3) (leb other last_domain)).0 tests in
      (omega (arith, eqb-true kind 3 parts.0), (leb-true other last_domain parts.1, fits))

  receive_gives : eqb kind 4 && leb other last_domain && eqb value 0 ≡ true → Gives (packed kind other value) (Some (Receive other))
  unfolding Gives stored_of OpWithinLimits
  receive_gives tests =
      let parts = (and-eq-true_iff (eqb kind 4 && leb other last_domain) (eqb value 0)).0 tests in
      let fronts = (and-eq-true_iff (eqb kind 4) (leb other last_domain)).0 parts.0 in
      (omega (arith, eqb-true kind 4 fronts.0, eqb-true value 0 parts.1), leb-true other last_domain fronts.1)

  compute_gives :
      eqb kind 5 && eqb other 0 && leb least_ticks value && leb value most_ticks ≡ true
      → Gives (packed kind other value) (Some (Compute value))
  unfolding Gives stored_of OpWithinLimits
  compute_gives tests =
      let parts = (and-eq-true_iff (eqb kind 5 && eqb other 0 && leb least_ticks value) (leb value most_ticks)).0 tests in
      let middles = (and-eq-true_iff (eqb kind 5 && eqb other 0) (leb least_ticks value)).0 parts.0 in
      let fronts = (and-eq-true_iff (eqb kind 5) (eqb other 0)).0 middles.0 in
      (omega (arith, eqb-true kind 5 fronts.0, eqb-true other 0 fronts.1), (leb-true least_ticks value middles.1, leb-true value most_ticks parts.1))

  end_gives : Gives (packed kind other value) None
  unfolding Gives
  end_gives = tt

  op_gives : Gives (packed kind other value) (op_of kind other value)
  unfolding op_of
  op_gives =
      let so = choice (Gives (packed kind other value)) in
      so _ _ _ read_gives (so _ _ _ write_gives (so _ _ _ send_gives (so _ _ _ receive_gives (so _ _ _ compute_gives end_gives))))

gives : (number : ℕ) → Gives number (decode_of number)
unfolding decode_of
gives number =
    let whole : packed (kind_part number) (other_part number) (value_part number) ≡ number = omega arith in
    subst (λ (n : ℕ). Gives n (op_of (kind_part number) (other_part number) (value_part number))) whole
    (op_gives (kind_part number) (other_part number) (value_part number) (omega arith))

decoded : (number : ℕ) (op : Op) → decode_of number ≡ Some op → (stored_of op ≡ number) × OpWithinLimits op
unfolding Gives
decoded number op is = subst (Gives number) is (gives number)

-- the op that a number stands for is stored as that number
pub stored_decode : (number : ℕ) (op : Op) → decode_of number ≡ Some op → stored_of op ≡ number
stored_decode number op is = (decoded number op is).0

-- a decoded op is within its limits
pub decode_within : (number : ℕ) (op : Op) → decode_of number ≡ Some op → OpWithinLimits op
decode_within number op is = (decoded number op is).1
