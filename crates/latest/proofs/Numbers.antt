-- A script from its parts, and a buffer that is filled with its numbers, position by position. Assumes nothing.
use Prim.Native.Nat.{ℕ, zero, suc, ◌+◌, ◌*◌, ◌-◌, ◌/◌, ◌%◌, ◌<◌}
use mathlib.Core.List.{List}
use mathlib.Core.Path.{◌≡◌, refl, sym, ap, ◌∙◌}
use native.Mathlib.Nat.{add-zero, zero-add}
use native.Mathlib.Omega.{arith}
use lib.ListN.{get_or, length, length-set, set}
use lib.Seq.{ext_get_or, get_or-set_other, get_or-set_same}
use Rattle.plan.specs.declared.Plan.{Plan}
use Rattle.plan.proofs.Sums.{last-or-earlier}
use Rattle.script.specs.declared.Op.{Op}
use Rattle.script.specs.Limits.{most_ops, most_ticks}
use Rattle.script.specs.Stored.{stored_of}
use Rattle.cache.specs.Lines.{sets_per_colour}
use Rattle.latest.specs.declared.LateScript.{LateScript}
use Rattle.latest.specs.Reach.{lowest_colour, own_indices}
use Rattle.latest.specs.Script.{last_op, late_number, late_numbers, late_script_of, opening_ops, waiting_ticks}

pub parts_are :
    (plan : Plan) (domain opening own lowest waiting last : ℕ) (op : Op)
    → opening ≡ opening_ops plan domain
    → own ≡ own_indices plan domain
    → lowest ≡ lowest_colour plan domain
    → waiting ≡ waiting_ticks plan domain
    → op ≡ last_op plan domain
    → last ≡ stored_of op
    → ◌≡◌ {A = LateScript}
    (record {
      opening = opening;
      writes = own;
      line = sets_per_colour * lowest;
      waits = (waiting - 1) / most_ticks;
      rest = (waiting - 1) % most_ticks + 1;
      last = last;
    })
    (late_script_of plan domain)
unfolding late_script_of
parts_are plan domain opening own lowest waiting last op opens owns is-lowest waits ends last-is =
    rw (opens, owns, is-lowest, waits, last-is, ends) refl

module _ (script : LateScript) where
  pub numbers_length : (left position : ℕ) → length (late_numbers script left position) ≡ left
  unfolding late_numbers
  numbers_length zero position = refl
  numbers_length (suc left) position = ap suc (numbers_length left (position + 1))

  -- the number at an index of a part of the list
  pub number_past : (left position index : ℕ) → index < left → get_or (late_numbers script left position) index 0 ≡ late_number script (position + index)
  unfolding late_numbers
  number_past zero position index below = absurd (omega arith)
  number_past (suc left) position zero below = ap (late_number script) (sym (add-zero position))
  number_past (suc left) position (suc index) below =
      let same : position + 1 + index ≡ position + suc index = omega arith in
      number_past left (position + 1) index (omega arith) ∙ ap (late_number script) same

  -- the first `count` numbers of a buffer for one script are the script's
  pub record Filled (buffer : List ℕ) (count : ℕ) : Type 0 where
    pub long : length buffer ≡ most_ops
    pub each : (index : ℕ) → index < count → get_or buffer index 0 ≡ late_number script index

  pub filled_more :
      (buffer : List ℕ) (count number : ℕ)
      → Filled buffer count
      → count < most_ops
      → number ≡ late_number script count
      → Filled (set buffer count number) (count + 1)
  filled_more buffer count number filled below is =
      record {
        long = simp length-set filled.long;
        each =
            λ index within.
            last-or-earlier (λ n. get_or (set buffer count number) n 0 ≡ late_number script n) count index
            (get_or-set_same buffer count number 0 (omega (arith, filled.long)) ∙ is)
            (λ earlier. get_or-set_other buffer count index number 0 (λ same. omega arith) ∙ filled.each index earlier)
            (omega arith);
      }

  -- a buffer that is filled to its end
  pub filled_all : (buffer : List ℕ) → Filled buffer most_ops → buffer ≡ late_numbers script most_ops 0
  filled_all buffer filled =
      ext_get_or 0 buffer (late_numbers script most_ops 0) (filled.long ∙ sym (numbers_length most_ops 0))
      (λ index below.
      let within : index < most_ops = omega (arith, filled.long) in
      filled.each index within ∙ sym (number_past most_ops 0 index within ∙ ap (late_number script) (zero-add index)))
