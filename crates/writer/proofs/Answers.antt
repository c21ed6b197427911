-- Each answer from the tests that lead to it. Assumes nothing.
use Rattle.std.specs.Prelude.{Ok, Err}
use Prim.Native.Nat.{ℕ, ◌≤◌, ◌<◌}
use mathlib.Core.Bool.{Bool, true, false}
use mathlib.Core.List.{List, ◌++◌}
use mathlib.Core.Path.{◌≡◌, refl, sym, ap, ◌∙◌}
use native.Mathlib.Nat.{zero-add}
use native.Mathlib.Omega.{arith}
use borrow.Author.Tests.{eq-eqb, eqb-false, eqb-true, le-leb, le-ltb, lt-leb, lt-ltb, ne_eqb}
use lib.Dec.{eqb}
use lib.ListN.{drop, length, take}
use lib.Seq.{sets, sets-eq, take-append_seam}
use Rattle.lists.proofs.Stores.{wrote_first}
use Rattle.plan.specs.declared.Plan.{Plan}
use Rattle.plan.specs.Limits.{most_text_bytes}
use Rattle.plan.specs.Validity.{plan_valid}
use Rattle.script.specs.Limits.{scripts_length}
use Rattle.refusal.specs.declared.Refusal.TheVariants.{BufferTooShort, ImpossiblePlan, WrongLength}
use Rattle.lists.specs.Writing.{Wrote}
use Rattle.writer.specs.Canonical.{canonical_text}
use Rattle.writer.specs.Scripts.{ops_alone}
use Rattle.writer.specs.Write.{writable, write_of, write_verdict, write_with}

-- a text that was stored at a buffer's start is what stands first in it
first_bytes : (buffer text : List ℕ) → length text ≤ length buffer → take (length text) (sets buffer 0 text) ≡ text
first_bytes buffer text room =
    let whole = rw (zero-add (length text)) at (sets-eq text buffer 0 (omega arith)) in
    ap (take (length text)) whole ∙ take-append_seam text (drop (length text) buffer)

module _ (plan : Plan) (scripts out : List ℕ) where
  pub wrong_length_lem : (length scripts ≡ scripts_length → ⊥) → write_with (Err WrongLength) 0 out ≡ write_of plan scripts out
  unfolding write_of write_verdict
  wrong_length_lem differs = rw (ne_eqb (length scripts) scripts_length differs) refl

  module _ (store : length scripts ≡ scripts_length) where
    pub impossible_plan : plan_valid plan ≡ false → write_with (Err ImpossiblePlan) 0 out ≡ write_of plan scripts out
    unfolding write_of write_verdict writable
    impossible_plan impossible = rw (eq-eqb (length scripts) scripts_length store, impossible) refl

    module _ (possible : plan_valid plan ≡ true) where
      pub not_alone : ops_alone plan scripts ≡ false → write_with (Err ImpossiblePlan) 0 out ≡ write_of plan scripts out
      unfolding write_of write_verdict writable
      not_alone others = rw (eq-eqb (length scripts) scripts_length store, possible, others) refl

      module _ (alone : ops_alone plan scripts ≡ true) where
        pub too_long : most_text_bytes < length (canonical_text plan scripts) → write_with (Err ImpossiblePlan) 0 out ≡ write_of plan scripts out
        unfolding write_of write_verdict writable
        too_long over =
            rw (
              eq-eqb (length scripts) scripts_length store,
              possible,
              alone,
              lt-leb (length (canonical_text plan scripts)) most_text_bytes over,
            )
            refl

        module _ (fits : length (canonical_text plan scripts) ≤ most_text_bytes) where
          pub too_short :
              length out < length (canonical_text plan scripts)
              → write_with (Err (BufferTooShort (length (canonical_text plan scripts)))) 0 out ≡ write_of plan scripts out
          unfolding write_of write_verdict writable
          too_short short =
              rw (
                eq-eqb (length scripts) scripts_length store,
                possible,
                alone,
                le-leb (length (canonical_text plan scripts)) most_text_bytes fits,
                lt-ltb (length out) (length (canonical_text plan scripts)) short,
              )
              refl

          pub accepted :
              length (canonical_text plan scripts) ≤ length out
              → write_with (Ok tt) (length (canonical_text plan scripts)) (canonical_text plan scripts ++ drop (length (canonical_text plan scripts)) out)
              ≡ write_of plan scripts out
          unfolding write_of write_verdict writable
          accepted room =
              rw (
                eq-eqb (length scripts) scripts_length store,
                possible,
                alone,
                le-leb (length (canonical_text plan scripts)) most_text_bytes fits,
                le-ltb (length out) (length (canonical_text plan scripts)) room,
              )
              refl

          -- the same of the text's bytes, handed over from the buffer that it was written into
          pub handed :
              (buffer : List ℕ) {after : List ℕ} {next : ℕ}
              → Wrote buffer 0 (canonical_text plan scripts) after next
              → length buffer ≡ most_text_bytes
              → next ≤ length out
              → write_with (Ok tt) next (take next after ++ drop next out) ≡ write_of plan scripts out
          handed buffer wrote size room =
              let text = canonical_text plan scripts in
              let needed = (wrote_first buffer text wrote).0 in
              rw (wrote.1, needed, first_bytes buffer text (omega (arith, fits, size))) (accepted (omega (arith, needed, room)))

-- one impossible plan is judged as another
pub impossible_alike :
    (scripts out : List ℕ) (one other : Plan)
    → plan_valid one ≡ false
    → plan_valid other ≡ false
    → write_of one scripts out ≡ write_of other scripts out
impossible_alike scripts out one other impossible impossible' = go (eqb (length scripts) scripts_length) refl
  where
    go : (fits : Bool) → eqb (length scripts) scripts_length ≡ fits → write_of one scripts out ≡ write_of other scripts out
    go false test =
        let differs = eqb-false (length scripts) scripts_length test in
        sym (wrong_length_lem one scripts out differs) ∙ wrong_length_lem other scripts out differs
    go true test =
        let store = eqb-true (length scripts) scripts_length test in
        sym (impossible_plan one scripts out store impossible) ∙ impossible_plan other scripts out store impossible'
