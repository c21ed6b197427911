-- An op that stands in a script leaves sound tables: it brings only lines of the running domain or the kernel into L1,
-- and fills only boxes that the rights allow. Assumes nothing.
use Prim.Native.Nat.{ℕ, ◌/◌, ◌%◌, ◌≤◌, ◌<◌}
use mathlib.Core.Bool.{Bool, true, false, cond, ◌||◌}
use mathlib.Core.List.{List}
use mathlib.Core.Path.{◌≡◌, refl, ◌∙◌}
use native.Mathlib.Omega.{arith}
use lib.Dec.{eqb, leb}
use lib.ListN.{get_or, length, set, length-set}
use borrow.Author.Tests.{eq-eqb, le-leb}
use Rattle.plan.specs.declared.Plan.{Plan}
use Rattle.plan.specs.Colours.{owns_colour}
use Rattle.plan.specs.Limits.{most_domains}
use Rattle.plan.specs.Rights.{may_send}
use Rattle.script.specs.declared.Op.{Op}
use Rattle.script.specs.declared.Op.TheVariants.{Read, Write, Send, Receive, Compute}
use Rattle.script.specs.Limits.{OpWithinLimits, last_domain, most_word}
use Rattle.cache.specs.Access.{access_of}
use Rattle.cache.specs.Lines.{colour_of, kernel_colour}
use Rattle.records.specs.declared.Observation.{Observation}
use Rattle.ops.specs.Ops.{Effect, box_index, box_line, boxes_length, compute_of, effect_by, effect_of, full_box}
use Rattle.ops.specs.Ops.{kernel_entry_line, message_by, message_of, owns_line, receive_by, touch_by, touch_of}
use Rattle.ops.proofs.Operations.{owned}
use Rattle.state.specs.declared.State.{State}
use Rattle.state.specs.TableValidity.{box_holds, line_allowed}
use Rattle.state.specs.World.{ended_of, running_of}
use Rattle.lists.proofs.Tests.{both_pass, first_passes, second_passes}
use Rattle.reachable.proofs.Cells.{cell_holds}
use Rattle.reachable.proofs.Lines.{CacheValid, access_valid}

-- ---- boxes

pub record BoxesValid (plan : Plan) (boxes : List ℕ) : Type 0 where
  pub long : length boxes ≡ boxes_length
  pub full : (index : ℕ) → box_holds plan index (get_or boxes index 0) ≡ true

-- an empty box
pub empty_box : (plan : Plan) (index box : ℕ) → box ≡ 0 → box_holds plan index box ≡ true
empty_box plan index box none = rw none refl

-- a box is given a number: it stays sound where that is none, or a word's and the right is there
box_given : (plan : Plan) (sender recipient number : ℕ) (boxes : List ℕ) → BoxesValid plan boxes
    → recipient < most_domains
    → number ≤ full_box most_word → (eqb number 0 || may_send plan sender recipient) ≡ true
    → BoxesValid plan (set boxes (box_index sender recipient) number)
box_given plan sender recipient number boxes sound below small allowed =
    record {
      long = length-set boxes _ _ ∙ sound.long;
      full = λ index. cell_holds (λ box. box_holds plan index box ≡ true) boxes (box_index sender recipient) index number
          (sound.full index) (given index);
    }
  where
    given : (index : ℕ) → index ≡ box_index sender recipient → box_holds plan index number ≡ true
    given index same =
        let from : index / most_domains ≡ sender = omega arith in
        let to : index % most_domains ≡ recipient = omega arith in
        both_pass (leb number (full_box most_word)) _ (le-leb number (full_box most_word) small) (rw (from, to) allowed)

-- ---- an op's effect

pub record EffectValid (plan : Plan) (state : State) (effect : Effect) : Type 0 where
  pub cache : CacheValid plan state effect.cache
  pub boxes : BoxesValid plan effect.boxes

-- a line of one of the domain's colours may be in L1
own_allowed : (plan : Plan) (domain line : ℕ) → owns_colour plan domain (colour_of line) ≡ true
    → line_allowed plan domain line ≡ true
unfolding line_allowed
own_allowed plan domain line owns = first_passes _ _ owns

-- the kernel's lines may always be there
pub kernel_allowed : (plan : Plan) (domain line : ℕ) → colour_of line ≡ kernel_colour → line_allowed plan domain line ≡ true
unfolding line_allowed
kernel_allowed plan domain line kernel = second_passes (owns_colour plan domain (colour_of line)) _ (eq-eqb _ _ kernel)

-- a choice between two effects is sound where both are, each where it is taken
choice_valid : (plan : Plan) (state : State) (test : Bool) (one other : Effect)
    → (test ≡ true → EffectValid plan state one)
    → EffectValid plan state other
    → EffectValid plan state (cond test one other)
choice_valid plan state true one other left right = left refl
choice_valid plan state false one other left right = right

module _ (plan : Plan) (state : State) (running : ended_of plan state ≡ false) (cache boxes : List ℕ)
    (sound : CacheValid plan state cache) (full : BoxesValid plan boxes) where
  abbrev domain : ℕ
  domain = running_of plan state

  touch_valid : (writes : Bool) (line : ℕ) → EffectValid plan state (touch_of plan domain writes line cache boxes)
  unfolding touch_by
  touch_valid writes line =
      choice_valid plan state (owns_line plan domain line) _ _
      (λ owns.
      let own = owned plan domain line owns in
      let allowed = own_allowed plan domain line own.1 in
      record { cache = access_valid plan state running line own.0 allowed writes cache sound; boxes = full })
      (record { cache = sound; boxes = full })

  -- the kernel's entry line and a box's line are the kernel's
  pub entry_valid_lem : CacheValid plan state (access_of false kernel_entry_line cache).table
  entry_valid_lem =
      access_valid plan state running kernel_entry_line (omega arith)
      (kernel_allowed plan domain kernel_entry_line refl) false cache sound

  message_valid : (sender recipient : ℕ) (denied passed : Observation) (number : ℕ) → sender ≤ last_domain
      → recipient ≤ last_domain
      → number ≤ full_box most_word
      → (may_send plan sender recipient ≡ true → (eqb number 0 || may_send plan sender recipient) ≡ true)
      → EffectValid plan state (message_of plan sender recipient denied passed number cache boxes)
  unfolding message_by
  message_valid sender recipient denied passed number from to small allowed =
      choice_valid plan state (may_send plan sender recipient) _ _
      (λ right.
      record {
        cache =
            access_valid plan state running (box_line sender recipient) (omega arith)
            (kernel_allowed plan domain (box_line sender recipient) (omega arith))
            true _ entry_valid_lem;
        boxes = box_given plan sender recipient number boxes full (omega arith) small (allowed right);
      })
      (record { cache = entry_valid_lem; boxes = full })

  -- every op that stands in a script
  pub effect_valid : domain ≤ last_domain → (op : Op) → OpWithinLimits op
      → EffectValid plan state (effect_of plan domain op cache boxes)
  unfolding effect_by receive_by compute_of OpWithinLimits
  effect_valid declared (Read line) within = touch_valid false line
  effect_valid declared (Write line) within = touch_valid true line
  effect_valid declared (Send recipient word) within =
      message_valid domain recipient _ _ (full_box word) declared within.0 (omega arith)
      (λ right. second_passes (eqb (full_box word) 0) _ right)
  effect_valid declared (Receive sender) within =
      message_valid sender domain _ _ 0 within declared (omega arith) (λ right. refl)
  effect_valid declared (Compute ticks) within = record { cache = sound; boxes = full }
