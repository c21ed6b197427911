-- Checks in a row that refuse: which of them did. Assumes nothing.
use Rattle.std.specs.Prelude.{Ok, Err}
use mathlib.Core.Bool.{Bool, true, false}
use mathlib.Core.Path.{◌≡◌, refl, ap}
use Rattle.refusal.specs.Checks.{and_then, when}
use Rattle.refusal.specs.Code.{code_of, refusal_code}
use Rattle.refusal.specs.declared.Refusal.{Refusal}
use Rattle.refusal.specs.Verdict.{Verdict, refused_with}

-- equal refusals have one number and one companion
pub same_number : (why other : Refusal) → refused_with why ≡ Err other → (refusal_code why).number ≡ (refusal_code other).number
same_number why other e = ap (λ (verdict : Verdict). (code_of verdict).number) e

pub same_companion : (why other : Refusal) → refused_with why ≡ Err other → (refusal_code why).companion ≡ (refusal_code other).companion
same_companion why other e = ap (λ (verdict : Verdict). (code_of verdict).companion) e

module _ (other : Refusal) where
  -- not this check: it passed, and one behind it refuses
  pub when_behind : (test : Bool) (why : Refusal) (next : Verdict) → (refused_with why ≡ Err other → ⊥)
      → when test why next ≡ Err other → (test ≡ false) × (next ≡ Err other)
  when_behind true why next differ e = absurd (differ e)
  when_behind false why next differ e = (refl, e)

  pub then_behind : (first next : Verdict) → (first ≡ Err other → ⊥) → and_then first next ≡ Err other
      → (first ≡ Ok tt) × (next ≡ Err other)
  then_behind (Ok tt) next differ e = (refl, e)
  then_behind (Err why) next differ e = absurd (differ e)

  -- none behind it: it is this check that refuses
  pub when_here : (test : Bool) (why : Refusal) (next : Verdict) → (next ≡ Err other → ⊥)
      → when test why next ≡ Err other → (test ≡ true) × (refused_with why ≡ Err other)
  when_here true why next none e = (refl, e)
  when_here false why next none e = absurd (none e)

  pub then_here : (first next : Verdict) → (next ≡ Err other → ⊥) → and_then first next ≡ Err other → first ≡ Err other
  then_here (Ok tt) next none e = absurd (none e)
  then_here (Err why) next none e = e
