-- Checks in a row that accept have passed, each of them. Assumes nothing.
use Rattle.std.specs.Prelude.{Ok, Err}
use native.Mathlib.Omega.{arith}
use Prim.Native.Nat.{ℕ}
use mathlib.Core.Bool.{Bool, true, false}
use mathlib.Core.Path.{◌≡◌, refl}
use Rattle.refusal.specs.Checks.{and_then, unless, when}
use Rattle.refusal.specs.declared.Refusal.{Refusal}
use Rattle.refusal.specs.Verdict.{Verdict, refused_with}

pub not_refused : (why : Refusal) → refused_with why ≡ Ok tt → ⊥
not_refused why e = let z : ◌≡◌ {A = ℕ} 0 1 = cc in omega arith

pub unless_passed : (test : Bool) (why : Refusal) (next : Verdict) → unless test why next ≡ Ok tt
    → (test ≡ true) × (next ≡ Ok tt)
unless_passed true why next e = (refl, e)
unless_passed false why next e = absurd (not_refused why e)

pub when_passed : (test : Bool) (why : Refusal) (next : Verdict) → when test why next ≡ Ok tt
    → (test ≡ false) × (next ≡ Ok tt)
when_passed true why next e = absurd (not_refused why e)
when_passed false why next e = (refl, e)

pub both_passed : (first next : Verdict) → and_then first next ≡ Ok tt → (first ≡ Ok tt) × (next ≡ Ok tt)
both_passed (Ok tt) next e = (refl, e)
both_passed (Err why) next e = absurd (not_refused why e)
