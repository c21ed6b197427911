-- Tests and the choices that they make: what holds of both choices, two tests that both fail, a test that cannot pass, and a choice by
-- whether two numbers are equal. Assumes nothing.
use Prim.Native.Nat.{ℕ}
use mathlib.Core.Bool.{Bool, true, false, ◌||◌, true≢false}
use mathlib.Core.Path.{◌≡◌, refl}
use lib.Dec.{eqb}
use borrow.Author.Tests.{eqb-false, eqb-true}

-- `cond_holds` of crate lexer for a choice that computes only the branch it takes
pub choice_holds : {A : Type 0} (P : A → Type 0) (test : Bool) (a b : A) → (test ≡ true → P a) → (test ≡ false → P b)
    → P (elim test [ true ↦ a | false ↦ b ])
choice_holds P true a b f g = f refl
choice_holds P false a b f g = g refl

pub neither : (a b : Bool) → (a || b) ≡ false → (a ≡ false) × (b ≡ false)
neither true b e = absurd (true≢false e)
neither false b e = (refl, e)

pub is_false : (test : Bool) → (test ≡ true → ⊥) → test ≡ false
is_false true h = absurd (h refl)
is_false false h = refl

pub same_or_not : {P : Type 0} (a b : ℕ) → (a ≡ b → P) → ((a ≡ b → ⊥) → P) → P
same_or_not {P} a b f g = go (eqb a b) refl
  where
    go : (test : Bool) → eqb a b ≡ test → P
    go true e = f (eqb-true a b e)
    go false e = g (eqb-false a b e)
