-- The recipients that are left to write, domain by domain. Assumes nothing.
use Prim.Native.Nat.{ℕ, suc, ◌+◌, ◌-◌, ◌≤◌, ◌<◌}
use mathlib.Core.Bool.{Bool, true, false, cond}
use mathlib.Core.List.{List, [], ◌∷◌, ◌++◌}
use mathlib.Core.Path.{◌≡◌, refl, ap}
use native.Mathlib.Omega.{arith}
use Rattle.lists.specs.Ascii.{bytes_of}
use Rattle.plan.specs.Colours.{has_bit}
use Rattle.plan.specs.Limits.{most_domains}
use Rattle.lexer.specs.Decimal.{decimal_of}
use Rattle.writer.specs.Lines.{rising_from, spaced}

-- those from a domain on
abbrev pub recipients_left : ℕ → ℕ → List ℕ
recipients_left rights domain = spaced (rising_from rights (most_domains - domain) domain)

-- a domain's own bytes among them
abbrev pub recipient_bytes : ℕ → ℕ → List ℕ
recipient_bytes rights domain = cond (has_bit rights domain) (bytes_of " " ++ decimal_of domain) []

pub recipients_next :
    (rights domain : ℕ) → domain < most_domains
    → recipients_left rights domain ≡ recipient_bytes rights domain ++ recipients_left rights (domain + 1)
unfolding rising_from spaced
recipients_next rights domain below =
    let one_less : most_domains - domain ≡ suc (most_domains - (domain + 1)) = omega arith in
    rw (one_less, rising_from) (go (has_bit rights domain))
  where
    later : List ℕ
    later = rising_from rights (most_domains - (domain + 1)) (domain + 1)

    go : (b : Bool) → spaced (elim b [ true ↦ domain ∷ later | false ↦ later ]) ≡ cond b (bytes_of " " ++ decimal_of domain) [] ++ spaced later
    go true = refl
    go false = refl

pub recipients_none : (rights domain : ℕ) → most_domains ≤ domain → recipients_left rights domain ≡ []
unfolding rising_from spaced
recipients_none rights domain past =
    let none : most_domains - domain ≡ 0 = omega arith in
    ap (λ (left : ℕ). spaced (rising_from rights left domain)) none
