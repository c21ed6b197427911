-- Laws of the checks after the last line: the first undeclared recipient, the first domain without a colour, and what a
-- draft that passes is known to satisfy. Assumes nothing.
use Rattle.std.specs.Prelude.{Ok, Err, Option, Some, None, length, ltb, not}
use Prim.Native.Nat.{ℕ, zero, suc, ◌+◌, ◌-◌, ◌≤◌, ◌<◌}
use native.Mathlib.Omega.{arith}
use mathlib.Core.Bool.{Bool, true, false, cond}
use mathlib.Core.List.{List, [], ◌∷◌}
use mathlib.Core.Path.{◌≡◌, refl, sym, ap, ◌∙◌}
use lib.Dec.{eqb, leb}
use lib.ListN.{get_or}
use borrow.Author.Tests.{eqb-false, le-leb, leb-false, leb-true, lt-leb, ltb-false, ne_eqb}
use Rattle.plan.specs.declared.Plan.{Plan}
use Rattle.plan.specs.Colours.{colours_at, colours_total, shares_total}
use Rattle.plan.specs.Windows.{ticks_total}
use Rattle.plan.specs.Limits.{domain_colours, most_domains, most_run_ticks, most_shares}
use Rattle.refusal.proofs.Passed.{both_passed, not_refused, when_passed}
use Rattle.refusal.specs.declared.Refusal.TheVariants.{WrongDomain}
use Rattle.syntax.proofs.Choices.{same_or_not}
use Rattle.reader.specs.declared.Draft.{Draft}
use Rattle.std.specs.List.{position_or_len, range_with_len}
use Rattle.std.specs.Option.{unwrap_or}
use Rattle.reader.specs.Final.{earlier_kept, final_verdict, first_colourless, first_of, lacking, may_verdict, mentions_from}
use Rattle.reader.specs.Final.{shares_verdict, undeclared_mentions}
use Rattle.refusal.specs.Verdict.{Verdict}

-- ---- the first undeclared recipient

-- the verdict where an offset was found before, kept plus one, and these mentions follow
unfoldable pub may_after : ℕ → List ℕ → Verdict
may_after zero mentions = may_verdict mentions
may_after (suc offset) mentions = Err (WrongDomain (first_of offset mentions))

-- one mention more, kept plus one or 0 for none
may_more : (found kept : ℕ) (rest : List ℕ)
    → may_after (earlier_kept found kept) rest
    ≡ may_after found (elim kept as (λ _. List ℕ) [ zero ↦ rest | suc offset ↦ offset ∷ rest ])
unfolding may_after first_of
may_more zero zero rest = refl
may_more zero (suc offset) rest = refl
may_more (suc found) zero rest = rw (ne_eqb (suc found) 0 (λ none. omega arith))
may_more (suc found) (suc offset) rest =
    rw (ne_eqb (suc found) 0 (λ none. omega arith), ne_eqb (suc offset) 0 (λ none. omega arith)) (go (leb found offset) refl)
  where
    go : (b : Bool) → leb found offset ≡ b
        → may_after (cond (leb (suc found) (suc offset)) (suc found) (suc offset)) rest
        ≡ Err (WrongDomain (first_of (cond b found offset) rest))
    go true e = rw (le-leb (suc found) (suc offset) (omega (arith, leb-true found offset e)))
    go false e = rw (lt-leb (suc found) (suc offset) (omega (arith, leb-false found offset e)))

module _ (named : List ℕ) (declared found domain : ℕ)
    (so_far : may_after found (undeclared_mentions named domain) ≡ may_verdict (undeclared_mentions named declared)) where
  pub may_next : domain < most_domains
      → may_after (earlier_kept found (get_or named domain 0)) (undeclared_mentions named (domain + 1))
      ≡ may_verdict (undeclared_mentions named declared)
  unfolding mentions_from
  may_next below =
      let left : most_domains - domain ≡ suc (most_domains - (domain + 1)) = omega arith in
      may_more found (get_or named domain 0) (undeclared_mentions named (domain + 1)) ∙ (rw left at so_far)

  pub may_end : most_domains ≤ domain → may_after found [] ≡ may_verdict (undeclared_mentions named declared)
  unfolding mentions_from
  may_end past = let none : most_domains - domain ≡ 0 = omega arith in rw none at so_far

pub may_nothing : (found : ℕ) → found ≡ 0 → (Ok tt) ≡ may_after found []
unfolding may_after
may_nothing found none = rw none

pub may_found : (found : ℕ) → (found ≡ 0 → ⊥) → Err (WrongDomain (found - 1)) ≡ may_after found []
unfolding may_after first_of
may_found zero some = absurd (some refl)
may_found (suc offset) some = let back : suc offset - 1 ≡ offset = omega arith in rw back

pub may_none : (mentions : List ℕ) → may_verdict mentions ≡ Ok tt → mentions ≡ []
may_none [] e = refl
may_none (offset ∷ more) e = absurd (not_refused _ e)

-- there is none: no domain of these is named
pub mentions_none : (named : List ℕ) (left domain index : ℕ) → mentions_from named left domain ≡ [] → domain ≤ index
    → index < domain + left → get_or named index 0 ≡ 0
unfolding mentions_from
mentions_none named zero domain index none from below = absurd (omega arith)
mentions_none named (suc left) domain index none from below =
    go (get_or named domain 0) refl none (mentions_none named left (domain + 1) index)
  where
    go : (kept : ℕ) → get_or named domain 0 ≡ kept
        → ◌≡◌ {A = List ℕ} (elim kept [
          | zero ↦ mentions_from named left (domain + 1)
          | suc offset ↦ offset ∷ mentions_from named left (domain + 1)
        ]) []
        → (mentions_from named left (domain + 1) ≡ [] → domain + 1 ≤ index → index < domain + 1 + left → get_or named index 0 ≡ 0)
        → get_or named index 0 ≡ 0
    go zero is none again =
        same_or_not index domain (λ same. ap (λ (n : ℕ). get_or named n 0) same ∙ is) (λ differ. again none (omega arith) (omega arith))
    go (suc offset) is none again = let z : ◌≡◌ {A = ℕ} 0 1 = cc in absurd (omega arith)

-- ---- the first domain without a colour

-- whether a domain is one
abbrev pub is_colourless : Plan → ℕ → Bool
is_colourless plan domain = eqb (colours_at plan domain) 0

-- where it stands in the range of their numbers
first_place : (plan : Plan) (left domain : ℕ)
    → position_or_len (is_colourless plan) (range_with_len domain left) + domain ≡ first_colourless plan left domain
unfolding first_colourless
first_place plan zero domain = omega arith
first_place plan (suc left) domain =
    go (eqb (colours_at plan domain) 0) _ _ (first_place plan left (domain + 1))
  where
    go : (test : Bool) (later first : ℕ) → later + (domain + 1) ≡ first
        → cond (not test) (1 + later) 0 + domain ≡ elim test [ true ↦ domain | false ↦ first ]
    go true later first place = omega arith
    go false later first place = omega arith

place_most : (plan : Plan) (left domain : ℕ) → position_or_len (is_colourless plan) (range_with_len domain left) ≤ left
place_most plan zero domain = omega arith
place_most plan (suc left) domain = go (eqb (colours_at plan domain) 0) _ (place_most plan left (domain + 1))
  where
    go : (test : Bool) (later : ℕ) → later ≤ left → cond (not test) (1 + later) 0 ≤ suc left
    go true later few = omega arith
    go false later few = omega arith

range_long : (first left : ℕ) → length (range_with_len first left) ≡ left
range_long first zero = refl
range_long first (suc left) = omega (arith, range_long (first + 1) left)

pub colourless_position : (plan : Plan) (left : ℕ) {found : Option ℕ}
    → (let at = position_or_len (is_colourless plan) (range_with_len 0 left) in
    found ≡ cond (ltb at (length (range_with_len 0 left))) (Some at) None)
    → unwrap_or found left ≡ first_colourless plan left 0
colourless_position plan left is = rw is (go (ltb at (length (range_with_len 0 left))) refl)
  where
    at : ℕ
    at = position_or_len (is_colourless plan) (range_with_len 0 left)

    go : (below : Bool) → ltb at (length (range_with_len 0 left)) ≡ below
        → unwrap_or (cond below (Some at) None) left ≡ first_colourless plan left 0
    go true test = omega (arith, first_place plan left 0)
    go false test =
        let past = ltb-false _ _ test in
        omega (arith, past, first_place plan left 0, place_most plan left 0, range_long 0 left)

-- there is none: each gives one
pub coloured_each : (plan : Plan) (left domain other : ℕ) → domain + left ≤ first_colourless plan left domain → domain ≤ other → other < domain + left
    → colours_at plan other ≡ 0 → ⊥
unfolding first_colourless
coloured_each plan zero domain other all from below none = omega arith
coloured_each plan (suc left) domain other all from below none =
    go (eqb (colours_at plan domain) 0) refl all (coloured_each plan left (domain + 1) other)
  where
    go : (test : Bool) → eqb (colours_at plan domain) 0 ≡ test
        → domain + suc left ≤ elim test [ true ↦ domain | false ↦ first_colourless plan left (domain + 1) ]
        → (domain + 1 + left ≤ first_colourless plan left (domain + 1) → domain + 1 ≤ other → other < domain + 1 + left → colours_at plan other ≡ 0 → ⊥) → ⊥
    go true e all again = omega arith
    go false e all again =
        same_or_not other domain
        (λ same. eqb-false _ _ e (ap (colours_at plan) (sym same) ∙ none))
        (λ differ. again (omega arith) (omega arith) (omega arith) none)

-- ---- what a draft that passes is known to satisfy

pub record Passes (draft : Draft) : Type 0 where
  pub nothing_lacking : lacking draft.plan ≡ false
  pub all_declared : undeclared_mentions draft.named draft.plan.domains ≡ []
  pub shares : shares_total draft.plan draft.plan.domains ≤ most_shares
  pub colours : colours_total draft.plan ≤ domain_colours
  pub coloured : draft.plan.domains ≤ first_colourless draft.plan draft.plan.domains 0
  pub ticks : ticks_total draft.plan ≤ most_run_ticks

pub passes : (text_length : ℕ) (draft : Draft) → final_verdict text_length draft ≡ Ok tt → Passes draft
unfolding final_verdict shares_verdict
passes text_length draft accepted =
    let first = when_passed _ _ _ accepted in
    let second = both_passed _ _ first.1 in
    let rest = both_passed _ _ second.1 in
    let third = when_passed _ _ _ rest.0 in
    let fourth = when_passed _ _ _ third.1 in
    let fifth = when_passed _ _ _ fourth.1 in
    let sixth = when_passed _ _ _ rest.1 in
    record {
      nothing_lacking = first.0;
      all_declared = may_none _ second.0;
      shares = ltb-false _ _ third.0;
      colours = ltb-false _ _ fourth.0;
      coloured = ltb-false _ _ fifth.0;
      ticks = ltb-false _ _ sixth.0;
    }
