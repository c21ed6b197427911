-- A list of recipients that is read to its end: other domains than the own one, each within the domain numbers, and each noted where it was
-- first named. Assumes nothing.
use Rattle.std.specs.Prelude.{Result, Ok, Err}
use Prim.Native.Nat.{ℕ, zero, suc, ◌+◌, ◌^◌, ◌≤◌, ◌<◌}
use native.Mathlib.Omega.{arith}
use mathlib.Core.Bool.{true, false, false≢true}
use mathlib.Core.List.{List}
use mathlib.Core.Path.{◌≡◌, refl, sym, ap, ◌∙◌}
use lib.Dec.{eqb}
use lib.ListN.{length, get_or, length-set, set}
use lib.Seq.{get_or-set_other, get_or-set_same}
use borrow.Author.Tests.{eqb-false, eqb-true}
use Rattle.plan.proofs.Bits.{zero_no_bit}
use Rattle.plan.specs.Colours.{has_bit}
use Rattle.plan.specs.Limits.{most_domains}
use Rattle.lexer.proofs.Reached.{cond_holds}
use Rattle.syntax.proofs.Choices.{is_false, same_or_not}
use Rattle.syntax.proofs.Listing.{Fresh, Listed, recipient_listed}
use Rattle.syntax.proofs.NewBit.{new_bit_most, new_bit_other}
use Rattle.syntax.specs.declared.RecipientList.{RecipientList}
use Rattle.syntax.specs.Recipients.{mention, recipient_at, recipients_at, recipients_from}
use Rattle.syntax.specs.declared.RecipientItem.{RecipientItem}
use Rattle.refusal.specs.declared.Refusal.{Refusal}
use Rattle.syntax.specs.declared.RecipientItem.TheVariants.{Next, Done}

-- ---- where domains are named

-- each listed recipient is noted
abbrev pub Noted : ℕ → List ℕ → Type 0
Noted rights named = (other : ℕ) → has_bit rights other ≡ true → get_or named other 0 ≡ 0 → ⊥

-- nothing that was noted is lost
abbrev pub Keeps : List ℕ → List ℕ → Type 0
Keeps named marked = (other : ℕ) → get_or marked other 0 ≡ 0 → get_or named other 0 ≡ 0

pub mention_length : (named : List ℕ) (recipient start : ℕ) → length (mention named recipient start) ≡ length named
unfolding mention
mention_length named recipient start =
    cond_holds (λ (marked : List ℕ). length marked ≡ length named) (eqb (get_or named recipient 0) 0) (set named recipient (start + 1)) named
    (λ _. length-set named recipient (start + 1))
    (λ _. refl)

pub mention_keeps : (named : List ℕ) (recipient start : ℕ) → Keeps named (mention named recipient start)
unfolding mention
mention_keeps named recipient start other =
    cond_holds (λ (marked : List ℕ). get_or marked other 0 ≡ 0 → get_or named other 0 ≡ 0)
    (eqb (get_or named recipient 0) 0) (set named recipient (start + 1)) named
    (λ none gone. same_or_not other recipient
    (λ same. ap (λ (n : ℕ). get_or named n 0) same ∙ eqb-true _ _ none)
    (λ differ. sym (get_or-set_other named recipient other (start + 1) 0 differ) ∙ gone))
    (λ _ gone. gone)

pub mention_noted : (named : List ℕ) (recipient start : ℕ) → recipient < length named → get_or (mention named recipient start) recipient 0 ≡ 0 → ⊥
unfolding mention
mention_noted named recipient start within =
    cond_holds (λ (marked : List ℕ). get_or marked recipient 0 ≡ 0 → ⊥) (eqb (get_or named recipient 0) 0) (set named recipient (start + 1)) named
    (λ _ gone. let kept = get_or-set_same named recipient (start + 1) 0 within in omega arith)
    (λ some. eqb-false _ _ some)

-- ---- along the list

-- the domain `own` has listed `rights`, and `marked` notes them beside what `named` did
pub record Recorded (own rights : ℕ) (named marked : List ℕ) : Type 0 where
  pub size : length marked ≡ length named
  pub small : rights < 2 ^ most_domains
  pub not_own : has_bit rights own ≡ false
  pub noted : Noted rights marked
  pub keeps : Keeps named marked

pub recorded_first : (own : ℕ) (named : List ℕ) → Recorded own 0 named named
recorded_first own named =
    record {
      size = refl;
      small = omega arith;
      not_own = is_false _ (zero_no_bit own);
      noted = λ other has. absurd (zero_no_bit other has);
      keeps = λ other gone. gone;
    }

recorded_next : (text : List ℕ) (own rights at recipient start end : ℕ) (named marked : List ℕ) → length named ≡ most_domains
    → Fresh text own rights at recipient start end → Recorded own rights named marked
    → Recorded own (rights + 2 ^ recipient) named (mention marked recipient start)
recorded_next text own rights at recipient start end named marked eight fresh so_far =
    let below : recipient < most_domains = omega (arith, fresh.domain) in
    let within : recipient < length marked = omega (arith, so_far.size) in
    record {
      size = mention_length marked recipient start ∙ so_far.size;
      small = new_bit_most rights most_domains recipient so_far.small below fresh.unlisted;
      not_own = is_false _ (λ has. false≢true (sym so_far.not_own
          ∙ new_bit_other rights recipient own fresh.unlisted has (λ same. fresh.other (sym same))));
      noted = λ other has gone. same_or_not other recipient
          (λ same. mention_noted marked recipient start within (ap (λ (n : ℕ). get_or (mention marked recipient start) n 0) (sym same) ∙ gone))
          (λ differ. so_far.noted other (new_bit_other rights recipient other fresh.unlisted has differ) (mention_keeps marked recipient start other gone));
      keeps = λ other gone. so_far.keeps other (mention_keeps marked recipient start other gone);
    }

-- a list that is read to its end, at or past an offset, with what it recorded
abbrev pub GoodPassed : ℕ → ℕ → List ℕ → ℕ → List ℕ → Result ℕ Refusal → Type 0
GoodPassed own at named rights marked (Ok end) = (at ≤ end) × Recorded own rights named marked
GoodPassed own at named rights marked (Err refusal) = Unit {0}

abbrev pub GoodList : ℕ → ℕ → List ℕ → RecipientList → Type 0
GoodList own at named list = GoodPassed own at named list.rights list.named list.passed

rest_good : (turns : ℕ) (text : List ℕ) (own rights first at : ℕ) (named marked : List ℕ) → length named ≡ most_domains → first ≤ at
    → Recorded own rights named marked → GoodList own first named (recipients_from turns text own rights marked at)
unfolding recipients_from
rest_good zero text own rights first at named marked eight past so_far = tt
rest_good (suc turns) text own rights first at named marked eight past so_far =
    go (recipient_at text own rights at) (recipient_listed text own rights at)
    (λ recipient start end fresh.
    rest_good turns text own (rights + 2 ^ recipient) first end named (mention marked recipient start) eight
    (omega (arith, fresh.least, fresh.some))
    (recorded_next text own rights at recipient start end named marked eight fresh so_far))
  where
    Rest : ℕ → ℕ → ℕ → Type 0
    Rest recipient start end =
        GoodList own first named (recipients_from turns text own (rights + 2 ^ recipient) (mention marked recipient start) end)

    go : (next : Result RecipientItem Refusal) → Listed text own rights at next
        → ((recipient start end : ℕ) → Fresh text own rights at recipient start end → Rest recipient start end)
        → GoodList own first named
        (elim next [
          | Ok (Next recipient start end) ↦ recipients_from turns text own (rights + 2 ^ recipient) (mention marked recipient start) end
          | Ok (Done end) ↦ record { passed = Ok end; rights = rights; named = marked }
          | Err refusal ↦ record { passed = Err refusal; rights = rights; named = marked }
        ])
    go (Ok (Next recipient start end)) fresh again = again recipient start end fresh
    go (Ok (Done end)) h again = (omega arith, so_far)
    go (Err refusal) h again = tt

pub list_good : (text : List ℕ) (own : ℕ) (named : List ℕ) (at : ℕ) → length named ≡ most_domains → GoodList own at named (recipients_at text own named at)
unfolding recipients_at
list_good text own named at eight = rest_good (length text) text own 0 at at named named eight (omega arith) (recorded_first own named)
