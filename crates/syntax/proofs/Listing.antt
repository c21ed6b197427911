-- The list of recipients: what is known of the next one, and the walk from one to the next. Assumes nothing.
use Rattle.std.specs.Prelude.{Result, Ok, Err}
use Prim.Native.Nat.{ℕ, zero, suc, ◌+◌, ◌*◌, ◌%◌, ◌^◌, ◌≤◌, ◌<◌}
use native.Mathlib.Omega.{arith}
use mathlib.Core.Bool.{cond, false, ◌||◌, false≢true}
use mathlib.Core.List.{List}
use mathlib.Core.Path.{◌≡◌, refl, sym, subst, ap, ◌∙◌}
use lib.Dec.{eqb}
use lib.ListN.{length}
use borrow.Author.Tests.{eq-eqb}
use Rattle.plan.proofs.Bits.{one_shifted}
use Rattle.plan.specs.Colours.{has_bit}
use Rattle.plan.specs.Limits.{most_domains}
use Rattle.refusal.specs.declared.Refusal.{Refusal}
use Rattle.refusal.specs.declared.Refusal.TheVariants.{BadRecipient, BrokenShape}
use Rattle.script.specs.Limits.{last_domain}
use Rattle.lexer.proofs.Reached.{cond_holds, token_past}
use Rattle.syntax.proofs.Advance.{by_number, number_limited, then_close}
use Rattle.syntax.specs.declared.RecipientList.{RecipientList}
use Rattle.syntax.proofs.Choices.{neither}
use Rattle.syntax.proofs.NewBit.{new_bit_most}
use Rattle.syntax.specs.Recipients.{mention, next_recipient, recipient_at, recipients_at, recipients_from}
use Rattle.syntax.specs.Tokens.{pass_close, take_number}
use Rattle.syntax.specs.declared.RecipientItem.{RecipientItem}
use Rattle.syntax.specs.declared.RecipientItem.TheVariants.{Next, Done}

-- ---- the next one

-- a recipient that is listed: another domain that was not listed before, and its token goes on in the text
pub record Fresh (text : List ℕ) (own rights at recipient start end : ℕ) : Type 0 where
  pub domain : recipient ≤ last_domain
  pub other : recipient ≡ own → ⊥
  pub unlisted : has_bit rights recipient ≡ false
  pub least : at ≤ start
  pub some : start < end
  pub most : end ≤ length text

abbrev pub Listed : List ℕ → ℕ → ℕ → ℕ → Result RecipientItem Refusal → Type 0
Listed text own rights at (Ok (Next recipient start end)) = Fresh text own rights at recipient start end
Listed text own rights at (Ok (Done end)) = (at ≤ end) × (end ≤ length text)
Listed text own rights at (Err refusal) = Unit {0}

next_listed : (text : List ℕ) (own rights at : ℕ) → Listed text own rights at (next_recipient text own rights at)
unfolding next_recipient
next_listed text own rights at =
    let Good = Listed text own rights at in
    by_number Good text _ (take_number text 0 last_domain at) Err
    (λ recipient start end.
    cond (eqb recipient own || has_bit rights recipient) (Err (BadRecipient start)) (Ok (Next recipient start end)))
    (number_limited text 0 last_domain at) (λ _. tt) λ recipient start end h.
    cond_holds Good (eqb recipient own || has_bit rights recipient) (Err (BadRecipient start)) (Ok (Next recipient start end))
    (λ _. tt)
    (λ free.
    let parts = neither (eqb recipient own) (has_bit rights recipient) free in
    record {
      domain = h.1;
      other = λ same. false≢true (sym parts.0 ∙ eq-eqb recipient own same);
      unlisted = parts.1;
      least = h.2;
      some = h.3;
      most = h.4;
    })

pub recipient_listed : (text : List ℕ) (own rights at : ℕ) → Listed text own rights at (recipient_at text own rights at)
unfolding recipient_at
recipient_listed text own rights at =
    then_close (Listed text own rights at) text at (λ _. next_recipient text own rights at) (λ end. Ok (Done end)) (λ _. next_listed text own rights at)
    (λ end past within. (past, within))

-- the same of an answer that is known to be of some kind
pub listed : (text : List ℕ) (own rights at : ℕ) {next kind : Result RecipientItem Refusal} → next ≡ recipient_at text own rights at → next ≡ kind
    → Listed text own rights at kind
listed text own rights at next known = subst (Listed text own rights at) (sym next ∙ known) (recipient_listed text own rights at)

-- ---- the walk

-- what is left of a list gives the whole, and enough turns are left to end it
pub record Left (text : List ℕ) (own rights : ℕ) (named : List ℕ) (at : ℕ) (whole : RecipientList) : Type 0 where
  pub turns : ℕ
  pub enough : length text ≤ at + turns
  pub same : recipients_from turns text own rights named at ≡ whole

pub left_first : (text : List ℕ) (own : ℕ) (named : List ℕ) (at : ℕ) → Left text own 0 named at (recipients_at text own named at)
unfolding recipients_at
left_first text own named at = record { turns = length text; enough = omega arith; same = refl }

-- past the text's end the list is refused
past_end : (text : List ℕ) (own rights at : ℕ) → length text ≤ at → recipient_at text own rights at ≡ Err (BrokenShape at)
unfolding recipient_at next_recipient pass_close take_number
past_end text own rights at past = rw (token_past text at past)

module _ (text : List ℕ) (own rights : ℕ) (named : List ℕ) (at : ℕ) (whole : RecipientList) (left : Left text own rights named at whole) where
  -- a turn is left, unless the list is refused where the text ends
  turn : (next : Result RecipientItem Refusal) → recipient_at text own rights at ≡ next → (P : Type 0)
      → ((turns : ℕ) → length text ≤ at + suc turns → recipients_from (suc turns) text own rights named at ≡ whole → P)
      → (next ≡ Err (BrokenShape at) → record { passed = Err (BrokenShape at); rights = rights; named = named } ≡ whole → P)
      → P
  unfolding recipients_from
  turn next is P more ended = go left.turns left.enough left.same
    where
      go : (turns : ℕ) → length text ≤ at + turns → recipients_from turns text own rights named at ≡ whole → P
      go zero enough same = ended (sym is ∙ past_end text own rights at (omega arith)) same
      go (suc turns) enough same = more turns enough same

  pub left_next : (recipient start end : ℕ) → recipient_at text own rights at ≡ Ok (Next recipient start end)
      → Left text own (rights + 2 ^ recipient) (mention named recipient start) end whole
  unfolding recipients_from
  left_next recipient start end next =
      let fresh : Fresh text own rights at recipient start end = listed text own rights at refl next in
      turn _ next _
      (λ turns enough same. record { turns = turns; enough = omega arith; same = rw (recipients_from, next) at same })
      (λ end _. let z : ◌≡◌ {A = ℕ} 0 1 = cc in absurd (omega arith))

  pub left_done : (end : ℕ) → recipient_at text own rights at ≡ Ok (Done end) → record { passed = Ok end; rights = rights; named = named } ≡ whole
  unfolding recipients_from
  left_done end next =
      turn _ next _ (λ turns enough same. rw (recipients_from, next) at same) (λ end _. let z : ◌≡◌ {A = ℕ} 0 1 = cc in absurd (omega arith))

  pub left_refused : (refusal : Refusal) → recipient_at text own rights at ≡ Err refusal
      → record { passed = Err refusal; rights = rights; named = named } ≡ whole
  unfolding recipients_from
  left_refused refusal next =
      turn _ next _
      (λ turns enough same. rw (recipients_from, next) at same)
      (λ end same. let e : BrokenShape at ≡ refusal = cc in rw (← e) same)

-- ---- the turn, as it is computed at 32 bits

module _ (text : List ℕ) (own rights at recipient start end : ℕ) (fresh : Fresh text own rights at recipient start end) where
  pub shifted : rights + 1 * 2 ^ recipient % 2 ^ 32 ≡ rights + 2 ^ recipient
  shifted = ap (λ (n : ℕ). rights + n) (one_shifted recipient (omega (arith, fresh.domain)))

  pub rights_most : rights < 2 ^ most_domains → rights + 1 * 2 ^ recipient % 2 ^ 32 < 2 ^ most_domains
  rights_most small = rw shifted (new_bit_most rights most_domains recipient small (omega (arith, fresh.domain)) fresh.unlisted)
