-- Document 01, "The plan text": the recipients of a *may* list. `at` is the offset that is reached.
-- `named` holds a number for each domain: 0 while the text names it nowhere as a recipient, else
-- one more than the offset where it does first. Assumes nothing.
use Rattle.std.specs.Prelude.{ℕ, zero, suc, ◌+◌, ◌^◌, cond, ◌||◌, List, eqb, get_or, length, set, Result, Ok, Err}
use Rattle.plan.specs.Colours.{has_bit}
use Rattle.refusal.specs.declared.Refusal.TheVariants.{BadRecipient, BrokenShape}
use Rattle.script.specs.Limits.{last_domain}
use Rattle.syntax.specs.declared.RecipientList.{RecipientList}
use Rattle.syntax.specs.Tokens.{pass_close, take_number, then, then_number}
use Rattle.syntax.specs.declared.RecipientItem.{RecipientItem}
use Rattle.syntax.specs.declared.RecipientItem.TheVariants.{Done, Next}
use Rattle.refusal.specs.declared.Refusal.{Refusal}

-- a recipient is a domain number; 8 for the domain's own number or a repeat
unfoldable pub next_recipient : List ℕ → ℕ → ℕ → ℕ → Result RecipientItem Refusal
next_recipient text own rights at =
    then_number (take_number text 0 last_domain at) Err λ recipient start end.
    cond (eqb recipient own || has_bit rights recipient) (Err (BadRecipient start))
    (Ok (Next recipient start end))

-- what stands next in the list of domain `own`, after the recipients of `rights`: the bracket that
-- closes it, or one recipient more
unfoldable pub recipient_at : List ℕ → ℕ → ℕ → ℕ → Result RecipientItem Refusal
recipient_at text own rights at =
    then (pass_close text at) (λ _. next_recipient text own rights at) λ end. Ok (Done end)

-- the text names a domain as a recipient: the first time counts, and is kept as its offset + 1, so
-- that 0 stays none
unfoldable pub mention : List ℕ → ℕ → ℕ → List ℕ
mention named recipient start =
    cond (eqb (get_or named recipient 0) 0) (set named recipient (start + 1)) named

-- the rest of a list of recipients. A text has no more of them than bytes, so `turns`, its length,
-- never runs out.
unfoldable pub recipients_from : ℕ → List ℕ → ℕ → ℕ → List ℕ → ℕ → RecipientList
recipients_from zero text own rights named at =
    record { passed = Err (BrokenShape at); rights = rights; named = named }
recipients_from (suc turns) text own rights named at =
    elim (recipient_at text own rights at) [
      | Ok (Next recipient start end) ↦
          recipients_from turns text own (rights + 2 ^ recipient) (mention named recipient start) end
      | Ok (Done end) ↦ record { passed = Ok end; rights = rights; named = named }
      | Err refusal ↦
          record { passed = Err refusal; rights = rights; named = named }
    ]

-- the whole list from an offset on, with none taken yet
unfoldable pub recipients_at : List ℕ → ℕ → List ℕ → ℕ → RecipientList
recipients_at text own named at = recipients_from (length text) text own 0 named at
