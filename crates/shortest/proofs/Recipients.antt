-- A list of recipients that is taken is no shorter than the canonical list of its rights: each recipient is new, and takes a space and its digits.
-- Assumes nothing.
use Rattle.std.specs.Prelude.{Result, Ok, Err}
use Prim.Native.Nat.{ℕ, zero, suc, ◌+◌, ◌^◌, ◌≤◌, ◌<◌}
use native.Mathlib.Omega.{arith}
use mathlib.Core.Bool.{Bool, true, false, cond, ◌||◌}
use mathlib.Core.List.{List, ◌∷◌}
use mathlib.Core.Path.{◌≡◌, ap}
use lib.Dec.{eqb}
use lib.ListN.{length, length-append}
use Rattle.lists.specs.Ascii.{bytes_of}
use Rattle.plan.specs.Colours.{has_bit}
use Rattle.plan.specs.Limits.{most_domains}
use Rattle.refusal.specs.declared.Refusal.TheVariants.{BadRecipient}
use Rattle.script.specs.Limits.{last_domain}
use Rattle.syntax.specs.declared.RecipientList.{RecipientList}
use Rattle.syntax.specs.Recipients.{mention, next_recipient, recipient_at, recipients_at, recipients_from}
use Rattle.syntax.proofs.Choices.{neither, same_or_not}
use Rattle.syntax.proofs.NewBit.{new_bit_other}
use Rattle.lexer.specs.Decimal.{decimal_of}
use Rattle.lexer.proofs.Reached.{cond_holds}
use Rattle.writer.specs.Lines.{recipients_of, rising_from, spaced}
use Rattle.shortest.proofs.Due.{Spaced, then_close, then_number_lem}
use Rattle.shortest.proofs.Runs.{RunOver}
use Rattle.syntax.specs.declared.RecipientItem.{RecipientItem}
use Rattle.refusal.specs.declared.Refusal.{Refusal}
use Rattle.syntax.specs.declared.RecipientItem.TheVariants.{Next, Done}

-- ---- the canonical list with one recipient more

-- the bytes that a domain takes of a list
abbrev bytes_for : ℕ → ℕ → ℕ
bytes_for rights domain = cond (has_bit rights domain) (1 + length (decimal_of domain)) 0

-- those of the `left` domains from `domain` on
abbrev bytes_from : ℕ → ℕ → ℕ → ℕ
bytes_from rights left domain = length (spaced (rising_from rights left domain))

bytes_next : (rights left domain : ℕ) → bytes_from rights (suc left) domain ≡ bytes_for rights domain + bytes_from rights left (domain + 1)
unfolding rising_from spaced bytes_of
bytes_next rights left domain = go (has_bit rights domain)
  where
    more : List ℕ
    more = rising_from rights left (domain + 1)

    go : (test : Bool)
        → length (spaced (elim test [ true ↦ domain ∷ more | false ↦ more ])) ≡ cond test (1 + length (decimal_of domain)) 0 + length (spaced more)
    go true = omega (arith, length-append (decimal_of domain) (spaced more))
    go false = omega arith

-- a domain of one list that is in another, too
bytes_kept : (rights wider domain : ℕ) → (has_bit wider domain ≡ true → has_bit rights domain ≡ true) → bytes_for wider domain ≤ bytes_for rights domain
bytes_kept rights wider domain kept =
    cond_holds (λ n. n ≤ bytes_for rights domain) (has_bit wider domain) (1 + length (decimal_of domain)) 0
    (λ has. rw (kept has) (omega arith))
    (λ _. omega arith)

bytes_most : (rights domain : ℕ) → bytes_for rights domain ≤ 1 + length (decimal_of domain)
bytes_most rights domain =
    cond_holds (λ n. n ≤ 1 + length (decimal_of domain)) (has_bit rights domain) (1 + length (decimal_of domain)) 0 (λ _. omega arith) (λ _. omega arith)

-- the domains of one list that are all in another
from_kept :
    (left rights wider domain : ℕ)
    → ((other : ℕ) → domain ≤ other → has_bit wider other ≡ true → has_bit rights other ≡ true)
    → bytes_from wider left domain ≤ bytes_from rights left domain
unfolding rising_from
from_kept zero rights wider domain kept = omega arith
from_kept (suc left) rights wider domain kept =
    omega (
      arith,
      bytes_next wider left domain,
      bytes_next rights left domain,
      bytes_kept rights wider domain (kept domain (omega arith)),
      from_kept left rights wider (domain + 1) (λ other past. kept other (omega arith)),
    )

module _ (rights recipient : ℕ) (unlisted : has_bit rights recipient ≡ false) where
  from_added :
      (left domain : ℕ) → bytes_from (rights + 2 ^ recipient) left domain ≤ bytes_from rights left domain + 1 + length (decimal_of recipient)
  unfolding rising_from
  from_added zero domain = omega arith
  from_added (suc left) domain =
      let wider = rights + 2 ^ recipient in
      let next = bytes_next rights left domain in
      let next-wider = bytes_next wider left domain in
      same_or_not domain recipient
      (λ same.
      let digits : length (decimal_of domain) ≡ length (decimal_of recipient) = ap (λ (n : ℕ). length (decimal_of n)) same in
      let others = from_kept left rights wider (domain + 1) (λ other past has. new_bit_other rights recipient other unlisted has (λ equal. omega arith)) in
      omega (arith, bytes_most wider domain))
      (λ differ.
      let one = bytes_kept rights wider domain (λ has. new_bit_other rights recipient domain unlisted has differ) in
      omega (arith, from_added left (domain + 1)))

-- ---- the list that is read

-- what stands next, after the recipients of `rights`
abbrev NextFact : List ℕ → ℕ → ℕ → Result RecipientItem Refusal → Type 0
NextFact text rights at (Ok (Next recipient start end)) = (has_bit rights recipient ≡ false) × Spaced text at recipient end
NextFact text rights at (Ok (Done end)) = at < end
NextFact text rights at (Err refusal) = Unit {0}

record Listed (text : List ℕ) (rights at : ℕ) (next : Result RecipientItem Refusal) : Type 0 where
  fact : NextFact text rights at next

next_listed : (text : List ℕ) (own rights at : ℕ) → RunOver text at → Listed text rights at (recipient_at text own rights at)
unfolding recipient_at next_recipient
next_listed text own rights at before =
    let P = Listed text rights at in
    then_close P text at (λ _. next_recipient text own rights at) (λ end. Ok (Done end))
    (λ _.
    then_number_lem P text 0 last_domain at Err _ before (λ _. record { fact = tt }) λ recipient start end spaced.
    cond_holds P (eqb recipient own || has_bit rights recipient) (Err (BadRecipient start)) (Ok (Next recipient start end))
    (λ _. record { fact = tt })
    (λ free. record { fact = ((neither (eqb recipient own) (has_bit rights recipient) free).1, spaced) }))
    (λ end past. record { fact = past })

-- a list from an offset on, with the bracket that closes it
abbrev pub CoversPassed : ℕ → ℕ → Result ℕ Refusal → Type 0
CoversPassed first rights (Ok end) = first + length (spaced (recipients_of rights)) < end
CoversPassed first rights (Err refusal) = Unit {0}

abbrev pub CoversList : ℕ → RecipientList → Type 0
CoversList first list = CoversPassed first list.rights list.passed

rest_covers :
    (turns : ℕ) (text : List ℕ) (own rights : ℕ) (named : List ℕ) (first at : ℕ)
    → RunOver text at
    → first + length (spaced (recipients_of rights)) ≤ at
    → CoversList first (recipients_from turns text own rights named at)
unfolding recipients_from recipients_of
rest_covers zero text own rights named first at before so_far = tt
rest_covers (suc turns) text own rights named first at before so_far =
    go (recipient_at text own rights at) (next_listed text own rights at before).fact
    λ recipient start end unlisted spaced.
    rest_covers turns text own (rights + 2 ^ recipient) (mention named recipient start) first end spaced.over
    (omega (arith, from_added rights recipient unlisted most_domains 0))
  where
    go :
        (next : Result RecipientItem Refusal)
        → NextFact text rights at next
        → ((recipient start end : ℕ)
        → has_bit rights recipient ≡ false
        → Spaced text at recipient end
        → CoversList first (recipients_from turns text own (rights + 2 ^ recipient) (mention named recipient start) end))
        → CoversList first
        (elim next [
          | Ok (Next recipient start end) ↦ recipients_from turns text own (rights + 2 ^ recipient) (mention named recipient start) end
          | Ok (Done end) ↦ record { passed = Ok end; rights = rights; named = named }
          | Err refusal ↦ record { passed = Err refusal; rights = rights; named = named }
        ])
    go (Ok (Next recipient start end)) fact further = further recipient start end fact.0 fact.1
    go (Ok (Done end)) fact further = omega arith
    go (Err refusal) fact further = tt

pub list_covers : (text : List ℕ) (own : ℕ) (named : List ℕ) (at : ℕ) → RunOver text at → CoversList at (recipients_at text own named at)
unfolding recipients_at recipients_of rising_from has_bit spaced
list_covers text own named at before = rest_covers (length text) text own 0 named at at before (omega arith)
