-- A written list of recipients is read as the rights that it was written from. The recipients rise, so that each is new to those before it, and what
-- is read before a domain are the rights below it. Assumes nothing.
use Rattle.std.specs.Prelude.{Ok}
use Prim.Native.Nat.{ℕ, zero, suc, ◌+◌, ◌%◌, ◌^◌, ◌≤◌, ◌<◌}
use native.Mathlib.Nat.{mod-one, not-suc-le-zero}
use native.Mathlib.Omega.{arith}
use mathlib.Core.Bool.{Bool, true, false, cond, false≢true}
use mathlib.Core.List.{List, [], ◌∷◌, ◌++◌, append_assoc}
use mathlib.Core.Path.{◌≡◌, refl, sym, ap, ◌∙◌}
use lib.Dec.{eqb}
use lib.ListN.{drop, get_or, length, set, length-append, length-drop}
use lib.Seq.{get_or-set_other}
use borrow.Author.Tests.{le-leb, ne_eqb}
use Rattle.lists.specs.Ascii.{bytes_of}
use Rattle.plan.specs.Colours.{has_bit}
use Rattle.script.specs.Limits.{last_domain}
use Rattle.syntax.specs.declared.RecipientList.{RecipientList}
use Rattle.syntax.specs.Recipients.{mention, next_recipient, recipient_at, recipients_at, recipients_from}
use Rattle.syntax.specs.Tokens.{pass_close, take_number}
use Rattle.lexer.specs.Bytes.{ends_run}
use Rattle.lexer.specs.Decimal.{decimal_of}
use Rattle.lexer.proofs.Scanned.{close_token, left_next, left_past, stops_at, token_space}
use Rattle.lexer.proofs.Spelled.{number_token}
use Rattle.writer.specs.Lines.{recipients_of, rising_from, spaced}
use Rattle.roundtrip.proofs.Bits.{bit_below, bit_clear, bit_new, bit_set, bits_all}
use Rattle.syntax.specs.declared.RecipientItem.TheVariants.{Next, Done}

-- ---- where the text names each domain

-- the text names no undeclared domain as a recipient
abbrev pub Quiet : ℕ → List ℕ → Type 0
Quiet declared named = (domain : ℕ) → declared ≤ domain → get_or named domain 0 ≡ 0

-- naming a declared one keeps that
mention_quiet : (declared recipient start : ℕ) (named : List ℕ) → recipient < declared → Quiet declared named → Quiet declared (mention named recipient start)
unfolding mention
mention_quiet declared recipient start named below quiet domain past = go (eqb (get_or named recipient 0) 0)
  where
    go : (b : Bool) → get_or (cond b (set named recipient (start + 1)) named) domain 0 ≡ 0
    go true = get_or-set_other named recipient domain (start + 1) 0 (λ same. omega arith) ∙ quiet domain past
    go false = quiet domain past

-- ---- the list

-- a list of recipients gives these rights, and this is left past it
pub record Lists (text rest : List ℕ) (declared rights : ℕ) (list : RecipientList) : Type 0 where
  pub end : ℕ
  pub named : List ℕ
  pub is : list ≡ record { passed = Ok end; rights = rights; named = named }
  pub left : drop end text ≡ rest
  pub quiet : Quiet declared named

-- a number ends where the next one or the bracket follows
pub spaced_ends : (numbers rest : List ℕ) → stops_at ends_run (spaced numbers ++ 41 ∷ rest) ≡ true
unfolding spaced bytes_of
spaced_ends [] rest = refl
spaced_ends (number ∷ more) rest = refl

module _ (text rest : List ℕ) (declared own rights : ℕ) (few : declared ≤ 8) (small : rights < 2 ^ declared) (not_own : has_bit rights own ≡ false) where
  -- reading the recipients from a domain on, after the rights below it
  abbrev FromLeft : ℕ → Type 0
  FromLeft left =
      (domain turns at : ℕ) (named : List ℕ)
      → domain + left ≡ 8
      → length (spaced (rising_from rights left domain) ++ 41 ∷ rest) ≤ turns
      → drop at text ≡ spaced (rising_from rights left domain) ++ 41 ∷ rest
      → Quiet declared named
      → Lists text rest declared rights (recipients_from turns text own (rights % 2 ^ domain) named at)

  -- past the last domain stands the bracket
  last : FromLeft 0
  unfolding rising_from spaced recipients_from recipient_at pass_close
  last domain zero at named all enough left quiet = absurd (not-suc-le-zero enough)
  last domain (suc turns) at named all enough left quiet =
      let eight : domain ≡ 8 = omega arith in
      let whole : rights % 2 ^ domain ≡ rights = rw eight (bits_all rights declared small few) in
      let done : recipient_at text own (rights % 2 ^ domain) at ≡ Ok (Done (at + 1)) = rw (close_token text at rest left) in
      record { end = at + 1; named = named; is = rw (done, recipients_from, whole); left = left_next text at 41 rest left; quiet = quiet }

  -- a recipient that is listed
  next_at :
      (domain at : ℕ) (more : List ℕ)
      → domain < 8
      → has_bit rights domain ≡ true
      → drop at text ≡ 32 ∷ (decimal_of domain ++ (spaced more ++ 41 ∷ rest))
      → recipient_at text own (rights % 2 ^ domain) at ≡ Ok (Next domain (at + 1) (at + 1 + length (decimal_of domain)))
  unfolding recipient_at next_recipient pass_close take_number
  next_at domain at more below has left =
      let other : (domain ≡ own → ⊥) = λ same. false≢true (sym not_own ∙ (rw (← same) has)) in
      rw (
        token_space text at _ left ∙ number_token text (at + 1) domain _ (left_next text at 32 _ left) (omega arith) (spaced_ends more rest),
        le-leb 0 domain (omega arith),
        le-leb domain last_domain (omega arith),
        ne_eqb domain own other,
        bit_new rights domain,
      )

  -- one domain more: listed, or passed over
  listed :
      (left domain turns at : ℕ) (named : List ℕ)
      → FromLeft left
      → has_bit rights domain ≡ true
      → domain + suc left ≡ 8
      → length (spaced (domain ∷ rising_from rights left (domain + 1)) ++ 41 ∷ rest) ≤ turns
      → drop at text ≡ spaced (domain ∷ rising_from rights left (domain + 1)) ++ 41 ∷ rest
      → Quiet declared named
      → Lists text rest declared rights (recipients_from turns text own (rights % 2 ^ domain) named at)
  unfolding spaced bytes_of recipients_from
  listed left domain zero at named further has all enough before quiet = absurd (not-suc-le-zero enough)
  listed left domain (suc turns) at named further has all enough before quiet =
      let more = rising_from rights left (domain + 1) in
      let shape : drop at text ≡ 32 ∷ (decimal_of domain ++ (spaced more ++ 41 ∷ rest)) = before ∙ simp append_assoc in
      let next = next_at domain at more (omega arith) has shape in
      let past = left_past text (at + 1) (decimal_of domain) (spaced more ++ 41 ∷ rest) (left_next text at 32 _ shape) in
      let fewer : length (spaced more ++ 41 ∷ rest) ≤ turns = omega (arith, simp length-append at enough, length-append (spaced more) (41 ∷ rest)) in
      let later = mention_quiet declared domain (at + 1) named (bit_below rights declared domain small has) quiet in
      rw (next, recipients_from, ← (bit_set rights domain has)) (further (domain + 1) turns _ _ (omega arith) fewer past later)

  next : (left : ℕ) → FromLeft left → FromLeft (suc left)
  unfolding rising_from
  next left further domain turns at named all enough before quiet = go (has_bit rights domain) refl enough before
    where
      go :
          (b : Bool)
          → has_bit rights domain ≡ b
          → length
          (spaced (elim b [ true ↦ domain ∷ rising_from rights left (domain + 1) | false ↦ rising_from rights left (domain + 1) ]) ++ 41 ∷ rest)
          ≤ turns
          → drop at text
          ≡ spaced (elim b [ true ↦ domain ∷ rising_from rights left (domain + 1) | false ↦ rising_from rights left (domain + 1) ]) ++ 41 ∷ rest
          → Lists text rest declared rights (recipients_from turns text own (rights % 2 ^ domain) named at)
      go true has enough before = listed left domain turns at named further has all enough before quiet
      go false lacks enough before =
          rw (← (bit_clear rights domain lacks)) (further (domain + 1) turns at named (omega arith) enough before quiet)

  from_left : (left : ℕ) → FromLeft left
  from_left zero = last
  from_left (suc left) = next left (from_left left)

  -- the whole list, up to its bracket
  pub recipients_list :
      (at : ℕ) (named : List ℕ)
      → drop at text ≡ spaced (recipients_of rights) ++ 41 ∷ rest
      → Quiet declared named
      → Lists text rest declared rights (recipients_at text own named at)
  unfolding recipients_of recipients_at
  recipients_list at named left quiet =
      let enough : length (spaced (rising_from rights 8 0) ++ 41 ∷ rest) ≤ length text = omega (arith, length-drop at text, ap length left) in
      rw (← (mod-one rights)) (from_left 8 0 (length text) at named refl enough left quiet)
