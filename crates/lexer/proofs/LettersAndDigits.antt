-- A run looked through for one kind only: where the bytes of that kind end tells whether the whole
-- run is of it, since no such byte ends a run. Assumes nothing.
use Prim.Native.Nat.{ℕ, suc, ◌+◌, ◌-◌, ◌≤◌, ◌<◌}
use native.Mathlib.Omega.{arith}
use mathlib.Core.Bool.{Bool, true, false, cond, not, ◌&&◌, and-eq-true_iff}
use mathlib.Core.List.{List, [], ◌∷◌}
use mathlib.Core.Path.{◌≡◌, refl, sym, ap, ◌∙◌}
use lib.Dec.{eqb, leb, ltb}
use lib.ListN.{length, drop, take}
use lib.Seq.{drop-drop}
use borrow.Author.Tests.{eq-eqb, eqb-true, leb-false, leb-true, ltb-false, ltb-true, ne_eqb}
use borrow.Author.Tests.{not-true}
use Rattle.lists.proofs.Parts.{part_length}
use Rattle.lists.specs.Part.{part}
use Rattle.lexer.specs.declared.Token.TheVariants.{Word, Number, LongNumber, Other}
use Rattle.lexer.specs.Bytes.{ends_run, is_digit, is_letter, is_no_digit, is_no_letter}
use Rattle.lexer.specs.Lookaheads.{as_number, as_word}
use Rattle.lexer.specs.Scan.{all_bytes, scan_from, scan_of}
use Rattle.lexer.specs.Limits.{most_digits}
use Rattle.lexer.specs.Tokens.{decimal_value, digits_token, longest_run, run_token}
use Rattle.lexer.proofs.Scanning.{scan_end, scan_from_least, scan_most}
use Rattle.lexer.proofs.Spelled.{digit_in_run, digits_no_word, letter_in_run}

-- ---- one byte of a scan

module _ (stops : ℕ → Bool) (byte : ℕ) (rest : List ℕ) (at : ℕ) where
  from_here : stops byte ≡ true → scan_from stops (byte ∷ rest) at ≡ at
  unfolding scan_from
  from_here e = rw (e, scan_from)

  from_next : stops byte ≡ false → scan_from stops (byte ∷ rest) at ≡ scan_from stops rest (at + 1)
  unfolding scan_from
  from_next e = rw (e, scan_from)

-- ---- bytes of one kind, none of which stops a scan

none_over : (at : ℕ) → at - at ≡ 0
none_over at = omega arith

one_over : (at end : ℕ) → at + 1 ≤ end → end - at ≡ suc (end - (at + 1))
one_over at end past = omega arith

module _ (inside stops : ℕ → Bool)
    (apart : (byte : ℕ) → inside byte ≡ true → stops byte ≡ false) where
  -- where they end
  abbrev outside : ℕ → Bool
  outside byte = not (inside byte)

  -- the scan goes on from there as it did
  from_past : (bytes : List ℕ) (at : ℕ)
      → let end = scan_from outside bytes at in
      scan_from stops (drop (end - at) bytes) end ≡ scan_from stops bytes at
  unfolding scan_from
  from_past [] at = rw (none_over at)
  from_past (byte ∷ rest) at =
      go (inside byte) refl (from_past rest (at + 1)) (scan_from_least outside rest (at + 1))
    where
      go : (test : Bool) → inside byte ≡ test
          → let end = scan_from outside rest (at + 1) in
          scan_from stops (drop (end - (at + 1)) rest) end ≡ scan_from stops rest (at + 1)
          → at + 1 ≤ end
          → let here = scan_from outside (byte ∷ rest) at in
          scan_from stops (drop (here - at) (byte ∷ rest)) here ≡ scan_from stops (byte ∷ rest) at
      go true e later past =
          rw (
            from_next outside byte rest at (ap not e),
            from_next stops byte rest at (apart byte e),
            one_over at (scan_from outside rest (at + 1)) past,
          ) later
      go false e later past = rw (from_here outside byte rest at (ap not e), none_over at)

  -- they reach to its end where all bytes up to it are of the kind
  from_all : (bytes : List ℕ) (at : ℕ)
      → all_bytes inside (take (scan_from stops bytes at - at) bytes)
      ≡ eqb (scan_from outside bytes at) (scan_from stops bytes at)
  unfolding scan_from all_bytes
  from_all [] at = rw (none_over at, eq-eqb at at refl)
  from_all (byte ∷ rest) at =
      go (inside byte) (stops byte) refl refl (from_all rest (at + 1))
      (scan_from_least stops rest (at + 1))
    where
      go : (test stop : Bool) → inside byte ≡ test → stops byte ≡ stop
          → let end = scan_from stops rest (at + 1) in
          all_bytes inside (take (end - (at + 1)) rest) ≡ eqb (scan_from outside rest (at + 1)) end
          → at + 1 ≤ end
          → let here = scan_from stops (byte ∷ rest) at in
          all_bytes inside (take (here - at) (byte ∷ rest))
          ≡ eqb (scan_from outside (byte ∷ rest) at) here
      go true stop e s later past =
          rw (
            from_next stops byte rest at (apart byte e),
            from_next outside byte rest at (ap not e),
            one_over at (scan_from stops rest (at + 1)) past,
            e,
          ) later
      go false true e s later past =
          rw (
            from_here stops byte rest at s,
            from_here outside byte rest at (ap not e),
            none_over at,
            eq-eqb at at refl,
          )
      go false false e s later past =
          rw (
            from_next stops byte rest at s,
            from_here outside byte rest at (ap not e),
            one_over at (scan_from stops rest (at + 1)) past,
            e,
            ne_eqb at (scan_from stops rest (at + 1)) (λ same. omega arith),
          )

  -- the same of a text
  module _ (text : List ℕ) (start end past : ℕ) (ended : end ≡ scan_of outside text start)
      (passed : past ≡ scan_of stops text end) where
    pub past_same : past ≡ scan_of stops text start
    unfolding scan_of
    past_same =
        let first = scan_from outside (drop start text) start in
        let far : start + (first - start) ≡ first =
        omega (arith, scan_from_least outside (drop start text) start) in
        passed ∙ ap (scan_of stops text) ended
        ∙ ap (λ (bytes : List ℕ). scan_from stops bytes first)
        (ap (λ (n : ℕ). drop n text) (sym far) ∙ sym (drop-drop (first - start) start text))
        ∙ from_past (drop start text) start

    all_same : all_bytes inside (part start (past - start) text) ≡ eqb end past
    unfolding scan_of part
    all_same = rw (past_same, ended) (from_all (drop start text) start)

-- ---- a word and a number

letters_apart : (byte : ℕ) → is_letter byte ≡ true → ends_run byte ≡ false
letters_apart byte letter = not-true (ends_run byte) (letter_in_run byte letter)

digits_apart : (byte : ℕ) → is_digit byte ≡ true → ends_run byte ≡ false
digits_apart byte digit = not-true (ends_run byte) (digit_in_run byte digit)

longest_to : (text : List ℕ) (start past : ℕ) → past ≡ scan_of ends_run text start
    → longest_run text start ≡ run_token (part start (past - start) text) start past
unfolding longest_run
longest_to text start past passed =
    ap (λ (n : ℕ). run_token (part start (n - start) text) start n) (sym passed)

no_word_run : (run : List ℕ) (start end : ℕ) → all_bytes is_letter run ≡ false
    → as_word (run_token run start end) ≡ Other start start
unfolding run_token digits_token as_word
no_word_run run start end none = rw none (go (all_bytes is_digit run) (leb (length run) most_digits))
  where
    go : (digits few : Bool)
        → let number = cond few (Number start end (decimal_value run)) (LongNumber start end) in
        as_word (cond digits number (Other start end)) ≡ Other start start
    go true true = refl
    go true false = refl
    go false few = refl

no_number_run : (run : List ℕ) (start end : ℕ) → all_bytes is_digit run ≡ false
    → as_number (run_token run start end) ≡ Other start start
unfolding run_token as_number
no_number_run run start end none = rw none (go (all_bytes is_letter run))
  where
    go : (letters : Bool)
        → as_number (cond letters (Word start end) (Other start end)) ≡ Other start start
    go true = refl
    go false = refl

-- no bytes are no number
empty_run : (text : List ℕ) (start count end : ℕ) → count ≡ 0
    → as_number (run_token (part start count text) start end) ≡ Other start start
unfolding run_token as_number part all_bytes
empty_run text start count end none = rw none

number_run : (run : List ℕ) (start end : ℕ) → 0 < length run → all_bytes is_digit run ≡ true
    → as_number (run_token run start end) ≡ digits_token run start end
unfolding run_token digits_token as_number
number_run run start end some digits =
    rw (digits_no_word run some digits, digits) (go (leb (length run) most_digits))
  where
    go : (few : Bool)
        → as_number (cond few (Number start end (decimal_value run)) (LongNumber start end))
        ≡ cond few (Number start end (decimal_value run)) (LongNumber start end)
    go true = refl
    go false = refl

-- a scan that goes on at all ends within the text
scan_inside : (stops : ℕ → Bool) (text : List ℕ) (start : ℕ) → start < scan_of stops text start
    → scan_of stops text start ≤ length text
scan_inside stops text start some = go (leb start (length text)) refl
  where
    go : (test : Bool) → leb start (length text) ≡ test → scan_of stops text start ≤ length text
    go true e = scan_most stops text start (leb-true _ _ e)
    go false e =
        let past = leb-false start (length text) e in
        omega (arith, scan_end stops text start (omega arith))

module _ (text : List ℕ) (start end : ℕ) where
  -- where a run that has come to `end` ends
  abbrev past : ℕ
  past = scan_of ends_run text end

  module _ (ended : end ≡ scan_of is_no_letter text start) {ends : Bool}
      (told : ends ≡ eqb end past) where
    -- the longest run, which is of letters alone where they reach to its end
    word_longest : longest_run text start ≡ run_token (part start (past - start) text) start past
    word_longest =
        longest_to text start past
        (past_same is_letter ends_run letters_apart text start end past ended refl)

    word_letters : all_bytes is_letter (part start (past - start) text) ≡ ends
    word_letters =
        all_same is_letter ends_run letters_apart text start end past ended refl ∙ sym told

    pub word_found : ends ≡ true → Word start end ≡ as_word (longest_run text start)
    unfolding run_token as_word
    word_found all =
        ap (Word start) (eqb-true end past (sym told ∙ all))
        ∙ sym (ap as_word word_longest ∙ rw (word_letters, all))

    pub word_missed : ends ≡ false → Other start start ≡ as_word (longest_run text start)
    word_missed some =
        sym (ap as_word word_longest ∙ no_word_run _ start past (word_letters ∙ some))

  module _ (ended : end ≡ scan_of is_no_digit text start) {ends : Bool}
      (told : ends ≡ eqb end past) where
    number_longest : longest_run text start ≡ run_token (part start (past - start) text) start past
    number_longest =
        longest_to text start past
        (past_same is_digit ends_run digits_apart text start end past ended refl)

    number_digits : all_bytes is_digit (part start (past - start) text) ≡ ends
    number_digits =
        all_same is_digit ends_run digits_apart text start end past ended refl ∙ sym told

    pub number_missed : (ends && ltb start end) ≡ false
        → Other start start ≡ as_number (longest_run text start)
    number_missed test = sym (ap as_number number_longest ∙ go ends refl test)
      where
        go : (all : Bool) → ends ≡ all → (all && ltb start end) ≡ false
            → as_number (run_token (part start (past - start) text) start past) ≡ Other start start
        go false e none = no_number_run _ start past (number_digits ∙ e)
        go true e none =
            empty_run text start (past - start) past
            (omega (arith, ltb-false start end none, eqb-true end past (sym told ∙ e)))

    module _ (test : (ends && ltb start end) ≡ true) where
      all : ends ≡ true
      all = ((and-eq-true_iff ends (ltb start end)).0 test).0

      to_past : end ≡ past
      to_past = eqb-true end past (sym told ∙ all)

      pub digits_some : start < end
      digits_some = ltb-true start end ((and-eq-true_iff ends (ltb start end)).0 test).1

      pub digits_inside : end ≤ length text
      digits_inside = rw ended (scan_inside is_no_digit text start (rw (← ended) digits_some))

      pub digits_alone : all_bytes is_digit (part start (end - start) text) ≡ true
      digits_alone =
          ap (λ (n : ℕ). all_bytes is_digit (part start (n - start) text)) to_past ∙ number_digits
          ∙ all

      some_digit : 0 < length (part start (end - start) text)
      some_digit =
          rw (part_length start (end - start) text (omega (arith, digits_inside, digits_some)))
          (omega (arith, digits_some))

      pub number_found :
          digits_token (part start (end - start) text) start end ≡ as_number (longest_run text start)
      number_found =
          sym (ap as_number number_longest
          ∙ ap (λ (n : ℕ). as_number (run_token (part start (n - start) text) start n)) (sym to_past)
          ∙ number_run _ start end some_digit digits_alone)

-- ---- what the functions that look for one kind cite

pub ruleset word = (word_found, word_missed)

pub ruleset number = (digits_some, digits_inside, digits_alone, number_found, number_missed)
