-- Laws on a run of stores into a buffer: where one run ends the next begins. A store past the buffer's end does
-- nothing. Assumes nothing.
use Prim.Native.Nat.{ℕ, suc, ◌+◌, ◌<◌}
use mathlib.Core.Path.{◌≡◌, ap, ◌∙◌}
use mathlib.Core.List.{List, [], ◌∷◌, ◌++◌, append_assoc}
use native.Mathlib.Nat.{add-zero, zero-add}
use native.Mathlib.Numerals.{add-one}
use native.Mathlib.Omega.{arith}
use lib.ListN.{get_or, length, length-append, set, take}
use lib.Seq.{length-take-le, sets, take-suc}
use Rattle.lists.specs.Writing.{Wrote}

-- a run of stores and another right behind it are one run
pub sets_append :
    (buffer : List ℕ) (at : ℕ) (first second : List ℕ)
    → sets (sets buffer at first) (at + length first) second ≡ sets buffer at (first ++ second)
sets_append buffer at [] second = ap (λ (index : ℕ). sets buffer index second) (add-zero at)
sets_append buffer at (byte ∷ first) second =
    let index : at + suc (length first) ≡ suc at + length first = omega arith in
    ap (λ (n : ℕ). sets (sets (set buffer at byte) (suc at) first) n second) index
    ∙ sets_append (set buffer at byte) (suc at) first second

-- the stores of a list's first bytes, and of the next one
pub sets_next :
    (buffer : List ℕ) (at count : ℕ) (bytes : List ℕ)
    → count < length bytes
    → set (sets buffer at (take count bytes)) (at + count) (get_or bytes count 0)
    ≡ sets buffer at (take (count + 1) bytes)
sets_next buffer at count bytes within =
    let long : length (take count bytes) ≡ count = length-take-le count bytes (omega arith) in
    rw (add-one count, take-suc bytes count 0 within, ← sets_append buffer at (take count bytes), long)

-- a writer, then another from where the first ended, write the bytes of both
pub wrote_both :
    (buffer : List ℕ) (at : ℕ) (first second : List ℕ) {middle after : List ℕ} {next end : ℕ}
    → Wrote buffer at first middle next
    → Wrote middle next second after end
    → Wrote buffer at (first ++ second) after end
wrote_both buffer at first second one two = (
  simp length-append (omega (arith, one.0, two.0)),
  two.1 ∙ rw (one.1, one.0) (sets_append buffer at first second),
)

-- the same where the second writes two pieces
pub wrote_three :
    (buffer : List ℕ) (at : ℕ) (first second third : List ℕ) {middle after : List ℕ} {next end : ℕ}
    → Wrote buffer at first middle next
    → Wrote middle next (second ++ third) after end
    → Wrote buffer at (first ++ second ++ third) after end
wrote_three buffer at first second third one two =
    rw (append_assoc first second third) (wrote_both buffer at first (second ++ third) one two)

-- from the buffer's start on, the index past the bytes is their number
pub wrote_first :
    (buffer bytes : List ℕ) {after : List ℕ} {next : ℕ}
    → Wrote buffer 0 bytes after next
    → (next ≡ length bytes) × (after ≡ sets buffer 0 bytes)
wrote_first buffer bytes written = (written.0 ∙ zero-add (length bytes), written.1)

-- a writer of some bytes is a writer of any equal bytes
pub wrote_as :
    (buffer : List ℕ) (at : ℕ) {bytes same after : List ℕ} {next : ℕ}
    → bytes ≡ same
    → Wrote buffer at bytes after next
    → Wrote buffer at same after next
wrote_as buffer at is wrote = (wrote.0 ∙ ap (λ (l : List ℕ). at + length l) is, wrote.1 ∙ ap (sets buffer at) is)
