-- What is left to write: a buffer that will hold a text once the rest of it is stored. A writer's loop keeps the buffer so, line by line.
-- Assumes nothing.
use Prim.Native.Nat.{ℕ, suc, ◌+◌, ◌-◌, ◌≤◌, ◌<◌}
use mathlib.Core.List.{List, [], ◌∷◌, ◌++◌, append_assoc}
use mathlib.Core.Path.{◌≡◌, refl, sym, ap, subst, ◌∙◌}
use native.Mathlib.Nat.{add-zero}
use native.Mathlib.Omega.{arith}
use lib.ListN.{length, length-append}
use lib.Seq.{length-sets, sets}
use Rattle.lists.specs.Ascii.{bytes_of}
use Rattle.lists.proofs.Stores.{sets_append}
use Rattle.lists.specs.Writing.{Wrote}
use Rattle.writer.specs.Canonical.{followed, lines_from}

-- the rest, stored from an offset on, leaves the buffer as aimed at, and ends at the offset aimed at
pub record Remains (buffer : List ℕ) (at : ℕ) (rest target : List ℕ) (end : ℕ) : Type 0 where
  pub ends : at + length rest ≡ end
  pub stores : sets buffer at rest ≡ target

-- a text is being written from an offset on, and this is left of it
abbrev pub Writing : List ℕ → ℕ → List ℕ → List ℕ → List ℕ → ℕ → Type 0
Writing buffer at text rest after next = Remains after next rest (sets buffer at text) (at + length text)

-- at first all of the text
pub remains_all : (buffer : List ℕ) (at : ℕ) (text : List ℕ) → Remains buffer at text (sets buffer at text) (at + length text)
remains_all buffer at text = record { ends = refl; stores = refl }

-- a writer of its first bytes leaves the others
pub remains_after :
    {buffer : List ℕ} {at : ℕ} (first rest : List ℕ) {target after : List ℕ} {end next : ℕ}
    → Remains buffer at (first ++ rest) target end
    → Wrote buffer at first after next
    → Remains after next rest target end
remains_after {buffer} {at} first rest remains wrote =
    record {
      ends = omega (arith, remains.ends, wrote.0, length-append first rest);
      stores = rw (wrote.1, wrote.0) (sets_append buffer at first rest ∙ remains.stores);
    }

-- where none is left the text is written
pub remains_none :
    (buffer : List ℕ) (at : ℕ) (text : List ℕ) {after : List ℕ} {next : ℕ}
    → Remains after next [] (sets buffer at text) (at + length text)
    → Wrote buffer at text after next
remains_none buffer at text {after} {next} remains = (sym (add-zero next) ∙ remains.ends, remains.stores)

-- no store changes the buffer's length
pub remains_length :
    (buffer : List ℕ) (at : ℕ) (text : List ℕ) {after rest : List ℕ} {next end : ℕ}
    → Remains after next rest (sets buffer at text) end
    → length after ≡ length buffer
remains_length buffer at text {after} {rest} {next} remains =
    sym (length-sets after next rest) ∙ ap length remains.stores ∙ length-sets buffer at text

-- the rest by an equal list
pub remains_as :
    {buffer rest same target : List ℕ} {at end : ℕ} → rest ≡ same → Remains buffer at rest target end → Remains buffer at same target end
remains_as {buffer} {rest} {same} {target} {at} {end} is remains = subst (λ (left : List ℕ). Remains buffer at left target end) is remains

-- ---- lines

pub followed_append : (lines more : List (List ℕ)) → followed (lines ++ more) ≡ followed lines ++ followed more
unfolding followed bytes_of
followed_append [] more = refl
followed_append (line ∷ lines) more =
    ap (λ (rest : List ℕ). bytes_of "\n" ++ line ++ rest) (followed_append lines more) ∙ sym (append_assoc (bytes_of "\n" ++ line) (followed lines) (followed more))

-- the lines of the indices from one on, up to a total
abbrev pub rest_from : (ℕ → List ℕ) → ℕ → ℕ → List ℕ
rest_from line total index = followed (lines_from line (total - index) index)

rest_next :
    (line : ℕ → List ℕ) (total index : ℕ) → index < total
    → rest_from line total index ≡ (bytes_of "\n" ++ line index) ++ rest_from line total (index + 1)
unfolding followed lines_from
rest_next line total index below =
    let one_less : total - index ≡ suc (total - (index + 1)) = omega arith in
    ap (λ (left : ℕ). followed (lines_from line left index)) one_less

rest_none : (line : ℕ → List ℕ) (total index : ℕ) → total ≤ index → rest_from line total index ≡ []
unfolding followed lines_from
rest_none line total index past =
    let none : total - index ≡ 0 = omega arith in
    ap (λ (left : ℕ). followed (lines_from line left index)) none

-- at first all lines are left
pub lines_begun :
    (line : ℕ → List ℕ) (total : ℕ) (buffer : List ℕ) (at : ℕ)
    → Writing buffer at (followed (lines_from line total 0)) (rest_from line total 0) buffer at
lines_begun line total buffer at =
    let whole : total ≡ total - 0 = omega arith in
    remains_as (ap (λ (left : ℕ). followed (lines_from line left 0)) whole) (remains_all buffer at (followed (lines_from line total 0)))

-- one line more: it has room before the end, and once it is written those after it are left
module _ (line : ℕ → List ℕ) (total index : ℕ) where
  pub line_room :
      {buffer target : List ℕ} {at end : ℕ}
      → index < total
      → Remains buffer at (rest_from line total index) target end
      → at + length (bytes_of "\n" ++ line index) ≤ end
  line_room below remains =
      let left = rest_from line total (index + 1) in
      omega (arith, remains.ends, ap length (rest_next line total index below), length-append (bytes_of "\n" ++ line index) left)

  pub line_written :
      {buffer target after : List ℕ} {at end next : ℕ}
      → index < total
      → Remains buffer at (rest_from line total index) target end
      → Wrote buffer at (bytes_of "\n" ++ line index) after next
      → Remains after next (rest_from line total (index + 1)) target end
  line_written below remains wrote =
      remains_after (bytes_of "\n" ++ line index) (rest_from line total (index + 1)) (remains_as (rest_next line total index below) remains) wrote

  -- past the last line all are written
  pub lines_written :
      (buffer : List ℕ) (at : ℕ) (text : List ℕ) {after : List ℕ} {next : ℕ}
      → total ≤ index
      → Writing buffer at text (rest_from line total index) after next
      → Wrote buffer at text after next
  lines_written buffer at text past remains = remains_none buffer at text (remains_as (rest_none line total index past) remains)
