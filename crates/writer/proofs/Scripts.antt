-- The lines of the scripts that are left to write, domain by domain. Assumes nothing.
use Prim.Native.Nat.{ℕ, suc, ◌+◌, ◌-◌, ◌≤◌, ◌<◌}
use mathlib.Core.List.{List, ◌++◌}
use mathlib.Core.Path.{◌≡◌, ap, ◌∙◌}
use native.Mathlib.Omega.{arith}
use lib.ListN.{length, length-append}
use Rattle.lists.specs.Writing.{Wrote}
use Rattle.writer.specs.Canonical.{followed, op_lines_from, script_lines}
use Rattle.writer.proofs.Rest.{Remains, Writing, followed_append, remains_after, remains_all, remains_as, remains_none}

-- those from a domain on, up to a total
abbrev pub scripts_left : List ℕ → ℕ → ℕ → List ℕ
scripts_left scripts total domain = followed (op_lines_from scripts (total - domain) domain)

module _ (scripts : List ℕ) (total : ℕ) where
  -- at first all
  pub scripts_begun : (buffer : List ℕ) (at : ℕ) → Writing buffer at (followed (op_lines_from scripts total 0)) (scripts_left scripts total 0) buffer at
  scripts_begun buffer at =
      let whole : total ≡ total - 0 = omega arith in
      remains_as (ap (λ (left : ℕ). followed (op_lines_from scripts left 0)) whole) (remains_all buffer at (followed (op_lines_from scripts total 0)))

  module _ (domain : ℕ) where
    next : domain < total → scripts_left scripts total domain ≡ followed (script_lines scripts domain) ++ scripts_left scripts total (domain + 1)
    unfolding op_lines_from
    next below =
        let one_less : total - domain ≡ suc (total - (domain + 1)) = omega arith in
        ap (λ (left : ℕ). followed (op_lines_from scripts left domain)) one_less
        ∙ followed_append (script_lines scripts domain) (op_lines_from scripts (total - (domain + 1)) (domain + 1))

    -- one script more: it has room before the end, and once it is written those after it are left
    pub script_room :
        {buffer target : List ℕ} {at end : ℕ}
        → domain < total
        → Remains buffer at (scripts_left scripts total domain) target end
        → at + length (followed (script_lines scripts domain)) ≤ end
    script_room below remains =
        omega (arith, remains.ends, ap length (next below), length-append (followed (script_lines scripts domain)) (scripts_left scripts total (domain + 1)))

    pub script_written :
        {buffer target after : List ℕ} {at end following : ℕ}
        → domain < total
        → Remains buffer at (scripts_left scripts total domain) target end
        → Wrote buffer at (followed (script_lines scripts domain)) after following
        → Remains after following (scripts_left scripts total (domain + 1)) target end
    script_written below remains wrote =
        remains_after (followed (script_lines scripts domain)) (scripts_left scripts total (domain + 1)) (remains_as (next below) remains) wrote

    -- past the last domain all are written
    pub scripts_written :
        (buffer : List ℕ) (at : ℕ) (text : List ℕ) {after : List ℕ} {following : ℕ}
        → total ≤ domain
        → Writing buffer at text (scripts_left scripts total domain) after following
        → Wrote buffer at text after following
    unfolding op_lines_from followed
    scripts_written buffer at text past remains =
        let none : total - domain ≡ 0 = omega arith in
        remains_none buffer at text (remains_as (ap (λ (left : ℕ). followed (op_lines_from scripts left domain)) none) remains)
