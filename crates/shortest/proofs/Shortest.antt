-- Document 02, E4: no accepted text is shorter than the canonical text of what it gives, and the store that it leaves holds its ops
-- alone. Assumes nothing.
use Rattle.std.specs.Prelude.{Ok}
use Prim.Native.Nat.{ℕ, zero, suc, ◌+◌, ◌≤◌, ◌<◌}
use native.Mathlib.Omega.{arith}
use mathlib.Core.Bool.{true, ◌||◌}
use mathlib.Core.List.{List, [], ◌∷◌, ◌++◌}
use mathlib.Core.Path.{◌≡◌, refl, ap, ◌∙◌}
use lib.Dec.{eqb}
use lib.ListN.{length, length-append}
use borrow.Author.Tests.{eqb-false, ne_eqb}
use Rattle.lists.specs.Ascii.{bytes_of}
use Rattle.plan.specs.declared.Plan.{Plan}
use Rattle.plan.specs.Limits.{most_domains}
use Rattle.plan.specs.Parts.{with_masks}
use Rattle.plan.specs.Sums.{sum_to}
use Rattle.plan.proofs.Sums.{sum_mono, sum_more}
use Rattle.reader.specs.declared.Draft.{Draft}
use Rattle.reader.specs.Final.{plan_with_masks}
use Rattle.reader.specs.Read.{lines_of, read_of}
use Rattle.reader.proofs.Accepted.{read_holds}
use Rattle.reader.proofs.LastChecks.{Passes, passes}
use Rattle.refusal.proofs.Passed.{not_refused}
use Rattle.syntax.proofs.Choices.{neither}
use Rattle.writer.specs.Canonical.{canonical_lines, canonical_text, followed, joined, lines_from, op_lines_from, plan_lines, script_line, script_lines}
use Rattle.writer.specs.Lines.{domain_line, pad_line, run_line, window_line}
use Rattle.writer.specs.Scripts.{ops_alone}
use Rattle.writer.proofs.Rest.{followed_append}
use Rattle.shortest.specs.Theorems.{NoneShorter}
use Rattle.shortest.proofs.Potential.{domain_bytes, op_bytes, pad_bytes, position_bytes, run_bytes, window_bytes}
use Rattle.shortest.proofs.Store.{Stored, stored_alone, stored_ops_lem}
use Rattle.shortest.proofs.Walk.{Holds, lines_hold}

-- ---- lines and sums

-- the lines of a rule from an index on, with the bytes of those before it, have the bytes of all
lines_bytes :
    (line : ℕ → List ℕ) (bytes : ℕ → ℕ)
    → ((index : ℕ) → bytes index ≡ length (line index) + 1)
    → (left index count : ℕ)
    → index + left ≡ count
    → length (followed (lines_from line left index)) + sum_to bytes index ≡ sum_to bytes count
unfolding lines_from followed bytes_of
lines_bytes line bytes each zero index count all =
    let last : index ≡ count = omega arith in
    omega (arith, ap (sum_to bytes) last)
lines_bytes line bytes each (suc left) index count all =
    omega (
      arith,
      length-append (line index) (followed (lines_from line left (index + 1))),
      each index,
      sum_more bytes (sum_to bytes index) index refl,
      lines_bytes line bytes each left (index + 1) count (omega arith),
    )

all_bytes_lem :
    (line : ℕ → List ℕ) (bytes : ℕ → ℕ)
    → ((index : ℕ) → bytes index ≡ length (line index) + 1)
    → (count : ℕ)
    → length (followed (lines_from line count 0)) ≡ sum_to bytes count
unfolding sum_to
all_bytes_lem line bytes each count = omega (arith, lines_bytes line bytes each count 0 count (omega arith))

followed_both : (first second : List (List ℕ)) → length (followed (first ++ second)) ≡ length (followed first) + length (followed second)
followed_both first second = ap length (followed_append first second) ∙ length-append (followed first) (followed second)

-- ---- the lines of a plan and of its scripts

domains_bytes :
    (plan : Plan)
    → length (followed (lines_from (domain_line plan) plan.domains 0))
    ≡ sum_to (domain_bytes plan.shares plan.rights) plan.domains
unfolding domain_line domain_bytes
domains_bytes plan = all_bytes_lem (domain_line plan) (domain_bytes plan.shares plan.rights) (λ domain. refl) plan.domains

windows_bytes :
    (plan : Plan)
    → length (followed (lines_from (window_line plan) plan.windows 0))
    ≡ sum_to (window_bytes plan.owners plan.lengths) plan.windows
unfolding window_line window_bytes
windows_bytes plan = all_bytes_lem (window_line plan) (window_bytes plan.owners plan.lengths) (λ slot. refl) plan.windows

module _ (plan : Plan) (counts store : List ℕ) (stored : Stored plan.domains counts store) where
  script_bytes : (domain : ℕ) → length (followed (script_lines store domain)) ≡ op_bytes counts store domain
  unfolding script_lines op_bytes position_bytes
  script_bytes domain =
      rw (stored_ops_lem plan counts store stored domain)
      (all_bytes_lem (script_line store domain) (position_bytes store domain) (λ position. refl) _)

  scripts_bytes :
      (left domain count : ℕ)
      → domain + left ≡ count
      → length (followed (op_lines_from store left domain)) + sum_to (op_bytes counts store) domain ≡ sum_to (op_bytes counts store) count
  unfolding op_lines_from followed
  scripts_bytes zero domain count all =
      let last : domain ≡ count = omega arith in
      omega (arith, ap (sum_to (op_bytes counts store)) last)
  scripts_bytes (suc left) domain count all =
      let bytes = op_bytes counts store in
      omega (
        arith,
        followed_both (script_lines store domain) (op_lines_from store left (domain + 1)),
        script_bytes domain,
        sum_more bytes (sum_to bytes domain) domain refl,
        scripts_bytes left (domain + 1) count (omega arith),
      )

-- ---- the canonical text

-- masks stand in no line
masks_apart : (plan : Plan) (store : List ℕ) → canonical_text (plan_with_masks plan) store ≡ canonical_text plan store
unfolding canonical_text canonical_lines plan_lines pad_line run_line domain_line window_line plan_with_masks with_masks
masks_apart plan store = refl

-- where pad and run are there, it has the bytes so far but for the last line's LF
text_bytes :
    (draft : Draft) (store : List ℕ) (bytes : ℕ)
    → Holds draft store bytes
    → (draft.plan.pad ≡ 0 → ⊥)
    → (draft.plan.run ≡ 0 → ⊥)
    → length (canonical_text draft.plan store) < bytes
unfolding canonical_text canonical_lines plan_lines joined followed bytes_of pad_line run_line pad_bytes run_bytes
text_bytes draft store bytes holds padded runs =
    let plan = draft.plan in
    let domains = lines_from (domain_line plan) plan.domains 0 in
    let windows = lines_from (window_line plan) plan.windows 0 in
    let ops = op_lines_from store plan.domains 0 in
    let before = domains ++ windows in
    let pad : pad_bytes plan.pad ≡ length (pad_line plan) + 1 = rw (ne_eqb plan.pad 0 padded) in
    let run : run_bytes plan.run ≡ length (run_line plan) + 1 = rw (ne_eqb plan.run 0 runs) in
    let most = holds.most in
    let few = holds.good.domains.most in
    omega (
      arith,
      length-append (pad_line plan) (followed (before ++ (run_line plan ∷ []) ++ ops)),
      followed_both (before ++ (run_line plan ∷ [])) ops,
      followed_both before (run_line plan ∷ []),
      followed_both domains windows,
      length-append (run_line plan) [],
      domains_bytes plan,
      windows_bytes plan,
      scripts_bytes plan draft.counts store holds.stored plan.domains 0 plan.domains (omega arith),
      sum_mono (op_bytes draft.counts store) plan.domains most_domains few,
    )

-- ---- a text that is accepted

present : (draft : Draft) → Passes draft → (draft.plan.pad ≡ 0 → ⊥) × (draft.plan.run ≡ 0 → ⊥)
present draft fine =
    let pad = eqb draft.plan.pad 0 in
    let domains = eqb draft.plan.domains 0 in
    let windows = eqb draft.plan.windows 0 in
    let third = neither (pad || domains || windows) _ fine.nothing_lacking in
    let first = neither pad _ (neither (pad || domains) _ third.0).0 in
    (eqb-false _ _ first.0, eqb-false _ _ third.1)

-- an accepted text is no shorter than the canonical text of what it gives
no_longer :
    (text scripts : List ℕ)
    → (read_of text scripts).verdict ≡ Ok tt
    → length (canonical_text (read_of text scripts).plan (read_of text scripts).scripts) ≤ length text
no_longer text scripts =
    read_holds
    (λ read. read.verdict ≡ Ok tt → length (canonical_text read.plan read.scripts) ≤ length text) text scripts
    (λ why accepted. absurd (not_refused why accepted))
    (λ fits final _.
    let lines = lines_of text in
    let there = present lines.draft (passes (length text) lines.draft final) in
    omega (
      arith,
      text_bytes lines.draft lines.store (length text + 1) (lines_hold text) there.0 there.1,
      ap length (masks_apart lines.draft.plan lines.store),
    ))

pub none_shorter : NoneShorter
none_shorter text scripts accepted = omega (arith, no_longer text scripts accepted)

-- what an accepted text leaves in the store are its ops alone
pub read_alone :
    (text scripts : List ℕ)
    → (read_of text scripts).verdict ≡ Ok tt
    → ops_alone (read_of text scripts).plan (read_of text scripts).scripts ≡ true
unfolding plan_with_masks with_masks
read_alone text scripts =
    read_holds
    (λ read. read.verdict ≡ Ok tt → ops_alone read.plan read.scripts ≡ true) text scripts
    (λ why accepted. absurd (not_refused why accepted))
    (λ fits final _.
    let lines = lines_of text in
    stored_alone (plan_with_masks lines.draft.plan) lines.draft.counts lines.store (lines_hold text).stored)
