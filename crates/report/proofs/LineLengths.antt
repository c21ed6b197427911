-- How long the lines are at most. Assumes nothing.
use Rattle.std.specs.Prelude.{Ok, Err}
use Prim.Native.Nat.{ℕ, zero, suc, ◌+◌, ◌*◌, ◌/◌, ◌≤◌, ◌<◌}
use Prim.Native.String.{String}
use mathlib.Core.Bool.{Bool, true, false, cond, ◌&&◌}
use mathlib.Core.List.{List, ◌++◌}
use mathlib.Core.Path.{◌≡◌}
use native.Mathlib.Nat.{min-le_left, mul-le-mul_left, mul-suc}
use native.Mathlib.Omega.{arith}
use lib.Dec.{eqb, leb}
use lib.ListN.{drop, length, length-append, length-take}
use borrow.Author.Tests.{leb-true, lt-ltb}
use Rattle.lists.specs.Ascii.{bytes_of}
use Rattle.lists.specs.Part.{part}
use Rattle.plan.specs.declared.Plan.{Plan}
use Rattle.plan.specs.Limits.{most_domains}
use Rattle.plan.specs.Sums.{all_below}
use Rattle.plan.proofs.Sums.{all_below_lem}
use Rattle.lists.proofs.Tests.{both}
use Rattle.script.specs.Limits.{most_ops}
use Rattle.lexer.specs.Decimal.{decimal_of}
use Rattle.lexer.proofs.Decimals.{decimal_most}
use Rattle.records.specs.Records.{log_part, part_records, record_index, record_size}
use Rattle.state.specs.declared.State.{State}
use Rattle.state.specs.StateValidity.{clock_valid, domain_counts_valid, state_valid}
use Rattle.state.specs.World.{position_at, records_at}
use Rattle.engine.specs.Checks.{log_verdict}
use Rattle.engine.specs.LogQuery.{log_from, log_query_of}
use Rattle.report.specs.Limits.{most_decimal, most_kind_word, most_seen_line}
use Rattle.report.specs.Lines.{clock_at, domain_lines, kind_and_value, kind_at, kind_word, pair_line, record_lines}
use Rattle.report.specs.Lines.{seen_line, seen_lines, value_at}
use Rattle.refusal.specs.Verdict.{Verdict}

-- ---- one line

-- a word and a number behind it
pub numbered_limit : (word : List ℕ) (number : ℕ) → length (word ++ decimal_of number) ≤ length word + most_decimal
numbered_limit word number = simp length-append (omega (arith, decimal_most number))

-- the word of a kind
either_limit :
    (test : Bool) (one other : String)
    → length (bytes_of one) ≤ most_kind_word
    → length (bytes_of other) ≤ most_kind_word
    → length (bytes_of (cond test one other)) ≤ most_kind_word
either_limit true one other fits fits-other = fits
either_limit false one other fits fits-other = fits-other

pub word_limit : (kind : ℕ) → length (bytes_of (kind_word kind)) ≤ most_kind_word
unfolding bytes_of
word_limit kind =
    either_limit (eqb kind 1) _ _ (omega arith)
    (either_limit (eqb kind 2) _ _ (omega arith)
    (either_limit (eqb kind 3) _ _ (omega arith)
    (either_limit (eqb kind 4) _ _ (omega arith)
    (either_limit (eqb kind 5) _ _ (omega arith)
    (either_limit (eqb kind 6) _ _ (omega arith)
    (either_limit (eqb kind 7) _ _ (omega arith)
    (either_limit (eqb kind 8) _ _ (omega arith)
    (either_limit (eqb kind 9) _ _ (omega arith) (omega arith)))))))))

-- a record's line
seen_limit : (domain : ℕ) (log : List ℕ) (at : ℕ) → length (seen_line domain log at) ≤ most_seen_line
unfolding seen_line kind_and_value bytes_of
seen_limit domain log at =
    simp length-append
    (omega (
      arith,
      decimal_most domain,
      decimal_most (clock_at log at),
      word_limit (kind_at log at),
      decimal_most (value_at log at),
    ))

-- a line of a word and two numbers
pub pair_limit :
    (word : List ℕ) (first second : ℕ) → length (pair_line word first second) ≤ length word + 2 * most_decimal + 3
unfolding pair_line bytes_of
pair_limit word first second = simp length-append (omega (arith, decimal_most first, decimal_most second))

-- ---- the lines of a run

-- those of some records
pub records_limit :
    (domain : ℕ) (log : List ℕ) (count : ℕ) → length (record_lines domain log count) ≤ most_seen_line * count
unfolding record_lines
records_limit domain log zero = omega arith
records_limit domain log (suc count) =
    simp length-append (omega (arith, records_limit domain log count, seen_limit domain log (record_size * count)))

-- a part ends where the next begins, and that is at most the end of the last
pub part_ends : (quota domain domains : ℕ) → domain < domains → quota * domain + quota ≤ quota * domains
part_ends quota domain domains below = omega (arith, mul-suc quota domain, mul-le-mul_left quota below)

-- in a valid state no declared domain has more records than its part holds
records_within :
    (plan : Plan) (quota : ℕ) (state : State) (domain : ℕ)
    → state_valid plan quota state ≡ true
    → domain < plan.domains
    → domain < most_domains
    → records_at state domain ≤ quota
unfolding state_valid domain_counts_valid
records_within plan quota state domain valid declared below =
    let counts = (both (clock_valid plan state) (all_below (domain_counts_valid plan quota state) most_domains) valid).1 in
    let whole = all_below_lem (domain_counts_valid plan quota state) most_domains domain counts below in
    let own : leb (position_at state domain) most_ops && leb (records_at state domain) quota ≡ true =
    rw (lt-ltb domain plan.domains declared) at whole in
    leb-true _ _ (both (leb (position_at state domain) most_ops) (leb (records_at state domain) quota) own).1

module _ (plan : Plan) (state : State) (log : List ℕ)
    (few : plan.domains ≤ most_domains)
    (valid : state_valid plan (part_records plan (length log)) state ≡ true) where
  -- so a log query hands back no more
  pub query_limit :
      (domain : ℕ)
      → domain < plan.domains
      → length (log_query_of plan state log domain) / record_size ≤ part_records plan (length log)
  unfolding log_query_of log_part part
  query_limit domain declared = go (log_verdict plan state log domain)
    where
      quota : ℕ
      quota = part_records plan (length log)

      go : (verdict : Verdict) → length (log_from verdict plan state log domain) / record_size ≤ quota
      go (Err refusal) = omega arith
      go (Ok tt) =
          rw (length-take (record_size * records_at state domain) (drop (record_index quota domain 0) log))
          (omega (
            arith,
            min-le_left (record_size * records_at state domain) (length (drop (record_index quota domain 0) log)),
            records_within plan quota state domain valid declared (omega arith),
          ))

  -- and the first domains have at most a line for each record of their parts
  pub domains_limit :
      (domains : ℕ)
      → domains ≤ plan.domains
      → length (seen_lines plan state log domains) ≤ most_seen_line * (part_records plan (length log) * domains)
  unfolding seen_lines domain_lines
  domains_limit zero within = omega arith
  domains_limit (suc domain) within =
      simp length-append
      (omega (
        arith,
        domains_limit domain (omega arith),
        records_limit domain (log_query_of plan state log domain)
            (length (log_query_of plan state log domain) / record_size),
        query_limit domain (omega arith),
        mul-suc (part_records plan (length log)) domain,
      ))
