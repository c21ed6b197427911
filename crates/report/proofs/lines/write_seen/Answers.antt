-- `report::lines::write_seen` meets its contract. Assumes nothing.
use Prim.Native.Nat.{ℕ}
use mathlib.Core.List.{List, ◌++◌}
use mathlib.Core.Path.{◌≡◌}
use native.Mathlib.Omega.{arith}
use Rattle.lists.proofs.Stores.{wrote_both, wrote_three}
use Rattle.lists.specs.Ascii.{bytes_of}
use Rattle.lexer.specs.Decimal.{decimal_of}
use Rattle.report.specs.Lines.{clock_at, kind_and_value, kind_at, seen_line, value_at}
use Rattle.lists.specs.Writing.{Wrote}
use Rattle.report.proofs.LineLengths.{numbered_limit}
use Rattle.report.proofs.lines.write_seen.Goals as goal

-- the domain, the clock, and from the kind on
seen-written :
    (buffer log : List ℕ) (at domain from clock value : ℕ) {first second third : List ℕ} {next later end : ℕ}
    → clock ≡ clock_at log from
    → value ≡ value_at log from
    → Wrote buffer at (bytes_of "(seen " ++ decimal_of domain) first next
    → Wrote first next (bytes_of " " ++ decimal_of clock) second later
    → Wrote second later (kind_and_value (kind_at log from) value) third end
    → Wrote buffer at (seen_line domain log from) third end
unfolding seen_line
seen-written buffer log at domain from clock value clock_is value-is one two three =
    let numbered = bytes_of "(seen " ++ decimal_of domain in
    rw (← clock_is, ← value-is)
    (wrote_both buffer at (numbered ++ bytes_of " " ++ decimal_of clock) (kind_and_value (kind_at log from) value)
    (wrote_three buffer at numbered (bytes_of " ") (decimal_of clock) one two)
    three)

pub write_numbered-open-requires : goal.write_numbered-open-requires
unfolding bytes_of
write_numbered-open-requires c =
    let args = c.args in
    omega (arith, c.write_numbered-space.ensures.0, numbered_limit (bytes_of "(seen ") args.domain)

pub write_kind_and_value-requires : goal.write_kind_and_value-requires
unfolding bytes_of
write_kind_and_value-requires c =
    let args = c.args in
    omega (
      arith,
      c.write_numbered-space.ensures.0,
      numbered_limit (bytes_of "(seen ") args.domain,
      c.write_numbered-open.ensures.0,
      numbered_limit (bytes_of " ") c.u32_at-clock.result,
    )

pub returns : goal.returns
unfolding bytes_of
returns c =
    let value = c.u16_at-value in
    let clock = c.u32_at-clock in
    let args = c.args in
    seen-written args.out.now args.log.now args.at args.domain args.from
    clock.result
    value.result
    clock.ensures
    value.ensures.0
    c.write_numbered-space.ensures
    c.write_numbered-open.ensures
    c.write_kind_and_value.ensures
