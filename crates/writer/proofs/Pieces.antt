-- Lines written piece by piece are the lines. Assumes nothing.
use Prim.Native.Nat.{ℕ}
use mathlib.Core.List.{List, ◌++◌, append_assoc}
use mathlib.Core.Path.{◌≡◌}
use Rattle.lists.specs.Ascii.{bytes_of}
use Rattle.lists.proofs.Stores.{wrote_as, wrote_both}
use Rattle.lexer.specs.Decimal.{decimal_of}
use Rattle.lists.specs.Writing.{Wrote}
use Rattle.script.specs.declared.Op.{Op}
use Rattle.writer.specs.Lines.{domain_text, op_line, op_text, recipients_of, run_text, spaced, window_text}
use Rattle.writer.proofs.Lengths.{fed}

module _ (buffer : List ℕ) (at : ℕ) where
  pub run_wrote :
      (times : ℕ) {one after : List ℕ} {next end : ℕ}
      → Wrote buffer at (bytes_of "\n(run " ++ decimal_of times) one next
      → Wrote one next (bytes_of ")") after end
      → Wrote buffer at (fed (run_text times)) after end
  unfolding bytes_of
  run_wrote times first second =
      let head = bytes_of "\n(run " ++ decimal_of times in
      let line : head ++ bytes_of ")" ≡ fed (run_text times) = simp append_assoc in
      wrote_as buffer at line (wrote_both buffer at head (bytes_of ")") first second)

  pub window_wrote :
      (owner ticks : ℕ) {one two after : List ℕ} {next last end : ℕ}
      → Wrote buffer at (bytes_of "\n(window " ++ decimal_of owner) one next
      → Wrote one next (bytes_of "(length " ++ decimal_of ticks) two last
      → Wrote two last (bytes_of "))") after end
      → Wrote buffer at (fed (window_text owner ticks)) after end
  unfolding bytes_of
  window_wrote owner ticks first second third =
      let head = bytes_of "\n(window " ++ decimal_of owner in
      let tail = bytes_of "(length " ++ decimal_of ticks in
      let line : head ++ tail ++ bytes_of "))" ≡ fed (window_text owner ticks) = simp append_assoc in
      wrote_as buffer at line (wrote_both buffer at (head ++ tail) (bytes_of "))") (wrote_both buffer at head tail first second) third)

  pub op_wrote :
      (domain : ℕ) (op : Op) {one two after : List ℕ} {next last end : ℕ}
      → Wrote buffer at (bytes_of "\n(op " ++ decimal_of domain) one next
      → Wrote one next (op_text op) two last
      → Wrote two last (bytes_of "))") after end
      → Wrote buffer at (fed (op_line domain op)) after end
  unfolding bytes_of op_line
  op_wrote domain op first second third =
      let head = bytes_of "\n(op " ++ decimal_of domain in
      let line : head ++ op_text op ++ bytes_of "))" ≡ fed (op_line domain op) = simp append_assoc in
      wrote_as buffer at line (wrote_both buffer at (head ++ op_text op) (bytes_of "))") (wrote_both buffer at head (op_text op) first second) third)

  pub domain_wrote :
      (domain share rights : ℕ) {one two three four after : List ℕ} {next second third last end : ℕ}
      → Wrote buffer at (bytes_of "\n(domain " ++ decimal_of domain) one next
      → Wrote one next (bytes_of "(share " ++ decimal_of share) two second
      → Wrote two second (bytes_of ")(may") three third
      → Wrote three third (spaced (recipients_of rights)) four last
      → Wrote four last (bytes_of "))") after end
      → Wrote buffer at (fed (domain_text domain share rights)) after end
  unfolding bytes_of
  domain_wrote domain share rights a b c d e =
      let number = bytes_of "\n(domain " ++ decimal_of domain in
      let shared = number ++ (bytes_of "(share " ++ decimal_of share) in
      let worded = shared ++ bytes_of ")(may" in
      let listed = worded ++ spaced (recipients_of rights) in
      let line : listed ++ bytes_of "))" ≡ fed (domain_text domain share rights) = simp append_assoc in
      wrote_as buffer at line
      (wrote_both buffer at listed (bytes_of "))")
      (wrote_both buffer at worded (spaced (recipients_of rights))
      (wrote_both buffer at shared (bytes_of ")(may") (wrote_both buffer at number (bytes_of "(share " ++ decimal_of share) a b) c) d) e)
