-- Document 02, E4: the plan that document 01 runs, written back; another spelling of it; and what is refused.
-- Assumes nothing.
use Rattle.std.specs.Prelude.{ℕ, ◌+◌, ◌*◌, List, [], ◌∷◌, ◌++◌, ◌≡◌, length, replicate, set, take, Ok, Err}
use Rattle.lists.specs.Ascii.{bytes_of}
use Rattle.plan.specs.Zeros.{no_plan}
use Rattle.script.specs.declared.Op.TheVariants.{Compute}
use Rattle.script.specs.Limits.{most_ops}
use Rattle.script.specs.Stored.{stored_of}
use Rattle.reader.specs.Draft.{no_ops}
use Rattle.reader.specs.Read.{read_of}
use Rattle.refusal.specs.declared.Refusal.{Refusal}
use Rattle.refusal.specs.declared.Refusal.TheVariants.{BufferTooShort, ImpossiblePlan, WrongLength}
use Rattle.writer.specs.Write.{WriteOutcome, write_of, write_with}
use Rattle.worked_example.specs.Example.{text_of}
use Rattle.worked_example.specs.WorkedExample.{example_read}

-- the example in the single form
abbrev pub canonical_example : List ℕ
canonical_example =
    bytes_of "(pad 376)\n(domain 0(share 400)(may 1))\n(domain 1(share 300)(may))\n"
    ++ bytes_of "(window 0(length 400))\n(window 1(length 300))\n(run 1)\n"
    ++ bytes_of "(op 0(write 3))\n(op 0(read 3))\n(op 0(send 1 77))\n(op 1(receive 0))\n(op 1(read 100))"

-- the same in another order of lines, with more spaces, leading zeros and a line without a token
abbrev pub other_spelling : List ℕ
other_spelling =
    text_of
    ("(run 01)"
    ∷ "( domain 00 (share 0400) ( may 001 ) )"
    ∷ "(op 0 (write 3))"
    ∷ "(domain 1(share 300)(may))"
    ∷ "(op 1 (receive 0))"
    ∷ "  (window 0 (length 400))"
    ∷ " "
    ∷ "(pad 0000000376)"
    ∷ "(op 0 (read 3))"
    ∷ "(op 1(read 0100))"
    ∷ "(window 1 (length 300))"
    ∷ "(op  0  (send  1  77))"
    ∷ [])

-- a buffer of some bytes, each the same and none of a plan text
abbrev pub room : ℕ → List ℕ
room bytes = replicate bytes 35

-- what is answered for the example's plan with other scripts, and for the example
abbrev pub written_with : List ℕ → List ℕ → WriteOutcome
written_with scripts out = write_of example_read.plan scripts out

abbrev pub written : ℕ → WriteOutcome
written bytes = written_with example_read.scripts (room bytes)

-- a refusal, which leaves the buffer
abbrev pub refused_with : Refusal → List ℕ → WriteOutcome
refused_with refusal out = write_with (Err refusal) 0 out

-- the example's scripts with another number at a position of a domain's part
abbrev pub scripts_with : ℕ → ℕ → ℕ → List ℕ
scripts_with domain position number = set example_read.scripts (most_ops * domain + position) number

pub record WriteExamples : Type 0 where
  -- 203 bytes, where there is room for them; past them the buffer stays
  pub long : length canonical_example ≡ 203
  pub exact : written 203 ≡ write_with (Ok tt) 203 canonical_example
  pub longer : written 206 ≡ write_with (Ok tt) 203 (canonical_example ++ room 3)
  -- a byte less is refused with the length that is needed, and the buffer stays
  pub shorter : written 202 ≡ refused_with (BufferTooShort 203) (room 202)
  pub none : written 0 ≡ refused_with (BufferTooShort 203) []
  -- the other spelling gives the same plan and scripts, and so the same text
  pub respelled : read_of other_spelling no_ops ≡ example_read
  -- domain 1 has two ops: one behind its end is refused, and so is a number there that no op gives
  pub behind_end : written_with (scripts_with 1 3 (stored_of (Compute 1))) (room 300) ≡ refused_with ImpossiblePlan (room 300)
  pub at_end : written_with (scripts_with 1 2 7) (room 300) ≡ refused_with ImpossiblePlan (room 300)
  -- so is an op of a domain that is not declared, also where there is no room
  pub undeclared : written_with (scripts_with 2 0 (stored_of (Compute 1))) [] ≡ refused_with ImpossiblePlan []
  -- and the impossible plan; a store of one number less before it
  pub impossible : write_of no_plan example_read.scripts [] ≡ refused_with ImpossiblePlan []
  pub short_store : write_of no_plan (take 2_047 example_read.scripts) [] ≡ refused_with WrongLength []
