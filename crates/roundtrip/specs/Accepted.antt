-- Document 01, "Two lists of calls": an *accepted plan* is one that the reader gives with 0, 0, and 12
-- refuses every other. Assumes nothing.
use Rattle.std.specs.Prelude.{ℕ, Bool, true, List, ◌↔◌, ◌≡◌, ltb, length, Ok}
use Rattle.lexer.specs.Scan.{all_bytes}
use Rattle.plan.specs.declared.Plan.{Plan}
use Rattle.plan.specs.Limits.{most_domains, most_windows}
use Rattle.plan.specs.Validity.{plan_valid}
use Rattle.reader.specs.Read.{read_of}

-- what a plan value is known to be by its type: its arrays have an entry for each domain, and one for
-- each window, that there can be. So has every plan value of the code.
pub record Shaped (plan : Plan) : Type 0 where
  pub shares : length plan.shares ≡ most_domains
  pub rights : length plan.rights ≡ most_domains
  pub masks : length plan.masks ≡ most_domains
  pub owners : length plan.owners ≡ most_windows
  pub lengths : length plan.lengths ≡ most_windows

-- a number that a byte holds
abbrev pub is_byte : ℕ → Bool
is_byte number = ltb number 256

-- an accepted plan: some text, read into some script store, gives it and is not refused
pub record Given (plan : Plan) : Type 0 where
  pub text : List ℕ
  pub bytes : all_bytes is_byte text ≡ true
  pub scripts : List ℕ
  pub accepted : (read_of text scripts).verdict ≡ Ok tt
  pub gives : (read_of text scripts).plan ≡ plan

-- plan validity (12) both ways: the valid plans are the accepted ones, and none besides
abbrev pub OneMeaning : Type 0
OneMeaning = (plan : Plan) → Shaped plan → (plan_valid plan ≡ true) ↔ Given plan
