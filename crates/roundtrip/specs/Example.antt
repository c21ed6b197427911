-- A plan with scripts and their text, written out; and a plan with scripts that no text gives. Assumes nothing.
use Rattle.std.specs.Prelude.{ℕ, ◌*◌, true, List, [], ◌∷◌, ◌++◌, ◌≡◌, length, replicate, set}
use Rattle.lists.specs.Ascii.{bytes_of}
use Rattle.plan.specs.declared.Plan.{Plan}
use Rattle.plan.specs.Limits.{most_domains, most_windows}
use Rattle.plan.specs.Validity.{plan_valid}
use Rattle.script.specs.declared.Op.TheVariants.{Read, Send, Compute}
use Rattle.script.specs.Limits.{most_ops, scripts_length}
use Rattle.script.specs.Stored.{stored_of}
use Rattle.reader.specs.Draft.{no_ops}
use Rattle.writer.specs.Scripts.{ops_alone}
use Rattle.roundtrip.specs.Theorems.{GivenBoth}

-- three domains with 6, 5 and 1 colours, of which the first may send to both others and the last to the first
unfoldable pub written_plan : Plan
written_plan =
    record {
      pad = 376;
      run = 10;
      domains = 3;
      windows = 3;
      shares = (400 ∷ 300 ∷ 34 ∷ []) ++ replicate 5 0;
      rights = (6 ∷ 0 ∷ 1 ∷ []) ++ replicate 5 0;
      owners = (0 ∷ 1 ∷ 2 ∷ []) ++ replicate 29 0;
      lengths = (400 ∷ 1_000_000 ∷ 5 ∷ []) ++ replicate 29 0;
      masks = (63 ∷ 1_984 ∷ 2_048 ∷ []) ++ replicate 5 0;
    }

-- its scripts: the first domain reads and sends, and the last computes
unfoldable pub written_scripts : List ℕ
written_scripts =
    set (set (set no_ops 0 (stored_of (Read 3))) 1 (stored_of (Send 1 77))) (most_ops * 2) (stored_of (Compute 9))

-- the text of both
abbrev pub written_text : List ℕ
written_text =
    bytes_of "(pad 376)\n(domain 0(share 400)(may 1 2))\n(domain 1(share 300)(may))\n(domain 2(share 34)(may 0))\n"
    ++ bytes_of "(window 0(length 400))\n(window 1(length 1000000))\n(window 2(length 5))\n(run 10)\n"
    ++ bytes_of "(op 0(read 3))\n(op 0(send 1 77))\n(op 2(compute 9))"

-- ---- a pair that no text gives, though its plan is valid and its store holds ops alone

-- eight domains with a colour each, and one window
unfoldable pub eight_domains : Plan
eight_domains =
    record {
      pad = 376;
      run = 1;
      domains = 8;
      windows = 1;
      shares = replicate most_domains 67;
      rights = replicate most_domains 0;
      owners = replicate most_windows 0;
      lengths = 1 ∷ replicate 31 0;
      masks = 1 ∷ 2 ∷ 4 ∷ 8 ∷ 16 ∷ 32 ∷ 64 ∷ 128 ∷ [];
    }

-- at every index of the store the op whose line is longest
unfoldable pub all_sends : List ℕ
all_sends = replicate scripts_length (stored_of (Send 7 65_535))

-- its canonical text, and so every text that gives it, would have over 32,768 bytes
pub record TooLongAlone : Type 0 where
  pub possible : plan_valid eight_domains ≡ true
  pub store : length all_sends ≡ scripts_length
  pub alone : ops_alone eight_domains all_sends ≡ true
  pub none : GivenBoth eight_domains all_sends → ⊥
