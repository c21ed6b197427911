-- Document 01, "Settled numbers": the plan that is run there, and what is printed for it, line by
-- line. Assumes nothing.
use Rattle.std.specs.Prelude.{ℕ, List, [], ◌∷◌, ◌++◌}
use Prim.Native.String.{String}
use Rattle.lists.specs.Ascii.{bytes_of}

-- the bytes of some lines, a LF after each
unfoldable pub text_of : List String → List ℕ
text_of [] = []
text_of (line ∷ lines) = bytes_of line ++ (bytes_of "\n" ++ text_of lines)

-- the plan, with a first line of one's own for its pad
abbrev pub plan_with_pad_line : String → List ℕ
plan_with_pad_line pad_line =
    text_of
    (pad_line
    ∷ "(domain 0 (share 400) (may 1))"
    ∷ "(domain 1 (share 300) (may))"
    ∷ "(window 0 (length 400))"
    ∷ "(window 1 (length 300))"
    ∷ "(run 1)"
    ∷ "(op 0 (write 3))"
    ∷ "(op 0 (read 3))"
    ∷ "(op 0 (send 1 77))"
    ∷ "(op 1 (receive 0))"
    ∷ "(op 1 (read 100))"
    ∷ [])

-- the plan as it is run
abbrev pub example_plan : List ℕ
example_plan = plan_with_pad_line "(pad 376)"

-- what is printed for it
abbrev pub example_output : List ℕ
example_output =
    text_of
    ("(seen 0 100 (miss 3))"
    ∷ "(seen 0 101 (hit1 3))"
    ∷ "(seen 0 306 (sent 1))"
    ∷ "(seen 1 882 (got 77))"
    ∷ "(seen 1 982 (miss 100))"
    ∷ "(end 2 1452)"
    ∷ [])
