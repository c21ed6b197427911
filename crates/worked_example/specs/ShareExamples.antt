-- Document 02, E2: its examples, from shares to colours and from a plan's text to its refusal (16), and
-- some of ours for the total's limit and the order of the checks. Assumes nothing.
use Rattle.std.specs.Prelude.{ℕ, ◌+◌, List, [], ◌∷◌, ◌++◌, ◌≡◌, replicate}
use Rattle.lists.specs.Ascii.{bytes_of}
use Rattle.plan.specs.Colours.{colours_of}
use Rattle.lexer.specs.Decimal.{decimal_of}
use Rattle.refusal.specs.Code.{code_with}
use Rattle.worked_example.specs.Example.{text_of}
use Rattle.worked_example.specs.WorkedExample.{read_code}

-- the lines of domains from a number on, with these shares and no recipients
unfoldable pub share_lines : ℕ → List ℕ → List ℕ
share_lines domain [] = []
share_lines domain (share ∷ shares) =
    bytes_of "(domain "
    ++ (decimal_of domain
    ++ (bytes_of " (share "
    ++ (decimal_of share ++ (bytes_of ") (may))\n" ++ share_lines (domain + 1) shares))))

-- a plan of one window whose domains have these shares
abbrev pub plan_with_shares : List ℕ → List ℕ
plan_with_shares shares =
    text_of ("(pad 376)" ∷ [])
    ++ (share_lines 0 shares ++ text_of ("(window 0 (length 1))" ∷ "(run 1)" ∷ []))

pub record ShareExamples : Type 0 where
  -- 300 gives 5, 100 gives 2, both exact halves; 33 gives none and 34 one
  pub shares :
      (colours_of 300 ≡ 5) × (colours_of 100 ≡ 2) × (colours_of 33 ≡ 0) × (colours_of 34 ≡ 1)
  -- eight shares of 125 give sixteen colours
  pub eight_equal : read_code (plan_with_shares (replicate 8 125)) ≡ code_with 16 16
  -- the greatest total: seven exact halves of 100 and one of 300
  pub greatest_total : read_code (plan_with_shares (300 ∷ replicate 7 100)) ≡ code_with 16 19
  -- fifteen colours are not too many
  pub fifteen : read_code (plan_with_shares (966 ∷ 34 ∷ [])) ≡ code_with 0 0
  -- after 7: two shares of 1,001 together that would give sixteen colours
  pub shares_first : read_code (plan_with_shares (500 ∷ 501 ∷ [])) ≡ code_with 7 1_001
  -- before 6: domain 0's share gives none, and the others' seventeen
  pub colourless_after : read_code (plan_with_shares (33 ∷ 300 ∷ replicate 6 100)) ≡ code_with 16 17
