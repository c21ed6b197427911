-- A line of a written text: its opening bracket, the word that opens its form, the form itself, its closing bracket and its end. What a form says is
-- left to the form's own law. Assumes nothing.
use Rattle.std.specs.Prelude.{Result, Ok}
use Prim.Native.Nat.{ℕ, ◌+◌, ◌<◌}
use mathlib.Core.Bool.{Bool, true, false}
use mathlib.Core.List.{List, [], ◌∷◌, ◌++◌}
use mathlib.Core.Path.{◌≡◌, refl, ap, subst⁻¹, ◌∙◌}
use lib.ListN.{drop, length}
use Rattle.forms.specs.declared.Form.{Form}
use Rattle.line.specs.declared.Line.{Line}
use Rattle.line.specs.Lines.{closed_line, form_keywords, form_line, line_at, line_with, refused_line, token_line}
use Rattle.refusal.specs.declared.Refusal.{Refusal}
use Rattle.refusal.specs.declared.Refusal.TheVariants.{BrokenShape}
use Rattle.syntax.specs.Keywords.{Keyword, follows, one_of}
use Rattle.syntax.specs.Tokens.{same_bytes}
use Rattle.lexer.specs.Bytes.{ends_run, is_letter}
use Rattle.lexer.specs.Scan.{all_bytes}
use Rattle.lexer.proofs.Scanned.{left_next, left_past, open_token, stops_at}
use Rattle.lexer.proofs.Spelled.{word_token}
use Rattle.writer.specs.Canonical.{followed}
use Rattle.roundtrip.proofs.Due.{close_goes, line_end_goes, then_goes, word_compared}

-- a form is parsed, and this is left past it
pub record Within (text rest : List ℕ) (form : Form) (parse : Result (Form × ℕ) Refusal) : Type 0 where
  pub end : ℕ
  pub is : parse ≡ Ok (form, end)
  pub left : drop end text ≡ rest

-- a line gives this form, and this is left from its end on
pub record Reads (text rest : List ℕ) (form : Form) (named : List ℕ) (line : Line) : Type 0 where
  pub bracket : ℕ
  pub end : ℕ
  pub is : line ≡ line_with bracket named form end
  pub left : drop end text ≡ rest

-- a form and its closing bracket, up to the line's end
pub closed_reads :
    (text : List ℕ) (bracket : ℕ) (named : List ℕ) (form : Form) (parse : Result (Form × ℕ) Refusal) (more : List (List ℕ))
    → Within text (41 ∷ followed more) form parse
    → Reads text (followed more) form named (closed_line text bracket named parse)
unfolding closed_line
closed_reads text bracket named form parse more within =
    let closed = close_goes text within.end (followed more) within.left in
    let ended = line_end_goes text closed.end more closed.left in
    record {
      bracket = bracket;
      end = ended.end;
      is =
          ap (closed_line text bracket named) within.is
          ∙ then_goes closed (refused_line bracket named) _
          ∙ then_goes ended (refused_line bracket named) _;
      left = ended.left;
    }

-- ---- the word

-- what follows the keyword that a word is
unfoldable pub selected : {A : Type 0} → List (Keyword A) → List ℕ → ℕ → ℕ → (Refusal → A) → A
selected [] word start end refused = refused (BrokenShape start)
selected (keyword ∷ others) word start end refused =
    elim (same_bytes word keyword.word) [
      | true ↦ keyword.follow end
      | false ↦ selected others word start end refused
    ]

module _ {A : Type 0} (text : List ℕ) (at : ℕ) (word rest : List ℕ) (refused : Refusal → A) (left : drop at text ≡ word ++ rest) where
  follows_selected : (keywords : List (Keyword A))
      → follows keywords text at (at + length word) refused ≡ selected keywords word at (at + length word) refused
  unfolding follows selected
  follows_selected [] = refl
  follows_selected (keyword ∷ others) =
      rw (word_compared text at word rest keyword.word left, follows) (go (same_bytes word keyword.word) (follows_selected others))
    where
      end : ℕ
      end = at + length word

      go : (test : Bool)
          → follows others text at end refused ≡ selected others word at end refused
          → ◌≡◌ {A = A} (elim test [ true ↦ keyword.follow end | false ↦ follows others text at end refused ])
          (elim test [ true ↦ keyword.follow end | false ↦ selected others word at end refused ])
      go true same = refl
      go false same = same

  pub one_of_selected : (keywords : List (Keyword A))
      → 0 < length word
      → all_bytes is_letter word ≡ true
      → stops_at ends_run rest ≡ true
      → one_of keywords text at refused ≡ selected keywords word at (at + length word) refused
  one_of_selected keywords some letters ends =
      rw (word_token text at word rest left some letters ends) (follows_selected keywords)

-- the line, by the word that opens its form
pub line_reads :
    (text : List ℕ) (at declared : ℕ) (named word rest : List ℕ) (form : Form) (later : List ℕ) (more : List (List ℕ))
    → drop at text ≡ 40 ∷ word ++ rest
    → 0 < length word
    → all_bytes is_letter word ≡ true
    → stops_at ends_run rest ≡ true
    → (drop (at + 1 + length word) text ≡ rest
    → Reads text (followed more) form later
    (selected (form_keywords text declared named at) word (at + 1) (at + 1 + length word) (refused_line at named)))
    → Reads text (followed more) form later (line_at text declared named at)
unfolding line_at form_line
line_reads text at declared named word rest form later more left some letters ends inner =
    let opened = left_next text at 40 (word ++ rest) left in
    subst⁻¹ (Reads text (followed more) form later)
    (ap (token_line text declared named) (open_token text at (word ++ rest) left)
    ∙ one_of_selected text (at + 1) word rest (refused_line at named) opened (form_keywords text declared named at) some letters ends)
    (inner (left_past text (at + 1) word rest opened))
