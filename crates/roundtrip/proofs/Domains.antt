-- The written line of a domain is read as its share and its rights, and names only declared domains as recipients. Assumes nothing.
use Rattle.std.specs.Prelude.{Ok, Err}
use Prim.Native.Nat.{ℕ, ◌+◌, ◌^◌, ◌≤◌, ◌<◌}
use native.Mathlib.Omega.{arith}
use mathlib.Core.Bool.{Bool, true, false, cond}
use mathlib.Core.List.{List, ◌∷◌, ◌++◌, append_assoc}
use mathlib.Core.Path.{◌≡◌, refl, ap, subst⁻¹, ◌∙◌}
use lib.ListN.{drop}
use borrow.Author.Tests.{eq-eqb}
use Rattle.forms.specs.declared.DomainParse.{DomainParse}
use Rattle.forms.specs.declared.Form.{Form}
use Rattle.forms.specs.declared.Form.TheVariants.{Domain}
use Rattle.forms.specs.Forms.{domain_form, listed_domain, may_form, next_domain, refused_domain}
use Rattle.line.specs.declared.Line.{Line}
use Rattle.line.specs.Lines.{form_keywords, line_at, noted_line}
use Rattle.lists.specs.Ascii.{bytes_of}
use Rattle.plan.specs.declared.Plan.{Plan}
use Rattle.plan.specs.Colours.{has_bit, share_of}
use Rattle.plan.specs.Limits.{least_share, most_domains, most_share}
use Rattle.plan.specs.Rights.{rights_at}
use Rattle.refusal.specs.declared.Refusal.TheVariants.{WrongDomain}
use Rattle.script.specs.Limits.{last_domain}
use Rattle.syntax.specs.Tokens.{same_bytes, numeral_with}
use Rattle.lexer.specs.Bytes.{ends_run}
use Rattle.lexer.specs.Decimal.{decimal_of}
use Rattle.lexer.specs.Scan.{all_bytes}
use Rattle.lexer.proofs.Scanned.{left_next, left_past, stops_at}
use Rattle.writer.specs.Canonical.{followed}
use Rattle.writer.specs.Lines.{domain_line, recipients_of, spaced}
use Rattle.roundtrip.proofs.Due.{Takes, bracketed_takes, head_goes, number_takes, then_goes, then_takes}
use Rattle.roundtrip.proofs.Lines.{Reads, closed_reads, line_reads, selected}
use Rattle.roundtrip.proofs.Recipients.{Quiet, recipients_list, spaced_ends}

abbrev form : ℕ → ℕ → Form
form share rights = Domain (record { share = share; rights = rights })

-- what stands within the brackets declares a domain, with these mentions of recipients so far
record Declares (text rest : List ℕ) (total share rights : ℕ) (domain : DomainParse) : Type 0 where
  named : List ℕ
  end : ℕ
  is : domain ≡ record { parse = Ok ((form share rights), end); named = named }
  left : drop end text ≡ rest
  quiet : Quiet total named

-- a line that declares a domain
pub record DomainReads (text rest : List ℕ) (total share rights : ℕ) (line : Line) : Type 0 where
  pub named : List ℕ
  pub reads : Reads text rest (Domain (record { share = share; rights = rights })) named line
  pub quiet : Quiet total named

next_takes :
    (text : List ℕ) (at own : ℕ) (rest : List ℕ)
    → own ≤ last_domain
    → drop at text ≡ 32 ∷ (decimal_of own ++ rest)
    → stops_at ends_run rest ≡ true
    → Takes text rest own (next_domain text own at)
unfolding next_domain
next_takes text at own rest below left ends =
    let taken = number_takes text at 0 last_domain own rest left (omega arith) below (omega arith) ends in
    record {
      start = taken.start;
      end = taken.end;
      is =
          then_takes taken Err _
          ∙ ap (λ (test : Bool). cond test (Ok (numeral_with own taken.start taken.end)) (Err (WrongDomain taken.start))) (eq-eqb own own refl);
      left = taken.left;
    }

module _
    (text named : List ℕ)
    (total own share rights : ℕ)
    (few : total ≤ most_domains)
    (small : rights < 2 ^ total)
    (not_own : has_bit rights own ≡ false)
    (quiet : Quiet total named)
  where
    may_declares :
        (at : ℕ) (rest : List ℕ)
        → drop at text ≡ bytes_of "(may" ++ (spaced (recipients_of rights) ++ 41 ∷ rest)
        → Declares text rest total share rights (may_form text own named share at)
    unfolding may_form listed_domain bytes_of all_bytes
    may_declares at rest left =
        let worded = head_goes text at (bytes_of "may") _ (omega arith) refl left (spaced_ends (recipients_of rights) rest) in
        let list = recipients_list text rest total own rights few small not_own worded.end named worded.left quiet in
        record {
          named = list.named;
          end = list.end;
          is = then_goes worded (refused_domain named) _ ∙ ap (listed_domain share) list.is;
          left = list.left;
          quiet = list.quiet;
        }

    domain_declares :
        (at : ℕ) (rest : List ℕ)
        → own ≤ last_domain
        → least_share ≤ share
        → share ≤ most_share
        → drop at text
        ≡ 32 ∷ (decimal_of own ++ (bytes_of "(share " ++ (decimal_of share ++ (bytes_of ")(may" ++ (spaced (recipients_of rights) ++ 41 ∷ rest)))))
        → Declares text rest total share rights (domain_form text own named at)
    unfolding domain_form bytes_of all_bytes
    domain_declares at rest below least most left =
        let numbered = next_takes text at own _ below left refl in
        let taken =
        bracketed_takes text numbered.end (bytes_of "share") least_share most_share share _ (omega arith) refl numbered.left least most
        (omega arith) in
        let may = may_declares taken.end rest taken.left in
        record {
          named = may.named;
          end = may.end;
          is = then_takes numbered (refused_domain named) _ ∙ then_takes taken (refused_domain named) _ ∙ may.is;
          left = may.left;
          quiet = may.quiet;
        }

-- the line of a domain, with `domain` domains declared above it
pub domain_reads :
    (text named : List ℕ) (total : ℕ) (plan : Plan) (domain at : ℕ) (more : List (List ℕ))
    → total ≤ most_domains
    → domain < total
    → least_share ≤ share_of plan domain
    → share_of plan domain ≤ most_share
    → rights_at plan domain < 2 ^ total
    → has_bit (rights_at plan domain) domain ≡ false
    → Quiet total named
    → drop at text ≡ domain_line plan domain ++ followed more
    → DomainReads text (followed more) total (share_of plan domain) (rights_at plan domain) (line_at text domain named at)
unfolding domain_line bytes_of all_bytes same_bytes form_keywords selected noted_line
domain_reads text named total plan domain at more few below least most small not_own quiet left =
    let share = share_of plan domain in
    let rights = rights_at plan domain in
    let last = bytes_of ")(may" ++ (spaced (recipients_of rights) ++ 41 ∷ 41 ∷ followed more) in
    let rest : List ℕ = 32 ∷ (decimal_of domain ++ (bytes_of "(share " ++ (decimal_of share ++ last))) in
    let shape : drop at text ≡ 40 ∷ bytes_of "domain" ++ rest = left ∙ simp append_assoc in
    let past = left_past text (at + 1) (bytes_of "domain") rest (left_next text at 40 _ shape) in
    let inner =
    domain_declares text named total domain share rights few small not_own quiet _ (41 ∷ followed more) (omega arith) least most past in
    record {
      named = inner.named;
      reads =
          line_reads text at domain named (bytes_of "domain") rest (form share rights) inner.named more shape (omega arith) refl refl λ _.
          subst⁻¹ (λ (parsed : DomainParse). Reads text (followed more) (form share rights) inner.named (noted_line text at parsed)) inner.is
          (closed_reads text at inner.named (form share rights) _ more (record { end = inner.end; is = refl; left = inner.left }));
      quiet = inner.quiet;
    }
