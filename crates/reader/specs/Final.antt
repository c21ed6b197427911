-- Document 01, "The plan text": the checks of a whole text, once no line of it was refused, in their order;
-- with 16 of document 02's E2 among them. Assumes nothing.
use Rattle.std.specs.Prelude.{ℕ, zero, suc, ◌+◌, ◌-◌, Bool, true, false, cond, ◌||◌, List, [], ◌∷◌, eqb, leb, ltb, get_or, Ok, Err}
use Rattle.plan.specs.declared.Plan.{Plan}
use Rattle.plan.specs.Colours.{colours_at, colours_total, masks_from, shares_total}
use Rattle.plan.specs.Limits.{domain_colours, most_domains, most_run_ticks, most_shares}
use Rattle.plan.specs.Parts.{with_masks}
use Rattle.plan.specs.Windows.{ticks_total}
use Rattle.refusal.specs.Checks.{and_then, when}
use Rattle.refusal.specs.declared.Refusal.TheVariants.{ColoursOverFifteen, NoColour}
use Rattle.refusal.specs.declared.Refusal.TheVariants.{RepeatedOrMissing, RunTooLong}
use Rattle.refusal.specs.declared.Refusal.TheVariants.{SharesOverThousand, WrongDomain}
use Rattle.reader.specs.declared.Draft.{Draft}
use Rattle.refusal.specs.Verdict.{Verdict}

-- 5: no pad, domain, window or run
abbrev pub lacking : Plan → Bool
lacking plan = eqb plan.pad 0 || eqb plan.domains 0 || eqb plan.windows 0 || eqb plan.run 0

-- the offsets at which the text first names, as recipients, the domains from `domain` on, `left` in number.
-- A draft keeps each of them plus one, and 0 for a domain that no list names.
unfoldable pub mentions_from : List ℕ → ℕ → ℕ → List ℕ
mentions_from named zero domain = []
mentions_from named (suc left) domain =
    elim (get_or named domain 0) [
      | zero ↦ mentions_from named left (domain + 1)
      | suc offset ↦ offset ∷ mentions_from named left (domain + 1)
    ]

-- those of the domains that are not declared
abbrev pub undeclared_mentions : List ℕ → ℕ → List ℕ
undeclared_mentions named declared = mentions_from named (most_domains - declared) declared

-- the least of some offsets: the first in the text
unfoldable pub first_of : ℕ → List ℕ → ℕ
first_of offset [] = offset
first_of offset (other ∷ more) = first_of (cond (leb offset other) offset other) more

-- 4: an undeclared recipient, the first in the text
abbrev pub may_verdict : List ℕ → Verdict
may_verdict [] = Ok tt
may_verdict (offset ∷ more) = Err (WrongDomain (first_of offset more))

-- the earlier of two offsets as a draft keeps them, plus one or 0 for none
abbrev pub earlier_kept : ℕ → ℕ → ℕ
earlier_kept a b = cond (eqb a 0) b (cond (eqb b 0) a (cond (leb a b) a b))

-- 6: the lowest of the domains from `domain` on, `left` in number, whose share gives no colour; past the
-- last where each gives one
unfoldable pub first_colourless : Plan → ℕ → ℕ → ℕ
first_colourless plan zero domain = domain
first_colourless plan (suc left) domain =
    elim (eqb (colours_at plan domain) 0) [
      | true ↦ domain
      | false ↦ first_colourless plan left (domain + 1)
    ]

-- 7, 16 and 6: the shares together, the colours that they give together, and each share by itself
unfoldable pub shares_verdict : Plan → Verdict
shares_verdict plan =
    let shares = shares_total plan plan.domains in
    let colours = colours_total plan in
    let colourless = first_colourless plan plan.domains 0 in
    when (ltb most_shares shares) (SharesOverThousand shares)
    (when (ltb domain_colours colours) (ColoursOverFifteen colours)
    (when (ltb colourless plan.domains) (NoColour colourless) (Ok tt)))

-- the checks after the last line, in their order: 5, 4, then 7, 16 and 6, then 9
unfoldable pub final_verdict : ℕ → Draft → Verdict
final_verdict text_length draft =
    let plan = draft.plan in
    when (lacking plan) (RepeatedOrMissing text_length)
    (and_then (may_verdict (undeclared_mentions draft.named plan.domains))
    (and_then (shares_verdict plan)
    (when (ltb most_run_ticks (ticks_total plan)) RunTooLong (Ok tt))))

-- an accepted plan keeps its colour masks
unfoldable pub plan_with_masks : Plan → Plan
plan_with_masks plan = with_masks plan (masks_from plan most_domains 0)
