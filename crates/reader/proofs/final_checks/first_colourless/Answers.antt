-- `reader::final_checks::first_colourless` meets its contract. Assumes nothing.
use Rattle.std.proofs.Common.{rules, tests, refl, ◌∙◌}
use native.Mathlib.Nat.{sub-zero}
use Rattle.std.proofs.lemmas.Iterator.{YieldsList-from_range}
use Rattle.std.proofs.lemmas.Iterator.Search.{position_from_yields_List}
use Rattle.reader.proofs.LastChecks.{colourless_position, is_colourless}
use Rattle.reader.proofs.final_checks.first_colourless.Goals as goal

pub returns : goal.returns
returns c =
    let plan = c.args.plan in
    c.unwrap_or.ensures ∙ colourless_position plan plan.domains
    (position_from_yields_List (is_colourless plan) _ _ c.position.result c.position.ensures.ran
    (YieldsList-from_range 0 plan.domains plan.domains refl (sub-zero plan.domains)) (λ domain none after call. search (rules, tests)))
