-- `engine::checks::check_lent` meets its contract. Assumes nothing.
use mathlib.Core.Bool.{false, true, ◌&&◌}
use mathlib.Core.Path.{◌≡◌, ◌∙◌, refl, sym}
use lib.Dec.{eqb}
use lib.ListN.{length}
use Rattle.script.specs.Limits.{scripts_length}
use Rattle.engine.specs.Checks.{lent_verdict, tables_fit}
use Rattle.engine.proofs.Verdicts.{fit_lengths}
use Rattle.engine.proofs.checks.check_lent.Goals as goal

pub returns-then-not-scripts-cache : goal.returns-then-not-scripts-cache
unfolding lent_verdict
returns-then-not-scripts-cache c =
    rw (
      (let it : let args = c.args in (eqb
          (length args.scripts.now) scripts_length && tables_fit args.cache.now args.boxes.now) ≡ false = c.if-not-scripts-cache.true in it),
      lent_verdict,
    ) refl

pub returns-then-not-is_valid : goal.returns-then-not-is_valid
unfolding lent_verdict
returns-then-not-is_valid c =
    rw (
      (let it : let args = c.args in (eqb (length args.scripts.now) scripts_length && tables_fit args.cache.now args.boxes.now) ≡ true = c.if-not-scripts-cache.false in it),
      sym c.is_valid.ensures ∙ c.if-not-is_valid.true,
      lent_verdict,
    )
    refl

pub tables_valid-requires : goal.tables_valid-requires
tables_valid-requires c =
    let args = c.args in
    let long = fit_lengths args.scripts.now args.cache.now args.boxes.now (let it : let args = c.args in (eqb
    (length args.scripts.now) scripts_length && tables_fit args.cache.now args.boxes.now) ≡ true = c.if-not-scripts-cache.false in it) in
    (sym c.is_valid.ensures ∙ c.if-not-is_valid.false, long.0, long.1)

pub returns-then-not-tables_valid : goal.returns-then-not-tables_valid
unfolding lent_verdict
returns-then-not-tables_valid c =
    rw (
      (let it : let args = c.args in (eqb (length args.scripts.now) scripts_length && tables_fit args.cache.now args.boxes.now) ≡ true = c.if-not-scripts-cache.false in it),
      sym c.is_valid.ensures ∙ c.if-not-is_valid.false,
      sym c.tables_valid.ensures ∙ c.if-not-tables_valid.true,
      lent_verdict,
    )
    refl

pub returns : goal.returns
unfolding lent_verdict
returns c =
    rw (
      (let it : let args = c.args in (eqb (length args.scripts.now) scripts_length && tables_fit args.cache.now args.boxes.now) ≡ true = c.if-not-scripts-cache.false in it),
      sym c.is_valid.ensures ∙ c.if-not-is_valid.false,
      sym c.tables_valid.ensures ∙ c.if-not-tables_valid.false,
      lent_verdict,
    )
    refl
